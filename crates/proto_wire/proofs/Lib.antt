pub mod Varint
pub mod Cuts
pub mod Writing
pub mod Again
pub mod Fewest
