pub mod Spelling
pub mod Pumping
pub mod Moves
pub mod Laws
