pub mod Fronts
pub mod Streams
pub mod Whole
pub mod Leading
pub mod Again
