pub mod CoreAt
pub mod Turns
pub mod Complete
pub mod Works
pub mod Idle
