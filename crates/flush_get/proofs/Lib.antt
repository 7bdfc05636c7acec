pub mod Passing
pub mod Remaining
pub mod Selecting
pub mod Settling
