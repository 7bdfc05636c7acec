pub mod Passing
pub mod Turning
pub mod Falling
pub mod Parts
