pub mod Faults
pub mod Depth
mod Nothing
pub mod Never
