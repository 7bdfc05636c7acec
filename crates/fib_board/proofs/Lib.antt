pub mod Finding
mod Searching
pub mod Rows
pub mod Ascending
pub mod Ending
pub mod Standing
pub mod Following
pub mod Joining
pub mod Quiet
pub mod Older
