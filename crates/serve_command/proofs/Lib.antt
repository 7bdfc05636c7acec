pub mod Closing
pub mod Hiring
