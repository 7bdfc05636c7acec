pub mod Line
pub mod Served
