pub mod Book
pub mod Ends
pub mod Rows
