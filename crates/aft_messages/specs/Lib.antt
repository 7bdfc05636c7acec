pub mod Decodes
pub mod Reading
pub mod Writing
pub mod Printing
pub mod Encodable
