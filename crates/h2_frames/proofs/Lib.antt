pub mod Layouts
pub mod Prefixes
pub mod Streams
pub mod Uniqueness
