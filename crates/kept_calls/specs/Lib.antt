pub mod CallState
pub mod Table
pub mod Endings
