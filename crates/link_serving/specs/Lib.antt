pub mod Serving
pub mod Beside
