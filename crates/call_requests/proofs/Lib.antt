pub mod Texts
pub mod Bounds
pub mod Known
pub mod Cutting
