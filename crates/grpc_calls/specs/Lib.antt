pub mod Object
pub mod Refusing
