pub mod Bits
pub mod Code
pub mod Faults
pub mod Laws
pub mod Tables
