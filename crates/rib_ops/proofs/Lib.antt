pub mod Chains
pub mod Clipped
pub mod Neighbours
