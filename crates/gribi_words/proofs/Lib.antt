pub mod Cuts
pub mod Lookups
pub mod Spelling
