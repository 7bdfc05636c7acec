pub mod Doing
pub mod Shards
