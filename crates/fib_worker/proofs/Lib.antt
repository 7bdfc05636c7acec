pub mod Works
mod Outs
mod Shards
mod Reported
