pub mod Working
pub mod Threads
