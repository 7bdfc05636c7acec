pub mod Payloads
pub mod Elections
pub mod Walks
pub mod Steps
