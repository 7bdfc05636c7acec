pub mod Lists
pub mod Keeps
pub mod SeatFacts
pub mod Acting
pub mod SendSync
pub mod Extends
