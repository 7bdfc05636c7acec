pub mod Lock
pub mod Seats
pub mod Passes
