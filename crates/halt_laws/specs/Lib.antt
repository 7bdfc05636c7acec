pub mod Settled
pub mod Histories
