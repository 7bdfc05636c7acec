mod Chains
mod Own
mod Steps
mod Asking
mod Whole
mod Runs
pub mod Sends
