pub mod Behaviour
pub mod Outcomes
pub mod Written
pub mod Runs
pub mod Reading
