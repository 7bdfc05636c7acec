pub mod Standing
pub mod Steps
pub mod Turns
pub mod Gathering
pub mod Handing
