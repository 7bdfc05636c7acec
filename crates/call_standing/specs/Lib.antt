pub mod Standing
pub mod Steps
pub mod Ends
pub mod Laws
