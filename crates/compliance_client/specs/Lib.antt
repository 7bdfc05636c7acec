pub mod Deeds
pub mod Asks
pub mod Standing
pub mod Turns
pub mod Sends
pub mod Laws
