pub mod Listening
pub mod Laws
