pub mod Agreeing
pub mod Hearing
pub mod Ending
pub mod Laws
