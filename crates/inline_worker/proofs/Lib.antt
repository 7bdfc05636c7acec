pub mod Counting
pub mod Working
pub mod Standing
pub mod OneTurn
pub mod Idling
pub mod Collecting
