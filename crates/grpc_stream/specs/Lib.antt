pub mod Examples
pub mod Laws
pub mod NextEvent
pub mod Sends
pub mod Shown
pub mod Unproved
pub mod ClientReads
pub mod CallTrace
