pub mod Answers
pub mod ConnectionTrace
pub mod Drains
pub mod Laws
pub mod Sends
