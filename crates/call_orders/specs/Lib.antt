pub mod Requests
pub mod Owed
pub mod Calls
pub mod Actions
pub mod Orders
pub mod Examples
pub mod Laws
