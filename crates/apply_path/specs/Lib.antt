pub mod History
pub mod Responses
pub mod SessionAt
pub mod Applied
pub mod Laws
