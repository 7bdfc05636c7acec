pub mod ConnectionErrors
pub mod Laws
pub mod Live
pub mod Receiving
pub mod Set
pub mod Stands
