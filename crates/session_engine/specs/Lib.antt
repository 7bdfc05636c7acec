pub mod Steps
pub mod Stands
pub mod Queries
pub mod Singles
pub mod Responding
pub mod Laws
