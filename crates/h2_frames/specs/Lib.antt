pub mod Laws
pub mod Layout
pub mod Reader
pub mod Stream
