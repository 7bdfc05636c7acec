pub mod Adapters
pub mod Settings
pub mod Wishes
