pub mod Past
pub mod Making
pub mod Serving
pub mod Turning
