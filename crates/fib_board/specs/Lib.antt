pub mod Steps
pub mod BoardInvariant
pub mod Follows
pub mod BoxedWork
pub mod Removals
