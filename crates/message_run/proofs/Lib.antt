pub mod MessageTraces
pub mod Agreeing
pub mod Streams
pub mod Feeding
pub mod Sinks
pub mod Pieces
pub mod Runs
pub mod Closing
