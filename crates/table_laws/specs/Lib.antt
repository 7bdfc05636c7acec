pub mod Samples
pub mod Examples
pub mod Boards
pub mod CollectedResults
pub mod InFlight
pub mod Succeeds
pub mod DoneAnswers
pub mod KnownInstances
