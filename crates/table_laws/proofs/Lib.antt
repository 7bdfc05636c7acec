pub mod RibHolds
pub mod Refused
pub mod Chains
pub mod RibLaws
mod KnownInstances
pub mod Acknowledged
pub mod ElectionLaws
pub mod Ascending
pub mod Updates
pub mod InTurn
pub mod Reports
pub mod Completions
pub mod Collected
pub mod Answered
mod FibClosed
mod Boards
mod CollectedResults
mod Owed
mod Whole
mod Members
mod Deep
mod MadeWell
mod MadeAll
mod Faultless
mod InFlight
mod Succeeds
mod Idle
mod DoneAnswers
