pub mod Marking
pub mod MarksState
