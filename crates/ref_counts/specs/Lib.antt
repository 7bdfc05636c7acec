pub mod Counting
pub mod CountsState
