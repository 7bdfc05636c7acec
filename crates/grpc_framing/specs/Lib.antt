pub mod Framing
pub mod CutterState
pub mod NextMessage
