pub mod RoomState
pub mod Ranked
