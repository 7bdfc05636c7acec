pub mod Schema
pub mod Legal
pub mod FieldValues
pub mod OneofMember
