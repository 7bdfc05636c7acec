pub mod Texts
pub mod VarintSize
pub mod NonEmpty
pub mod Parts
pub mod FieldGroups
pub mod Routes
pub mod Keys
pub mod RepeatedFields
pub mod Groups
pub mod Five
pub mod Hops
pub mod Again
pub mod Printed
mod IndexAlone
