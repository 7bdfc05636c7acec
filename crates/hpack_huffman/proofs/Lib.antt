pub mod BitLaws
pub mod Encoding
pub mod Fronts
pub mod TableTest
pub mod Texts
pub mod Uniqueness
