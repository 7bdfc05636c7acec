pub mod Telling
pub mod Lasting
pub mod Beginning
pub mod Cutting
pub mod Silent
pub mod Low
pub mod First
pub mod Places
