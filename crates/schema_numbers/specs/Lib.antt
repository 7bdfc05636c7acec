pub mod Places
pub mod Numbers
pub mod Valid
pub mod Default
pub mod Groups
pub mod Draft
