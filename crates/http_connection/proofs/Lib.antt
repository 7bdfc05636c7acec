pub mod Said
pub mod Unheard
pub mod Gone
