pub mod Words
pub mod Forms
pub mod Lines
pub mod Scripts
pub mod Printed
pub mod KeptLines
