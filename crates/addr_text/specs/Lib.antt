pub mod Counting
pub mod Printed
pub mod AddressGrammar
