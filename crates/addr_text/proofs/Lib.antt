pub mod Again
pub mod Grouping
pub mod GroupsAgain
pub mod Longest
pub mod Prefixes
pub mod Printing
pub mod Scanning
