pub mod Fitting
pub mod Numbers
pub mod Pieces
pub mod Reading
pub mod Printing
pub mod Keeping
pub mod WordsAgain
