pub mod Again
pub mod Codes
pub mod Escapes
pub mod Fitting
pub mod HeadsAgain
pub mod Reasons
