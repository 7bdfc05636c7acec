mod Digits
mod Keys
mod Hops
