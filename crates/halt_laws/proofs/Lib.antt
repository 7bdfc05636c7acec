mod Settling
mod Behind
