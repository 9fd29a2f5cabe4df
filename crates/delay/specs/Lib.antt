pub mod Delay
pub mod Rotated
pub mod Woven
pub mod Makes
