pub mod Filling
pub mod Laws
pub mod Turning
pub mod Weaving
