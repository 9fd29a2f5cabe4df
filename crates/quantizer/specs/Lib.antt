pub mod Choice
pub mod Lawful
pub mod Symmetry
pub mod Table
pub mod LineUp
pub mod Figures
pub mod Rows
pub mod Magnitudes
