pub mod CodedFrom
pub mod Hexadecimal
pub mod Records
