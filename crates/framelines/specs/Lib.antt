pub mod Cells
pub mod CodedFrames
pub mod Frames
pub mod Text
