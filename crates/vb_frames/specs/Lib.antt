pub mod Frames
pub mod Turn
