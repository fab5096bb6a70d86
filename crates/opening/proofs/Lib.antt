pub mod FrameSize
pub mod Steps
pub mod Unlocking
pub mod Answers
pub mod Enough
pub mod FrameByFrame
pub mod Joins
