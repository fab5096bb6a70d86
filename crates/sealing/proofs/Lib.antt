pub mod Frames
pub mod Remaining
pub mod Messages
pub mod Answered
pub mod Joining
