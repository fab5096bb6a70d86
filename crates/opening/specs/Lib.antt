pub mod Refusal
pub mod Unlocked
pub mod Answer
pub mod Opener
pub mod Joined
