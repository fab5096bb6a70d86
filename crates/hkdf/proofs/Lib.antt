pub mod BlockKey
pub mod Answered
