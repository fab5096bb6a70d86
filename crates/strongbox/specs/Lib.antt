pub mod Answers
pub mod Zeros
