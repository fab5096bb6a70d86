pub mod Whole
pub mod Answers
pub mod Calls
pub mod Keys
