pub mod Refusal
pub mod Models
pub mod Checked
pub mod Written
pub mod Asked
