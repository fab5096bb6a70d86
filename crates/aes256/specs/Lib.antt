pub mod Field
pub mod Aes
pub mod Columns
pub mod Schedule
pub mod RoundKeys
pub mod Examples
