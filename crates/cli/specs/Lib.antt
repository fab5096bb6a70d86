pub mod Context
pub mod Hex
pub mod Line
pub mod Number
pub mod Options
pub mod Scan
pub mod Split
