pub mod Given
pub mod Open
pub mod Seal
