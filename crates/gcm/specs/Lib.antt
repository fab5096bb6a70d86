pub mod Gcm
pub mod Key
pub mod Calls
pub mod Statements
