pub mod Words
pub mod Constants
pub mod Sha512
pub mod Held
