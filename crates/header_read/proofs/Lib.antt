pub mod Steps
pub mod Walk
pub mod Listing
pub mod HeaderParts
