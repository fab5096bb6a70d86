pub mod Field
pub mod Ghash
pub mod Element
pub mod Steps
pub mod Rows
pub mod Table
pub mod Laws
