pub mod Table
pub mod Chunks
pub mod Schedule
pub mod Pieces
pub mod Padding
