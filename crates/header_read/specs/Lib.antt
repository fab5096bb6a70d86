pub mod Cuts
pub mod Cursor
pub mod Parts
