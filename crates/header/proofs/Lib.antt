pub mod Rising
pub mod Lengths
pub mod Parts
pub mod Refusals
pub mod Writes
