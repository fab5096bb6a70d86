mod Words
mod Steps
mod Linear
mod Algebra
mod Runs
mod Quads
mod Sixteen
pub mod Blocks
