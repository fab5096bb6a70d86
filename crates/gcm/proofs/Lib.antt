mod Calls
mod Streams
mod Tags
pub mod Undo
