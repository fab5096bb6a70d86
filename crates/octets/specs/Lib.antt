pub mod Bits
pub mod Bytes
pub mod Cut
pub mod Splice
pub mod Writing
