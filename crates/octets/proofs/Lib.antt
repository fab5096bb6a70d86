pub mod Bits
pub mod Chunks
mod Compared
pub mod Cuts
pub mod Lists
pub mod Numbers
pub mod Order
pub mod Splice
pub mod Writing
pub mod XorBytes
