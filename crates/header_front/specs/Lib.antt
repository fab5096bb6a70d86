pub mod Settled
pub mod Front
