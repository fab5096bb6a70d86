pub mod Cipher
pub mod Frame
pub mod Kind
pub mod Next
