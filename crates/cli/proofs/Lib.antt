pub mod Decimals
pub mod Digits
pub mod Pairs
pub mod Splits
pub mod Texts
pub mod Words
