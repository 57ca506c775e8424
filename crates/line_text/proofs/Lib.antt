mod Prelude
pub mod Cutting
pub mod Numerals
pub mod Avoiding
pub mod Decimals
