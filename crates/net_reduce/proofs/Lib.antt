mod Prelude
pub mod Sifting
pub mod Searching
pub mod EachNetwork
