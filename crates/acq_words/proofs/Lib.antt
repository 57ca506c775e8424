mod Prelude
pub mod Taken
pub mod Steps
pub mod Lists
pub mod Values
pub mod PlainLists
