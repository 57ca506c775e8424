pub mod Booleans
pub mod Lists
pub mod Runs
pub mod Read
