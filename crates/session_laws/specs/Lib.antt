pub mod Walk
pub mod Session
pub mod Bound
pub mod Laws
pub mod Examples
