pub mod Laws
pub mod Lines
pub mod Memory
pub mod Standard
pub mod Streams
pub mod Whole
