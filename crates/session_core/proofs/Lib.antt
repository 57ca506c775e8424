mod Prelude
pub mod Deciding
pub mod Walks
pub mod Steps
pub mod Moving
pub mod Putting
pub mod Questions
pub mod Settling
pub mod Turning
pub mod Reached
pub mod NoNew
pub mod Scoped
pub mod Opened
pub mod Asked
