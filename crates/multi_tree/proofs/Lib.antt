mod Prelude
pub mod Rooms
pub mod Turning
pub mod Moves
pub mod Barren
pub mod Growing
