mod Prelude
mod Replays
pub mod Behind
