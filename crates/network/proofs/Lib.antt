mod Prelude
pub mod Room
pub mod Cutting
pub mod Naming
pub mod Parts
pub mod Telling
pub mod Joined
pub mod Items
pub mod EachText
