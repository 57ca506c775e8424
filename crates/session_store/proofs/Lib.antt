mod Prelude
pub mod Asked
pub mod Storables
pub mod Replaying
pub mod Past
pub mod Recording
pub mod Fronts
pub mod Placing
pub mod Vocabularies
pub mod Stores
pub mod Exits
pub mod Openings
pub mod Keepers
pub mod EachFile
