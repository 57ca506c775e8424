mod Prelude
pub mod Powers
pub mod PlaceLemmas
pub mod Copying
pub mod Meets
pub mod Same
pub mod Marking
pub mod Tables
pub mod BitLemmas
pub mod AboveLemmas
pub mod Pairwise
pub mod Falling
pub mod Inserting
pub mod Growing
pub mod Rows
pub mod Shown
