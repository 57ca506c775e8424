mod Prelude
pub mod Masks
pub mod Ones
pub mod Fronts
pub mod CellLemmas
pub mod EventLemmas
