mod Prelude
pub mod Fronts
pub mod Hearings
pub mod Draws
pub mod Listings
