mod Prelude
pub mod OpenLines
pub mod Sayings
pub mod Closings
pub mod Spoken
pub mod Parts
pub mod Tries
pub mod Journals
pub mod Exactly
pub mod Showing
pub mod Moved
pub mod Reduced
pub mod SaidOver
pub mod StandingQuestions
pub mod Certified
pub mod TakenBack
