mod Prelude
pub mod LineLemmas
pub mod ReadLemmas
pub mod TakenLemmas
pub mod CallLemmas
