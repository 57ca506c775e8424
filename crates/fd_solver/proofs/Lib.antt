mod Prelude
pub mod Turning
pub mod Left
pub mod Alive
pub mod Narrowing
pub mod Knowing
pub mod Rows
pub mod Walking
pub mod Outcomes
