mod Prelude
pub mod Eighths
