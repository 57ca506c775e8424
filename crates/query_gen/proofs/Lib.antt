mod Prelude
pub mod Numbers
pub mod Among
pub mod Marking
pub mod Asking
pub mod Told
pub mod Parts
pub mod Finds
pub mod Scopes
