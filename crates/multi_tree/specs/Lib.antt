pub mod Depth
pub mod Stage
pub mod Standing
pub mod Listed
pub mod Inside
