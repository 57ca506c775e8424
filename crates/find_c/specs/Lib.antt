pub mod Choices
pub mod Run
pub mod Inside
pub mod Standing
pub mod Rows
