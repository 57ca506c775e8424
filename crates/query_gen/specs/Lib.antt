pub mod Questions
pub mod Marks
pub mod Laws
pub mod Inside
pub mod Parts
