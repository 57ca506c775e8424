pub mod Outcomes
pub mod Ready
pub mod Inside
pub mod Laws
