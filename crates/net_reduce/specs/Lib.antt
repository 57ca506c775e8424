pub mod Reduction
pub mod Searched
pub mod Texts
pub mod Laws
