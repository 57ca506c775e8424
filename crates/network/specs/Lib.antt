pub mod Learned
pub mod Inside
pub mod Texts
pub mod Laws
pub mod Answers
pub mod Target
pub mod Masks
pub mod FaultTexts
