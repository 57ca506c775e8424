mod Prelude
pub mod Marks
pub mod Accepting
pub mod Lawful
pub mod Splitting
pub mod Outside
pub mod Between
pub mod Differences
pub mod Replies
pub mod Filling
pub mod GoingOn
pub mod Starting
pub mod Told
