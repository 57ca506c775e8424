mod Prelude
pub mod Causes
pub mod Asked
pub mod OneRun
pub mod Closed
pub mod Exactly
pub mod Targets
pub mod Demoing
pub mod Answering
pub mod Completing
pub mod Enough
pub mod Room
pub mod SomeText
pub mod Headline
pub mod Acknowledged
pub mod Speaking
