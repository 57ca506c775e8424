pub mod Sound
pub mod Known
pub mod Putting
pub mod Standing
pub mod Leading
pub mod Settled
