mod Prelude
pub mod Runs
pub mod Places
pub mod Rows
pub mod Operands
pub mod TruthOperands
pub mod InTurn
pub mod Ways
pub mod TextsRead
