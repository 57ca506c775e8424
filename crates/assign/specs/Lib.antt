pub mod Sets
pub mod SetLemmas
pub mod Assignment
pub mod Cells
pub mod Events
