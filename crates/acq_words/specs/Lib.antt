pub mod Line
pub mod Options
pub mod Numbers
pub mod Request
pub mod Plain
pub mod Laws
