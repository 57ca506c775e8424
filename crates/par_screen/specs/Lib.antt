pub mod Eighths
