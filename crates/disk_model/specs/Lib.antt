pub mod Disk
pub mod Moments
pub mod Record
pub mod Images
pub mod Crash
pub mod Tape
pub mod MemDisk
pub mod FuseDisk
