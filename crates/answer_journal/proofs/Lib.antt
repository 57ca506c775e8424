mod Prelude
mod Gate
mod RecordLists
mod Valued
mod Append
mod ReadPairs
mod Payloads
mod RecordLoop
mod WholeFile
mod Sizes
mod Emptied
pub mod OnlyRead
pub mod EventLists
mod PieceLemmas
mod FewCalls
mod Exits
mod Readings
mod FirstPiece
pub mod SomeBytes
mod EachRecord
mod EachFile
