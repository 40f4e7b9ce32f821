-- What the functions within the crate promise each other. No public contract cites it.
pub mod Writing
pub mod Searching
