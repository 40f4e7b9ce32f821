-- The laws, a module an idea; a module uses those above it.
pub mod Entries
pub mod Ascending
pub mod Keeping
pub mod Bounds
pub mod Merging
