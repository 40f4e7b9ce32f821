-- The laws, a module an idea; a module uses those above it.
pub mod Entries
pub mod Replaying
pub mod Recording
pub mod Counting
pub mod Examples
