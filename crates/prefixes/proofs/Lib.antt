-- The laws, a module an idea; a module uses those above it.
pub mod Entries
pub mod Leaving
pub mod Turns
pub mod Standing
pub mod AsKmp
pub mod Examples
