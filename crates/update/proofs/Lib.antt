-- The laws, a module an idea; a module uses those above it.
pub mod Parts
pub mod Covering
pub mod Correcting
pub mod Joining
pub mod Examples
