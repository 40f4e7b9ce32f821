-- The laws behind the functions' proofs, a module an idea; a module uses those above it.
pub mod Stopping
pub mod Promises
pub mod Examples
