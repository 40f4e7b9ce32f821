-- The laws, a module an idea; a module uses those above it.
pub mod Scanning
pub mod Tables
pub mod Promises
