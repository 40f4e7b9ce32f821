-- The laws behind the functions' proofs, a module an idea; a module uses those above it. Callers cite Reading and Records.
pub mod Touching
pub mod Reading
pub mod Records
pub mod Examples
