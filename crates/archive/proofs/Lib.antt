-- The laws behind the functions' proofs, a module an idea; a module uses those above it.
pub mod Answers
pub mod Promises
pub mod Examples
