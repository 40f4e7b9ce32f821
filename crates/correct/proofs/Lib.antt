-- The laws behind the functions' proofs, a module an idea; a module uses those above it.
pub mod Pasting
pub mod Bisecting
pub mod Answers
pub mod Joining
pub mod Searching
pub mod Promises
