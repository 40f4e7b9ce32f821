-- The laws behind the functions' proofs, a module an idea; a module uses those above it.
pub mod Writing
pub mod Decimals
pub mod Printed
pub mod Searching
pub mod Answers
pub mod Examples
