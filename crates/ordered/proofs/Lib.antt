-- The laws behind the functions' proofs, a module an idea; a module uses those above it.
pub mod Admitting
pub mod Among
pub mod Scanning
pub mod Lent
pub mod Promises
