-- The laws behind the functions' proofs, a module an idea; a module uses those above it.
pub mod Through
pub mod Letters
pub mod Identity
