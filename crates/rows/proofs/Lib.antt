-- The laws behind the functions' proofs and their callers', a module an idea; a module uses those above it.
pub mod InTurn
