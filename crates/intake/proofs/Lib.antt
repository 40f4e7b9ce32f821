-- The laws behind the functions' proofs, which callers cite too.
pub mod Outcomes
