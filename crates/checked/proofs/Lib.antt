-- The laws behind the functions' proofs, a module an idea; a module uses those above it.
pub mod Same
pub mod Checked
pub mod Again
pub mod Reading
