-- The laws behind the functions' proofs, a module an idea; a module uses those above it.
pub mod Stores
pub mod Hmaxes
pub mod Deriving
pub mod Turns
pub mod FastRun
pub mod Following
pub mod Comparing
pub mod Tables
pub mod Examples
