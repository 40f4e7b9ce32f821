-- The laws behind the functions' proofs, a module an idea; a module uses those above it.
pub mod Stores
pub mod Kmins
pub mod Lists
pub mod Bits
pub mod Ranked
pub mod NoholeRanks
pub mod HoleRanks
pub mod Building
pub mod Letters
pub mod Examples
