-- The laws behind the functions' proofs, a module an idea; a module uses those above it.
pub mod Classes
pub mod LentTables
pub mod RankZero
pub mod ColussiScan
pub mod FirstScan
pub mod KmpScan
pub mod Answers
pub mod Stops
pub mod Promises
