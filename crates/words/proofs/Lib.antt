-- The laws on the definitions of specs/, a module an idea; a module uses those above it.
pub mod Entries
pub mod Cases
pub mod Numbers
pub mod Listing
pub mod Tabulate
pub mod Holding
pub mod Periods
pub mod Noholes
pub mod Rmin
pub mod Ranks
pub mod Shifts
pub mod Examples
