-- What a reader must believe; Internal holds what only functions that follow the run promise each other.
pub mod Longest
pub mod CarriedOn
pub mod Promise
pub mod Internal
