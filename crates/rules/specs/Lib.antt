-- What a reader must believe; Internal holds what only functions that follow the rules promise each other.
pub mod Occurs
pub mod Rules
pub mod Answered
pub mod Colussi
pub mod Stopped
pub mod Kmp
pub mod Columns
pub mod Report
pub mod Promise
pub mod Internal
