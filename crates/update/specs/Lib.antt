pub mod Update
pub mod Promise
