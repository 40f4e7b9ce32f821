-- What a reader must believe.
pub mod Archive
pub mod Promise
