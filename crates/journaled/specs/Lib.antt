pub mod Answer
pub mod Promise
