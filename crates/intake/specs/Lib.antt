-- What a reader must believe.
pub mod Sizes
pub mod Outcomes
