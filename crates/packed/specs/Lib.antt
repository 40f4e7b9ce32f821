-- What a reader must believe.
pub mod Packed
