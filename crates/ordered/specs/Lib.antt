-- What a reader must believe; Internal holds what only the functions within the crate promise each other.
pub mod Answer
pub mod Internal
