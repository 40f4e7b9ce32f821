-- What a reader must believe; Internal holds what only the functions within the crate promise each other.
pub mod Order
pub mod Custom
pub mod Table
pub mod Internal
