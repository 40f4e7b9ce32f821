-- What a reader must believe; Internal holds what only the functions within the crate promise each other.
pub mod Sizes
pub mod Lists
pub mod Marks
pub mod Built
pub mod Letters
pub mod Internal
