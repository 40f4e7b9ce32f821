-- The law behind the function's proof, which callers cite too.
pub mod Admitting
-- What a reader finds in the letters of a prepared pattern.
pub mod Mapped
