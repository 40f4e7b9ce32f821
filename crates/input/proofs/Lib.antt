-- The laws behind the function's proof, which callers cite too.
pub mod Cut
