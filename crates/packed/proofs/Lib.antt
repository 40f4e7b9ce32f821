-- The laws behind the function's proof, a module an idea; a module uses those above it. Callers cite both.
pub mod Splitting
pub mod Packing
