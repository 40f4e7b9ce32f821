-- The laws, a module an idea; a module uses those above it.
pub mod Arrangements
pub mod Shifts
pub mod OwnOrders
pub mod CustomMethod
pub mod Seeing
pub mod Trying
pub mod Filling
pub mod Examples
