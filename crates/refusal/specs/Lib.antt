pub mod Numbers
pub mod Unless
pub mod Tests
