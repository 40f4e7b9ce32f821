pub mod NotZero
pub mod Tests
