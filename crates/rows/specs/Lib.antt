-- What a reader must believe.
pub mod Row
pub mod InTurn
