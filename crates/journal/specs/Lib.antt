pub mod Journal
pub mod Replay
