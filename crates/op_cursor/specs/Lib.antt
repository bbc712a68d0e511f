pub mod Comes
pub mod Moving
pub mod Seen
pub mod inner
