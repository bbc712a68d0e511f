-- What only proofs need: the parts of an event's term, the stacks of the code, the names of a pattern, and walks of a feed.
pub mod Outlines
pub mod OwnNames
pub mod Parts
pub mod Stacks
pub mod Walks
pub mod Finds
pub mod Does
pub mod Seeks
