-- What only proofs need: mirrors of the code's lists and stacks, and what holds between two calls of private functions.
pub mod Barriers
pub mod Bounds
pub mod Boxes
pub mod BuiltinKinds
pub mod Continuations
pub mod Cuts
pub mod GoalKinds
pub mod Inspection
pub mod Invariant
pub mod Leaving
pub mod Moves
pub mod Start
pub mod Turns
