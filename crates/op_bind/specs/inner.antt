-- What only proofs need: what holds of all bindings, and mirrors of the code's stacks.
pub mod Built
pub mod Loaded
pub mod Pairs
pub mod Renewed
pub mod Sound
