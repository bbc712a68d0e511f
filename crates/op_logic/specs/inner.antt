-- What only proofs need: how the logic stores a term.
pub mod Code
