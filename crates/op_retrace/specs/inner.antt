-- What only proofs need: what a machine comes to at the next event or the end.
pub mod Coming
