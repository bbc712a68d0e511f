-- What only proofs need: the stack of what is left to write.
pub mod Stack
