-- What only proofs need: the files of a shelf as they are kept.
pub mod Entries
