-- What only proofs need: what the cells of a builder mean, how two terms are compared, and how one is walked.
pub mod Cells
pub mod Compared
pub mod Measured
