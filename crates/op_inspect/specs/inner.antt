-- What only proofs need: what the code's stack of functions owes, what is made on the way to an answer, and what outermost nodes say.
pub mod Made
pub mod Met
pub mod Nodes
pub mod Pending
pub mod Problems
pub mod Refused
pub mod Seen
pub mod Settings
