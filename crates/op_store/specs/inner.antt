-- What only proofs need: what the code keeps between two steps, and what private functions tell.
pub mod BodyParts
pub mod Converted
pub mod Parts
pub mod Shapes
pub mod Told
pub mod Walk
