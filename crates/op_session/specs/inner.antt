-- What only proofs need: what small steps do to a desk, what holds between two bytes of the commands, what each private call leaves, and
-- what is looked at in a body.
pub mod Asking
pub mod Behind
pub mod Feeding
pub mod Giving
pub mod Parts
pub mod Placing
pub mod Progress
pub mod Reader
pub mod Refusing
pub mod Replying
pub mod Standing
pub mod Steering
pub mod Steps
