pub mod FollowedBodies
pub mod WalkBalls
pub mod WalkBarriers
pub mod WalkEquations
pub mod WalkSteps
