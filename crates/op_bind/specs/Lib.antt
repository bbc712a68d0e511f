pub mod Copied
pub mod Examples
pub mod Grown
pub mod State
pub mod Unified
pub mod Visited
pub mod Within
pub mod inner
