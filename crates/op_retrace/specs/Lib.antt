pub mod Fed
pub mod Holding
pub mod Retraced
pub mod Sight
pub mod Takes
pub mod Went
pub mod inner
