pub mod Examples
pub mod ReadBack
pub mod Rows
