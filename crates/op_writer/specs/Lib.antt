pub mod Cut
pub mod Examples
pub mod Fragments
pub mod Spelling
pub mod Text
pub mod inner
