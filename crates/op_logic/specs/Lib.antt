pub mod Bind
pub mod Examples
pub mod Laws
pub mod Names
pub mod Term
pub mod inner
