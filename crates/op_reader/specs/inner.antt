-- What only proofs need: mirrors of the code's lists and stacks, and what they show of the definitions.
pub mod Adding
pub mod Members
pub mod ReadRows
pub mod RoleLists
pub mod RowState
pub mod Shown
pub mod Spine
