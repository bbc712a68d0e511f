pub mod BlockLaws
pub mod EntryLaws
pub mod FrameLaws
pub mod ShelfLaws
