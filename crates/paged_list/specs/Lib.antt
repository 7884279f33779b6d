pub mod ItemLends
pub mod List
pub mod PageLends
pub mod Pages
pub mod RowLends
pub mod SlotLends
pub mod Slots
