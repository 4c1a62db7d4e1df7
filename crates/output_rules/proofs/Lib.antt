pub mod LiveSlots
pub mod Order
