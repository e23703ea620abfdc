pub mod Given
pub mod Slots
pub mod Plans
pub mod Right
pub mod Shelf
pub mod Holding
