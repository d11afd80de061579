pub mod Cells
pub mod Means
pub mod Opening
