pub mod OrderSet
pub mod Looks
pub mod Rising
pub mod Sorted
pub mod Indexed
pub mod Index
pub mod Parted
