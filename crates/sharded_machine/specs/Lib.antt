pub mod Histories
pub mod Later
pub mod Shelves
