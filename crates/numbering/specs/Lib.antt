pub mod Parts
pub mod Tables
pub mod Gathered
pub mod Numbered
pub mod Orders
pub mod Wanted
