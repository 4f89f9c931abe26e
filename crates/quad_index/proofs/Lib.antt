pub mod Alike
pub mod Looking
pub mod Orders
pub mod Parted
pub mod Rising
pub mod Searching
pub mod Sought
