pub mod Finding
pub mod Printed
pub mod Replies
pub mod Steps
pub mod Going
pub mod Again
