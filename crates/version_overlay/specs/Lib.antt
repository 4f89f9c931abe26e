pub mod ChangeFilter
pub mod Joined
pub mod LeanNote
pub mod Seen
pub mod Settled
pub mod WholeNote
