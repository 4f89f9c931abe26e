mod Tasks
mod HintDeques
mod Seats
pub mod Sent
