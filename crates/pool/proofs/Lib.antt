mod AskingAll
mod Passes
mod Sent
mod Seen
