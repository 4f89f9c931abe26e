pub mod Translation
