pub mod TreeLaws
pub mod Below
pub mod ItemLaws
pub mod Parts
pub mod Again
pub mod LoopLaws
