pub mod ManyMore
pub mod NodeLaws
pub mod PropertyLaws
pub mod TripleLaws
pub mod QuadLaws
