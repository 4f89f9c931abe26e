pub mod DataSetLaws
pub mod PlacedLaws
pub mod UniteLaws
pub mod FormLaws
pub mod TableLaws
