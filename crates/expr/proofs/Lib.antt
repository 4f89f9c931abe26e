pub mod NumeralLaws
pub mod ReadingLaws
pub mod OutcomeLaws
pub mod PartsLaws
pub mod TextLaws
pub mod ArithmeticLaws
pub mod ValueLaws
