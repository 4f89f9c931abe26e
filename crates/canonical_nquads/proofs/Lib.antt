pub mod CanonicalLaws
pub mod PlacedLines
pub mod TagLaws
pub mod BeginningLaws
pub mod RisingLaws
pub mod TextLaws
pub mod RankLaws
