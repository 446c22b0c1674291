-- The laws of lines, words and numbers.
pub mod LeadingLaws
pub mod LineLaws
pub mod PieceLaws
pub mod NumberLaws
pub mod WordLaws
pub mod SlotLaws
pub mod ApartLaws
pub mod SizeLaws
pub mod LeadingMeaning
pub mod LineMeaning
pub mod PieceMeaning
pub mod NumberMeaning
pub mod WordReads
pub mod WordMeaning
pub mod FaultMeaning
