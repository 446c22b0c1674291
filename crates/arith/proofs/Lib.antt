-- The laws of arith, over plain numbers.
pub mod Division
pub mod NearestLaws
pub mod QuotientLaws
pub mod RootLaws
pub mod SignedLaws
pub mod Squares
pub mod Tests
