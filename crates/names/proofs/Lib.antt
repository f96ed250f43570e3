pub mod PlaceLaws
pub mod ReadingLaws
