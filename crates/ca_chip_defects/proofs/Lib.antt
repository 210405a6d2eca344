pub mod ListingLemmas
pub mod PlacedLemmas
