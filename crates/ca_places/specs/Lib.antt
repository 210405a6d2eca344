-- Sets of places: which places are in a set, how many may be, and the first at or past one.
pub mod PlaceSet
