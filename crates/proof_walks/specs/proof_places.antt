pub mod PlaceParts
