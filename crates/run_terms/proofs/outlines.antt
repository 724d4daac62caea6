pub mod PlacedTwice
