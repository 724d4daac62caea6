pub mod EndedTrees
