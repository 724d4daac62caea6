pub mod RefusalMeanings
