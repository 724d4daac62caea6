pub mod Answers
pub mod Builders
pub mod Instances
pub mod LeadingProducts
pub mod Lists
pub mod Loops
pub mod Placing
pub mod SubstUnder
