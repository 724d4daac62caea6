pub mod CodeMembers
pub mod Compared
pub mod ConfusionLaws
pub mod Fitting
pub mod NoConfusion
pub mod NoConfusionTypes
