pub mod Lacking
pub mod Laws
pub mod Lines
pub mod Walking
