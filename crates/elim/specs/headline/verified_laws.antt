pub mod AcceptedLines
pub mod Laws
