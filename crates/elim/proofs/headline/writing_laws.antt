mod Carrying
mod Functions
mod Heights
mod Marks
mod Names
pub mod Ordinary
mod Parts
mod Reporting
mod Sessions
mod StaysLow
mod Stems
pub mod Writables
