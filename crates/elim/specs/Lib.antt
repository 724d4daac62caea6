pub mod written_functions
pub mod refusal_laws
pub mod k_laws
pub mod memory_laws
pub mod program_texts
pub mod elim_program
pub mod headline
