pub mod noconf_gen
pub mod acyclic_gen
