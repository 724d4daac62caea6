-- Printed and shared terms, and the texts of blocks.
pub mod PrintedTerms
pub mod BlockText
-- The laws.
pub mod BlockLaws
pub mod Expansions
-- The code's own steps, and the meanings of its values.
pub mod Walks
pub mod CodeMeanings
