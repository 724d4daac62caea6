-- The texts of terms, entries and heads.
pub mod TermText
pub mod EntryText
pub mod RawEntries
pub mod EntryParts
pub mod SymbolNames
pub mod ContextText
pub mod Heads
-- Reading, and the places where it stops.
pub mod EntryReading
pub mod LineReading
pub mod TermReading
pub mod Reading
pub mod SymbolLookup
pub mod NameRuns
pub mod DeclaredNames
-- The laws.
pub mod Lines
pub mod LineLaws
pub mod ReadLaws
pub mod ReadBack
pub mod WrittenEntries
pub mod ReadableNames
pub mod SurfaceNames
pub mod Spellings
pub mod SpelledLines
pub mod Places
-- The code's own steps.
pub mod ProductParts
pub mod Records
pub mod Scopes
