-- How drafts enter, by the depth to which the entries that they need enter first.
use Rattle.std.specs.Prelude.{ℕ, zero, suc, List, [], Err}
use Rattle.theory.specs.Signatures.{Signature, Entry, Definition}
use Rattle.core_terms.specs.declared.stop.Stop.TheVariants.{Deep}
use Rattle.core_sig.specs.Drafts.{Draft}
use Rattle.core_sig.specs.Settling.{renumbered_entry, settled_number}
use Rattle.clause_reports.specs.DraftEntering.{Entering, enter_with}
use Rattle.clause_reports.specs.Stops.{Halts, answers}

-- the draft's entry, with the numbers that its names have in the signature
abbrev pub settled_entry : Signature → Draft → Entry
settled_entry S d = renumbered_entry (settled_number S d.base d.names) d.entry

-- so many drafts enter for each other at most
abbrev pub enter_at : (depth : ℕ) → Entering
enter_at zero S d left = answers (Err (Halts Deep)) left
enter_at (suc depth) S d left = enter_with (enter_at depth) S d left

-- the name of an entry that is a definition
abbrev pub entry_own_name : Entry → List ℕ
entry_own_name (Definition name type body) = name
entry_own_name _ = []

abbrev pub own_name : Draft → List ℕ
own_name d = entry_own_name d.entry
