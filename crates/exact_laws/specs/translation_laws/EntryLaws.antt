-- The entries of a function that the code makes are those that are meant.
use Rattle.std.specs.Prelude.{◌≡◌, List, Ok, Err}
use Rattle.theory.specs.Signatures.{Signature}
use Rattle.core_sig.specs.Drafts.{Draft}
use Rattle.core_terms.specs.declared.stop.Stop.{Stop}
use Rattle.core_terms.specs.declared.stop.Stop.TheVariants.{Deep}
use Rattle.tree_translation.specs.Entries.{translate}
use Rattle.tree_translation.specs.Plans.{Plan}
use Rattle.function_entries.specs.CodeEntries.{translate_made}

-- The entries that the code answers for a plan are those that the plan translates to.
abbrev pub TranslateMadeIsEntries : Type 0
TranslateMadeIsEntries =
    (S : Signature) (plan : Plan) (drafts : List Draft) → translate_made S plan ≡ Ok drafts → translate S plan ≡ Ok drafts

-- No other refusal than Deep is meant.
abbrev pub TranslateMadeOnlyDeep : Type 0
TranslateMadeOnlyDeep = (S : Signature) (plan : Plan) (e : Stop) → translate_made S plan ≡ Err e → e ≡ Deep
