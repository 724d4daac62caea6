-- Laws of the entries of a function over a pair of positions.
use Rattle.std.specs.Prelude.{◌≡◌, ◌≢◌, ◌⊎◌, ℕ, Ok, Err, List, [], ◌∷◌, ◌++◌, length, map, All, AllPairs}
use Rattle.std.specs.List.{Any}
use Rattle.theory.specs.Terms.{Term}
use Rattle.theory.specs.Prelude.{prelude}
use Rattle.theory.specs.Signatures.{Signature, Definition, IsPrefix}
use Rattle.core_terms.specs.declared.stop.Stop.{Stop}
use Rattle.core_terms.specs.declared.stop.Stop.TheVariants.{Deep}
use Rattle.core_sig.specs.Drafts.{Draft}
use Rattle.core_sig.specs.ScopedDrafts.{IsScopedDraft}
use Rattle.unification.specs.ScopedStates.{IsReady}
use Rattle.tree_translation.specs.Conditions.{with_function}
use Rattle.tree_translation.specs.Naming.{motive_name, once, step_name}
use Rattle.tree_translation.specs.Plans.{Plan}
use Rattle.tree_translation.specs.Standings.{levels_from}
use Rattle.tree_translation.specs.Laws.{IsGenerated, mentioned_by, name_of}
use Rattle.lex_recursion.specs.PairConditions.{IsPairPlanned}
use Rattle.lex_recursion.specs.PairEntries.{motive2_name, pair_entries, step2_name}

abbrev pub OfPairDrafts : (Signature → Plan → List Draft → Type 0) → Type 0
OfPairDrafts Holds =
    (S : Signature) (plan : Plan) (second : ℕ) (drafts : List Draft) → IsPairPlanned S plan second → pair_entries S plan second ≡ Ok drafts →
    Holds S plan drafts

-- The entries are both motives, the second step, the first one and the function, in this order.
abbrev pub PairEntriesAreFive : Type 0
PairEntriesAreFive =
    OfPairDrafts (λ S plan drafts.
    map name_of drafts
    ≡ motive_name plan.name ∷ motive2_name plan.name ∷ step2_name plan.name ∷ step_name plan.name ∷ plan.name ∷ [])

-- The last entry is the function, and its type is syntactically equal to the written one.
abbrev pub PairTypeIsWritten : Type 0
PairTypeIsWritten =
    OfPairDrafts (λ S plan drafts.
    (before : List Draft) × (last : Draft) × (body : Term) × (drafts ≡ before ++ last ∷ []) × (last.entry ≡ Definition plan.name plan.type body))

-- No other refusal than Deep is meant.
abbrev pub PairOnlyDeep : Type 0
PairOnlyDeep = (S : Signature) (plan : Plan) (second : ℕ) (e : Stop) → pair_entries S plan second ≡ Err e → e ≡ Deep

-- Each draft mentions generated entries and the drafts before it, and nothing else beyond the signature: neither itself nor the
-- function, before the function is there. So no entry is recursive.
abbrev pub PairEarlierAlone : Type 0
PairEarlierAlone =
    OfPairDrafts (λ S plan drafts.
    (before behind : List Draft) (d : Draft) → drafts ≡ before ++ d ∷ behind →
    All (λ name. IsGenerated S name ⊎ Any (λ e. name_of e ≡ name) before) d.names)

-- The names of a draft are different,
abbrev pub PairNamesDiffer : Type 0
PairNamesDiffer = OfPairDrafts (λ S plan drafts. All (λ d. AllPairs (λ one other. one ≢ other) d.names) drafts)

-- and are all mentioned, in the order of first mention.
abbrev pub PairNamesInOrder : Type 0
PairNamesInOrder = OfPairDrafts (λ S plan drafts. All (λ d. once [] (mentioned_by d) ≡ levels_from 0 (length d.names)) drafts)

-- ---- scopes

-- The plan is one over the signature, which begins with the prelude and is ready together with the function.
pub record IsPairReadyFor (S : Signature) (plan : Plan) (second : ℕ) : Type 0 where
  pub ready : IsReady (with_function S plan)
  pub first : IsPrefix (prelude S.has_k) S
  pub planned : IsPairPlanned S plan second

-- Each draft is scoped.
abbrev pub PairDraftsScoped : Type 0
PairDraftsScoped =
    (S : Signature) (plan : Plan) (second : ℕ) (drafts : List Draft) → IsPairReadyFor S plan second → pair_entries S plan second ≡ Ok drafts →
    All (λ d. (d.base ≡ plan.base) × IsScopedDraft S d) drafts
