-- Lists of ids, and the types of a list of arguments.
use Rattle.std.specs.Prelude.{◌≡◌, IsTrue, List, [], ◌∷◌, All}
use Rattle.theory.specs.Terms.{Term, Pi}
use Rattle.core_terms.specs.Meanings.{tree_of}
use Rattle.core_sig.specs.declared.family.Arg.{Arg}
use Rattle.term_pool.specs.Held.{Held}

-- the ids are live
pub record AreLive {I : Type 0} (held : Held I) (ids : List I) : Type 0 where
  pub each : All (λ id. IsTrue (held.live id)) ids

-- the term begins with products over the types of the arguments
abbrev pub IsOver : List Arg → Term → Type 0
IsOver [] t = Unit {0}
IsOver (a ∷ args) (Pi b c) = (b ≡ tree_of a.ty) × IsOver args c
IsOver (a ∷ args) _ = ⊥
