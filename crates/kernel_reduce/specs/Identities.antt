-- Whether K of Eq.i steps: where it is on, and the signature has Eq.i as the prelude has it.
use Rattle.std.specs.Prelude.{ℕ, Bool, true, false, ◌&&◌, ◌==◌, nat_lt, Option, Some, None, List, [], ◌∷◌, ◌++◌, codes, bytes_eq}
use Rattle.theory.specs.Terms.{Term, Var, Sort, top}
use Rattle.theory.specs.Families.{Argument, Constructor, Family}
use Rattle.theory.specs.Prelude.{level_text}
use Rattle.theory.specs.Signatures.{Signature, equality}
use Rattle.kernel_reduce.specs.Entries.{family_at}

abbrev pub is_sort : ℕ → Term → Bool
is_sort i (Sort j) = j == i
is_sort i _ = false

abbrev pub is_variable : ℕ → Term → Bool
is_variable n (Var m) = m == n
is_variable n _ = false

abbrev pub is_named : List ℕ → ℕ → List ℕ → Bool
is_named front i name = bytes_eq name (front ++ level_text i)

abbrev pub has_parameters : ℕ → List Term → Bool
has_parameters i (a ∷ b ∷ []) = is_sort i a && is_variable 0 b
has_parameters i _ = false

abbrev pub has_index : ℕ → List (Term × ℕ) → Bool
has_index i (a ∷ []) = is_variable 1 a.0 && (a.1 == i)
has_index i _ = false

abbrev pub has_no_arguments : List Argument → Bool
has_no_arguments [] = true
has_no_arguments _ = false

abbrev pub has_target : List Term → Bool
has_target (t ∷ []) = is_variable 0 t
has_target _ = false

abbrev pub has_reflexivity : ℕ → List Constructor → Bool
has_reflexivity i (c ∷ []) = is_named (codes "refl.") i c.name && (has_no_arguments c.arguments && has_target c.targets)
has_reflexivity i _ = false

-- the record is that of Eq.i
abbrev pub is_identity : ℕ → Family → Bool
is_identity i f =
    is_named (codes "Eq.") i f.name
    && (has_parameters i f.parameters && (has_index i f.indices && ((f.level == i) && has_reflexivity i f.constructors)))

abbrev pub is_identity_there : ℕ → Option Family → Bool
is_identity_there i (Some f) = is_identity i f
is_identity_there i None = false

-- K of Eq.i steps: it is on, and Eq.i is there
abbrev pub has_k_at : Signature → ℕ → Bool
has_k_at S i = S.has_k && (nat_lt i top && is_identity_there i (family_at S (equality i)))
