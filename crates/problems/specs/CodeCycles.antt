-- The code's search for a variable below constructors. The found term is built up only while it may still be a side.
use Rattle.std.specs.Prelude.{ℕ, zero, ◌==◌, Bool, true, false, cond, nat_le, Option, Some, None, List, [], ◌∷◌, ◌++◌, length, drop, Result, Ok, Err}
use Rattle.theory.specs.Terms.{Term, height}
use Rattle.theory.specs.Spines.{spine_of}
use Rattle.theory.specs.Families.{Argument}
use Rattle.theory.specs.Signatures.{Signature}
use Rattle.core_terms.specs.Answers.{Spent, and_next}
use Rattle.core_terms.specs.declared.stop.Stop.{Stop}
use Rattle.core_terms.specs.declared.stop.Stop.TheVariants.{Deep}
use Rattle.core_sig.specs.Meanings.{constructor_of}
use Rattle.kernel_reduce.specs.Reduction.{answered, whnf_of}
use Rattle.unification.specs.Built as pure
use Rattle.unification.specs.Built.{is_direct}
use Rattle.unification.specs.Cycles.{Search, is_variable, not_found, here_or, search_in}
use Rattle.unification.specs.Solutions.{variable_in}
use Rattle.problems.specs.declared.built.Built.{Built}

-- a found term, or Deep if it is higher than `room`
abbrev pub within : (room : ℕ) → Option Term → Result (Option Term) Stop
within room None = Ok None
within room (Some t) = cond (nat_le (height t) room) (Ok (Some t)) (Err Deep)

-- the variable x at a head form or below it, where the side has room for so high a term in its place
abbrev pub search_within : Signature → (n x room : ℕ) → Term → Search Term
search_within S n x room t left = and_next (search_in S n x t left) (λ found rest. answered (within room found) rest)

-- the search in an argument, if it is direct
abbrev pub at_argument : Signature → (n x room : ℕ) → Argument → Term → Search Term
at_argument S n x room a u left =
    cond (is_direct a) (and_next (whnf_of S true left u) (λ v rest. search_within S n x room v rest)) (not_found left)

-- ---- where there is no room: any found term is Deep

-- one term after the other is reduced and searched, until something is found
abbrev pub search_each : Signature → (n x : ℕ) → List Term → Search Term
search_each S n x [] left = not_found left
search_each S n x (u ∷ terms) left =
    and_next (whnf_of S true left u) (λ t rest.
    and_next (search_in S n x t rest) (λ found end. here_or found (search_each S n x terms) end))

abbrev pub search_too_deep : Signature → (n x : ℕ) → List Term → Search Term
search_too_deep S n x terms left =
    and_next (search_each S n x terms left) (λ found rest. answered (within zero found) rest)

-- the terms that stand for direct arguments
abbrev pub direct_among : List Argument → List Term → List Term
direct_among (a ∷ arguments) (u ∷ us) = cond (is_direct a) (u ∷ direct_among arguments us) (direct_among arguments us)
direct_among _ _ = []

-- an argument is there and is direct
abbrev pub is_direct_at : Option Argument → Bool
is_direct_at None = false
is_direct_at (Some a) = is_direct a

-- the direct arguments of a constructor of family n
abbrev pub direct_arguments : (n : ℕ) → Option pure.Built → List Term
direct_arguments n None = []
direct_arguments n (Some b) = cond (b.n == n) (direct_among b.constructor.arguments b.arguments) []

-- The first of the terms that wait is reduced, and its direct arguments wait in its place. It is Deep where it is the variable.
abbrev pub go_below : Signature → (n x : ℕ) → Term → List Term → ℕ → Spent (List Term)
go_below S n x u terms left =
    and_next (whnf_of S true left u) (λ t rest.
    answered (cond (is_variable x (variable_in t)) (Err Deep) (Ok (direct_arguments n (pure.built_of S t) ++ terms))) rest)

-- the direct arguments of a constructor in the term that it is
abbrev pub direct_in : Built → Term → List Term
direct_in b t =
    let count = length b.record.now.params in
    direct_among (constructor_of count b.con.now).arguments (drop count (spine_of t))
