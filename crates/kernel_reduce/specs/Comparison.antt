-- Comparison of terms, with units: each call costs one, beside the head steps.
use Rattle.std.specs.Prelude.{ℕ, zero, suc, Bool, true, false, ◌&&◌, ◌==◌, nat_le, Ok, Err}
use native.Mathlib.Decide.{ℕ_discrete}
use Rattle.theory.specs.Terms.{Term, Term-discrete, Var, Sort, Pi, Lam, App, Fam, Con, Elim, AxiomK}
use Rattle.theory.specs.Signatures.{Signature}
use Rattle.core_terms.specs.Answers.{Spent, and_next, is_low}
use Rattle.core_terms.specs.declared.stop.Stop.TheVariants.{Deep}
use Rattle.kernel_reduce.specs.Reduction.{answered, charge, if_low, whnf_of}

-- the terms are syntactically equal
abbrev pub same : Term → Term → Bool
same a b = elim (Term-discrete ℕ_discrete a b) [ yes e ↦ true | no e ↦ false ]

-- the first comparison, and then the second one where the first one holds
abbrev pub second_if : Bool → (ℕ → Spent Bool) → ℕ → Spent Bool
second_if true second left = second left
second_if false second left = answered (Ok false) left

abbrev pub both : (ℕ → Spent Bool) → (ℕ → Spent Bool) → ℕ → Spent Bool
both first second left = and_next (first left) (λ holds rest. second_if holds second rest)

-- both terms reduced at their heads with delta, the first one first
abbrev pub on_heads : Signature → Term → Term → (Term → Term → ℕ → Spent Bool) → ℕ → Spent Bool
on_heads S a b compare left =
    and_next (whnf_of S true left a) (λ c rest. and_next (whnf_of S true rest b) (λ d end. compare c d end))

-- two terms without a head step, with `convertible` for their children
abbrev pub heads_convertible : (Term → Term → ℕ → Spent Bool) → Term → Term → ℕ → Spent Bool
heads_convertible convertible (Var n) (Var m) left = answered (Ok (n == m)) left
heads_convertible convertible (Sort i) (Sort j) left = answered (Ok (i == j)) left
heads_convertible convertible (Pi a b) (Pi c d) left = both (convertible a c) (convertible b d) left
heads_convertible convertible (Lam a b) (Lam c d) left = both (convertible a c) (convertible b d) left
heads_convertible convertible (App a b) (App c d) left = both (convertible a c) (convertible b d) left
heads_convertible convertible (Fam f) (Fam g) left = answered (Ok (f == g)) left
heads_convertible convertible (Con f c) (Con g d) left = answered (Ok ((f == g) && (c == d))) left
heads_convertible convertible (Elim f m) (Elim g n) left = answered (Ok ((f == g) && (m == n))) left
heads_convertible convertible (AxiomK i m) (AxiomK j n) left = answered (Ok ((i == j) && (m == n))) left
heads_convertible convertible _ _ left = answered (Ok false) left

-- true at once where the terms are the same
abbrev pub unless_same : Bool → (ℕ → Spent Bool) → ℕ → Spent Bool
unless_same true compare left = answered (Ok true) left
unless_same false compare left = compare left

-- whether two terms are found convertible, where `room` calls may be open
abbrev pub convertible_of : Signature → ℕ → Term → Term → ℕ → Spent Bool
convertible_of S zero a b left = answered (Err Deep) left
convertible_of S (suc room) a b left =
    if_low (is_low a && is_low b)
    (charge (unless_same (same a b) (on_heads S a b (heads_convertible (convertible_of S room)))))
    left

-- two terms without a head step, with `convertible` and `subtype` for their children, and `convertible` for all other heads
abbrev pub heads_below : (Term → Term → ℕ → Spent Bool) → (Term → Term → ℕ → Spent Bool) → Term → Term → ℕ → Spent Bool
heads_below convertible subtype (Sort i) (Sort j) left = answered (Ok (nat_le i j)) left
heads_below convertible subtype (Pi a b) (Pi c d) left = both (convertible a c) (subtype b d) left
heads_below convertible subtype a b left = convertible a b left

-- whether the first term is found below the second one, where `room` calls may be open
abbrev pub subtype_of : Signature → ℕ → Term → Term → ℕ → Spent Bool
subtype_of S zero a b left = answered (Err Deep) left
subtype_of S (suc room) a b left =
    if_low (is_low a && is_low b)
    (charge (on_heads S a b (heads_below (convertible_of S room) (subtype_of S room))))
    left
