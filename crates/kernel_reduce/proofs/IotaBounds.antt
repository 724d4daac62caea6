-- The free variables of the terms that iota works with.
use Rattle.std.proofs.Common.{◌≡◌, ℕ, ◌≤◌, List, take, sym, subst as transport, arith}
use Rattle.std.proofs.lemmas.List.Elements.{All-take}
use Rattle.std.specs.List.{All}
use Rattle.theory.specs.Terms.{Term, free_of}
use Rattle.theory.specs.Terms.Term.{Elim}
use Rattle.theory.specs.Telescopes.{applied}
use Rattle.theory.proofs.Scopes.{free_of-applied}

pub recursor-free : (bound n m count : ℕ) (args : List Term) (t : Term) → t ≡ applied (Elim n m) (take count args) → All (λ v. free_of v ≤ bound) args → free_of t ≤ bound
recursor-free bound n m count args t e ha =
    transport (λ x. free_of x ≤ bound) (sym e)
    ((free_of-applied (Elim n m) (take count args) bound).0 (omega arith, All-take (λ v. free_of v ≤ bound) count args ha))
