-- The dots of a walk one call after the other, as the code checks them.
use Rattle.std.specs.Prelude.{ℕ, List, [], ◌∷◌, reverse, Ok}
use Rattle.theory.specs.Terms.{Term}
use Rattle.theory.specs.Telescopes.{Telescope}
use Rattle.theory.specs.Signatures.{Signature}
use Rattle.core_terms.specs.Answers.{and_next}
use Rattle.kernel_check.specs.Checking.{check_of}
use Rattle.kernel_reduce.specs.Comparison.{convertible_of}
use Rattle.kernel_reduce.specs.Reduction.{nesting}
use Rattle.clause_reports.specs.elaboration.Refusals.{Owner, OfDot, Elaborating, answers, halting, granted}
use Rattle.clause_reports.specs.elaboration.Walking.{if_forced, check_dot}

-- once both terms have one type
abbrev pub dot_forced : Signature → Owner → Telescope → Term × Term → ℕ → Elaborating Term
dot_forced S owner context d left =
    and_next (halting (convertible_of S nesting d.0 d.1 left)) (λ holds end. answers (if_forced S owner context d.0 d.1 holds) end)

-- once the forced term has the type
abbrev pub dot_written : Signature → Owner → Telescope → Term × Term → (type : Term) → ℕ → Elaborating Term
dot_written S owner context d type left =
    and_next (granted S (OfDot owner) (check_of S nesting (reverse context) d.0 type left)) (λ same more.
    dot_forced S owner context d more)

-- all dots
abbrev pub dots_checked : Signature → Owner → Telescope → List (Term × Term) → ℕ → Elaborating (Unit {0})
dots_checked S owner context [] left = answers (Ok tt) left
dots_checked S owner context (d ∷ dots) left =
    and_next (check_dot S owner context d left) (λ written rest. dots_checked S owner context dots rest)
