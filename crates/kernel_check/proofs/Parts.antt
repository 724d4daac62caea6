-- Properties of a verdict, from those of the verdicts that it is made of.
use Rattle.std.proofs.Common.{Result, Ok, Err, IfOk, ℕ, ◌≤◌, ◌∷◌, arith}
use Rattle.theory.specs.Terms.{Term}
use Rattle.core_terms.specs.Answers.{Spent, bounded}
use Rattle.core_terms.specs.Verdicts.{Denial, Verdict}
use Rattle.core_terms.specs.declared.stop.Stop.{Stop}
use Rattle.core_terms.specs.Verdicts.Verdict.{Yes, No}
use Rattle.core_terms.proofs.Answers.{Answers, and_next-has, and_next-spends, bounded-has}
use Rattle.kernel_check.specs.Checking.{yes_of, typed, on_verdict, if_typed, verdict_behind, behind}

-- the type has P, and the denial has N
abbrev pub Splits : (Term → Type 0) → (Denial → Type 0) → Verdict → Type 0
Splits P N (Yes type) = P type
Splits P N (No denial) = N denial

pub typed-splits : (P : Term → Type 0) (N : Denial → Type 0) (made : Term) → P made → IfOk (typed made) (Splits P N)
typed-splits P N made h = by_case (bounded made) (bounded-has P made (λ low. h))
  where
    by_case : (r : Result Term Stop) → IfOk r P → IfOk (yes_of r) (Splits P N)
    by_case (Ok type) k = k
    by_case (Err e) k = tt

pub if_typed-splits : (P Q : Term → Type 0) (N : Denial → Type 0) (first : Spent Verdict) (next : Term → ℕ → Spent Verdict)
    → Answers (Splits P N) first → ((type : Term) (rest : ℕ) → P type → Answers (Splits Q N) (next type rest))
    → Answers (Splits Q N) (if_typed first next)
if_typed-splits P Q N first next h k = and_next-has (Splits P N) (Splits Q N) first _ h on
  where
    on : (verdict : Verdict) (rest : ℕ) → Splits P N verdict → Answers (Splits Q N) (on_verdict verdict rest next)
    on (Yes type) rest p = k type rest p
    on (No denial) rest n = n

pub behind-splits : (P : Term → Type 0) (N M : Denial → Type 0) (child : ℕ) (asked : Spent Verdict)
    → ((denial : Denial) → N denial → M (record denial { place = child ∷ denial.place })) → Answers (Splits P N) asked
    → Answers (Splits P M) (behind child asked)
behind-splits P N M child asked f h = and_next-has (Splits P N) (Splits P M) asked _ h on
  where
    on : (verdict : Verdict) (rest : ℕ) → Splits P N verdict → Splits P M (verdict_behind child verdict)
    on (Yes type) rest p = p
    on (No denial) rest n = f denial n

pub if_typed-spends : (first : Spent Verdict) (next : Term → ℕ → Spent Verdict) (left : ℕ) → first.1 ≤ left
    → ((type : Term) (rest : ℕ) → (next type rest).1 ≤ rest) → (if_typed first next).1 ≤ left
if_typed-spends first next left h k = and_next-spends first _ left h on
  where
    on : (verdict : Verdict) (rest : ℕ) → (on_verdict verdict rest next).1 ≤ rest
    on (Yes type) rest = k type rest
    on (No denial) rest = omega arith

pub behind-spends : (child : ℕ) (asked : Spent Verdict) (left : ℕ) → asked.1 ≤ left → (behind child asked).1 ≤ left
behind-spends child asked left h = and_next-spends asked _ left h (λ verdict rest. omega arith)

-- both for a child that is asked first
pub child-spends : (child : ℕ) (asked : Spent Verdict) (next : Term → ℕ → Spent Verdict) (left : ℕ) → asked.1 ≤ left
    → ((type : Term) (rest : ℕ) → (next type rest).1 ≤ rest) → (if_typed (behind child asked) next).1 ≤ left
child-spends child asked next left h k = if_typed-spends (behind child asked) next left (behind-spends child asked left h) k

pub child-splits : (P Q : Term → Type 0) (N M : Denial → Type 0) (child : ℕ) (asked : Spent Verdict) (next : Term → ℕ → Spent Verdict)
    → ((denial : Denial) → N denial → M (record denial { place = child ∷ denial.place })) → Answers (Splits P N) asked
    → ((type : Term) (rest : ℕ) → P type → Answers (Splits Q M) (next type rest)) → Answers (Splits Q M) (if_typed (behind child asked) next)
child-splits P Q N M child asked next f h k =
    if_typed-splits P Q M (behind child asked) next (behind-splits P N M child asked f h) k
