-- A property of an answer may use the answers before it.
use Rattle.std.proofs.Common.{◌≡◌, ℕ, List, [], ◌∷◌, Result, Ok, Err, IfOk, refl, subst as transport}
use Rattle.theory.specs.Terms.{Term}
use Rattle.theory.specs.Telescopes.{Telescope}
use Rattle.theory.specs.Signatures.{Signature}
use Rattle.core_terms.specs.Answers.{SpentOr, and_next, on_answer}
use Rattle.core_terms.specs.declared.stop.Stop.{Stop}
use Rattle.case_trees.specs.Stops.{TreeStop}
use Rattle.clause_reports.specs.elaboration.Refusals.{Elaborating, Owner, or_ends, or_halts}
use Rattle.clause_reports.specs.elaboration.Walking.{after_dots, check_dot}

pub next-has : {A B E : Type 0} (Q : B → Type 0) (first : SpentOr E A) (go : A → ℕ → SpentOr E B)
    → ((a : A) (rest : ℕ) → first.0 ≡ Ok a → IfOk (go a rest).0 Q) → IfOk (and_next first go).0 Q
next-has {A} {B} {E} Q first go h = by first.0 first.1 h
  where
    by : (r : Result A E) (left : ℕ) → ((a : A) (rest : ℕ) → r ≡ Ok a → IfOk (go a rest).0 Q) → IfOk (on_answer r left go).0 Q
    by (Ok a) left k = k a left refl
    by (Err e) left k = tt

pub halts-ok : {A : Type 0} (r : Result A Stop) (a : A) → or_halts r ≡ Ok a → r ≡ Ok a
halts-ok (Ok b) a e = cc
halts-ok (Err s) a e = absurd (cc)

pub ends-ok : {A : Type 0} (S : Signature) (function : List ℕ) (r : Result A TreeStop) (a : A) → or_ends S function r ≡ Ok a → r ≡ Ok a
ends-ok S function (Ok b) a e = cc
ends-ok S function (Err s) a e = absurd (cc)

-- all dots are passed, or there is no answer
pub dots-have : {A : Type 0} (Q : A → Type 0) (S : Signature) (owner : Owner) (context : Telescope) (dots : List (Term × Term))
    (next : ℕ → Elaborating A) (left : ℕ) → ((rest : ℕ) → IfOk (next rest).0 Q) → IfOk (after_dots S owner context dots next left).0 Q
dots-have Q S owner context [] next left h = h left
dots-have Q S owner context (d ∷ dots) next left h =
    next-has Q (check_dot S owner context d left) (λ written rest. after_dots S owner context dots next rest)
    (λ written rest e. dots-have Q S owner context dots next rest h)

pub if-ok : {A E : Type 0} (P : A → Type 0) (r : Result A E) (a : A) → r ≡ Ok a → IfOk r P → P a
if-ok P (Ok b) a e h = let same : b ≡ a = cc in transport P same h
if-ok P (Err x) a e h = absurd (cc)
