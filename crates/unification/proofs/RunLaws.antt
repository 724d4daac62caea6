-- Runs: from each state there is one, and no other.
use Rattle.std.proofs.Common.{◌≡◌, ◌≢◌, ℕ, zero, suc, ◌<◌, ◌≤◌, Option, Some, None, Result, Ok, Err, IfOk, [], ◌∷◌, length, refl, ap, ap₂, sym, subst, ◌∙◌, arith}
use Rattle.theory.specs.Signatures.{Signature}
use Rattle.core_terms.specs.Answers.{Spent, on_answer}
use Rattle.core_terms.specs.CaseTrees.{Step}
use Rattle.core_terms.specs.declared.stop.Stop.{Stop}
use Rattle.kernel_reduce.specs.Reduction.{answered}
use Rattle.unification.specs.States.{State}
use Rattle.unification.specs.Outcomes.{Outcome, Solved, Absurd, Stuck, before}
use Rattle.unification.specs.Turns.{Turn, Done, Goes, Fails, Sticks}
use Rattle.unification.specs.Strategy.{turn_of}
use Rattle.unification.specs.Runs.{Run, end_of, behind_step, size_of_sides, Going, nowhere, by_measure, after, one_turn, by_size, by_variables, by_units, run_of}
use Rattle.unification.specs.Runs.Run.{ends, refused, goes}
use Rattle.unification.specs.Laws.{Falls, RunsEnd, RunIsUnique}
use Rattle.unification.specs.Laws.Falls.{units, variables, size}
use Rattle.unification.proofs.TurnLaws.{turn-is_there, turn-falls}
use Rattle.unification.proofs.Cases.{first-of_two, second-of_two}

-- a going comes to a run from this state on
abbrev IsRunOf : Signature → Going → State → ℕ → Type 0
IsRunOf S go s left = Run S s left (go s left).0 (go s left).1

goes_on-runs : (S : Signature) (s t : State) (left rest : ℕ) (step : Step) → turn_of S s left ≡ answered (Ok (Some (Goes step t))) rest
    → (result : Result Outcome Stop) (end : ℕ) → Run S t rest result end
    → Run S s left (on_answer result end (λ outcome rest. answered (Ok (before step outcome)) rest)).0 (on_answer result end (λ outcome rest. answered (Ok (before step outcome)) rest)).1
goes_on-runs S s t left rest step is (Ok outcome) end run = goes s t left rest end step (Ok outcome) is run
goes_on-runs S s t left rest step is (Err e) end run = goes s t left rest end step (Err e) is run

-- one turn, with runs after it
one_turn-runs : (S : Signature) (s : State) (left : ℕ) (go : State → ℕ → Going)
    → ((t : State) (rest : ℕ) (step : Step) → turn_of S s left ≡ answered (Ok (Some (Goes step t))) rest → IsRunOf S (go s left) t rest)
    → IsRunOf S (one_turn S go) s left
one_turn-runs S s left go h = by_turn (turn_of S s left).0 (turn_of S s left).1 refl
  where
    by_turn : (a : Result (Option Turn) Stop) (rest : ℕ) → turn_of S s left ≡ answered a rest
        → Run S s left (on_answer a rest (λ turn rest. after (go s left) s turn rest)).0 (on_answer a rest (λ turn rest. after (go s left) s turn rest)).1
    by_turn (Err e) rest is = refused s left rest e is
    by_turn (Ok None) rest is = absurd (subst (λ r. IfOk r.0 (λ turn. turn ≢ None)) is (turn-is_there S s left) refl)
    by_turn (Ok (Some Done)) rest is = ends s left rest Done (Solved [] s.context s.solution) is refl
    by_turn (Ok (Some (Fails step u v))) rest is = ends s left rest (Fails step u v) (Absurd (step ∷ []) s.context u v) is refl
    by_turn (Ok (Some (Sticks why u v))) rest is = ends s left rest (Sticks why u v) (Stuck [] s.context u v why) is refl
    by_turn (Ok (Some (Goes step t))) rest is = goes_on-runs S s t left rest step is (go s left t rest).0 (go s left t rest).1 (h t rest step is)

-- by the measure that has become less
measured-runs : (S : Signature) (fewer shorter smaller : Going) (s t : State) (left rest : ℕ) → Falls s left t rest
    → ((t : State) (rest : ℕ) → rest < left → IsRunOf S fewer t rest)
    → ((t : State) → length t.context < length s.context → IsRunOf S shorter t left)
    → (rest ≡ left → length t.context ≡ length s.context → size_of_sides t.equations < size_of_sides s.equations → IsRunOf S smaller t rest)
    → IsRunOf S (by_measure fewer shorter smaller s left) t rest
measured-runs S fewer shorter smaller s t left rest (units less) h k l =
    subst (λ r. Run S t rest r.0 r.1) (sym (first-of_two rest left (fewer t rest) _ less)) (h t rest less)
measured-runs S fewer shorter smaller s t left rest (variables same less) h k l =
    subst (λ r. Run S t rest r.0 r.1)
    (sym (second-of_two rest left (fewer t rest) _ (omega arith)
    ∙ first-of_two (length t.context) (length s.context) (shorter t rest) (smaller t rest) less))
    (subst (λ n. IsRunOf S shorter t n) (sym same) (k t less))
measured-runs S fewer shorter smaller s t left rest (size same same' less) h k l =
    subst (λ r. Run S t rest r.0 r.1)
    (sym (second-of_two rest left (fewer t rest) _ (omega arith)
    ∙ second-of_two (length t.context) (length s.context) (shorter t rest) (smaller t rest) (omega arith)))
    (l same same' less)

by_size-runs : (S : Signature) (fewer shorter : Going) (n : ℕ) (s : State) (left : ℕ) → size_of_sides s.equations ≤ n
    → ((t : State) (rest : ℕ) → rest < left → IsRunOf S fewer t rest)
    → ((t : State) → length t.context < length s.context → IsRunOf S shorter t left)
    → IsRunOf S (by_size S fewer shorter n) s left
by_size-runs S fewer shorter zero s left le h k =
    one_turn-runs S s left (by_measure fewer shorter nowhere) (λ t rest step is.
    measured-runs S fewer shorter nowhere s t left rest (turn-falls S s t left rest step is) h k (λ same same' less. absurd (omega arith)))
by_size-runs S fewer shorter (suc n) s left le h k =
    one_turn-runs S s left (by_measure fewer shorter (by_size S fewer shorter n)) (λ t rest step is.
    measured-runs S fewer shorter (by_size S fewer shorter n) s t left rest (turn-falls S s t left rest step is) h k (λ same same' less.
    by_size-runs S fewer shorter n t rest (omega arith) (λ t' rest' less'. h t' rest' (omega arith))
    (λ t' less'. subst (λ n. IsRunOf S shorter t' n) (sym same) (k t' (omega arith)))))

by_variables-runs : (S : Signature) (fewer : Going) (n : ℕ) (s : State) (left : ℕ) → length s.context ≤ n
    → ((t : State) (rest : ℕ) → rest < left → IsRunOf S fewer t rest) → IsRunOf S (by_variables S fewer n) s left
by_variables-runs S fewer zero s left le h =
    by_size-runs S fewer nowhere (size_of_sides s.equations) s left (omega arith) h (λ t less. absurd (omega arith))
by_variables-runs S fewer (suc n) s left le h =
    by_size-runs S fewer (by_variables S fewer n) (size_of_sides s.equations) s left (omega arith) h (λ t less.
    by_variables-runs S fewer n t left (omega arith) h)

by_units-runs : (S : Signature) (n : ℕ) (s : State) (left : ℕ) → left ≤ n → IsRunOf S (by_units S n) s left
by_units-runs S zero s left le =
    by_variables-runs S nowhere (length s.context) s left (omega arith) (λ t rest less. absurd (omega arith))
by_units-runs S (suc n) s left le =
    by_variables-runs S (by_units S n) (length s.context) s left (omega arith) (λ t rest less. by_units-runs S n t rest (omega arith))

pub runs-end : RunsEnd
runs-end S s left = by_units-runs S left s left (omega arith)

-- ---- no other run

-- two answers to one question are the same
same-answer : {A : Type 0} (r : Spent A) (a b : Result A Stop) (m n : ℕ) → r ≡ answered a m → r ≡ answered b n → (a ≡ b) × (m ≡ n)
same-answer r a b m n e f = (ap (λ p. p.0) (sym e ∙ f), ap (λ p. p.1) (sym e ∙ f))

ends-unique : (S : Signature) (s : State) (left rest : ℕ) (turn : Turn) (outcome : Outcome) → turn_of S s left ≡ answered (Ok (Some turn)) rest
    → end_of s turn ≡ Some outcome → (other : Result Outcome Stop) (end : ℕ) → Run S s left other end → (Ok outcome ≡ other) × (rest ≡ end)
ends-unique S s left rest turn outcome is e other end (ends _ _ rest' turn' outcome' is' e') =
    let same = same-answer (turn_of S s left) (Ok (Some turn)) (Ok (Some turn')) rest rest' is is' in
    let a : Ok (Some turn) ≡ Ok (Some turn') = same.0 in
    (cc, same.1)
ends-unique S s left rest turn outcome is e other end (refused _ _ rest' x is') =
    let same = same-answer (turn_of S s left) (Ok (Some turn)) (Err x) rest rest' is is' in
    let a : Ok (Some turn) ≡ Err x = same.0 in
    absurd cc
ends-unique S s left rest turn outcome is e other end (goes _ t _ rest' end' step result is' run) =
    let same = same-answer (turn_of S s left) (Ok (Some turn)) (Ok (Some (Goes step t))) rest rest' is is' in
    let a : Ok (Some turn) ≡ Ok (Some (Goes step t)) = same.0 in
    let b : turn ≡ Goes step t = cc in
    let none : None ≡ Some outcome = subst (λ turn. end_of s turn ≡ Some outcome) b e in
    absurd cc

refused-unique : (S : Signature) (s : State) (left rest : ℕ) (x : Stop) → turn_of S s left ≡ answered (Err x) rest
    → (other : Result Outcome Stop) (end : ℕ) → Run S s left other end → (Err x ≡ other) × (rest ≡ end)
refused-unique S s left rest x is other end (ends _ _ rest' turn' outcome' is' e') =
    let same = same-answer (turn_of S s left) (Err x) (Ok (Some turn')) rest rest' is is' in
    let a : Err x ≡ Ok (Some turn') = same.0 in
    absurd cc
refused-unique S s left rest x is other end (refused _ _ rest' y is') =
    let same = same-answer (turn_of S s left) (Err x) (Err y) rest rest' is is' in
    let a = same.0 in
    (cc, same.1)
refused-unique S s left rest x is other end (goes _ t _ rest' end' step result is' run) =
    let same = same-answer (turn_of S s left) (Err x) (Ok (Some (Goes step t))) rest rest' is is' in
    let a : Err x ≡ Ok (Some (Goes step t)) = same.0 in
    absurd cc

goes-unique : (S : Signature) (s t : State) (left rest n : ℕ) (step : Step) (result : Result Outcome Stop) → turn_of S s left ≡ answered (Ok (Some (Goes step t))) rest
    → ((other : Result Outcome Stop) (end : ℕ) → Run S t rest other end → (result ≡ other) × (n ≡ end))
    → (other : Result Outcome Stop) (end : ℕ) → Run S s left other end → (behind_step step result ≡ other) × (n ≡ end)
goes-unique S s t left rest n step result is h other end (ends _ _ rest' turn' outcome' is' e') =
    let same = same-answer (turn_of S s left) (Ok (Some (Goes step t))) (Ok (Some turn')) rest rest' is is' in
    let a : Ok (Some (Goes step t)) ≡ Ok (Some turn') = same.0 in
    let b : turn' ≡ Goes step t = cc in
    let none : None ≡ Some outcome' = subst (λ turn. end_of s turn ≡ Some outcome') b e' in
    absurd cc
goes-unique S s t left rest n step result is h other end (refused _ _ rest' y is') =
    let same = same-answer (turn_of S s left) (Ok (Some (Goes step t))) (Err y) rest rest' is is' in
    let a : Ok (Some (Goes step t)) ≡ Err y = same.0 in
    absurd cc
goes-unique S s t left rest n step result is h other end (goes _ t' _ rest' end' step' result' is' run) =
    let same = same-answer (turn_of S s left) (Ok (Some (Goes step t))) (Ok (Some (Goes step' t'))) rest rest' is is' in
    let a : Ok (Some (Goes step t)) ≡ Ok (Some (Goes step' t')) = same.0 in
    let state : t' ≡ t = cc in
    let first : step ≡ step' = cc in
    let both = h result' end' (subst (λ u. Run S u rest result' end') state (subst (λ m. Run S t' m result' end') (sym same.1) run)) in
    (ap₂ behind_step first both.0, both.1)

-- two runs from one state have the same end
runs-same : (S : Signature) (s : State) (left n : ℕ) (result : Result Outcome Stop) → Run S s left result n
    → (other : Result Outcome Stop) (end : ℕ) → Run S s left other end → (result ≡ other) × (n ≡ end)
runs-same S s left n result (ends _ _ rest turn outcome is e) = ends-unique S s left rest turn outcome is e
runs-same S s left n result (refused _ _ rest x is) = refused-unique S s left rest x is
runs-same S s left n result (goes _ t _ rest _ step result' is run) =
    goes-unique S s t left rest n step result' is (runs-same S t rest n result' run)

pub run-is_unique : RunIsUnique
run-is_unique S s left rest result run =
    let same = runs-same S s left (run_of S s left).1 (run_of S s left).0 (runs-end S s left) result rest run in
    ap₂ answered same.0 same.1
