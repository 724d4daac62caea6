-- Runs, turn by turn, with the steps that were made before.
use Rattle.std.proofs.Common.{◌≡◌, ℕ, suc, ◌<◌, Option, Some, None, Result, Ok, Err, List, [], ◌∷◌, ◌++◌, refl, sym, ap, ◌∙◌, subst₂, arith}
use Rattle.theory.specs.Signatures.{Signature}
use Rattle.core_terms.specs.Answers.{Spent, and_next}
use Rattle.core_terms.specs.CaseTrees.{Step}
use Rattle.core_terms.specs.declared.stop.Stop.{Stop}
use Rattle.kernel_reduce.specs.Reduction.{answered}
use Rattle.unification.specs.Outcomes.{Outcome, before, behind_steps}
use Rattle.unification.specs.Runs.{Run, ends, refused, goes, end_of, behind_step, run_of}
use Rattle.unification.specs.States.{State}
use Rattle.unification.specs.Strategy.{turn_of}
use Rattle.unification.specs.Turns.{Turn, Done, Goes, Fails, Sticks}
use Rattle.unification.proofs.RunLaws.{runs-end, run-is_unique}

-- ---- a run gets shorter

abbrev turns : {S : Signature} {s : State} {left : ℕ} {result : Result Outcome Stop} {rest : ℕ} → Run S s left result rest → ℕ
turns (ends s left rest turn outcome is end) = 0
turns (refused s left rest e is) = 0
turns (goes s t left rest end step result is next) = suc (turns next)

-- how many turns go on from a state
pub turns_from : (S : Signature) → State → ℕ → ℕ
turns_from S s left = turns (runs-end S s left)

same-next : (r : Spent (Option Turn)) (step other : Step) (t u : State) (rest end : ℕ) → r ≡ answered (Ok (Some (Goes step t))) rest → r ≡ answered (Ok (Some (Goes other u))) end → (t ≡ u) × (rest ≡ end)
same-next r step other t u rest end e f =
    let h : ◌≡◌ {A = Result (Option Turn) Stop} (Ok (Some (Goes step t))) (Ok (Some (Goes other u))) = sym (ap (λ (r : Spent (Option Turn)). r.0) e) ∙ ap (λ (r : Spent (Option Turn)). r.0) f in
    (cc, sym (ap (λ (r : Spent (Option Turn)). r.1) e) ∙ ap (λ (r : Spent (Option Turn)). r.1) f)

no-end : (r : Spent (Option Turn)) (step : Step) (s t : State) (rest end : ℕ) (turn : Turn) (outcome : Outcome) → r ≡ answered (Ok (Some (Goes step t))) rest → r ≡ answered (Ok (Some turn)) end
    → end_of s turn ≡ Some outcome → ⊥
no-end r step s t rest end turn outcome e f at =
    let h : ◌≡◌ {A = Result (Option Turn) Stop} (Ok (Some (Goes step t))) (Ok (Some turn)) = sym (ap (λ (r : Spent (Option Turn)). r.0) e) ∙ ap (λ (r : Spent (Option Turn)). r.0) f in
    let same : turn ≡ Goes step t = cc in
    let none : ◌≡◌ {A = Option Outcome} None (Some outcome) = sym (ap (end_of s) same) ∙ at in
    cc

no-refusal : (r : Spent (Option Turn)) (step : Step) (t : State) (rest end : ℕ) (x : Stop) → r ≡ answered (Ok (Some (Goes step t))) rest → r ≡ answered (Err x) end → ⊥
no-refusal r step t rest end x e f =
    let h : ◌≡◌ {A = Result (Option Turn) Stop} (Ok (Some (Goes step t))) (Err x) = sym (ap (λ (r : Spent (Option Turn)). r.0) e) ∙ ap (λ (r : Spent (Option Turn)). r.0) f in
    cc

turns-same : (S : Signature) (s : State) (left : ℕ) (a c : Result Outcome Stop) (b d : ℕ) (p : Run S s left a b) (q : Run S s left c d) → turns p ≡ turns q
turns-same S s left a c b d (ends _ _ rest turn outcome is end) (ends _ _ rest' turn' outcome' is' end') = refl
turns-same S s left a c b d (ends _ _ rest turn outcome is end) (refused _ _ rest' e is') = refl
turns-same S s left a c b d (refused _ _ rest e is) (ends _ _ rest' turn' outcome' is' end') = refl
turns-same S s left a c b d (refused _ _ rest e is) (refused _ _ rest' e' is') = refl
turns-same S s left a c b d (ends _ _ rest turn outcome is end) (goes _ t _ rest' end' step result is' next) = absurd (no-end (turn_of S s left) step s t rest' rest turn outcome is' is end)
turns-same S s left a c b d (refused _ _ rest e is) (goes _ t _ rest' end' step result is' next) = absurd (no-refusal (turn_of S s left) step t rest' rest e is' is)
turns-same S s left a c b d (goes _ t _ rest end step result is next) (ends _ _ rest' turn outcome is' end') = absurd (no-end (turn_of S s left) step s t rest rest' turn outcome is is' end')
turns-same S s left a c b d (goes _ t _ rest end step result is next) (refused _ _ rest' e is') = absurd (no-refusal (turn_of S s left) step t rest rest' e is is')
turns-same S s left a c b d (goes _ t _ rest end step result is p) (goes _ u _ rest' end' other result' is' q) =
    let same = same-next (turn_of S s left) step other t u rest rest' is is' in
    ap suc (subst₂ (λ u l. (q : Run S u l result' end') → turns p ≡ turns q) same.0 same.1 (λ q. turns-same S t rest result result' end end' p q) q)

turns-fewer : (S : Signature) (s t : State) (left rest : ℕ) (step : Step) (a c : Result Outcome Stop) (b d : ℕ) (p : Run S s left a b) (q : Run S t rest c d)
    → turn_of S s left ≡ answered (Ok (Some (Goes step t))) rest → turns q < turns p
turns-fewer S s t left rest step a c b d (ends _ _ rest' turn outcome is end) q at = absurd (no-end (turn_of S s left) step s t rest rest' turn outcome at is end)
turns-fewer S s t left rest step a c b d (refused _ _ rest' e is) q at = absurd (no-refusal (turn_of S s left) step t rest rest' e at is)
turns-fewer S s t left rest step a c b d (goes _ u _ rest' end other result is p) q at =
    let same = same-next (turn_of S s left) other step u t rest' rest is at in
    let e : turns p ≡ turns q = subst₂ (λ u l. (q : Run S u l c d) → turns p ≡ turns q) same.0 same.1 (λ q. turns-same S u rest' result c end d p q) q in
    omega arith

pub turns-fall : (S : Signature) (s t : State) (left rest : ℕ) (step : Step) → ◌≡◌ {A = Spent (Option Turn)} (Ok (Some (Goes step t)), rest) (turn_of S s left) → turns_from S t rest < turns_from S s left
unfolding turns_from
turns-fall S s t left rest step e = turns-fewer S s t left rest step _ _ _ _ (runs-end S s left) (runs-end S t rest) (sym e)

-- ---- with the steps before

-- an outcome after the steps that were made
abbrev pub behind_all : List Step → Spent Outcome → Spent Outcome
behind_all steps r = and_next r (λ outcome rest. answered (Ok (behind_steps steps outcome)) rest)

behind-more : (steps : List Step) (step : Step) (outcome : Outcome) → behind_steps (steps ++ step ∷ []) outcome ≡ behind_steps steps (before step outcome)
behind-more [] step outcome = refl
behind-more (other ∷ steps) step outcome = ap (before other) (behind-more steps step outcome)

behind-one : (steps : List Step) (step : Step) (r : Result Outcome Stop) (rest : ℕ) → behind_all steps (behind_step step r, rest) ≡ behind_all (steps ++ step ∷ []) (r, rest)
behind-one steps step (Ok outcome) rest = ap (λ o. answered (Ok o) rest) (sym (behind-more steps step outcome))
behind-one steps step (Err e) rest = refl

behind-none : (r : Result Outcome Stop) (rest : ℕ) → behind_all [] (r, rest) ≡ (r, rest)
behind-none (Ok outcome) rest = refl
behind-none (Err e) rest = refl

pub run-starts : (S : Signature) (s : State) (left : ℕ) → behind_all [] (run_of S s left) ≡ run_of S s left
run-starts S s left = behind-none (run_of S s left).0 (run_of S s left).1

pub run-goes : (S : Signature) (s t : State) (left rest : ℕ) (step : Step) (steps : List Step) → ◌≡◌ {A = Spent (Option Turn)} (Ok (Some (Goes step t)), rest) (turn_of S s left)
    → behind_all (steps ++ step ∷ []) (run_of S t rest) ≡ behind_all steps (run_of S s left)
run-goes S s t left rest step steps e =
    let r = run_of S t rest in
    sym (ap (behind_all steps) (run-is_unique S s left r.1 (behind_step step r.0) (goes s t left rest r.1 step r.0 (sym e) (runs-end S t rest))) ∙ behind-one steps step r.0 r.1)

pub run-refused : (S : Signature) (s : State) (left rest : ℕ) (x : Stop) (steps : List Step) → ◌≡◌ {A = Spent (Option Turn)} (Err x, rest) (turn_of S s left)
    → ◌≡◌ {A = Spent Outcome} (Err x, rest) (behind_all steps (run_of S s left))
run-refused S s left rest x steps e = sym (ap (behind_all steps) (run-is_unique S s left rest (Err x) (refused s left rest x (sym e))))

pub run-ends : (S : Signature) (s : State) (left rest : ℕ) (turn : Turn) (outcome : Outcome) (steps : List Step) → ◌≡◌ {A = Spent (Option Turn)} (Ok (Some turn), rest) (turn_of S s left) → end_of s turn ≡ Some outcome
    → ◌≡◌ {A = Spent Outcome} (Ok (behind_steps steps outcome), rest) (behind_all steps (run_of S s left))
run-ends S s left rest turn outcome steps e at = sym (ap (behind_all steps) (run-is_unique S s left rest (Ok outcome) (ends s left rest turn outcome (sym e) at)))

-- a turn that does not go on has an outcome
pub end-there : (s : State) (turn : Turn) → ((step : Step) (t : State) → turn ≡ Goes step t → ⊥) → (outcome : Outcome) × (end_of s turn ≡ Some outcome)
end-there s Done h = (_, refl)
end-there s (Goes step t) h = absurd (h step t refl)
end-there s (Fails step u v) h = (_, refl)
end-there s (Sticks why u v) h = (_, refl)
