-- Trials after one another, as the code makes them.
use Rattle.std.proofs.Common.{◌≡◌, ℕ, ◌-◌, ◌<◌, Option, Some, None, Ok, Err, List, [], ◌∷◌, length, get_or, sym, ap, ap₂, ◌∙◌, subst, arith}
use Rattle.std.proofs.lemmas.List.{length-map}
use Rattle.theory.specs.Signatures.{Signature}
use Rattle.core_terms.specs.Answers.{Spent, and_next}
use Rattle.core_terms.specs.declared.stop.Stop.{Stop}
use Rattle.unification.specs.Groups.{group_trials}
use Rattle.unification.specs.States.{State}
use Rattle.unification.specs.Strategy.{first_trials, trials}
use Rattle.unification.specs.Turns.{Trial, Turn, or_else, unless_found}
use Rattle.problems.specs.Meanings.{equation_of, equations_of}
use Rattle.problems.specs.declared.state.Equation.{Equation}

pub or-refused : (first second : Trial) (left end : ℕ) (x : Stop) → ◌≡◌ {A = Spent (Option Turn)} (Err x, end) (first left) → ◌≡◌ {A = Spent (Option Turn)} (Err x, end) (or_else first second left)
or-refused first second left end x h = ap (λ r. and_next r (λ turn rest. unless_found turn second rest)) h

pub or-found : (first second : Trial) (left end : ℕ) (turn : Turn) → ◌≡◌ {A = Spent (Option Turn)} (Ok (Some turn), end) (first left)
    → ◌≡◌ {A = Spent (Option Turn)} (Ok (Some turn), end) (or_else first second left)
or-found first second left end turn h = ap (λ r. and_next r (λ turn rest. unless_found turn second rest)) h

pub or-next : (first second : Trial) (left end : ℕ) → ◌≡◌ {A = Spent (Option Turn)} (Ok None, end) (first left) → second end ≡ or_else first second left
or-next first second left end h = ap (λ r. and_next r (λ turn rest. unless_found turn second rest)) h

-- three trials that find nothing
pub third-next : (a b c more : Trial) (u v w left : ℕ) → ◌≡◌ {A = Spent (Option Turn)} (Ok None, u) (a left) → ◌≡◌ {A = Spent (Option Turn)} (Ok None, v) (b u) → ◌≡◌ {A = Spent (Option Turn)} (Ok None, w) (c v)
    → more w ≡ or_else a (or_else b (or_else c more)) left
third-next a b c more u v w left ha hb hc =
    or-next c more v w hc ∙ (or-next b (or_else c more) u v hb ∙ or-next a (or_else b (or_else c more)) left u ha)

-- the groups of a state, and then the rules for its first equation
trials-at : (S : Signature) (s : State) (es : List Equation) (e : Equation) (left : ℕ) → 0 < length es → e ≡ get_or es 0 e
    → trials S s (equations_of es) left ≡ or_else (group_trials S s (length es - 1)) (first_trials S s (equation_of e)) left
trials-at S s [] e left lt is = absurd (omega arith)
trials-at S s (d ∷ es) e left lt is =
    ap₂ (λ n d. or_else (group_trials S s n) (first_trials S s (equation_of d)) left) (let h = length-map es equation_of in let f : length (equations_of es) ≡ length (d ∷ es) - 1 = omega arith in f) (sym is)

pub first-next : (S : Signature) (s : State) (es all : List Equation) (e : Equation) (k left end : ℕ) → es ≡ all → 0 < length es → e ≡ get_or es 0 e → ◌≡◌ {A = Spent (Option Turn)} (Ok None, end) (group_trials S s k left)
    → k ≡ length es - 1 → first_trials S s (equation_of e) end ≡ trials S s (equations_of all) left
first-next S s es all e k left end at lt is h count =
    or-next (group_trials S s (length es - 1)) (first_trials S s (equation_of e)) left end (subst (λ k. ◌≡◌ {A = Spent (Option Turn)} (Ok None, end) (group_trials S s k left)) count h)
    ∙ (sym (trials-at S s es e left lt is) ∙ ap (λ es. trials S s (equations_of es) left) at)
