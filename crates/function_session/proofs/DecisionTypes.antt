-- The type of a decision of equality mentions no constant, so it stays the same when constants are numbered anew; nor does it depend on
-- the number of the case analysis.
use Rattle.std.proofs.Common.{◌≡◌, ℕ, zero, suc, ◌+◌, true, [], ◌∷◌, length, refl, ap, ap₂}
use Rattle.std.proofs.lemmas.Bool.{and_parts}
use Rattle.theory.specs.Terms.{Term, Var, Sort, Pi, Lam, App, Let, Const, Fam, Con, Elim, AxiomK}
use Rattle.theory.specs.Telescopes.{Telescope, applied, products}
use Rattle.core_terms.specs.Levels.{run, variable}
use Rattle.core_terms.specs.declared.levels.Binder.TheVariants.{Product}
use Rattle.core_sig.specs.Settling.{renumbered}
use Rattle.core_sig.specs.Shapes.{Shape}
use Rattle.decide_eq.specs.DecisionEntries.{decided_family}
use Rattle.decide_eq.specs.PlainFamilies.{all_universes, is_universe}
use Rattle.decide_eq.specs.Statements.{deciding, deciding_parameter, decision_type, decisions_over, whole_type}
use Rattle.decide_eq.specs.declared.decided_family.DecidedFamily.{DecidedFamily}

run-kept : (r : ℕ → ℕ) (depth start count : ℕ) (head : Term) → renumbered r head ≡ head
    → renumbered r (applied head (run depth start count)) ≡ applied head (run depth start count)
run-kept r depth start zero head same = same
run-kept r depth start (suc count) head same =
    run-kept r depth (start + 1) count (App head (variable depth start)) (ap (λ h. App h (variable depth start)) same)

whole_type-kept : (r : ℕ → ℕ) (d : DecidedFamily) (depth : ℕ) → renumbered r (whole_type d depth) ≡ whole_type d depth
whole_type-kept r d depth = run-kept r depth 0 d.params (Fam d.family) refl

deciding-kept : (r : ℕ → ℕ) (d : DecidedFamily) (depth : ℕ) → renumbered r (deciding d depth) ≡ deciding d depth
deciding-kept r d depth =
    let first = whole_type-kept r d depth in
    let second = whole_type-kept r d (depth + 1) in
    let third = whole_type-kept r d (depth + 1 + 1) in
    cc

decisions-kept : (r : ℕ → ℕ) (d : DecidedFamily) (j depth count : ℕ) (end : Term) → renumbered r end ≡ end
    → renumbered r (decisions_over d Product j depth count end) ≡ decisions_over d Product j depth count end
decisions-kept r d j depth zero end same = same
decisions-kept r d j depth (suc count) end same =
    ap (Pi (deciding_parameter d j depth)) (decisions-kept r d (j + 1) (depth + 1) count end same)

universe-kept : (r : ℕ → ℕ) (l : ℕ) (t : Term) → is_universe l t ≡ true → renumbered r t ≡ t
universe-kept r l (Sort i) is = refl
universe-kept r l (Var n) is = absurd cc
universe-kept r l (Pi a b) is = absurd cc
universe-kept r l (Lam a b) is = absurd cc
universe-kept r l (App f a) is = absurd cc
universe-kept r l (Let a t b) is = absurd cc
universe-kept r l (Const c) is = absurd cc
universe-kept r l (Fam n) is = absurd cc
universe-kept r l (Con n c) is = absurd cc
universe-kept r l (Elim n m) is = absurd cc
universe-kept r l (AxiomK i m) is = absurd cc

products-kept : (r : ℕ → ℕ) (l : ℕ) (tele : Telescope) (end : Term) → all_universes l tele ≡ true → renumbered r end ≡ end
    → renumbered r (products tele end) ≡ products tele end
products-kept r l [] end all same = same
products-kept r l (a ∷ tele) end all same =
    let both = and_parts (is_universe l a) (all_universes l tele) all in
    ap₂ Pi (universe-kept r l a both.0) (products-kept r l tele end both.1 same)

-- in a family whose parameters are universes
pub type-kept : (r : ℕ → ℕ) (l : ℕ) (d : DecidedFamily) (parameters : Telescope) → all_universes l parameters ≡ true
    → renumbered r (decision_type d parameters) ≡ decision_type d parameters
type-kept r l d parameters all =
    products-kept r l parameters (decisions_over d Product 0 d.params d.params (deciding d (d.params + d.params))) all
    (decisions-kept r d 0 d.params d.params (deciding d (d.params + d.params)) (deciding-kept r d (d.params + d.params)))

-- ---- the number of the case analysis

decisions-same : (a b n : ℕ) (f : Shape) (into j depth count : ℕ) (end : Term)
    → decisions_over (decided_family a n f into) Product j depth count end ≡ decisions_over (decided_family b n f into) Product j depth count end
decisions-same a b n f into j depth zero end = refl
decisions-same a b n f into j depth (suc count) end =
    ap (Pi (deciding_parameter (decided_family a n f into) j depth)) (decisions-same a b n f into (j + 1) (depth + 1) count end)

pub type-same : (a b n : ℕ) (f : Shape) (into : ℕ) (parameters : Telescope)
    → decision_type (decided_family a n f into) parameters ≡ decision_type (decided_family b n f into) parameters
type-same a b n f into parameters =
    let count = length f.parameters in
    ap (products parameters) (decisions-same a b n f into 0 count count (deciding (decided_family a n f into) (count + count)))
