-- The clauses of a part, as a plan has them.
use Rattle.std.proofs.Common.{◌≡◌, ℕ, zero, suc, ◌+◌, ◌-◌, ◌≤◌, ◌<◌, Option, Some, List, [], ◌∷◌, length, length-append, map, take, drop, slice_get, Ok, refl, sym, ap, ◌∙◌, subst as transport, arith}
use Rattle.std.proofs.lemmas.List.{length-drop, length-map, length-take-le}
use Rattle.std.proofs.lemmas.List.Elements.{All-append, All-cons, All-drop, All-map, All-take, All-weaker}
use Rattle.std.proofs.lemmas.Option.{none-some}
use Rattle.std.specs.List.{All}
use Rattle.theory.specs.Terms.{Term, Var}
use Rattle.theory.specs.Signatures.{Signature}
use Rattle.theory.specs.SignatureScopes.{IsScoped}
use Rattle.theory.specs.WellFormed.{provisional}
use Rattle.theory.proofs.Lists.{some_is}
use Rattle.theory.proofs.ScopedTerms.{var-scoped}
use Rattle.core_sig.specs.DraftScopes.{IsDraftTerm}
use Rattle.core_terms.specs.CaseTrees.{Tree, Walk}
use Rattle.core_terms.specs.Clauses as clause
use Rattle.core_terms.specs.Clauses.{Clause, Clauses, Is}
use Rattle.core_terms.specs.Patterns.{Pats}
use Rattle.case_trees.specs.OwnWalks.{own_walk_of}
use Rattle.case_trees.specs.Points.{under_solution}
use Rattle.clause_reports.specs.elaboration.Functions.{finished, patterns_in}
use Rattle.clause_reports.specs.elaboration.Walking.{Opened, Walked, helper_arguments}
use Rattle.resolve.specs.Functions.{Function}
use Rattle.resolve.specs.Scoping.{AreClauses, IsClause}
use Rattle.tree_translation.specs.structural_rec.Uses.{Use}
use Rattle.tree_translation.specs.Conditions as plan
use Rattle.tree_translation.specs.Conditions.{IsSide, IsUsed, patterns_of}
use Rattle.tree_translation.specs.Plans.{Part, Plan}
use Rattle.with_abstraction.specs.Abstractions.{Abstracted}
use Rattle.function_session.proofs.plan_laws.GivenClauses as given
use Rattle.function_session.proofs.plan_laws.GivenClauses.{AreGiven, IsOneGiven, IsRightGiven}
use Rattle.function_session.proofs.plan_laws.OwnFree.{scoped-drafted}

-- ---- lists of clauses

abbrev pub listed : Clauses → List Clause
listed clause.nil = []
listed (clause.cons c clauses) = c ∷ listed clauses

pub clauses-listed : (clauses : Clauses) → clause.clauses (listed clauses) ≡ clauses
clauses-listed clause.nil = refl
clauses-listed (clause.cons c clauses) = ap (clause.cons c) (clauses-listed clauses)

pub patterns-count : (clauses : Clauses) → length (patterns_in clauses) ≡ length (listed clauses)
patterns-count clause.nil = refl
patterns-count (clause.cons (Is pats binds right) clauses) = ap suc (patterns-count clauses)

patterns-first : (c : Clause) (clauses : Clauses) → patterns_in (clause.cons c clauses) ≡ patterns_of c ∷ patterns_in clauses
patterns-first (Is pats binds right) clauses = refl

-- ---- arguments of helpers

pub arguments-long : (a : Abstracted) (t : Term) (n : ℕ) → length a.order ≡ n → a.place ≤ n → length (helper_arguments a t) ≡ n + 1
arguments-long a t n long low =
    let both : length (helper_arguments a t) ≡ length (map Var (take a.place a.order)) + suc (length (map Var (drop a.place a.order))) =
    length-append (map Var (take a.place a.order)) (t ∷ map Var (drop a.place a.order)) in
    let first : length (map Var (take a.place a.order)) ≡ length (take a.place a.order) = length-map (take a.place a.order) Var in
    let rest : length (map Var (drop a.place a.order)) ≡ length (drop a.place a.order) = length-map (drop a.place a.order) Var in
    let taken : length (take a.place a.order) ≡ a.place = length-take-le a.place a.order (omega (arith, long, low)) in
    let dropped : length (drop a.place a.order) ≡ length a.order - a.place = length-drop a.place a.order in
    omega (arith, both, first, rest, taken, dropped, long, low)

module _ (S : Signature) (f : Function) where
  variables-drafted : (n : ℕ) (xs : List ℕ) → All (λ x. x < n) xs → All (IsDraftTerm S (length S.entries) 1 n) (map Var xs)
  variables-drafted n xs h =
      All-map (IsDraftTerm S (length S.entries) 1 n) Var xs
      (All-weaker (λ x. x < n) (λ x. IsDraftTerm S (length S.entries) 1 n (Var x)) (λ x low. scoped-drafted S f.name f.type n (Var x) (var-scoped low)) xs h)

  arguments-drafted : (a : Abstracted) (t : Term) (n : ℕ) → All (λ x. x < n) a.order → IsScoped (provisional S f.name f.type) n t
      → All (IsDraftTerm S (length S.entries) 1 n) (helper_arguments a t)
  arguments-drafted a t n h t' =
      let P = IsDraftTerm S (length S.entries) 1 n in
      All-append P (map Var (take a.place a.order)) (t ∷ map Var (drop a.place a.order))
      (variables-drafted n (take a.place a.order) (All-take (λ x. x < n) a.place a.order h))
      (All-cons P t (map Var (drop a.place a.order)) (scoped-drafted S f.name f.type n t t')
      (variables-drafted n (drop a.place a.order) (All-drop (λ x. x < n) a.place a.order h)))

-- ---- the clauses of a part

-- a walked part among all has its part in the plan, with the same telescope
pub record HasPart (parts : List Part) (n : ℕ) (w : Walked) : Type 0 where
  pub part : Part
  pub there : slice_get parts n ≡ Some part
  pub tele : part.tele ≡ w.part.tele

-- a clause among those that are given
pub record IsThere (S : Signature) (f : Function) (all : List Walked) (uses : List Use) (k : ℕ) (part : Opened) (m first : ℕ) (walks : List Walk) (sides : List Term)
    (pats : List Pats) (j : ℕ) (c : Clause) : Type 0 where
  pub walk : Walk
  pub side : Term
  pub walk_there : slice_get walks j ≡ Some walk
  pub side_there : slice_get sides j ≡ Some side
  pub pats_there : slice_get pats j ≡ Some (patterns_of c)
  pub one : IsOneGiven S f.name f.type all uses k part (first + j) c walk side
  pub resolved : IsClause (provisional S f.name f.type) m c

module _ (S : Signature) (f : Function) (all : List Walked) (uses : List Use) (k : ℕ) (part : Opened) (m : ℕ) where
  first-there : (number : ℕ) (c : Clause) (clauses : Clauses) (w : Walk) (walks : List Walk) (side : Term) (sides : List Term)
      → IsOneGiven S f.name f.type all uses k part number c w side → IsClause (provisional S f.name f.type) m c
      → IsThere S f all uses k part m number (w ∷ walks) (side ∷ sides) (patterns_in (clause.cons c clauses)) 0 c
  first-there number c clauses w walks side sides one resolved = record {
    walk = w;
    side = side;
    walk_there = refl;
    side_there = refl;
    pats_there = ap (λ ps. slice_get ps 0) (patterns-first c clauses);
    one = transport (λ n. IsOneGiven S f.name f.type all uses k part n c w side) (let e : number ≡ number + 0 = omega arith in e) one;
    resolved = resolved;
  }

  later-there : (number : ℕ) (d : Clause) (clauses : Clauses) (w : Walk) (walks : List Walk) (side : Term) (sides : List Term) (j : ℕ) (c : Clause)
      → IsThere S f all uses k part m (number + 1) walks sides (patterns_in clauses) j c
      → IsThere S f all uses k part m number (w ∷ walks) (side ∷ sides) (patterns_in (clause.cons d clauses)) (suc j) c
  later-there number d clauses w walks side sides j c h = record {
    walk = h.walk;
    side = h.side;
    walk_there = h.walk_there;
    side_there = h.side_there;
    pats_there = ap (λ ps. slice_get ps (suc j)) (patterns-first d clauses) ∙ h.pats_there;
    one =
        transport (λ n. IsOneGiven S f.name f.type all uses k part n c h.walk h.side) (let e : number + 1 + j ≡ number + suc j = omega arith in e) h.one;
    resolved = h.resolved;
  }

  pub each-there : (number : ℕ) (clauses : Clauses) (walks : List Walk) (sides : List Term)
      → AreGiven S f.name f.type all uses k part number clauses walks sides → AreClauses (provisional S f.name f.type) m clauses
      → (j : ℕ) (c : Clause) → slice_get (listed clauses) j ≡ Some c
      → IsThere S f all uses k part m number walks sides (patterns_in clauses) j c
  each-there _ _ _ _ (given.none number) resolved j c at = absurd (none-some c at)
  each-there _ _ _ _ (given.more number d clauses w walks side sides one rest) resolved zero c at =
      transport (λ c. IsThere S f all uses k part m number (w ∷ walks) (side ∷ sides) (patterns_in (clause.cons d clauses)) 0 c) (some_is at)
      (first-there number d clauses w walks side sides one resolved.0)
  each-there _ _ _ _ (given.more number d clauses w walks side sides one rest) resolved (suc j) c at =
      later-there number d clauses w walks side sides j c (each-there (number + 1) clauses walks sides rest resolved.1 j c at)

  pub walks-count : (number : ℕ) (clauses : Clauses) (walks : List Walk) (sides : List Term)
      → AreGiven S f.name f.type all uses k part number clauses walks sides
      → (length sides ≡ length (listed clauses)) × (length walks ≡ length (listed clauses))
  walks-count _ _ _ _ (given.none number) = (refl, refl)
  walks-count _ _ _ _ (given.more number d clauses w walks side sides one rest) =
      let both = walks-count (number + 1) clauses walks sides rest in (ap suc both.0, ap suc both.1)

-- ---- the clauses of a plan

-- the plan of a function with these parts
abbrev pub plan_with : Signature → Function → (level : ℕ) → (position : Option ℕ) → (parts : List Part) → Plan
plan_with S f level position parts = record {
  base = length S.entries;
  name = f.name;
  type = f.type;
  arity = f.arity;
  level = level;
  position = position;
  parts = parts;
}

module _ (S : Signature) (f : Function) (level : ℕ) (position : Option ℕ) (parts : List Part) (all : List Walked) (uses : List Use)
    (paired : (n : ℕ) (w : Walked) → slice_get all n ≡ Some w → HasPart parts n w) where
  is-side : (k number m : ℕ) (w : Walk) (c : Clause) (side : Term) → IsRightGiven S f.name f.type all uses k number w c side
      → IsClause (provisional S f.name f.type) m c → IsSide S (plan_with S f level position parts) k w c side
  is-side k number m w _ _ (given.term pats binds side said) resolved =
      plan.term pats binds side (scoped-drafted S f.name f.type binds side resolved.3.scoped)
  is-side k number m w _ _ (given.scrutinee pats binds t inner helper o h at later same open_is t' said) resolved =
      let has = paired helper h at in
      let u = under_solution w.binds t in
      let long : length (helper_arguments o.abstraction u) ≡ length has.part.tele =
      arguments-long o.abstraction u (length w.ctx) open_is.over.variables open_is.over.place
      ∙ (sym open_is.over.types ∙ (ap (λ part. length part.tele) (sym same) ∙ ap length (sym has.tele))) in
      plan.scrutinee pats binds helper t inner has.part (helper_arguments o.abstraction u) has.there later long
      (arguments-drafted S f o.abstraction u (length w.ctx) open_is.over.each t')
  is-side k number m w _ _ (given.absurd_side pats binds) resolved = plan.absurd pats binds

  is-used : (k number : ℕ) (w : Walk) (c : Clause) (side : Term) → IsRightGiven S f.name f.type all uses k number w c side → IsUsed uses k number w c
  is-used k number w _ _ (given.term pats binds side said) = said
  is-used k number w _ _ (given.scrutinee pats binds t inner helper o h at later same open_is t' said) = said
  is-used k number w _ _ (given.absurd_side pats binds) = tt

  -- a clause of part k
  pub clause-planned : (k m own : ℕ) (w : Walked) (tree : Tree) (j : ℕ) (c : Clause)
      → IsThere S f all uses k w.part m 0 w.walks w.sides (patterns_in w.clauses) j c
      → plan.IsClauseOf S (plan_with S f level position parts) uses k (finished own w tree) j c
  clause-planned k m own w tree j c h =
      let e : 0 + j ≡ j = omega arith in
      record {
        walk = h.walk;
        side = h.side;
        walk_there = h.walk_there;
        side_there = h.side_there;
        pats_there = h.pats_there;
        units = h.one.units;
        walks =
            transport (λ n. (own_walk_of (provisional S f.name f.type) w.part.tele w.part.goal w.part.terms c n h.one.units).0 ≡ Ok h.walk) e h.one.walks;
        is_side = is-side k (0 + j) m h.walk c h.side h.one.right h.resolved;
        used = transport (λ n. IsUsed uses k n h.walk c) e (is-used k (0 + j) h.walk c h.side h.one.right);
      }
