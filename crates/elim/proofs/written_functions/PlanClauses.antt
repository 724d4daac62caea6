-- The clauses of a plan beside those that are written.
use Rattle.std.proofs.Common.{◌≡◌, ℕ, zero, suc, ◌+◌, ◌≤◌, ◌<◌, Some, List, [], ◌∷◌, length, slice_get, get_or, refl, sym, ap, ◌∙◌, subst as transport, arith}
use Rattle.std.specs.Prelude.{option_and_then}
use Rattle.theory.specs.Terms.{Term, Sort}
use Rattle.theory.specs.Signatures.{Signature}
use Rattle.theory.specs.WellFormed.{provisional}
use Rattle.theory.proofs.Lists.{some_is}
use Rattle.core_terms.specs.CaseTrees.{Walk}
use Rattle.core_terms.specs.Clauses as clause
use Rattle.core_terms.specs.Clauses.{Clauses, Is, Right}
use Rattle.core_terms.specs.Patterns as pattern
use Rattle.core_terms.specs.Patterns.{Pats}
use Rattle.case_trees.specs.Places.{clause_at}
use Rattle.tree_translation.specs.Conditions.{patterns_of}
use Rattle.tree_translation.specs.Plans.{Part, Plan}
use Rattle.clause_reports.specs.Equations.{part_at, pats_of, side_of}
use Rattle.clause_reports.specs.elaboration.Functions.{patterns_in}
use Rattle.clause_reports.specs.elaboration.Walking.{Walked}
use Rattle.function_session.specs.Laws.{inner_right}
use Rattle.resolve.specs.Functions.{Function}
use Rattle.elim.specs.written_functions.Clauses.{Placed, clause_in, parts_of, placed_in}
use Rattle.elim.proofs.written_functions.PlanGiven.{AreFinished, IsPlanGiven, clauses-listed, lists-long, part-made}
use Rattle.elim.proofs.written_functions.Walked as walked
use Rattle.elim.proofs.written_functions.Walked.{AreGiven, ArePartsGiven, IsOneGiven, IsPartGiven, clauses_of, part-given}

-- ---- patterns by their numbers

pub clause-pats : (cs : Clauses) (number binds : ℕ) (pats : Pats) (right : Right) → clause_at cs number ≡ Some (Is pats binds right)
    → get_or (patterns_in cs) number pattern.nil ≡ pats
clause-pats clause.nil number binds pats right e = absurd (cc)
clause-pats (clause.cons (Is ps n r) cs) zero binds pats right e = ap patterns_of (some_is e)
clause-pats (clause.cons (Is ps n r) cs) (suc number) binds pats right e = clause-pats cs number binds pats right e

-- a clause with a number
pub record IsClauseThere (cs : Clauses) (number : ℕ) : Type 0 where
  pub pats : Pats
  pub binds : ℕ
  pub right : Right
  pub there : clause_at cs number ≡ Some (Is pats binds right)

-- there is one before each other
pub clause-before : (cs : Clauses) (number j : ℕ) → IsClauseThere cs number → j < number → IsClauseThere cs j
clause-before clause.nil number j h low = let e = h.there in absurd (cc)
clause-before (clause.cons (Is ps n r) cs) zero j h low = absurd (omega (arith, low))
clause-before (clause.cons (Is ps n r) cs) (suc number) zero h low = record { pats = ps; binds = n; right = r; there = refl }
clause-before (clause.cons (Is ps n r) cs) (suc number) (suc j) h low =
    let rest = clause-before cs number j (record { pats = h.pats; binds = h.binds; right = h.right; there = h.there }) (omega (arith, low)) in
    record { pats = rest.pats; binds = rest.binds; right = rest.right; there = rest.there }

there-at : (ws : List Walked) (k : ℕ) → k < length ws → (v : Walked) × (slice_get ws k ≡ Some v)
there-at [] k low = absurd (omega (arith, low))
there-at (w ∷ ws) zero low = (w, refl)
there-at (w ∷ ws) (suc k) low = there-at ws k (omega (arith, low))

-- ---- one clause

-- clause `number` of part k of a plan, with its walk, is the written one
pub record IsPlaced (S : Signature) (f : Function) (plan : Plan) (h : IsPlanGiven S f plan) (k number : ℕ) (w : Walk) (c : Placed) : Type 0 where
  pub part : c.part ≡ k
  pub own_number : c.number ≡ number
  pub made_of : Walked
  pub at : slice_get (h.own ∷ h.helpers) k ≡ Some made_of
  pub wide : f.arity ≤ length made_of.part.terms
  pub there : clause_at made_of.clauses number ≡ Some (Is c.pats c.binds c.right)
  pub side : Term
  pub side_there : get_or made_of.sides number (Sort 0) ≡ side
  pub one : IsOneGiven S f (h.own ∷ h.helpers) made_of.part number c.helper (Is c.pats c.binds c.right) w side

abbrev pub ArePlaced : (S : Signature) (f : Function) (plan : Plan) (h : IsPlanGiven S f plan) → (k number : ℕ) → List Walk → List Placed → Type 0
ArePlaced S f plan h k number [] [] = Unit {0}
ArePlaced S f plan h k number (w ∷ walks) (c ∷ cs) = IsPlaced S f plan h k number w c × ArePlaced S f plan h k (number + 1) walks cs
ArePlaced S f plan h k number walks cs = ⊥

abbrev pub ArePartsPlaced : (S : Signature) (f : Function) (plan : Plan) (h : IsPlanGiven S f plan) → (k : ℕ) → List Part → List Clauses → Type 0
ArePartsPlaced S f plan h k [] [] = Unit {0}
ArePartsPlaced S f plan h k (p ∷ parts) (cs ∷ lists) =
    ArePlaced S f plan h k 0 p.walks (placed_in k 0 (k + 1) cs) × ArePartsPlaced S f plan h (k + 1) parts lists
ArePartsPlaced S f plan h k parts lists = ⊥

module _ (S : Signature) (f : Function) (plan : Plan) (h : IsPlanGiven S f plan) where
  -- its patterns in the plan
  pub pats-are : (k number : ℕ) (v : Walked) → slice_get (h.own ∷ h.helpers) k ≡ Some v → (pats : Pats) (binds : ℕ) (right : Right)
      → clause_at v.clauses number ≡ Some (Is pats binds right) → pats_of (part_at plan k) number ≡ pats
  pats-are k number v at pats binds right there =
      let made = (part-made S f plan h k v at).finished in
      ap (λ (p : Part). get_or p.pats number pattern.nil) made.is ∙ clause-pats v.clauses number binds pats right there

  pub placed-pats : (k number : ℕ) (w : Walk) (c : Placed) → IsPlaced S f plan h k number w c → pats_of (part_at plan k) number ≡ c.pats
  placed-pats k number w c p = pats-are k number p.made_of p.at c.pats c.binds c.right p.there

  pub placed-side : (k number : ℕ) (w : Walk) (c : Placed) (p : IsPlaced S f plan h k number w c) → side_of (part_at plan k) number ≡ p.side
  placed-side k number w c p =
      let made = (part-made S f plan h k p.made_of p.at).finished in
      ap (λ (q : Part). get_or q.sides number (Sort 0)) made.is ∙ p.side_there

  -- the terms of its columns in the plan
  pub columns-are : (k : ℕ) (v : Walked) → slice_get (h.own ∷ h.helpers) k ≡ Some v → (part_at plan k).terms ≡ v.part.terms
  columns-are k v at = ap (λ (p : Part). p.terms) (part-made S f plan h k v at).finished.is

  clauses-placed : (k : ℕ) (v : Walked) → slice_get (h.own ∷ h.helpers) k ≡ Some v → f.arity ≤ length v.part.terms → (number next : ℕ) (cs : Clauses) (walks : List Walk) (sides : List Term)
      → AreGiven S f (h.own ∷ h.helpers) v.part number next cs walks sides → ((i : ℕ) → clause_at cs i ≡ clause_at v.clauses (number + i))
      → ((i : ℕ) → get_or sides i (Sort 0) ≡ get_or v.sides (number + i) (Sort 0)) → ArePlaced S f plan h k number walks (placed_in k number next cs)
  clauses-placed k v at wide _ _ _ _ _ (walked.none number next) same same_sides = tt
  clauses-placed k v at wide _ _ _ _ _ (walked.more number next (Is pats binds right) cs w walks side sides one rest) same same_sides =
      let stays : number + 0 ≡ number = omega arith in (
        record {
          part = refl;
          own_number = refl;
          made_of = v;
          at = at;
          wide = wide;
          there = ap (clause_at v.clauses) (sym stays) ∙ sym (same 0);
          side = side;
          side_there = ap (λ n. get_or v.sides n (Sort 0)) (sym stays) ∙ sym (same_sides 0);
          one = one;
        },
        clauses-placed k v at wide (number + 1) (next + length (inner_right right)) cs walks sides rest
            (λ i. same (suc i) ∙ ap (clause_at v.clauses) (let e : number + suc i ≡ number + 1 + i = omega arith in e))
            (λ i. same_sides (suc i) ∙ ap (λ n. get_or v.sides n (Sort 0)) (let e : number + suc i ≡ number + 1 + i = omega arith in e)),
      )

  part-placed : (k : ℕ) (v : Walked) (p : Part) → slice_get (h.own ∷ h.helpers) k ≡ Some v → p.walks ≡ v.walks → IsPartGiven S f (h.own ∷ h.helpers) k v
      → ArePlaced S f plan h k 0 p.walks (placed_in k 0 (k + 1) v.clauses)
  part-placed k v p at same given =
      transport (λ ws. ArePlaced S f plan h k 0 ws (placed_in k 0 (k + 1) v.clauses)) (sym same)
      (clauses-placed k v at given.wide 0 (k + 1) v.clauses v.walks v.sides given.given
      (λ i. ap (clause_at v.clauses) (let e : i ≡ 0 + i = omega arith in e))
      (λ i. ap (λ n. get_or v.sides n (Sort 0)) (let e : i ≡ 0 + i = omega arith in e)))

  helpers-placed : (k : ℕ) (ws : List Walked) (ps : List Part) → AreFinished (provisional S f.name f.type) ws ps → ArePartsGiven S f (h.own ∷ h.helpers) k ws
      → ((i : ℕ) (v : Walked) → slice_get ws i ≡ Some v → slice_get (h.own ∷ h.helpers) (k + i) ≡ Some v)
      → ArePartsPlaced S f plan h k ps (clauses_of ws)
  helpers-placed k [] [] all given at = tt
  helpers-placed k [] (p ∷ ps) all given at = absurd all
  helpers-placed k (v ∷ ws) [] all given at = absurd all
  helpers-placed k (v ∷ ws) (p ∷ ps) all given at = (
    part-placed k v p (transport (λ m. slice_get (h.own ∷ h.helpers) m ≡ Some v) (let e : k + 0 ≡ k = omega arith in e) (at 0 v refl))
        (ap (λ (q : Part). q.walks) all.0.is) given.0,
    helpers-placed (k + 1) ws ps all.1 given.1
        (λ i u e. transport (λ m. slice_get (h.own ∷ h.helpers) m ≡ Some u) (let s : k + suc i ≡ k + 1 + i = omega arith in s) (at (suc i) u e)),
  )

  -- the walks of the plan's parts beside the clauses that are written
  pub parts-placed : ArePartsPlaced S f plan h 0 plan.parts (parts_of f)
  parts-placed =
      let all = h.own ∷ h.helpers in
      transport (λ ps. ArePartsPlaced S f plan h 0 ps (parts_of f)) (sym h.parts)
      (transport (ArePartsPlaced S f plan h 0 (h.own_part ∷ h.helper_parts)) h.lists (
        part-placed 0 h.own h.own_part refl (ap (λ (q : Part). q.walks) h.own_is.is) h.given.0,
        helpers-placed 1 h.helpers h.helper_parts h.helpers_are h.given.1
            (λ i v e. transport (λ m. slice_get all m ≡ Some v) (let s : suc i ≡ 1 + i = omega arith in s) e),
      ))

  -- an earlier clause of the part is written, and has its patterns in the plan
  pub record IsEarlier (k j : ℕ) : Type 0 where
    pub pats : Pats
    pub binds : ℕ
    pub right : Right
    pub there : clause_in f k j ≡ Some (Is pats binds right)
    pub are : pats_of (part_at plan k) j ≡ pats

  pub earlier-there : (k number j : ℕ) (w : Walk) (c : Placed) → IsPlaced S f plan h k number w c → j < number → IsEarlier k j
  earlier-there k number j w c p low =
      let e = clause-before p.made_of.clauses number j (record { pats = c.pats; binds = c.binds; right = c.right; there = p.there }) low in
      record {
        pats = e.pats;
        binds = e.binds;
        right = e.right;
        there = ap (λ o. option_and_then (λ (clauses : Clauses). clause_at clauses j) o) (clauses-listed S f plan h k p.made_of p.at) ∙ e.there;
        are = pats-are k j p.made_of p.at e.pats e.binds e.right e.there;
      }

  -- a part of the plan has at least the columns of the function
  pub part-wide : (k : ℕ) → k < length (parts_of f) → f.arity ≤ length (part_at plan k).terms
  part-wide k low =
      let all = h.own ∷ h.helpers in
      let (v, at) = there-at all k (omega (arith, low, ap length h.lists, lists-long all)) in
      let given : IsPartGiven S f all (0 + k) v = part-given S f all 0 all k v h.given at in
      transport (λ ts. f.arity ≤ length ts) (sym (columns-are k v at)) given.wide
