-- Both sides of the equation of each induction can be compared.
use Rattle.std.proofs.Common.{◌≡◌, ℕ, zero, suc, ◌+◌, ◌<◌, ◌≤◌, nat_le, ◌&&◌, Bool, true, false, cond, if◌then◌else◌, List, [], ◌∷◌, length, get_or, All, Result, Ok, Err, refl, sym, ap, subst as transport, arith}
use Rattle.std.proofs.lemmas.Bool.{and_parts}
use Rattle.std.proofs.lemmas.Bool.Decides.{nat_tests}
use Rattle.std.proofs.lemmas.List.Elements.{All-cons, All-head, All-nil, All-tail}
use Rattle.theory.specs.Families.{Argument, Plain, Recursive, Family, argument_type, family_head, recursive_type}
use Rattle.theory.specs.Signatures.{Signature}
use Rattle.theory.specs.SignatureScopes.{IsConstantNumber, IsConstructorNumber, IsScoped, IsScopedSignature}
use Rattle.theory.specs.Substitutions.{ups, weaken}
use Rattle.theory.specs.Telescopes.{Telescope, applied, weaken_by}
use Rattle.theory.specs.Terms.{Term, height}
use Rattle.theory.specs.Terms.Term.{Var, Pi, App, Const, Con}
use Rattle.core_terms.specs.Answers.{are_low, is_low}
use Rattle.core_terms.specs.Levels.{run, variable}
use Rattle.core_terms.specs.declared.stop.Stop.{Stop}
use Rattle.core_terms.specs.declared.stop.Stop.TheVariants.{Deep}
use Rattle.core_terms.proofs.Builders.{height-applied}
use Rattle.mutual_pack.proofs.Runs.{length-run}
use Rattle.core_sig.specs.DraftScopes.{IsDraftTerm}
use Rattle.core_sig.specs.EntryTerms.{EachInTelescope}
use Rattle.core_sig.specs.FamilyShapes.{argument_shapes, kind_of}
use Rattle.core_sig.specs.Shapes.{ArgumentShape, types_of, by_kind}
use Rattle.core_sig.specs.declared.family.ArgKind.{ArgKind}
use Rattle.core_sig.specs.declared.family.ArgKind.TheVariants.{Plain as PlainKind, Recursive as RecursiveKind}
use Rattle.core_sig.proofs.PlacedDrafts.{AreBelow, app-draft, at-run-draft, below-here, below-next, draft-more, draft-pi, lam-draft, place-draft, scoped-draft, two-lists, variable-draft}
use Rattle.core_sig.proofs.ShapeScopes.{constructor-at-draft, inner-draft}
use Rattle.entry_laws.proofs.entry_scopes.WholeCycles.{draft-whole}
use Rattle.kernel_reduce.specs.Reduction.{most_variables}
use Rattle.kernel_reduce.specs.WellScoped.{CanReduce}
use Rattle.mutual_pack.specs.Equations.{applied_to_recursion, applied_to_recursions, bounded_sides, induction_at, left_side, recursion_at, recursion_from, right_side}
use Rattle.mutual_pack.specs.Inductions.{at_inner, constructor_at, induction_size, member_in, number_of}
use Rattle.mutual_pack.specs.declared.packed_family.PackedFamily.{PackedFamily}
use Rattle.mutual_pack.proofs.RecursionsConvert.{HasTag}

-- ---- recursive arguments end at the tags of members

-- so does this type after so many inner arguments
abbrev pub EndsLow : (members count : ℕ) → Term → Type 0
EndsLow members (suc count) (Pi a b) = EndsLow members count b
EndsLow members _ t = member_in t < members

abbrev pub HasLowEnd : (members : ℕ) → ArgKind → Term → Type 0
HasLowEnd members PlainKind t = Unit {0}
HasLowEnd members (RecursiveKind count) t = EndsLow members count t

abbrev pub HaveLowEnds : (members : ℕ) → List ArgumentShape → Type 0
HaveLowEnds members [] = Unit {0}
HaveLowEnds members (a ∷ arguments) = HasLowEnd members a.kind a.type × HaveLowEnds members arguments

ends-low : (members tag j : ℕ) (s : ℕ → Term) (head : Term) (inner : Telescope) → j < members → EndsLow members (length inner) (recursive_type s head inner (Con tag j ∷ []))
ends-low members tag j s head [] low = low
ends-low members tag j s head (a ∷ inner) low = ends-low members tag j (ups s) (weaken head) inner low

pub shapes-end : (n : ℕ) (f : Family) (tag members at : ℕ) (arguments : List Argument) → All (HasTag tag members) arguments → HaveLowEnds members (argument_shapes n f at arguments)
shapes-end n f tag members at [] all = tt
shapes-end n f tag members at (a ∷ arguments) all =
    (by a (All-head (HasTag tag members) a arguments all), shapes-end n f tag members (at + 1) arguments (All-tail (HasTag tag members) a arguments all))
  where
    by : (a : Argument) → HasTag tag members a → HasLowEnd members (kind_of a) (argument_type Var (weaken_by at (family_head n f)) a)
    by (Plain type level) h = tt
    by (Recursive inner targets level) (j, low, is) =
        transport (λ us. EndsLow members (length inner) (recursive_type Var (weaken_by at (family_head n f)) inner us)) (sym is)
        (ends-low members tag j Var (weaken_by at (family_head n f)) inner low)

-- ---- terms over a signature that has the inductions

module _ (T : Signature) (q : PackedFamily) (inductions : List ℕ) (there : (k : ℕ) → k < q.members → IsConstantNumber T (get_or inductions k 0)) where
  abbrev Is : ℕ → Term → Type 0
  Is n t = IsDraftTerm T (length T.entries) 0 n t

  induction-draft : (k depth : ℕ) → k < q.members → induction_size q ≤ depth → Is depth (induction_at q inductions k depth)
  induction-draft k depth low deep =
      at-run-draft (Const (get_or inductions k 0)) depth 0 (induction_size q) (omega arith)
      (scoped-draft T 0 depth (Const (get_or inductions k 0)) (record { variables = omega arith; entries = there k low }))

  recursion_from-draft : (runs : List (ℕ × ℕ)) (size depth r start count : ℕ) (t : Term) → AreBelow runs size depth count → induction_size q ≤ depth → r < depth → start ≤ depth
      → Is size t → EndsLow q.members count t → Is depth (recursion_from q inductions runs size depth r start count t)
  recursion_from-draft runs size depth r start (suc count) (Pi a b) h deep hr hs ht low =
      let parts = draft-pi ht in
      lam-draft (place-draft runs size depth a (below-here h) parts.0)
      (recursion_from-draft runs (size + 1) (depth + 1) r start count b (below-next (transport (AreBelow runs size depth) (omega arith) h)) (omega arith) (omega arith) (omega arith) parts.1 low)
  recursion_from-draft runs size depth r start _ t h deep hr hs ht low =
      app-draft (induction-draft (member_in t) depth low deep) (inner-draft depth r start hr hs)

  recursion_at-draft : (first at depth count : ℕ) (t : Term) → q.params ≤ first → induction_size q ≤ depth → first + at < depth → Is (q.params + at) t → EndsLow q.members count t
      → Is depth (recursion_at q inductions first at depth count t)
  recursion_at-draft first at depth count t params deep below ht low = by (nat_le count 2000)
    where
      by : (b : Bool) → Is depth (if b
          then recursion_from q inductions ((0, q.params) ∷ (first, at) ∷ (depth, count) ∷ []) (q.params + at) depth (first + at) depth count t
          else t)
      by true =
          recursion_from-draft ((0, q.params) ∷ (first, at) ∷ (depth, count) ∷ []) (q.params + at) depth (first + at) depth count t
          (two-lists q.params first at depth count params (omega arith)) deep below (omega arith) ht low
      by false = draft-more (omega arith) ht

  recursion-draft : (first at depth : ℕ) (head : Term) (a : ArgumentShape) → q.params ≤ first → induction_size q ≤ depth → first + at < depth → Is (q.params + at) a.type
      → HasLowEnd q.members a.kind a.type → Is depth head → Is depth (applied_to_recursion q inductions first at depth head a)
  recursion-draft first at depth head a params deep below ht low h = by a.kind low
    where
      by : (kind : ArgKind) → HasLowEnd q.members kind a.type
          → Is depth (by_kind kind head (λ count. App head (recursion_at q inductions first at depth count a.type)))
      by PlainKind ends = h
      by (RecursiveKind count) ends = app-draft h (recursion_at-draft first at depth count a.type params deep below ht ends)

  recursions-draft : (first at depth : ℕ) (head : Term) (arguments : List ArgumentShape) → q.params ≤ first → induction_size q ≤ depth → first + at + length arguments ≤ depth
      → EachInTelescope (IsDraftTerm T (length T.entries) 0) (q.params + at) (types_of arguments) → HaveLowEnds q.members arguments → Is depth head
      → Is depth (applied_to_recursions q inductions first at depth head arguments)
  recursions-draft first at depth head [] params deep room all ends h = h
  recursions-draft first at depth head (a ∷ arguments) params deep room all ends h =
      recursions-draft first (at + 1) depth (applied_to_recursion q inductions first at depth head a) arguments params deep (omega arith)
      (transport (λ m. EachInTelescope (IsDraftTerm T (length T.entries) 0) m (types_of arguments)) (omega arith) all.1) ends.1
      (recursion-draft first at depth head a params deep (omega arith) all.0 ends.0 h)

  left-draft : (k number count : ℕ) → k < q.members → IsConstructorNumber T (number_of q) number → Is (induction_size q + count) (left_side q inductions k number count)
  left-draft k number count low known =
      let x = induction_size q in
      app-draft (induction-draft k (x + count) low (omega arith))
      (constructor-at-draft (number_of q) q.params number x count (x + count) known (omega arith) (omega arith))

  right-draft : (number : ℕ) (arguments : List ArgumentShape) → number < q.constructors → EachInTelescope (IsDraftTerm T (length T.entries) 0) (q.params + 0) (types_of arguments)
      → HaveLowEnds q.members arguments → Is (induction_size q + length arguments) (right_side q inductions number arguments)
  right-draft number arguments low all ends =
      let x = induction_size q in
      let depth = x + length arguments in
      recursions-draft x 0 depth (applied (variable depth (q.params + q.members + number)) (run depth x (length arguments))) arguments (omega arith) (omega arith) (omega arith) all ends
      (at-run-draft (variable depth (q.params + q.members + number)) depth x (length arguments) (omega arith) (variable-draft (q.params + q.members + number) (omega arith)))

  -- ---- few variables

  left-few : (k number count : ℕ) → height (left_side q inductions k number count) ≤ 2000 → induction_size q + count ≤ 4000
  left-few k number count low =
      let x = induction_size q in
      let depth = x + count in
      let head = Const (get_or inductions k 0) in
      let spine = applied (Con (number_of q) number) (run depth 0 q.params) in
      let first = height-applied head (run depth 0 x) in
      let second = height-applied spine (run depth x count) in
      let a = length-run depth 0 x in
      let b = length-run depth x count in
      omega (arith, first, second, a, b, low)

  -- what is answered can be compared
  pub sides-compared : IsScopedSignature T → (tele : Telescope) (k number : ℕ) (arguments : List ArgumentShape) (sides : Telescope × Term × Term) → k < q.members → number < q.constructors
      → IsConstructorNumber T (number_of q) number → EachInTelescope (IsDraftTerm T (length T.entries) 0) (q.params + 0) (types_of arguments) → HaveLowEnds q.members arguments
      → bounded_sides tele (left_side q inductions k number (length arguments)) (right_side q inductions number arguments) ≡ Ok sides → CanReduce T (sides.1 ∷ sides.2 ∷ [])
  sides-compared scoped tele k number arguments sides member low known all ends is =
      let left = left_side q inductions k number (length arguments) in
      let right = right_side q inductions number arguments in
      by left right (is_low left) refl (are_low tele) (is_low right) (left-draft k number (length arguments) member known) (right-draft number arguments low all ends)
      (λ few. left-few k number (length arguments) few) is
    where
      by : (left right : Term) (b : Bool) → is_low left ≡ b → (a c : Bool) → Is (induction_size q + length arguments) left → Is (induction_size q + length arguments) right
          → (height left ≤ 2000 → induction_size q + length arguments ≤ 4000)
          → ◌≡◌ {A = Result (Telescope × Term × Term) Stop} (cond (a && (b && c)) (Ok (tele, left, right)) (Err Deep)) (Ok sides) → CanReduce T (sides.1 ∷ sides.2 ∷ [])
      by left right true low true true first second few is =
          let here : height left ≤ 2000 = grind (arith, nat_tests) in
          let bound = few here in
          let x = draft-whole T (induction_size q + length arguments) left first in
          let y = draft-whole T (induction_size q + length arguments) right second in
          let free : IsScoped T most_variables left = record { variables = (let v = x.variables in omega (arith, v, bound)); entries = x.entries } in
          let other : IsScoped T most_variables right = record { variables = (let v = y.variables in omega (arith, v, bound)); entries = y.entries } in
          let whole : (tele, left, right) ≡ sides = cc in
          transport (λ (s : Telescope × Term × Term). CanReduce T (s.1 ∷ s.2 ∷ [])) whole (record { signature = scoped; terms = (free, (other, tt)) })
      by left right true low true false first second few is = absurd cc
      by left right true low false c first second few is = absurd cc
      by left right false low true c first second few is = absurd cc
      by left right false low false c first second few is = absurd cc
