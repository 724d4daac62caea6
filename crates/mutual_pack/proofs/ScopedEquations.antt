-- The variables and the sides of the equations of induction are scoped.
use Rattle.std.proofs.Common.{◌≡◌, ℕ, suc, ◌+◌, ◌<◌, ◌≤◌, nat_le, Bool, true, false, if◌then◌else◌, List, [], ◌∷◌, ◌++◌, length, get_or, Some, option_map, Ok, slice_get, All, inl, inr, refl, ap, sym, ◌∙◌, subst, arith}
use Rattle.std.proofs.lemmas.List.{length-append, length-map}
use Rattle.std.proofs.lemmas.List.Elements.{All-head, All-tail}
use Rattle.std.proofs.lemmas.Option.{slice_get-map}
use Rattle.std.specs.Option.{option_map_or}
use Rattle.theory.specs.Terms.{Term}
use Rattle.theory.specs.Terms.Term.{Var, Sort, Pi, Lam, App, Let, Const, Fam, Con, Elim, AxiomK}
use Rattle.theory.specs.Substitutions.{inst, ups, weaken}
use Rattle.theory.specs.Telescopes.{Telescope, applied, weaken_by}
use Rattle.theory.specs.Families.{Argument, Plain, Recursive, Constructor, Family, mentions, family_head, recursive_type, argument_type}
use Rattle.theory.specs.Signatures.{Signature, FamilyOf, IsEntryAt}
use Rattle.theory.specs.SignatureScopes.{HasEntries, IsConstantNumber, IsScoped, IsScopedTelescope, IsScopedSignature}
use Rattle.core_terms.specs.Levels.{variable, run}
use Rattle.core_sig.specs.DraftScopes.{HasDraftEntries, IsDraftTerm}
use Rattle.core_sig.specs.EntryTerms.{EachInTelescope}
use Rattle.core_sig.specs.FamilyShapes.{argument_shapes, constructor_shape, family_shape}
use Rattle.core_sig.specs.Shapes.{ConstructorShape, types_of}
use Rattle.core_sig.proofs.PlacedDrafts.{AreBelow, below-here, below-next, one-list, two-lists, lam-draft, app-draft, draft-pi, draft-more, scoped-draft, place-draft, variable-draft, at-run-draft}
use Rattle.core_sig.proofs.ShapeScopes.{IsDraftConstructor, family-draft, inner-draft, constructor-at-draft}
use Rattle.case_below_gen.proofs.Computing.{all-slice_get, length-shapes}
use Rattle.case_below_gen.proofs.ScopedCases.{arguments-behind}
use Rattle.core_sig.specs.Raw.{MutualRaw}
use Rattle.mutual_pack.specs.declared.packed_family.PackedFamily.{PackedFamily}
use Rattle.mutual_pack.specs.EquationLaws.{HasPackedInductions}
use Rattle.mutual_pack.specs.EquationScopes.{AreScopedSides, SidesAreScoped}
use Rattle.mutual_pack.specs.Equations.{inductions_in, constructor_number, induction_at, recursion_from, recursion_at, applied_to_recursions, places, equation_telescope, left_side, right_side, arguments_of, induction_equation}
use Rattle.mutual_pack.specs.Inductions.{packed_numbers, packed_number, induction_telescope, induction_size}
use Rattle.mutual_pack.specs.MutualFamilies.{Packed, all_constructors}
use Rattle.mutual_pack.specs.PackedEntries.{HasPacked}
use Rattle.mutual_pack.specs.Packing.{members_of, packed_with}
use Rattle.mutual_pack.proofs.EquationsConvert.{sides-are, constructor-there}
use Rattle.mutual_pack.proofs.InductionsUnfold.{length-telescope}
use Rattle.mutual_pack.proofs.PackedTypes.{packed-as}
use Rattle.mutual_pack.proofs.RecursionsConvert.{HasTag}
use Rattle.mutual_pack.proofs.ScopedInductions.{each-append, telescope-draft}
use Rattle.mutual_pack.proofs.Tags.{packed-tagged}
use Rattle.mutual_pack.proofs.Unfolding.{length-entries}

-- ---- drafts without names

entries-there : (T : Signature) (base : ℕ) (t : Term) → HasDraftEntries T base 0 t → HasEntries T t
entries-there T base (Var n) h = tt
entries-there T base (Sort i) h = tt
entries-there T base (Pi a b) h = (entries-there T base a h.0, entries-there T base b h.1)
entries-there T base (Lam a b) h = (entries-there T base a h.0, entries-there T base b h.1)
entries-there T base (App f a) h = (entries-there T base f h.0, entries-there T base a h.1)
entries-there T base (Let a t b) h = (entries-there T base a h.0, entries-there T base t h.1, entries-there T base b h.2)
entries-there T base (Const c) h = elim h [
  | inl (low, is) ↦ is
  | inr (high, low) ↦ absurd (omega arith)
]
entries-there T base (Fam n) h = h
entries-there T base (Con n c) h = h
entries-there T base (Elim n m) h = h
entries-there T base (AxiomK i m) h = tt

draft-scoped : {T : Signature} {base n : ℕ} {t : Term} → IsDraftTerm T base 0 n t → IsScoped T n t
draft-scoped {T} {base} {n} {t} h = record { variables = h.variables; entries = entries-there T base t h.entries }

telescope-scoped : (T : Signature) (base n : ℕ) (tele : Telescope) → EachInTelescope (IsDraftTerm T base 0) n tele → IsScopedTelescope T n tele
telescope-scoped T base n [] h = tt
telescope-scoped T base n (a ∷ tele) h = (draft-scoped h.0, telescope-scoped T base (n + 1) tele h.1)

-- ---- telescopes of a record

places-each : (T : Signature) (base : ℕ) (runs : List (ℕ × ℕ)) (size depth : ℕ) (tele : Telescope) → AreBelow runs size depth (length tele) → EachInTelescope (IsDraftTerm T base 0) size tele
    → EachInTelescope (IsDraftTerm T base 0) depth (places runs size depth tele)
places-each T base runs size depth [] below h = tt
places-each T base runs size depth (a ∷ tele) below h =
    (place-draft runs size depth a (below-here below) h.0, places-each T base runs (size + 1) (depth + 1) tele (below-next (subst (AreBelow runs size depth) (omega arith) below)) h.1)

length-places : (runs : List (ℕ × ℕ)) (size depth : ℕ) (tele : Telescope) → length (places runs size depth tele) ≡ length tele
length-places runs size depth [] = refl
length-places runs size depth (a ∷ tele) = ap suc (length-places runs (size + 1) (depth + 1) tele)

-- ---- inductions at recursive arguments

-- each induction is a constant
abbrev AreConstants : Signature → PackedFamily → (inductions : List ℕ) → Type 0
AreConstants S q inductions = (k : ℕ) → k < q.members → IsConstantNumber S (get_or inductions k 0)

module _ (S : Signature) (q : PackedFamily) (inductions : List ℕ) (constants : AreConstants S q inductions) where
  abbrev Is : ℕ → Term → Type 0
  Is n t = IsDraftTerm S (length S.entries) 0 n t

  induction-draft : (k depth : ℕ) → k < q.members → induction_size q ≤ depth → Is depth (induction_at q inductions k depth)
  induction-draft k depth low deep =
      at-run-draft (Const (get_or inductions k 0)) depth 0 (induction_size q) (omega arith)
      (scoped-draft S 0 depth (Const (get_or inductions k 0)) (record { variables = omega arith; entries = constants k low }))

  recursion_from-draft : (runs : List (ℕ × ℕ)) (size depth r start j : ℕ) (own : ℕ → Term) (head : Term) (inner : Telescope) → AreBelow runs size depth (length inner) → j < q.members → induction_size q ≤ depth → r < depth → start ≤ depth
      → Is size (recursive_type own head inner (Con q.tag j ∷ [])) → Is depth (recursion_from q inductions runs size depth r start (length inner) (recursive_type own head inner (Con q.tag j ∷ [])))
  recursion_from-draft runs size depth r start j own head [] below low deep hr hs h = app-draft (induction-draft j depth low deep) (inner-draft depth r start hr hs)
  recursion_from-draft runs size depth r start j own head (a ∷ inner) below low deep hr hs h =
      let parts = draft-pi h in
      lam-draft (place-draft runs size depth (inst own a) (below-here below) parts.0)
      (recursion_from-draft runs (size + 1) (depth + 1) r start j (ups own) (weaken head) inner (below-next (subst (AreBelow runs size depth) (omega arith) below)) low (omega arith) (omega arith) (omega arith) parts.1)

  recursion_at-draft : (first at depth : ℕ) (head : Term) (inner : Telescope) (targets : List Term) (level : ℕ) → HasTag q.tag q.members (Recursive inner targets level) → q.params ≤ first → induction_size q ≤ depth → first + at < depth
      → Is (q.params + at) (recursive_type Var head inner targets) → Is depth (recursion_at q inductions first at depth (length inner) (recursive_type Var head inner targets))
  recursion_at-draft first at depth head inner targets level (j, low, is) params deep below h =
      subst (λ us. Is depth (recursion_at q inductions first at depth (length inner) (recursive_type Var head inner us))) (sym is)
      (by (nat_le (length inner) 2000) (subst (λ us. Is (q.params + at) (recursive_type Var head inner us)) is h))
    where
      t : Term
      t = recursive_type Var head inner (Con q.tag j ∷ [])

      by : (b : Bool) → Is (q.params + at) (recursive_type Var head inner (Con q.tag j ∷ []))
          → Is depth (if b then recursion_from q inductions ((0, q.params) ∷ (first, at) ∷ (depth, length inner) ∷ []) (q.params + at) depth (first + at) depth (length inner) (recursive_type Var head inner (Con q.tag j ∷ [])) else recursive_type Var head inner (Con q.tag j ∷ []))
      by true h =
          recursion_from-draft ((0, q.params) ∷ (first, at) ∷ (depth, length inner) ∷ []) (q.params + at) depth (first + at) depth j Var head inner
          (two-lists q.params first at depth (length inner) params (omega arith)) low deep below (omega arith) h
      by false h = draft-more (omega arith) h

  recursions-draft : (n : ℕ) (f : Family) (first at depth : ℕ) (arguments : List Argument) (head : Term) → All (HasTag q.tag q.members) arguments → q.params ≤ first → induction_size q ≤ depth → first + at + length arguments ≤ depth
      → EachInTelescope Is (q.params + at) (types_of (argument_shapes n f at arguments)) → Is depth head → Is depth (applied_to_recursions q inductions first at depth head (argument_shapes n f at arguments))
  recursions-draft n f first at depth [] head tags params deep below each h = h
  recursions-draft n f first at depth (a ∷ arguments) head tags params deep below each h =
      by (λ g hg.
      recursions-draft n f first (at + 1) depth arguments g (All-tail (HasTag q.tag q.members) a arguments tags) params deep (omega arith)
      (subst (λ m. EachInTelescope Is m (types_of (argument_shapes n f (at + 1) arguments))) (omega arith) each.1) hg)
      a (All-head (HasTag q.tag q.members) a arguments tags) each.0
    where
      by : ((g : Term) → Is depth g → Is depth (applied_to_recursions q inductions first (at + 1) depth g (argument_shapes n f (at + 1) arguments)))
          → (a : Argument) → HasTag q.tag q.members a → Is (q.params + at) (argument_type Var (weaken_by at (family_head n f)) a)
          → Is depth (applied_to_recursions q inductions first at depth head (argument_shapes n f at (a ∷ arguments)))
      by rest (Plain type level) tag here = rest head h
      by rest (Recursive inner targets level) tag here =
          rest (App head (recursion_at q inductions first at depth (length inner) (recursive_type Var (weaken_by at (family_head n f)) inner targets)))
          (app-draft h (recursion_at-draft first at depth (weaken_by at (family_head n f)) inner targets level tag params deep (omega arith) here))

-- ---- the equation of a constructor

equation-scoped : (S : Signature) (packed : Packed) (f : Family) (inductions : List ℕ) → AreConstants S (packed_numbers packed (family_shape (packed_number packed) f)) inductions → IsScopedSignature S → HasPacked S packed → IsEntryAt S (packed_number packed) (FamilyOf f)
    → All (λ c. All (HasTag (packed_numbers packed (family_shape (packed_number packed) f)).tag (length packed.members)) c.arguments) f.constructors
    → (k number : ℕ) (c : Constructor) → k < length packed.members → number < length f.constructors → slice_get f.constructors number ≡ Some c
    → let q = packed_numbers packed (family_shape (packed_number packed) f) in
    let arguments = argument_shapes (packed_number packed) f 0 c.arguments in
    AreScopedSides S (equation_telescope q packed.owners (family_shape (packed_number packed) f) arguments, left_side q inductions k number (length arguments), right_side q inductions number arguments)
equation-scoped S packed f inductions constants scoped has entry tags k number c member within there =
    let n = packed_number packed in
    let shape = family_shape n f in
    let q = packed_numbers packed shape in
    let arguments = argument_shapes n f 0 c.arguments in
    let x = induction_size q in
    let count = length arguments in
    let depth = x + count in
    let tele = induction_telescope q packed.owners shape in
    let more = places ((0, q.params) ∷ (x, count) ∷ []) q.params x (types_of arguments) in
    let size = length-telescope q packed.owners shape refl refl in
    let types = length-map arguments (λ a. a.type) in
    let placed = length-places ((0, q.params) ∷ (x, count) ∷ []) q.params x (types_of arguments) in
    let whole : length (tele ++ more) ≡ depth = length-append tele more ∙ omega (arith, size, types, placed) in
    let is = family-draft S 0 n f scoped entry in
    let of-constructor = all-slice_get (IsDraftConstructor S (length S.entries) 0 q.params) shape.constructors number (constructor_shape n f c) is.constructors
    (slice_get-map (constructor_shape n f) f.constructors number ∙ ap (option_map (constructor_shape n f)) there) in
    let counted = length-map f.constructors (constructor_shape n f) in
    let low : number < q.constructors = omega (arith, counted) in
    let shapes = length-shapes n f 0 c.arguments in
    let head = at-run-draft (variable depth (q.params + q.members + number)) depth x count (omega arith) (variable-draft (q.params + q.members + number) (omega (arith, low))) in
    record {
      variables = telescope-scoped S (length S.entries) 0 (tele ++ more)
          (each-append (IsDraftTerm S (length S.entries) 0) 0 tele more (telescope-draft 0 S packed f scoped has entry (omega arith))
          (subst (λ m. EachInTelescope (IsDraftTerm S (length S.entries) 0) m more) (omega (arith, size))
          (places-each S (length S.entries) ((0, q.params) ∷ (x, count) ∷ []) q.params x (types_of arguments) (subst (AreBelow ((0, q.params) ∷ (x, count) ∷ []) q.params x) (sym types) (one-list q.params x count (omega arith))) of-constructor.arguments)));
      left = subst (λ m. IsScoped S m (left_side q inductions k number count)) (sym whole)
          (draft-scoped (app-draft (induction-draft S q inductions constants k depth member (omega arith)) (constructor-at-draft n q.params number x count depth (is.numbers number low) (omega arith) (omega arith))));
      right = subst (λ m. IsScoped S m (right_side q inductions number arguments)) (sym whole)
          (draft-scoped (recursions-draft S q inductions constants n f x 0 depth c.arguments (applied (variable depth (q.params + q.members + number)) (run depth x count)) (all-slice_get (λ e. All (HasTag q.tag q.members) e.arguments) f.constructors number c tags there)
          (omega arith) (omega arith) (omega (arith, shapes)) (arguments-behind (constructor_shape n f c) of-constructor) head));
    }

-- ---- the law

sides-at : (S : Signature) (base l : ℕ) (d : MutualRaw) (f : Family) (analysis : ℕ) → All (λ c. mentions (base + 1) c.type ≡ false) (all_constructors d.members) → HasPackedInductions S (packed_with (members_of base d) l d) f analysis
    → IsScopedSignature S → HasPacked S (packed_with (members_of base d) l d)
    → (member con : ℕ) (sides : Telescope × Term × Term) → member < length (packed_with (members_of base d) l d).members → constructor_number (packed_with (members_of base d) l d).owners member con < length f.constructors
    → induction_equation S (packed_with (members_of base d) l d) f member con ≡ Ok sides → AreScopedSides S sides
sides-at S base l d f analysis lacks has scoped there member con sides low within e =
    let g = members_of base d in
    let packed = packed_with g l d in
    let n = packed_number packed in
    let shape = family_shape n f in
    let q = packed_numbers packed shape in
    let number = constructor_number packed.owners member con in
    let (c, at) = constructor-there f.constructors number within in
    let shape-there = slice_get-map (constructor_shape n f) f.constructors number ∙ ap (option_map (constructor_shape n f)) at in
    let arguments = arguments_of shape number in
    let arguments-are : arguments ≡ argument_shapes n f 0 c.arguments = ap (λ o. option_map_or (λ (c : ConstructorShape). c.arguments) o []) shape-there in
    let inductions = inductions_in S packed.members in
    let counted = length-entries g l d.parameters 0 d.members in
    let tags = packed-tagged g l d f refl lacks has.parameters has.constructors in
    let tags-are = subst (λ m. All (λ c. All (HasTag g.first m) c.arguments) f.constructors) (sym counted) tags in
    let constants : AreConstants S q inductions = λ k lt. (let body = has.inductions.entries k lt in (body.name, body.type, _, body.entry)) in
    let is = equation-scoped S packed f inductions constants scoped there has.family tags-are member number c low within at in
    let moved = subst (λ given. AreScopedSides S (equation_telescope q packed.owners shape given, left_side q inductions member number (length given), right_side q inductions number given)) (sym arguments-are) is in
    let (tele, left, right) = sides-are (equation_telescope q packed.owners shape arguments) (left_side q inductions member number (length arguments)) (right_side q inductions number arguments) sides e in
    record {
      variables = subst (IsScopedTelescope S 0) tele moved.variables;
      left = subst (λ t. IsScoped S (length sides.0) t) left (subst (λ tele. IsScoped S (length tele) (left_side q inductions member number (length arguments))) tele moved.left);
      right = subst (λ t. IsScoped S (length sides.0) t) right (subst (λ tele. IsScoped S (length tele) (right_side q inductions number arguments)) tele moved.right);
    }

pub sides-are-scoped : SidesAreScoped
sides-are-scoped S base d packed f analysis e lacks has scoped there member con sides low within equation =
    let is = packed-as base d packed e in
    let back = sym is.same in
    sides-at S base is.level d f analysis lacks (subst (λ p. HasPackedInductions S p f analysis) back has) scoped (subst (HasPacked S) back there) member con sides
    (subst (λ p. member < length p.members) back low) (subst (λ p. constructor_number p.owners member con < length f.constructors) back within)
    (subst (λ p. induction_equation S p f member con ≡ Ok sides) back equation)
