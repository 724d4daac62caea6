-- The sides of all equations can be compared, once what is packed and the inductions of the members have entered.
use Rattle.std.proofs.Common.{◌≡◌, ℕ, zero, suc, ◌+◌, ◌<◌, ◌≤◌, ◌==◌, ◌||◌, nat_lt, Bool, true, false, cond, Option, Some, None, List, [], ◌∷◌, ◌++◌, length, map, slice_get, get_or, Result, Ok, Err, refl, sym, ap, ap₂, ◌∙◌, subst as transport, length-append, arith}
use Rattle.std.specs.List.{All}
use Rattle.std.specs.Option.{option_map_or}
use Rattle.std.proofs.lemmas.Bool.Decides.{Decides-eqb, nat_tests}
use Rattle.std.proofs.lemmas.List.{length-map}
use Rattle.std.proofs.lemmas.List.Elements.{All-cons, All-head, All-nil, All-tail, All-weaker}
use Rattle.theory.specs.Families.{Constructor, Family, constructor_type, mentions}
use Rattle.theory.specs.Signatures.{Definition, Entry, FamilyOf, IsEntryAt, IsPrefix, Signature}
use Rattle.theory.specs.SignatureScopes.{HasEntries, IsConstantNumber, IsFamilyNumber, IsScoped, IsScopedSignature}
use Rattle.theory.specs.Telescopes.{products}
use Rattle.theory.specs.Terms.{Term}
use Rattle.theory.specs.Terms.Term.{Var, Sort, Pi, Lam, App, Let, Const, Fam, Con, Elim, AxiomK}
use Rattle.theory.proofs.Lists.{slice_get-append_right}
use Rattle.core_terms.specs.declared.stop.Stop.{Stop}
use Rattle.core_sig.specs.DraftScopes.{IsDraftTerm}
use Rattle.core_sig.specs.EntryTerms.{EachInTelescope}
use Rattle.core_sig.specs.FamilyShapes.{constructor_shape, family_shape}
use Rattle.core_sig.specs.Raw.{MutualRaw, RawConstructor, RawMember}
use Rattle.core_sig.specs.Shapes.{ArgumentShape, ConstructorShape, Shape, types_of}
use Rattle.core_sig.proofs.ShapeScopes.{IsDraftConstructor, family-draft}
use Rattle.decide_eq.proofs.PlainShapes.{at-family}
use Rattle.function_session.specs.mutual_families.Conditions.{AreAllComparable, AreComparable, CanCompare, IsDeclared}
use Rattle.function_session.specs.mutual_families.EquationLines.{equation_over}
use Rattle.function_session.specs.mutual_families.Laws.{HasPackedEntries}
use Rattle.function_session.proofs.mutual_families.EnterablePacked.{members-scoped, placeholder, with_constants, constants-there}
use Rattle.function_session.proofs.mutual_families.PackedEntries.{family-there, members-counted}
use Rattle.function_session.proofs.mutual_families.ScopedEquations.{HaveLowEnds, shapes-end, sides-compared}
use Rattle.kernel_reduce.specs.WellScoped.{CanReduce}
use Rattle.mutual_pack.specs.Equations.{arguments_of, constructor_number, count_before, equation_telescope, induction_equation, inductions_in}
use Rattle.mutual_pack.specs.Inductions.{packed_numbers}
use Rattle.mutual_pack.specs.MutualFamilies.{Packed, all_constructors}
use Rattle.mutual_pack.specs.Packing.{members_of, owners_from, pack, packed_constructor, packed_with}
use Rattle.mutual_pack.specs.declared.members.Members.{Members}
use Rattle.mutual_pack.specs.declared.packed_family.PackedFamily.{PackedFamily}
use Rattle.mutual_pack.proofs.PackedTypes.{packed-as}
use Rattle.mutual_pack.proofs.RecursionsConvert.{HasTag}
use Rattle.mutual_pack.proofs.Tags.{LacksFamily, packed-tagged}

-- ---- no written type mentions the packed family

other : (V : Signature) (n f : ℕ) → (IsFamilyNumber V n → ⊥) → IsFamilyNumber V f → f == n ≡ false
other V n f none h = by (f == n) refl
  where
    by : (b : Bool) → f == n ≡ b → b ≡ false
    by true same = absurd (none (transport (IsFamilyNumber V) ((Decides-eqb f n).0 same) h))
    by false same = refl

lacks : (V : Signature) (n : ℕ) → (IsFamilyNumber V n → ⊥) → (t : Term) → HasEntries V t → mentions n t ≡ false
lacks V n none (Pi a b) h = ap₂ (λ x y. x || y) (lacks V n none a h.0) (lacks V n none b h.1)
lacks V n none (Lam a b) h = ap₂ (λ x y. x || y) (lacks V n none a h.0) (lacks V n none b h.1)
lacks V n none (App f a) h = ap₂ (λ x y. x || y) (lacks V n none f h.0) (lacks V n none a h.1)
lacks V n none (Let a t b) h = ap₂ (λ x y. x || y) (lacks V n none a h.0) (ap₂ (λ x y. x || y) (lacks V n none t h.1) (lacks V n none b h.2))
lacks V n none (Fam f) h = other V n f none h
lacks V n none (Con f c) h = other V n f none (h.0, h.1)
lacks V n none (Elim f m) h = other V n f none h
lacks V n none (Var v) h = refl
lacks V n none (Sort i) h = refl
lacks V n none (Const c) h = refl
lacks V n none (AxiomK i m) h = refl

second-behind : (members : List RawMember) (f : Family) → slice_get (map (λ m. placeholder) members) 1 ≡ Some (FamilyOf f) → ⊥
second-behind [] f at = absurd cc
second-behind (m ∷ []) f at = absurd cc
second-behind (m ∷ other ∷ members) f at = absurd cc

all-lack : (S : Signature) (d : MutualRaw) → IsDeclared S d → All (LacksFamily (members_of (length S.entries) d)) (all_constructors d.members)
all-lack S d h =
    let V = with_constants S d.members in
    let p = length d.parameters in
    let none : IsFamilyNumber V (length S.entries + 1) → ⊥ =
    λ there. second-behind d.members there.0 (sym (slice_get-append_right S.entries (map (λ m. placeholder) d.members) 1) ∙ there.1) in
    All-weaker (λ (c : RawConstructor). IsScoped V p c.type) (LacksFamily (members_of (length S.entries) d)) (λ c scoped. lacks V (length S.entries + 1) none c.type scoped.entries)
    (all_constructors d.members)
    (members-scoped S d h V (record { more = map (λ m. placeholder) d.members; entries = refl; has_k = refl }) (constants-there S d))

-- ---- numbers of constructors

count-most : (p : ℕ) (owners : List ℕ) → count_before p owners ≤ length owners
count-most p [] = omega arith
count-most p (j ∷ owners) = by (nat_lt j p) (count-most p owners)
  where
    by : (b : Bool) → count_before p owners ≤ length owners → cond b (count_before p owners + 1) (count_before p owners) ≤ suc (length owners)
    by true h = omega arith
    by false h = omega arith

count-append : (p : ℕ) (xs ys : List ℕ) → count_before p (xs ++ ys) ≡ count_before p xs + count_before p ys
count-append p [] ys = let none : count_before p [] ≡ 0 = refl in omega (arith, none)
count-append p (j ∷ xs) ys = by (nat_lt j p) (count-append p xs ys)
  where
    by : (b : Bool) → count_before p (xs ++ ys) ≡ count_before p xs + count_before p ys
        → cond b (count_before p (xs ++ ys) + 1) (count_before p (xs ++ ys)) ≡ cond b (count_before p xs + 1) (count_before p xs) + count_before p ys
    by true h = omega arith
    by false h = h

count-own : (p j : ℕ) (cs : List RawConstructor) → p ≤ j → count_before p (map (λ c. j) cs) ≡ 0
count-own p j [] le = refl
count-own p j (c ∷ cs) le =
    let test : nat_lt j p ≡ false = grind (arith, nat_tests, le) in
    ap (λ b. cond b (count_before p (map (λ c. j) cs) + 1) (count_before p (map (λ c. j) cs))) test ∙ count-own p j cs le

count-none : (p j : ℕ) (members : List RawMember) → p ≤ j → count_before p (owners_from j members) ≡ 0
count-none p j [] le = refl
count-none p j (m ∷ members) le =
    let a = count-append p (map (λ c. j) m.constructors) (owners_from (j + 1) members) in
    let b = count-own p j m.constructors le in
    let c = count-none p (j + 1) members (omega arith) in
    omega (arith, a, b, c)

number-within : (j i con : ℕ) (members : List RawMember) (m : RawMember) → slice_get members i ≡ Some m → con < length m.constructors
    → count_before (j + i) (owners_from j members) + con < length (all_constructors members)
number-within j i con [] m at lt = absurd cc
number-within j zero con (own ∷ members) m at lt =
    let same : own ≡ m = cc in
    let few = ap (λ (x : RawMember). length x.constructors) same in
    let a = count-append (j + zero) (map (λ c. j) own.constructors) (owners_from (j + 1) members) in
    let b = count-own (j + zero) j own.constructors (omega arith) in
    let c = count-none (j + zero) (j + 1) members (omega arith) in
    let all = length-append own.constructors (all_constructors members) in
    omega (arith, few, a, b, c, all, lt)
number-within j (suc i) con (own ∷ members) m at lt =
    let a = count-append (j + suc i) (map (λ c. j) own.constructors) (owners_from (j + 1) members) in
    let b = count-most (j + suc i) (map (λ c. j) own.constructors) in
    let count = length-map own.constructors (λ (c : RawConstructor). j) in
    let rest = number-within (j + 1) i con members m at lt in
    let place : j + suc i ≡ j + 1 + i = omega arith in
    let next = ap (λ p. count_before p (owners_from (j + 1) members)) place in
    let all = length-append own.constructors (all_constructors members) in
    omega (arith, a, b, count, rest, next, all)

-- ---- arguments of the constructor with a number

there-or-none : (P : List ArgumentShape → Type 0) (cs : List ConstructorShape) (number : ℕ) → P [] → All (λ c. P c.arguments) cs → P (option_map_or (λ (c : ConstructorShape). c.arguments) (slice_get cs number) [])
there-or-none P [] number none all = none
there-or-none P (c ∷ cs) zero none all = All-head (λ (c : ConstructorShape). P c.arguments) c cs all
there-or-none P (c ∷ cs) (suc number) none all = there-or-none P cs number none (All-tail (λ (c : ConstructorShape). P c.arguments) c cs all)

shapes-low : (n : ℕ) (f : Family) (tag members : ℕ) (cs : List Constructor) → All (λ c. All (HasTag tag members) c.arguments) cs → All (λ c. HaveLowEnds members c.arguments) (map (constructor_shape n f) cs)
shapes-low n f tag members [] all = All-nil (λ (c : ConstructorShape). HaveLowEnds members c.arguments)
shapes-low n f tag members (c ∷ cs) all =
    All-cons (λ (c : ConstructorShape). HaveLowEnds members c.arguments) (constructor_shape n f c) (map (constructor_shape n f) cs)
    (shapes-end n f tag members 0 c.arguments (All-head (λ (c : Constructor). All (HasTag tag members) c.arguments) c cs all))
    (shapes-low n f tag members cs (All-tail (λ (c : Constructor). All (HasTag tag members) c.arguments) c cs all))

-- ---- all equations

module _ (S U T : Signature) (d : MutualRaw) (l : ℕ) (declared : IsDeclared S d) (h : HasPackedEntries S (packed_with (members_of (length S.entries) d) l d) U) (longer : IsPrefix U T) (scoped : IsScopedSignature T) (counted : length (packed_with (members_of (length S.entries) d) l d).members ≡ length d.members) (inductions : (k : ℕ) → k < length (packed_with (members_of (length S.entries) d) l d).members → IsConstantNumber T (get_or (inductions_in T (packed_with (members_of (length S.entries) d) l d).members) k 0)) (at : IsEntryAt T (length S.entries + 1) (FamilyOf h.family)) where
  abbrev g : Members
  g = members_of (length S.entries) d

  abbrev packed : Packed
  packed = packed_with g l d

  abbrev n : ℕ
  n = length S.entries + 1

  abbrev f : Family
  f = h.family

  abbrev shape : Shape
  shape = family_shape n f

  abbrev q : PackedFamily
  q = packed_numbers packed shape

  abbrev Are : ℕ → List ArgumentShape → Type 0
  Are m arguments = EachInTelescope (IsDraftTerm T (length T.entries) 0) m (types_of arguments)

  constructors-counted : length shape.constructors ≡ length (all_constructors d.members)
  constructors-counted =
      let a = length-map f.constructors (constructor_shape n f) in
      let types = ap length h.family_given.constructor_types in
      let b = length-map f.constructors (constructor_type n f) in
      let c = length-map packed.family.constructors (λ (c : RawConstructor). products packed.family.parameters c.type) in
      let e = length-map (all_constructors d.members) (packed_constructor g) in
      omega (arith, a, types, b, c, e)

  tags : All (λ c. All (HasTag g.first (length packed.members)) c.arguments) f.constructors
  tags =
      transport (λ m. All (λ (c : Constructor). All (HasTag g.first m) c.arguments) f.constructors) (sym counted)
      (packed-tagged g l d f refl (all-lack S d declared) h.family_given.parameters h.family_given.constructor_types)

  comparable : (k con : ℕ) (m : RawMember) → slice_get d.members k ≡ Some m → k < length d.members → con < length m.constructors → CanCompare T packed k con
  comparable k con m there low within sides is =
      let number = constructor_number packed.owners k con in
      let draft = family-draft T 0 n f scoped at in
      let numbers : number < length shape.constructors = let lt = number-within 0 k con d.members m there within in let all = constructors-counted in
      let first : 0 + k ≡ k = omega arith in
      let same = ap (λ i. count_before i packed.owners) first in omega (arith, lt, all, same) in
      let arguments = arguments_of shape number in
      let types : Are q.params arguments =
      there-or-none (Are q.params) shape.constructors number tt
      (All-weaker (IsDraftConstructor T (length T.entries) 0 q.params) (λ (c : ConstructorShape). Are q.params c.arguments) (λ c x. x.arguments) shape.constructors draft.constructors) in
      let ends : HaveLowEnds q.members arguments =
      there-or-none (HaveLowEnds q.members) shape.constructors number tt (shapes-low n f g.first q.members f.constructors tags) in
      let whole : induction_equation T packed f k con ≡ Ok sides = ap (λ o. equation_over T packed o k con) (sym (at-family T n f at)) ∙ is in
      sides-compared T q (inductions_in T packed.members) inductions scoped (equation_telescope q packed.owners shape arguments) k number arguments sides (omega (arith, counted, low)) numbers
      (draft.numbers number numbers) (transport (λ m. Are m arguments) (omega arith) types) ends whole

  from-constructors : (k con : ℕ) (m : RawMember) (constructors : List RawConstructor) → slice_get d.members k ≡ Some m → k < length d.members → con + length constructors ≤ length m.constructors
      → AreComparable T packed k con constructors
  from-constructors k con m [] there low room = tt
  from-constructors k con m (c ∷ constructors) there low room =
      (comparable k con m there low (omega arith), from-constructors k (con + 1) m constructors there low (omega arith))

  from-members : (k : ℕ) (members : List RawMember) → ((i : ℕ) (m : RawMember) → slice_get members i ≡ Some m → slice_get d.members (k + i) ≡ Some m) → k + length members ≤ length d.members
      → AreAllComparable T packed k members
  from-members k [] there room = tt
  from-members k (m ∷ members) there room = (
    from-constructors k 0 m m.constructors (transport (λ i. slice_get d.members i ≡ Some m) (omega arith) (there 0 m refl)) (omega arith) (omega arith),
    from-members (k + 1) members (λ i x at. transport (λ j. slice_get d.members j ≡ Some x) (omega arith) (there (suc i) x at)) (omega arith),
  )

  all-comparable : AreAllComparable T packed 0 d.members
  all-comparable = from-members 0 d.members (λ i m at. transport (λ j. slice_get d.members j ≡ Some m) (omega arith) at) (omega arith)

pub equations-comparable : (S U T : Signature) (d : MutualRaw) (packed : Packed) → IsDeclared S d → pack (length S.entries) d ≡ Ok packed → HasPackedEntries S packed U → IsPrefix U T
    → IsScopedSignature T → ((k : ℕ) → k < length packed.members → IsConstantNumber T (get_or (inductions_in T packed.members) k 0)) → AreAllComparable T packed 0 d.members
equations-comparable S U T d packed declared e has longer scoped inductions =
    let is = packed-as (length S.entries) d packed e in
    let back = sym is.same in
    let g = members_of (length S.entries) d in
    let entered = transport (λ p. HasPackedEntries S p U) back has in
    transport (λ p. AreAllComparable T p 0 d.members) is.same
    (all-comparable S U T d is.level declared entered longer scoped
    (transport (λ (p : Packed). length p.members ≡ length d.members) back (members-counted (length S.entries) d packed e))
    (transport (λ (p : Packed). (k : ℕ) → k < length p.members → IsConstantNumber T (get_or (inductions_in T p.members) k 0)) back inductions)
    (family-there S U d is.level entered T longer))
