-- The type of a constructor as packed converts to the written one, where the members are their definitions.
use Rattle.std.proofs.Common.{◌≡◌, ℕ, zero, suc, ◌+◌, ◌-◌, ◌<◌, ◌≤◌, ◌==◌, nat_lt, nat_le, Bool, true, false, ◌&&◌, ◌||◌, not, cond, List, [], ◌∷◌, length, Option, Some, None, is_some, slice_get, All, refl, ap, ap₂, sym, ◌∙◌, subst, append-nil, arith}
use Rattle.std.proofs.lemmas.Bool.{false≢true}
use Rattle.std.proofs.lemmas.Bool.Decides.{Decides-eqb, nat_tests}
use Rattle.std.proofs.lemmas.List.Elements.{All-head, All-tail, All-nil, All-cons}
use Rattle.std.specs.Option.{option_map_or}
use Rattle.theory.specs.Terms.{Term}
use Rattle.theory.specs.Terms.Term.{Var, Sort, Pi, Lam, App, Let, Const, Fam, Con, Elim, AxiomK}
use Rattle.theory.specs.Telescopes.{Telescope, applied, products, functions}
use Rattle.theory.specs.Substitutions.{inst, fill}
use Rattle.theory.specs.Eliminators.{no_variable}
use Rattle.theory.specs.Signatures.{Signature, Definition, IsEntryAt, HasClosedBodies}
use Rattle.theory.specs.Conversion.{Converts}
use Rattle.theory.specs.Conversion.Contracts.{delta}
use Rattle.theory.specs.Conversion.Step.{here}
use Rattle.theory.specs.Conversion.Converts.{same, forwards}
use Rattle.theory.proofs.Instances.{ap₃}
use Rattle.theory.proofs.Congruence.{converts-trans, converts-pi}
use Rattle.theory.proofs.Instantiation.{inst-applied}
use Rattle.core_terms.specs.Levels.{variable, run}
use Rattle.core_terms.proofs.Builders.{applied-push}
use Rattle.core_terms.proofs.Placing.{run-push}
use Rattle.core_sig.specs.KindTests.{is_variable}
use Rattle.core_sig.specs.Raw.{RawConstructor, RawMember}
use Rattle.core_sig.specs.Settling.{renumbered}
use Rattle.case_below_gen.specs.CourseLaws.{HasBody}
use Rattle.case_below_gen.proofs.Filling.{run-filled}
use Rattle.case_below_gen.proofs.Functions.{converts-from, binds-functions, constant-unfolds}
use Rattle.case_below_gen.proofs.Functions.Binds.{none}
use Rattle.mutual_pack.specs.declared.members.Members.{Members}
use Rattle.mutual_pack.specs.MutualFamilies.{all_constructors}
use Rattle.mutual_pack.specs.Members.{is_member, member_number, mentions_member, member_at, whole_member, is_positive_end, is_positive_argument, offending_argument}
use Rattle.mutual_pack.specs.Packing.{tagged, packed_end, packed_argument, packed_type, member_entry, member_entries, members_of, packed_with}
use Rattle.mutual_pack.specs.PackingLaws.{defined_number, MembersUnfold}
use Rattle.mutual_pack.proofs.PackedTypes.{both, untrue, neither, result-positive, IsFitting, AreFitting, packed-as}
use Rattle.mutual_pack.proofs.Runs.{length-run}

-- ---- terms without members

kept : (g : Members) (t : Term) → mentions_member g t ≡ false → renumbered (defined_number g) t ≡ t
kept g (Var n) lacks = refl
kept g (Sort i) lacks = refl
kept g (Pi a b) lacks = let (x, y) = neither (mentions_member g a) (mentions_member g b) lacks in ap₂ Pi (kept g a x) (kept g b y)
kept g (Lam a b) lacks = let (x, y) = neither (mentions_member g a) (mentions_member g b) lacks in ap₂ Lam (kept g a x) (kept g b y)
kept g (App f a) lacks = let (x, y) = neither (mentions_member g f) (mentions_member g a) lacks in ap₂ App (kept g f x) (kept g a y)
kept g (Let a t b) lacks =
    let (x, rest) = neither (mentions_member g a) (mentions_member g t || mentions_member g b) lacks in
    let (y, z) = neither (mentions_member g t) (mentions_member g b) rest in
    ap₃ Let (kept g a x) (kept g t y) (kept g b z)
kept g (Const c) lacks = ap (λ b. Const (cond b (c + 2) c)) lacks
kept g (Fam f) lacks = refl
kept g (Con f c) lacks = refl
kept g (Elim f m) lacks = refl
kept g (AxiomK i m) lacks = refl

renumbered-run : (r : ℕ → ℕ) (head : Term) (depth start count : ℕ) → renumbered r (applied head (run depth start count)) ≡ applied (renumbered r head) (run depth start count)
renumbered-run r head depth start zero = refl
renumbered-run r head depth start (suc count) = renumbered-run r (App head (variable depth start)) depth (start + 1) count

-- ---- a member at the parameters

-- Where a term is a member at p variables, it has this form.
pub record IsMemberAt (g : Members) (p at k : ℕ) (t : Term) : Type 0 where
  pub member : is_member g (g.first + k) ≡ true
  pub form : t ≡ applied (Const (g.first + k)) (run (p + at) 0 p)

variable-is : (at : ℕ) (a : Term) → is_variable at a ≡ true → a ≡ Var at
variable-is at (Var n) e = ap Var ((Decides-eqb n at).0 e)
variable-is at _ e = absurd (false≢true e)

-- the constant of a member, by its number
number-is : (g : Members) (c k : ℕ) → member_number g c ≡ Some k → (is_member g (g.first + k) ≡ true) × (c ≡ g.first + k)
number-is g c k e = by (nat_le g.first c) refl (nat_lt c (g.first + g.count)) refl e
  where
    by : (a : Bool) → nat_le g.first c ≡ a → (b : Bool) → nat_lt c (g.first + g.count) ≡ b → cond (a && b) (Some (c - g.first)) None ≡ Some k → (is_member g (g.first + k) ≡ true) × (c ≡ g.first + k)
    by true first true last rest =
        let low : g.first ≤ c = grind (arith, nat_tests) in
        let at : c - g.first ≡ k = cc in
        let equal : c ≡ g.first + k = omega arith in
        (subst (λ n. is_member g n ≡ true) equal (ap₂ (λ x y. x && y) first last), equal)
    by true first false last rest = absurd cc
    by false first b last rest = absurd cc

pub member-form : (g : Members) (p at k : ℕ) (t : Term) → member_at g p at t ≡ Some k → IsMemberAt g p at k t
member-form g zero at k (Const c) e =
    let (member, equal) = number-is g c k e in
    record { member = member; form = ap Const equal }
member-form g (suc p) at k (Const c) e = by (suc p == 0) refl e
  where
    by : (b : Bool) → suc p == 0 ≡ b → cond b (member_number g c) None ≡ Some k → IsMemberAt g (suc p) at k (Const c)
    by true is rest = let equal : suc p ≡ 0 = (Decides-eqb (suc p) 0).0 is in absurd (omega (arith, equal))
    by false is rest = absurd cc
member-form g (suc p) at k (App f a) e = by (λ rest. member-form g p (at + 1) k f rest) (is_variable at a) refl e
  where
    by : (member_at g p (at + 1) f ≡ Some k → IsMemberAt g p (at + 1) k f) → (b : Bool) → is_variable at a ≡ b → cond b (member_at g p (at + 1) f) None ≡ Some k → IsMemberAt g (suc p) at k (App f a)
    by within true at-end rest =
        let inner = within rest in
        let head = Const (g.first + k) in
        let last : a ≡ variable (suc p + at) (0 + p) = variable-is at a at-end ∙ ap Var (omega arith) in
        let depth : p + (at + 1) ≡ suc p + at = omega arith in
        record {
          member = inner.member;
          form =
              ap₂ App (inner.form ∙ ap (λ d. applied head (run d 0 p)) depth) last
              ∙ (sym (applied-push head (run (suc p + at) 0 p) (variable (suc p + at) (0 + p)))
              ∙ ap (applied head) (sym (run-push (suc p + at) 0 p)));
        }
    by within false at-end rest = absurd cc
member-form g zero at k (App f a) e = absurd cc
member-form g p at k (Var n) e = absurd cc
member-form g p at k (Sort i) e = absurd cc
member-form g p at k (Pi a b) e = absurd cc
member-form g p at k (Lam a b) e = absurd cc
member-form g p at k (Let a t b) e = absurd cc
member-form g p at k (Fam f) e = absurd cc
member-form g p at k (Con f c) e = absurd cc
member-form g p at k (Elim f m) e = absurd cc
member-form g p at k (AxiomK i m) e = absurd cc

-- ---- a member as its definition

entry-at : (g : Members) (l : ℕ) (ps : Telescope) (j k : ℕ) (members : List RawMember) → k < length members
    → (m : RawMember) × (slice_get (member_entries g l ps j members) k ≡ Some (member_entry g l ps (j + k) m))
entry-at g l ps j k [] low = absurd (omega arith)
entry-at g l ps j zero (m ∷ members) low = (m, ap (λ i. Some (member_entry g l ps i m)) (omega arith))
entry-at g l ps j (suc k) (m ∷ members) low =
    let (found, there) = entry-at g l ps (j + 1) k members (omega arith) in
    (found, there ∙ ap (λ i. Some (member_entry g l ps i found)) (omega arith))

pub length-entries : (g : Members) (l : ℕ) (ps : Telescope) (j : ℕ) (members : List RawMember) → length (member_entries g l ps j members) ≡ length members
length-entries g l ps j [] = refl
length-entries g l ps j (m ∷ members) = ap suc (length-entries g l ps (j + 1) members)

-- the definition of member k is a constant
abbrev IsDefined : Signature → Members → Telescope → ℕ → Type 0
IsDefined S g ps k = HasBody S (g.first + k + 2) (functions ps (tagged g k g.params))

tagged-filled : (g : Members) (k depth : ℕ) → inst (fill no_variable (run depth 0 g.params)) (tagged g k g.params) ≡ tagged g k depth
tagged-filled g k depth =
    let us = run depth 0 g.params in
    let q = fill no_variable us in
    ap (λ f. App f (Con g.first k))
    (inst-applied q (Fam (g.first + 1)) (run g.params 0 g.params)
    ∙ ap (applied (Fam (g.first + 1)))
    (run-filled no_variable us [] us [] g.params 0 g.params (sym (append-nil us)) (sym (length-run depth 0 g.params)) refl (sym (length-run depth 0 g.params))))

-- at the parameters it converts to S p tk
member-unfolds : (S : Signature) (g : Members) (ps : Telescope) (k depth : ℕ) → HasClosedBodies S → length ps ≡ g.params → IsDefined S g ps k
    → Converts S (applied (Const (g.first + k + 2)) (run depth 0 g.params)) (tagged g k depth)
member-unfolds S g [] k depth closed count body =
    let none : ◌≡◌ {A = ℕ} 0 g.params = count in
    subst (λ p. Converts S (applied (Const (g.first + k + 2)) (run depth 0 p)) (App (applied (applied (Fam (g.first + 1)) (run depth 0 p)) []) (Con g.first k))) none
    (forwards (here (delta (g.first + k + 2) (subst (λ p. IsEntryAt S (g.first + k + 2) (Definition body.name body.type (App (applied (applied (Fam (g.first + 1)) (run p 0 p)) []) (Con g.first k)))) (sym none) body.entry) (λ e. absurd cc))) same)
member-unfolds S g (a ∷ ps) k depth closed count body =
    let us = run depth 0 g.params in
    converts-trans
    (constant-unfolds closed body (binds-functions (a ∷ ps) 0 g.params (tagged g k g.params) (tagged g k g.params) (omega (arith, count)) none) (omega (arith, count)) us (length-run depth 0 g.params))
    (converts-from (tagged-filled g k depth))

-- ---- types

-- what is fixed: the signature, the members and their definitions
pub record Unfolds (S : Signature) (g : Members) (ps : Telescope) : Type 0 where
  pub bodies : HasClosedBodies S
  pub count : length ps ≡ g.params
  pub entries : (k : ℕ) → is_member g (g.first + k) ≡ true → IsDefined S g ps k

end-unfolds : (S : Signature) (g : Members) (ps : Telescope) (under : ℕ) (t : Term) → Unfolds S g ps → is_positive_end g under t ≡ true
    → Converts S (renumbered (defined_number g) t) (packed_end g under t)
end-unfolds S g ps under t has positive = by (whole_member g under t) refl positive
  where
    by : (o : Option ℕ) → whole_member g under t ≡ o → is_some o || not (mentions_member g t) ≡ true
        → Converts S (renumbered (defined_number g) t) (option_map_or (λ k. tagged g k (g.params + under)) o t)
    by (Some k) found e =
        let is = member-form g g.params under k t found in
        let depth = g.params + under in
        let number : defined_number g (g.first + k) ≡ g.first + k + 2 = ap (λ b. cond b (g.first + k + 2) (g.first + k)) is.member in
        converts-trans
        (converts-from (ap (renumbered (defined_number g)) is.form ∙ (renumbered-run (defined_number g) (Const (g.first + k)) depth 0 g.params ∙ ap (λ c. applied (Const c) (run depth 0 g.params)) number)))
        (member-unfolds S g ps k depth has.bodies has.count (has.entries k is.member))
    by None found e = converts-from (kept g t (untrue (mentions_member g t) e))

argument-unfolds : (S : Signature) (g : Members) (ps : Telescope) (under : ℕ) (t : Term) → Unfolds S g ps → is_positive_argument g under t ≡ true
    → Converts S (renumbered (defined_number g) t) (packed_argument g under t)
argument-unfolds S g ps under (Pi a b) has positive =
    let (first, rest) = both (not (mentions_member g a)) (is_positive_argument g (under + 1) b) positive in
    converts-pi (converts-from (kept g a (untrue (mentions_member g a) first))) (argument-unfolds S g ps (under + 1) b has rest)
argument-unfolds S g ps under t has positive = end-unfolds S g ps under t has positive

type-unfolds : (S : Signature) (g : Members) (ps : Telescope) (at : ℕ) (t : Term) → Unfolds S g ps → offending_argument g at t ≡ None
    → Converts S (renumbered (defined_number g) t) (packed_type g at t)
type-unfolds S g ps at (Pi a b) has fits = by (λ rest. type-unfolds S g ps (at + 1) b has rest) (is_positive_argument g at a) refl fits
  where
    by : (offending_argument g (at + 1) b ≡ None → Converts S (renumbered (defined_number g) b) (packed_type g (at + 1) b))
        → (p : Bool) → is_positive_argument g at a ≡ p → cond p (offending_argument g (at + 1) b) (Some (at + 1)) ≡ None
        → Converts S (renumbered (defined_number g) (Pi a b)) (packed_type g at (Pi a b))
    by behind true positive rest = converts-pi (argument-unfolds S g ps at a has positive) (behind rest)
    by behind false positive rest = absurd cc
type-unfolds S g ps at t has fits = end-unfolds S g ps at t has (result-positive (is_positive_end g at t) fits)

-- the type of a constructor does
abbrev ConvertsAsPacked : Signature → Members → RawConstructor → Type 0
ConvertsAsPacked S g c = Converts S (renumbered (defined_number g) c.type) (packed_type g 0 c.type)

types-unfold : (S : Signature) (g : Members) (ps : Telescope) (constructors : List RawConstructor) → Unfolds S g ps → AreFitting g constructors → All (ConvertsAsPacked S g) constructors
types-unfold S g ps [] has fitting = All-nil (ConvertsAsPacked S g)
types-unfold S g ps (c ∷ constructors) has fitting =
    All-cons (ConvertsAsPacked S g) c constructors (type-unfolds S g ps 0 c.type has (All-head (IsFitting g) c constructors fitting))
    (types-unfold S g ps constructors has (All-tail (IsFitting g) c constructors fitting))

-- ---- what is packed

pub below-count : (g : Members) (k : ℕ) → is_member g (g.first + k) ≡ true → k < g.count
below-count g k e = let parts = both (nat_le g.first (g.first + k)) (nat_lt (g.first + k) (g.first + g.count)) e in let last = parts.1 in grind (arith, nat_tests)

pub members-unfold : MembersUnfold
members-unfold S base d packed e has =
    let g = members_of base d in
    let is = packed-as base d packed e in
    let whole = packed_with g is.level d in
    let count = length-entries g is.level d.parameters 0 d.members in
    let there : (k : ℕ) → is_member g (g.first + k) ≡ true → IsDefined S g d.parameters k =
    λ k member.
    let low = below-count g k member in
    let (m, found) = entry-at g is.level d.parameters 0 k d.members low in
    let length-is : length packed.members ≡ length d.members = ap (λ p. length p.members) (sym is.same) ∙ count in
    let at : slice_get packed.members k ≡ Some (member_entry g is.level d.parameters (0 + k) m) = ap (λ p. slice_get p.members k) (sym is.same) ∙ found in
    let zero-more : 0 + k ≡ k = omega arith in
    let entry = sym (has.entries k (omega (arith, length-is))) ∙ (at ∙ ap (λ i. Some (member_entry g is.level d.parameters i m)) zero-more) in
    record { name = m.name; type = products d.parameters (Sort is.level); entry = subst (λ n. slice_get S.entries n ≡ Some (member_entry g is.level d.parameters k m)) (omega arith) entry } in
    types-unfold S g d.parameters (all_constructors d.members) (record { bodies = has.bodies; count = refl; entries = there }) is.fitting
