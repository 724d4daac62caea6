-- In the type of a constructor as packed no member is left.
use Rattle.std.proofs.Common.{◌≡◌, ℕ, zero, suc, ◌+◌, ◌≤◌, ◌==◌, nat_le, Bool, true, false, ◌&&◌, ◌||◌, not, cond, List, [], ◌∷◌, ◌++◌, map, Option, Some, None, is_some, Result, Ok, Err, length, All, refl, ap, ap₂, subst, arith}
use Rattle.std.specs.Option.{option_map_or}
use Rattle.std.proofs.lemmas.Bool.Decides.{nat_tests}
use Rattle.std.proofs.lemmas.List.Elements.{All-head, All-tail, All-nil, All-cons}
use Rattle.theory.specs.Terms.{Term, top}
use Rattle.theory.specs.Terms.Term.{Var, Sort, Pi, Lam, App, Let, Const, Fam, Con, Elim, AxiomK}
use Rattle.theory.specs.Telescopes.{applied}
use Rattle.core_terms.specs.Answers.{and_then}
use Rattle.core_terms.specs.Levels.{variable, run}
use Rattle.core_sig.specs.Raw.{RawConstructor, RawMember, MutualRaw}
use Rattle.mutual_pack.specs.declared.members.Members.{Members}
use Rattle.mutual_pack.specs.declared.stop.MutualStop.{MutualStop}
use Rattle.mutual_pack.specs.declared.stop.MutualStop.TheVariants.{Deep, TagCount, MemberLevel}
use Rattle.mutual_pack.specs.MutualFamilies.{Packed, all_constructors}
use Rattle.mutual_pack.specs.Members.{mentions_member, whole_member, is_positive_end, is_positive_argument, offending_argument, offence_at, offence, offence_or, offence_among}
use Rattle.mutual_pack.specs.Packing.{tagged, packed_end, packed_argument, packed_type, packed_constructor, members_have_low_types, other_level, unless_other, level_with, level_from, common_level, members_of, is_low_packed, bounded_packed, packed_with, unless_offended, pack_at, pack_low, pack}
use Rattle.mutual_pack.specs.Inductions.{level_in}
use Rattle.mutual_pack.specs.PackingLaws.{LevelIsLow, NoMemberIsLeft}

-- ---- truth values

pub both : (a b : Bool) → a && b ≡ true → (a ≡ true) × (b ≡ true)
both true b e = (refl, e)
both false b e = absurd cc

pub untrue : (a : Bool) → not a ≡ true → a ≡ false
untrue true e = absurd cc
untrue false e = refl

pub neither : (a b : Bool) → a || b ≡ false → (a ≡ false) × (b ≡ false)
neither true b e = absurd cc
neither false b e = (refl, e)

-- ---- ends

lacks-run : (g : Members) (head : Term) (depth start count : ℕ) → mentions_member g head ≡ false → mentions_member g (applied head (run depth start count)) ≡ false
lacks-run g head depth start zero lacks = lacks
lacks-run g head depth start (suc count) lacks =
    lacks-run g (App head (variable depth start)) depth (start + 1) count (ap (λ b. b || false) lacks)

lacks-tagged : (g : Members) (k depth : ℕ) → mentions_member g (tagged g k depth) ≡ false
lacks-tagged g k depth = ap (λ b. b || false) (lacks-run g (Fam (g.first + 1)) depth 0 g.params refl)

lacks-end : (g : Members) (under : ℕ) (t : Term) → is_positive_end g under t ≡ true → mentions_member g (packed_end g under t) ≡ false
lacks-end g under t positive = by (whole_member g under t) positive
  where
    by : (o : Option ℕ) → is_some o || not (mentions_member g t) ≡ true → mentions_member g (option_map_or (λ k. tagged g k (g.params + under)) o t) ≡ false
    by (Some k) e = lacks-tagged g k (g.params + under)
    by None e = untrue (mentions_member g t) e

-- ---- types

lacks-argument : (g : Members) (under : ℕ) (t : Term) → is_positive_argument g under t ≡ true → mentions_member g (packed_argument g under t) ≡ false
lacks-argument g under (Pi a b) positive =
    let (first, rest) = both (not (mentions_member g a)) (is_positive_argument g (under + 1) b) positive in
    ap₂ (λ x y. x || y) (untrue (mentions_member g a) first) (lacks-argument g (under + 1) b rest)
lacks-argument g under (Var n) positive = lacks-end g under (Var n) positive
lacks-argument g under (Sort i) positive = lacks-end g under (Sort i) positive
lacks-argument g under (Lam a b) positive = lacks-end g under (Lam a b) positive
lacks-argument g under (App f a) positive = lacks-end g under (App f a) positive
lacks-argument g under (Let a t b) positive = lacks-end g under (Let a t b) positive
lacks-argument g under (Const c) positive = lacks-end g under (Const c) positive
lacks-argument g under (Fam f) positive = lacks-end g under (Fam f) positive
lacks-argument g under (Con f c) positive = lacks-end g under (Con f c) positive
lacks-argument g under (Elim f m) positive = lacks-end g under (Elim f m) positive
lacks-argument g under (AxiomK i m) positive = lacks-end g under (AxiomK i m) positive

-- the result of a constructor
pub result-positive : (b : Bool) → ◌≡◌ {A = Option ℕ} (cond b None (Some 0)) None → b ≡ true
result-positive true e = refl
result-positive false e = absurd cc

pub lacks-type : (g : Members) (at : ℕ) (t : Term) → offending_argument g at t ≡ None → mentions_member g (packed_type g at t) ≡ false
lacks-type g at (Pi a b) none = by (λ rest. lacks-type g (at + 1) b rest) (is_positive_argument g at a) refl none
  where
    by : (offending_argument g (at + 1) b ≡ None → mentions_member g (packed_type g (at + 1) b) ≡ false)
        → (p : Bool) → is_positive_argument g at a ≡ p → cond p (offending_argument g (at + 1) b) (Some (at + 1)) ≡ None → mentions_member g (packed_type g at (Pi a b)) ≡ false
    by behind true positive rest = ap₂ (λ x y. x || y) (lacks-argument g at a positive) (behind rest)
    by behind false positive rest = absurd cc
lacks-type g at (Var n) none = lacks-end g at (Var n) (result-positive (is_positive_end g at (Var n)) none)
lacks-type g at (Sort i) none = lacks-end g at (Sort i) (result-positive (is_positive_end g at (Sort i)) none)
lacks-type g at (Lam a b) none = lacks-end g at (Lam a b) (result-positive (is_positive_end g at (Lam a b)) none)
lacks-type g at (App f a) none = lacks-end g at (App f a) (result-positive (is_positive_end g at (App f a)) none)
lacks-type g at (Let a t b) none = lacks-end g at (Let a t b) (result-positive (is_positive_end g at (Let a t b)) none)
lacks-type g at (Const c) none = lacks-end g at (Const c) (result-positive (is_positive_end g at (Const c)) none)
lacks-type g at (Fam f) none = lacks-end g at (Fam f) (result-positive (is_positive_end g at (Fam f)) none)
lacks-type g at (Con f c) none = lacks-end g at (Con f c) (result-positive (is_positive_end g at (Con f c)) none)
lacks-type g at (Elim f m) none = lacks-end g at (Elim f m) (result-positive (is_positive_end g at (Elim f m)) none)
lacks-type g at (AxiomK i m) none = lacks-end g at (AxiomK i m) (result-positive (is_positive_end g at (AxiomK i m)) none)

-- ---- constructors

-- nothing offends
abbrev pub IsFitting : Members → RawConstructor → Type 0
IsFitting g c = offending_argument g 0 c.type ≡ None

abbrev pub AreFitting : Members → List RawConstructor → Type 0
AreFitting g constructors = All (IsFitting g) constructors

-- no member is mentioned
abbrev pub HasNoMember : Members → RawConstructor → Type 0
HasNoMember g c = mentions_member g c.type ≡ false

none-offends : (g : Members) (number : ℕ) (constructors : List RawConstructor) → offence g number constructors ≡ None → AreFitting g constructors
none-offends g number [] none = All-nil (IsFitting g)
none-offends g number (c ∷ constructors) none = by (λ rest. none-offends g (number + 1) constructors rest) (offending_argument g 0 c.type) refl none
  where
    by : (offence g (number + 1) constructors ≡ None → AreFitting g constructors)
        → (o : Option ℕ) → offending_argument g 0 c.type ≡ o → offence_at number o (offence g (number + 1) constructors) ≡ None → AreFitting g (c ∷ constructors)
    by others (Some k) here rest = absurd cc
    by others None here rest = All-cons (IsFitting g) c constructors here (others rest)

fit-both : (g : Members) (xs ys : List RawConstructor) → AreFitting g xs → AreFitting g ys → AreFitting g (xs ++ ys)
fit-both g [] ys first rest = rest
fit-both g (c ∷ xs) ys first rest =
    All-cons (IsFitting g) c (xs ++ ys) (All-head (IsFitting g) c xs first) (fit-both g xs ys (All-tail (IsFitting g) c xs first) rest)

members-fit : (g : Members) (number : ℕ) (members : List RawMember) → offence_among g number members ≡ None → AreFitting g (all_constructors members)
members-fit g number [] none = All-nil (IsFitting g)
members-fit g number (m ∷ members) none =
    by (λ rest. members-fit g (number + length m.constructors) members rest) (offence g number m.constructors) refl none
  where
    by : (offence_among g (number + length m.constructors) members ≡ None → AreFitting g (all_constructors members))
        → (o : Option (ℕ × ℕ)) → offence g number m.constructors ≡ o → offence_or o (offence_among g (number + length m.constructors) members) ≡ None → AreFitting g (m.constructors ++ all_constructors members)
    by others (Some k) here rest = absurd cc
    by others None here rest = fit-both g m.constructors (all_constructors members) (none-offends g number m.constructors here) (others rest)

lacks-constructors : (g : Members) (constructors : List RawConstructor) → AreFitting g constructors → All (HasNoMember g) (map (packed_constructor g) constructors)
lacks-constructors g [] fitting = All-nil (HasNoMember g)
lacks-constructors g (c ∷ constructors) fitting =
    All-cons (HasNoMember g) (packed_constructor g c) (map (packed_constructor g) constructors) (lacks-type g 0 c.type (All-head (IsFitting g) c constructors fitting))
    (lacks-constructors g constructors (All-tail (IsFitting g) c constructors fitting))

-- ---- what is packed

-- Where a declaration is packed, its constructors fit, and the outcome is of a common level.
pub record IsPackedAs (g : Members) (d : MutualRaw) (packed : Packed) : Type 0 where
  pub level : ℕ
  pub low : level + 2 ≤ top
  pub fitting : AreFitting g (all_constructors d.members)
  pub same : packed_with g level d ≡ packed

-- a common level leaves room for two levels above it
with-low : (l k : ℕ) (members : List RawMember) → level_with l members ≡ Ok k → k + 2 ≤ top
with-low l k members e = by (nat_le (l + 2) top) refl (other_level l 2 members) e
  where
    by : (b : Bool) → nat_le (l + 2) top ≡ b → (o : Option ℕ) → ◌≡◌ {A = Result ℕ MutualStop} (cond b (unless_other l o) (Err (MemberLevel 1))) (Ok k) → k + 2 ≤ top
    by true fits None rest = let same : l ≡ k = cc in grind (arith, nat_tests)
    by true fits (Some number) rest = absurd cc
    by false fits o rest = absurd cc

from-low : (type : Term) (k : ℕ) (members : List RawMember) → level_from type members ≡ Ok k → k + 2 ≤ top
from-low (Sort l) k members e = with-low l k members e
from-low _ k members e = absurd cc

level-low : (members : List RawMember) (k : ℕ) → common_level members ≡ Ok k → k + 2 ≤ top
level-low [] k e = let same : 0 ≡ k = cc in subst (λ n. n + 2 ≤ top) same (omega arith)
level-low (m ∷ members) k e = from-low m.type k members e

bounded-is : (p packed : Packed) → bounded_packed p ≡ Ok packed → p ≡ packed
bounded-is p packed e = by (is_low_packed p) e
  where
    by : (b : Bool) → ◌≡◌ {A = Result Packed MutualStop} (cond b (Ok p) (Err Deep)) (Ok packed) → p ≡ packed
    by true e = cc
    by false e = absurd cc

at-level : (g : Members) (l : ℕ) (d : MutualRaw) (packed : Packed) → l + 2 ≤ top → pack_at g l d ≡ Ok packed → IsPackedAs g d packed
at-level g l d packed low e = by (offence_among g 0 d.members) refl e
  where
    by : (o : Option (ℕ × ℕ)) → offence_among g 0 d.members ≡ o → and_then (unless_offended o) (λ _. bounded_packed (packed_with g l d)) ≡ Ok packed → IsPackedAs g d packed
    by (Some k) here rest = absurd cc
    by None here rest = record { level = l; low = low; fitting = members-fit g 0 d.members here; same = bounded-is (packed_with g l d) packed rest }

of-low : (g : Members) (d : MutualRaw) (packed : Packed) → pack_low g d ≡ Ok packed → IsPackedAs g d packed
of-low g d packed e = by (length d.tags == length d.members) (common_level d.members) refl e
  where
    by : (b : Bool) (l : Result ℕ MutualStop) → common_level d.members ≡ l → ◌≡◌ {A = Result Packed MutualStop} (cond b (and_then l (λ l. pack_at g l d)) (Err TagCount)) (Ok packed) → IsPackedAs g d packed
    by true (Ok l) found rest = at-level g l d packed (level-low d.members l found) rest
    by true (Err stop) found rest = absurd cc
    by false l found rest = absurd cc

pub packed-as : (base : ℕ) (d : MutualRaw) (packed : Packed) → pack base d ≡ Ok packed → IsPackedAs (members_of base d) d packed
packed-as base d packed e = by (members_have_low_types d.members) e
  where
    by : (b : Bool) → ◌≡◌ {A = Result Packed MutualStop} (cond b (pack_low (members_of base d) d) (Err Deep)) (Ok packed) → IsPackedAs (members_of base d) d packed
    by true rest = of-low (members_of base d) d packed rest
    by false rest = absurd cc

pub no-member-is-left : NoMemberIsLeft
no-member-is-left base d packed e =
    let g = members_of base d in
    let is = packed-as base d packed e in
    subst (λ p. All (HasNoMember g) p.family.constructors) is.same (lacks-constructors g (all_constructors d.members) is.fitting)

-- the level of what is packed leaves room for two levels above it
pub level-is-low : LevelIsLow
level-is-low base d packed e =
    let is = packed-as base d packed e in
    subst (λ p. level_in p.family.type + 2 ≤ top) is.same is.low
