-- The test of a call decides the relation.
use Rattle.std.proofs.Common.{◌≡◌, ℕ, Bool, true, false, ◌==◌, nat_le, Option, Some, None, option_and_then, List, [], ◌∷◌, length, slice_get, inl, inr, refl, ap, ap₂, ◌∙◌, subst, arith}
use Rattle.std.specs.List.{list_all}
use Rattle.std.specs.Prelude.{◌↔◌}
use Rattle.std.proofs.lemmas.Bool.{false≢true, and_from, leb-true, le-leb}
use Rattle.std.proofs.lemmas.Bool.Decides.{Decides-eqb}
use native.Mathlib.Decide.{ℕ_discrete}
use Rattle.theory.specs.Terms.{Term, Term-discrete, lift}
use Rattle.theory.specs.Spines.{spine_of}
use Rattle.theory.specs.Families.{Family}
use Rattle.theory.specs.Signatures.{Signature, FamilyOf, IsEntryAt}
use Rattle.kernel_reduce.specs.Entries.{family_in, family_at}
use Rattle.kernel_reduce.proofs.LookUps.{family-found}
use Rattle.case_below_gen.specs.PartTests.{same}
use Rattle.case_below_gen.specs.StrictParts.{IsStrictPart}
use Rattle.case_below_gen.proofs.PartTests.{applied-tells, and-tells, or-tells, part-decides}
use Rattle.tree_translation.specs.structural_rec.Calls.{Call}
use Rattle.tele_eq.specs.Levels.{is_among}
use Rattle.tree_translation.specs.structural_rec.Positions.{Admission}
use Rattle.tree_translation.proofs.structural_rec.LowerParts.{no-inner}
use Rattle.tree_translation.proofs.structural_rec.Members.{among-first, among-later}
use Rattle.tree_translation.specs.structural_rec.Fitting.{IsKept, Fits, part_in, is_smaller, is_same, both_pass, pass_at, fits}

-- ---- syntactic equality

same-is : (t u : Term) → same t u ≡ true → t ≡ u
same-is t u h = let is = applied-tells u 0 t h in is.form ∙ no-inner is.inner is.counted u

same-itself : (t : Term) → same t t ≡ true
same-itself t = by (Term-discrete ℕ_discrete t t)
  where
    by : (d : Dec (t ≡ t)) → (elim d [ yes e ↦ true | no e ↦ false ]) ≡ true
    by (yes e) = refl
    by (no e) = absurd (e refl)

-- ---- at one position

-- an argument and the clause's own term at position i pass a test
pub record Passes (test : Term → Term → Bool) (arguments terms : List Term) (i : ℕ) : Type 0 where
  pub argument : Term
  pub own : Term
  pub given : slice_get arguments i ≡ Some argument
  pub there : slice_get terms i ≡ Some own
  pub passes : test argument own ≡ true

pass-tells : (test : Term → Term → Bool) (arguments terms : List Term) (i : ℕ) → pass_at test arguments terms i ≡ true → Passes test arguments terms i
pass-tells test arguments terms i h = by (slice_get arguments i) (slice_get terms i) refl refl h
  where
    by : (a t : Option Term) → slice_get arguments i ≡ a → slice_get terms i ≡ t → both_pass test a t ≡ true → Passes test arguments terms i
    by (Some argument) (Some own) given there h = record { argument = argument; own = own; given = given; there = there; passes = h }
    by (Some argument) None given there h = absurd (false≢true h)
    by None t given there h = absurd (false≢true h)

pass-found : (test : Term → Term → Bool) (arguments terms : List Term) (i : ℕ) → Passes test arguments terms i → pass_at test arguments terms i ≡ true
pass-found test arguments terms i p = ap₂ (both_pass test) p.given p.there ∙ p.passes

-- ---- at all fixed positions

all-tells : (p : ℕ → Bool) (positions : List ℕ) → list_all p positions ≡ true → (i : ℕ) → is_among i positions ≡ true → p i ≡ true
all-tells p [] h i among = absurd (false≢true among)
all-tells p (x ∷ positions) h i among =
    let parts = and-tells (p x) (list_all p positions) h in
    elim (or-tells (x == i) (is_among i positions) among) [
      | inl here ↦ subst (λ k. p k ≡ true) ((Decides-eqb x i).0 here) parts.0
      | inr later ↦ all-tells p positions parts.1 i later
    ]

all-found : (p : ℕ → Bool) (positions : List ℕ) → ((i : ℕ) → is_among i positions ≡ true → p i ≡ true) → list_all p positions ≡ true
all-found p [] h = refl
all-found p (x ∷ positions) h =
    and_from (p x) (list_all p positions) (h x (among-first x positions)) (all-found p positions (λ i among. h i (among-later i x positions among)))

same-kept : (terms : List Term) (c : Call) (i : ℕ) → pass_at (is_same c.under) (spine_of c.term) terms i ≡ true → IsKept terms c i
same-kept terms c i h =
    let p = pass-tells (is_same c.under) (spine_of c.term) terms i h in
    record { own = p.own; there = p.there; argument = p.given ∙ ap (λ t. Some t) (same-is p.argument (lift p.own c.under 0) p.passes) }

kept-same : (terms : List Term) (c : Call) (i : ℕ) → IsKept terms c i → pass_at (is_same c.under) (spine_of c.term) terms i ≡ true
kept-same terms c i k =
    pass-found (is_same c.under) (spine_of c.term) terms i
    (record { argument = lift k.own c.under 0; own = k.own; given = k.argument; there = k.there; passes = same-itself (lift k.own c.under 0) })

-- ---- strict parts

pub record IsPartIn (S : Signature) (n : ℕ) (part t : Term) : Type 0 where
  pub family : Family
  pub known : IsEntryAt S n (FamilyOf family)
  pub smaller : IsStrictPart n family part t

part-tells : (S : Signature) (n : ℕ) (part t : Term) → part_in n part t (family_at S n) ≡ true → IsPartIn S n part t
part-tells S n part t h = by (family_at S n) refl h
  where
    by : (o : Option Family) → family_at S n ≡ o → part_in n part t o ≡ true → IsPartIn S n part t
    by None e h = absurd (false≢true h)
    by (Some f) e h = record { family = f; known = family-found S n f e; smaller = (part-decides n f part t).0 (grind arith) }

part-found : (S : Signature) (n : ℕ) (part t : Term) → IsPartIn S n part t → part_in n part t (family_at S n) ≡ true
part-found S n part t p =
    ap (λ o. part_in n part t (option_and_then family_in o)) p.known ∙ (let h = (part-decides n p.family part t).1 p.smaller in grind arith)

-- ---- a call

fit-tells : (S : Signature) (count j : ℕ) (a : Admission) (terms : List Term) (c : Call) → fits S count j a terms c ≡ true → Fits S count j a terms c
fit-tells S count j a terms c h =
    let whole = and-tells (nat_le count (length (spine_of c.term))) _ h in
    let parts = and-tells (pass_at (is_smaller S a.number c.under) (spine_of c.term) terms j) _ whole.1 in
    let p = pass-tells (is_smaller S a.number c.under) (spine_of c.term) terms j parts.0 in
    let s = part-tells S a.number p.argument (lift p.own c.under 0) p.passes in
    record {
      family = s.family;
      known = s.known;
      whole = leb-true count (length (spine_of c.term)) whole.0;
      own = p.own;
      there = p.there;
      part = p.argument;
      argument = p.given;
      smaller = s.smaller;
      kept = λ i among. same-kept terms c i (all-tells (pass_at (is_same c.under) (spine_of c.term) terms) a.fixed parts.1 i among);
    }

fit-found : (S : Signature) (count j : ℕ) (a : Admission) (terms : List Term) (c : Call) → Fits S count j a terms c → fits S count j a terms c ≡ true
fit-found S count j a terms c f =
    and_from (nat_le count (length (spine_of c.term))) _ (le-leb count (length (spine_of c.term)) f.whole)
    (and_from (pass_at (is_smaller S a.number c.under) (spine_of c.term) terms j) _
    (pass-found (is_smaller S a.number c.under) (spine_of c.term) terms j
    (record { argument = f.part; own = f.own; given = f.argument; there = f.there; passes = part-found S a.number f.part (lift f.own c.under 0) (record { family = f.family; known = f.known; smaller = f.smaller }) }))
    (all-found (pass_at (is_same c.under) (spine_of c.term) terms) a.fixed (λ i among. kept-same terms c i (f.kept i among))))

pub fit-decides : (S : Signature) (count j : ℕ) (a : Admission) (terms : List Term) (c : Call) → (fits S count j a terms c ≡ true) ↔ Fits S count j a terms c
fit-decides S count j a terms c = (fit-tells S count j a terms c, fit-found S count j a terms c)
