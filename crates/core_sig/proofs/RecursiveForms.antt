-- The test for the form of a recursive argument agrees with its definition.
use Rattle.std.proofs.Common.{◌≡◌, ℕ, zero, suc, ◌+◌, Bool, true, false, ◌&&◌, not, ◌==◌, if◌then◌else◌, List, [], ◌∷◌, ◌++◌, map, length, Option, Some, None, option_map, All, refl, ap, ap₂, sym, ◌∙◌, subst, arith}
use Rattle.std.proofs.lemmas.Bool.{false≢true}
use Rattle.std.proofs.lemmas.Bool.Decides.{Decides-eqb}
use Rattle.std.proofs.lemmas.List.{length-append}
use Rattle.std.proofs.lemmas.List.Elements.{All-head, All-tail, All-nil, All-cons, All-push}
use Rattle.theory.specs.Terms.{Term}
use Rattle.theory.specs.Terms.Term.{Var, Pi, App, Fam}
use Rattle.theory.specs.Telescopes.{Telescope, applied, variables, weaken_by}
use Rattle.theory.specs.Families as pure
use Rattle.theory.specs.Families.{Lacks, mentions, family_head, recursive_type}
use Rattle.theory.proofs.Instances.{inst-var}
use Rattle.core_sig.specs.Kinds.{IsRecursiveType, HasKind}
use Rattle.core_sig.specs.KindTests.{is_variable, is_at_parameters, is_at_targets, inner_count, kind_by}
use Rattle.core_sig.specs.declared.family.ArgKind.{ArgKind}
use Rattle.core_sig.specs.declared.family.ArgKind.TheVariants.{Plain, Recursive}
use Rattle.core_sig.proofs.Arguments.{ups-same_var, map-inst-var, weaken-weaken_by}
use Rattle.core_sig.proofs.ConstructorTypes.{ren-applied}
use Rattle.core_terms.proofs.Builders.{applied-push}

both : (a b : Bool) → (a && b) ≡ true → (a ≡ true) × (b ≡ true)
both true b e = (refl, e)
both false b e = absurd (false≢true e)

-- ---- the family at its parameters

-- the last of the variables that are `at` further out
variables-end : (at p : ℕ) → map (weaken_by at) (variables (suc p)) ≡ map (weaken_by (at + 1)) (variables p) ++ Var at ∷ []
variables-end at zero = ap (λ k. Var k ∷ []) (omega arith)
variables-end at (suc p) = ap₂ ◌∷◌ (ap Var (omega arith)) (variables-end at p)

-- family n at its p parameters, after `at` binders
abbrev head : ℕ → ℕ → ℕ → Term
head n p at = applied (Fam n) (map (weaken_by at) (variables p))

head-more : (n p at : ℕ) → head n (suc p) at ≡ App (head n p (at + 1)) (Var at)
head-more n p at =
    ap (applied (Fam n)) (variables-end at p) ∙ applied-push (Fam n) (map (weaken_by (at + 1)) (variables p)) (Var at)

pub head-is : (n : ℕ) (f : pure.Family) (at : ℕ) → weaken_by at (family_head n f) ≡ head n (length f.parameters) at
head-is n f at = ren-applied (λ k. k + at) (Fam n) (variables (length f.parameters))

variable-tells : (number : ℕ) (t : Term) → is_variable number t ≡ true → t ≡ Var number
variable-tells number (Var n) e = ap Var ((Decides-eqb n number).0 e)
variable-tells number _ e = absurd (false≢true e)

head-tells : (n p at : ℕ) (t : Term) → is_at_parameters n p at t ≡ true → t ≡ head n p at
head-tells n zero at (Fam f) e = ap Fam ((Decides-eqb f n).0 e)
head-tells n (suc p) at (Fam f) e =
    let none : suc p ≡ 0 = (Decides-eqb (suc p) 0).0 (both (suc p == 0) (f == n) e).0 in absurd (omega arith)
head-tells n (suc p) at (App f a) e =
    let parts = both (is_variable at a) (is_at_parameters n p (at + 1) f) e in
    ap₂ App (head-tells n p (at + 1) f parts.1) (variable-tells at a parts.0) ∙ sym (head-more n p at)
head-tells n zero at (App f a) e = absurd (false≢true e)
head-tells n p at _ e = absurd (false≢true e)

head-found : (n p at : ℕ) → is_at_parameters n p at (head n p at) ≡ true
head-found n zero at = (Decides-eqb n n).1 refl
head-found n (suc p) at =
    ap (is_at_parameters n (suc p) at) (head-more n p at)
    ∙ ap₂ ◌&&◌ ((Decides-eqb at at).1 refl) (head-found n p (at + 1))

-- ---- and at its targets

not-tells : (b : Bool) → not b ≡ true → b ≡ false
not-tells true e = sym e
not-tells false e = refl

record EndsIn (n p count at : ℕ) (t : Term) : Type 0 where
  targets : List Term
  form : t ≡ applied (head n p at) targets
  counted : length targets ≡ count
  lack : All (Lacks n) targets

targets-tell : (n p count at : ℕ) (t : Term) → is_at_targets n p count at t ≡ true → EndsIn n p count at t
targets-tell n p zero at t e =
    record { targets = []; form = head-tells n p at t e; counted = refl; lack = All-nil (Lacks n) }
targets-tell n p (suc count) at (App f a) e =
    let parts = both (is_at_targets n p count at f) (not (mentions n a)) e in
    let front = targets-tell n p count at f parts.0 in
    record {
      targets = front.targets ++ a ∷ [];
      form = ap (λ g. App g a) front.form ∙ sym (applied-push (head n p at) front.targets a);
      counted = omega (arith, length-append front.targets (a ∷ []), front.counted);
      lack = All-push (Lacks n) front.targets a front.lack (not-tells (mentions n a) parts.1);
    }
targets-tell n p (suc count) at _ e = absurd (false≢true e)

targets-found : (n p count at : ℕ) (h : Term) (targets : List Term) → is_at_targets n p count at h ≡ true → All (Lacks n) targets → is_at_targets n p (count + length targets) at (applied h targets) ≡ true
targets-found n p count at h [] e all = ap (λ k. is_at_targets n p k at h) (omega arith) ∙ e
targets-found n p count at h (t ∷ ts) e all =
    ap (λ k. is_at_targets n p k at (applied (App h t) ts)) (omega arith)
    ∙ targets-found n p (suc count) at (App h t) ts (ap₂ (λ a b. a && not b) e (All-head (Lacks n) t ts all)) (All-tail (Lacks n) t ts all)

-- the family at targets is no product
end-counts : (n p count at : ℕ) (t : Term) → is_at_targets n p count at t ≡ true → inner_count n p count at t ≡ Some 0
end-counts n p zero at (Pi a b) e = absurd (false≢true e)
end-counts n p (suc count) at (Pi a b) e = absurd (false≢true e)
end-counts n p count at _ e = ap (λ b. if b then Some 0 else None) e

-- ---- the whole type

-- a product over one type more
form-more : (n : ℕ) (f : pure.Family) (at : ℕ) (a : Term) (inner : Telescope) (targets : List Term) → recursive_type Var (weaken_by at (family_head n f)) (a ∷ inner) targets ≡ Pi a (recursive_type Var (weaken_by (at + 1) (family_head n f)) inner targets)
form-more n f at a inner targets =
    ap₂ Pi (inst-var a) (ap₂ (λ s h. recursive_type s h inner targets) ups-same_var (weaken-weaken_by at (family_head n f)))

form-end : (n : ℕ) (f : pure.Family) (at : ℕ) (targets : List Term) → recursive_type Var (weaken_by at (family_head n f)) [] targets ≡ applied (head n (length f.parameters) at) targets
form-end n f at targets = ap₂ applied (head-is n f at) (map-inst-var targets)

zero-more : (k : ℕ) → k ≡ 0 + k
zero-more k = omega arith

-- the number that the test counts for a family
abbrev count_in : ℕ → pure.Family → ℕ → Term → Option ℕ
count_in n f at t = inner_count n (length f.parameters) (length f.indices) at t

-- a type that has the form is found, with the number of its inner arguments
form-counts : (n : ℕ) (f : pure.Family) (at : ℕ) (inner : Telescope) (targets : List Term) (t : Term) → IsRecursiveType n f at inner targets t → count_in n f at t ≡ Some (length inner)
form-counts n f at [] targets t is =
    end-counts n p (length f.indices) at t
    (ap (is_at_targets n p (length f.indices) at) (is.form ∙ form-end n f at targets)
    ∙ (ap (λ k. is_at_targets n p k at (applied (head n p at) targets)) (sym is.target_count ∙ zero-more (length targets))
    ∙ targets-found n p 0 at (head n p at) targets (head-found n p at) is.targets_lack))
  where
    p : ℕ
    p = length f.parameters
form-counts n f at (a ∷ inner) targets t is =
    ap (count_in n f at) (is.form ∙ form-more n f at a inner targets)
    ∙ ap₂ (λ b o. if b then None else option_map suc o) (All-head (Lacks n) a inner is.inner_lacks)
    (form-counts n f (at + 1) inner targets (recursive_type Var (weaken_by (at + 1) (family_head n f)) inner targets)
    (record {
      form = refl;
      inner_lacks = All-tail (Lacks n) a inner is.inner_lacks;
      targets_lack = is.targets_lack;
      target_count = is.target_count;
    }))

-- the form with a number of inner arguments
abbrev HasForm : ℕ → pure.Family → ℕ → ℕ → Term → Type 0
HasForm n f at count t = (inner : Telescope) × (targets : List Term) × (length inner ≡ count) × IsRecursiveType n f at inner targets t

end-form : (n : ℕ) (f : pure.Family) (at count : ℕ) (t : Term) (b : Bool) → is_at_targets n (length f.parameters) (length f.indices) at t ≡ b → (if b then Some 0 else None) ≡ Some count → HasForm n f at count t
end-form n f at count t true e some =
    let end = targets-tell n (length f.parameters) (length f.indices) at t e in (
      [],
      end.targets,
      cc,
      record {
        form = end.form ∙ sym (form-end n f at end.targets);
        inner_lacks = All-nil (Lacks n);
        targets_lack = end.lack;
        target_count = end.counted;
      },
    )
end-form n f at count t false e some = absurd (cc)

product-form : (n : ℕ) (f : pure.Family) (at count : ℕ) (a b : Term) (lacks : Bool) (o : Option ℕ) → mentions n a ≡ lacks → ((k : ℕ) → o ≡ Some k → HasForm n f (at + 1) k b) → (if lacks then None else option_map suc o) ≡ Some count → HasForm n f at count (Pi a b)
product-form n f at count a b true o e rest some = absurd (cc)
product-form n f at count a b false None e rest some = absurd (cc)
product-form n f at count a b false (Some k) e rest some =
    let inside = rest k refl in
    let is = inside.3 in (
      a ∷ inside.0,
      inside.1,
      ap suc inside.2 ∙ cc,
      record {
        form = ap (Pi a) is.form ∙ sym (form-more n f at a inside.0 inside.1);
        inner_lacks = All-cons (Lacks n) a inside.0 e is.inner_lacks;
        targets_lack = is.targets_lack;
        target_count = is.target_count;
      },
    )

-- a term for which the test counts a number has the form
count-tells : (n : ℕ) (f : pure.Family) (at count : ℕ) (t : Term) → count_in n f at t ≡ Some count → HasForm n f at count t
count-tells n f at count (Pi a b) e =
    product-form n f at count a b (mentions n a) (count_in n f (at + 1) b) refl (λ k found. count-tells n f (at + 1) k b found) e
count-tells n f at count t e =
    end-form n f at count t (is_at_targets n (length f.parameters) (length f.indices) at t) refl e

-- the test decides the kind
pub kind-is : (n : ℕ) (f : pure.Family) (at : ℕ) (t : Term) → HasKind n f at (kind_by (inner_count n (length f.parameters) (length f.indices) at t)) t
kind-is n f at t = go (count_in n f at t) refl
  where
    go : (o : Option ℕ) → count_in n f at t ≡ o → HasKind n f at (kind_by o) t
    go None e = λ inner targets is. let found = form-counts n f at inner targets t is in absurd (cc)
    go (Some count) e = count-tells n f at count t e

pub kind-found : (n : ℕ) (f : pure.Family) (at p count : ℕ) (found : Option ℕ) (t : Term) → found ≡ inner_count n p count at t → length f.parameters ≡ p → length f.indices ≡ count → HasKind n f at (kind_by found) t
kind-found n f at p count found t is parameters indices =
    subst (λ k. HasKind n f at (kind_by k) t) (ap₂ (λ i j. inner_count n i j at t) parameters indices ∙ sym is) (kind-is n f at t)

-- and there is no other
pub kind-same : (n : ℕ) (f : pure.Family) (at : ℕ) (kind : ArgKind) (t : Term) → HasKind n f at kind t → kind ≡ kind_by (inner_count n (length f.parameters) (length f.indices) at t)
kind-same n f at Plain t none = go (count_in n f at t) refl
  where
    go : (o : Option ℕ) → count_in n f at t ≡ o → Plain ≡ kind_by o
    go None e = refl
    go (Some count) e = let form = count-tells n f at count t e in absurd (none form.0 form.1 form.3)
kind-same n f at (Recursive count) t form =
    ap kind_by (sym (form-counts n f at form.0 form.1 t form.3 ∙ ap Some form.2))
