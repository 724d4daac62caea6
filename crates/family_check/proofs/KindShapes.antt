-- The kind of an argument says how it is taken from its type.
use Rattle.std.proofs.Common.{◌≡◌, ℕ, ◌+◌, Bool, true, false, cond, not, ◌&&◌, ◌==◌, Option, Some, None, IfSome, option_map, List, [], ◌∷◌, ◌++◌, length, drop, All, refl, ap, ap₂, sym, ◌∙◌, append-nil, arith}
use Rattle.std.specs.Option.{is_some}
use Rattle.std.proofs.lemmas.Bool.Decides.{Decides-eqb}
use Rattle.std.proofs.lemmas.List.Elements.{All-head, All-tail}
use Rattle.std.proofs.Math.Seq.{drop-append_seam}
use native.Mathlib.Decide.{ℕ_discrete}
use Rattle.theory.specs.Terms.{Term, Term-discrete}
use Rattle.theory.specs.Terms.Term.{Pi, App, Fam}
use Rattle.theory.specs.Substitutions.{ren}
use Rattle.theory.specs.Spines.{spine_of}
use Rattle.theory.specs.Telescopes.{Telescope, products, applied, weaken_by, variables}
use Rattle.theory.specs.Families.{Family, Lacks, family_head}
use Rattle.core_sig.specs.Kinds.{HasKind, IsRecursiveType}
use Rattle.core_sig.specs.Meanings.{argument_with}
use Rattle.core_sig.specs.declared.family.ArgKind.{ArgKind}
use Rattle.core_sig.specs.declared.family.ArgKind.TheVariants.{Plain, Recursive}
use Rattle.core_sig.proofs.Arguments.{argument_with-recursive, length-spine_of-head, spine_of-applied}
use Rattle.kernel_reduce.specs.Comparison.{same}
use Rattle.core_terms.specs.Telescopes.{domains_of, end_of}
use Rattle.core_terms.proofs.LeadingProducts.{domains-products, end-products, is_product, domains-ended, end-ended}
use Rattle.family_check.specs.Shapes.{all_lack, targets_of, recursive_parts, argument_of}
use Rattle.family_check.specs.Kinds.{is_recursive}
use Rattle.family_check.proofs.Shapes.{IsEnd, recursive_type-products, recursive-found, weaken_by-more}

all-lacks : (n : ℕ) (ts : List Term) → All (Lacks n) ts → all_lack n ts ≡ true
all-lacks n [] h = refl
all-lacks n (t ∷ ts) h =
    ap₂ (λ a b. not a && b) (All-head (Lacks n) t ts h) (all-lacks n ts (All-tail (Lacks n) t ts h))

product-ren : (r : ℕ → ℕ) (t : Term) → is_product (ren r t) ≡ is_product t
product-ren r (Pi a b) = refl
product-ren r _ = refl

product-applied : (f : Term) (ts : List Term) → is_product f ≡ false → is_product (applied f ts) ≡ false
product-applied f [] h = h
product-applied f (t ∷ ts) h = product-applied (App f t) ts refl

-- a family at arguments, some binders further in, is no product
family-ended : (n : ℕ) (f : Family) (k j : ℕ) (ts : List Term) → is_product (applied (weaken_by j (weaken_by k (family_head n f))) ts) ≡ false
family-ended n f k j ts =
    product-applied (weaken_by j (weaken_by k (family_head n f))) ts
    (product-ren (λ m. m + j) (weaken_by k (family_head n f))
    ∙ (product-ren (λ m. m + k) (family_head n f)
    ∙ product-applied (Fam n) (variables (length f.parameters)) refl))

same-itself : (t : Term) → same t t ≡ true
same-itself t = by_case (Term-discrete ℕ_discrete t t)
  where
    by_case : (d : Dec (t ≡ t)) → elim d [ yes e ↦ true | no e ↦ false ] ≡ true
    by_case (yes e) = refl
    by_case (no e) = absurd (e refl)

pub spine-drops : (n : ℕ) (f : Family) (k : ℕ) (targets : List Term)
    → drop (length f.parameters) (spine_of (applied (weaken_by k (family_head n f)) targets)) ≡ targets
spine-drops n f k targets =
    ap (drop (length f.parameters)) (spine_of-applied (weaken_by k (family_head n f)) targets)
    ∙ (ap (λ p. drop p (spine_of (weaken_by k (family_head n f)) ++ targets)) (sym (length-spine_of-head n f k))
    ∙ drop-append_seam (spine_of (weaken_by k (family_head n f))) targets)

-- the targets that the test of an end finds
found : ℕ → Family → ℕ → Term → List Term → Option (List Term)
found n f k t ts = cond (same t (applied (weaken_by k (family_head n f)) ts) && (length ts == length f.indices && all_lack n ts)) (Some ts) None

pub targets-are : (n : ℕ) (f : Family) (k : ℕ) (t : Term) (targets : List Term) → IsEnd n f k t targets → targets_of n f k t ≡ Some targets
unfolding found
targets-are n f k t targets is =
    ap (found n f k t) (ap (λ u. drop (length f.parameters) (spine_of u)) is.form ∙ spine-drops n f k targets)
    ∙ ap (λ b. cond b (Some targets) None)
    (ap₂ (λ a b. a && b) (ap (same t) (sym is.form) ∙ same-itself t)
    (ap₂ (λ a b. a && b) ((Decides-eqb (length targets) (length f.indices)).1 is.count) (all-lacks n targets is.lack)))

-- the parts of a type with the given domains and end
parts_by : ℕ → Family → ℕ → Telescope → Term → Option (Telescope × List Term)
parts_by n f k inner end = cond (all_lack n inner) (option_map (λ targets. (inner, targets)) (targets_of n f (k + length inner) end)) None

pub recursive-are : (n : ℕ) (f : Family) (k : ℕ) (inner : Telescope) (targets : List Term) (t : Term) → IsRecursiveType n f k inner targets t
    → recursive_parts n f k t ≡ Some (inner, targets)
unfolding parts_by
recursive-are n f k inner targets t is =
    let h = weaken_by (length inner) (weaken_by k (family_head n f)) in
    let form : t ≡ products inner (applied h targets) = is.form ∙ recursive_type-products (weaken_by k (family_head n f)) inner targets in
    let ended = family-ended n f k (length inner) targets in
    let domains : domains_of t ≡ inner =
    ap domains_of form ∙ (domains-products inner (applied h targets) ∙ (ap (λ ts. inner ++ ts) (domains-ended (applied h targets) ended) ∙ append-nil inner)) in
    let end : end_of t ≡ applied (weaken_by (k + length inner) (family_head n f)) targets =
    ap end_of form ∙ (end-products inner (applied h targets)
    ∙ (end-ended (applied h targets) ended ∙ ap (λ g. applied g targets) (weaken_by-more k (length inner) (family_head n f)))) in
    let at : targets_of n f (k + length inner) (end_of t) ≡ Some targets =
    targets-are n f (k + length inner) (end_of t) targets (record { form = end; count = is.target_count; lack = is.targets_lack }) in
    ap (λ d. parts_by n f k d (end_of t)) domains
    ∙ ap₂ (λ b o. cond b (option_map (λ ts. (inner, ts)) o) None) (all-lacks n inner is.inner_lacks) at

pub plain-are : (n : ℕ) (f : Family) (k : ℕ) (t : Term) → ((inner : Telescope) (targets : List Term) → ¬ IsRecursiveType n f k inner targets t)
    → recursive_parts n f k t ≡ None
plain-are n f k t h = by_case (recursive_parts n f k t) refl (recursive-found n f k t)
  where
    by_case : (o : Option (Telescope × List Term)) → recursive_parts n f k t ≡ o → IfSome o (λ p. IsRecursiveType n f k p.0 p.1 t) → recursive_parts n f k t ≡ None
    by_case None e is = e
    by_case (Some p) e is = absurd (h p.0 p.1 is)

-- the kind of an argument says whether it has the parts of a recursive one
pub kind-tells : (n : ℕ) (f : Family) (k : ℕ) (kind : ArgKind) (t : Term) → HasKind n f k kind t → is_some (recursive_parts n f k t) ≡ is_recursive kind
kind-tells n f k Plain t h = ap is_some (plain-are n f k t h)
kind-tells n f k (Recursive count) t h = ap is_some (recursive-are n f k h.0 h.1 t h.3)

-- and how it is taken from its type
pub kind-takes : (n : ℕ) (f : Family) (k : ℕ) (kind : ArgKind) (t : Term) (level : ℕ) → HasKind n f k kind t
    → argument_with (length f.parameters) t level kind ≡ argument_of t level (recursive_parts n f k t)
kind-takes n f k Plain t level h = ap (argument_of t level) (sym (plain-are n f k t h))
kind-takes n f k (Recursive count) t level h =
    argument_with-recursive n f k count h.0 h.1 t level h.2 h.3 ∙ ap (argument_of t level) (sym (recursive-are n f k h.0 h.1 t h.3))

-- that of an end says whether there are targets
pub end-tells : (n : ℕ) (f : Family) (k : ℕ) (kind : ArgKind) (t : Term) → is_product t ≡ false → HasKind n f k kind t
    → is_some (targets_of n f k t) ≡ is_recursive kind
unfolding parts_by
end-tells n f k kind t ended h =
    mapped (targets_of n f k t)
    ∙ (ap (λ j. is_some (option_map (pair []) (targets_of n f j t))) (let e : k ≡ k + length {A = Term} [] = omega arith in e)
    ∙ (ap₂ (λ d u. is_some (parts_by n f k d u)) (sym (domains-ended t ended)) (sym (end-ended t ended))
    ∙ kind-tells n f k kind t h))
  where
    pair : Telescope → List Term → Telescope × List Term
    pair inner targets = (inner, targets)

    mapped : (o : Option (List Term)) → is_some o ≡ is_some (option_map (pair []) o)
    mapped (Some ts) = refl
    mapped None = refl

-- where there are targets, they are the arguments after the parameters
pub targets-behind : (n : ℕ) (f : Family) (k : ℕ) (t : Term) → is_some (targets_of n f k t) ≡ true → targets_of n f k t ≡ Some (drop (length f.parameters) (spine_of t))
targets-behind n f k t h = by_case _ h
  where
    by_case : (b : Bool) → is_some (cond b (Some (drop (length f.parameters) (spine_of t))) None) ≡ true
        → cond b (Some (drop (length f.parameters) (spine_of t))) None ≡ Some (drop (length f.parameters) (spine_of t))
    by_case true e = refl
    by_case false e = absurd (grind arith)
