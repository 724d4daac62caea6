-- The prelude, entry by entry.
use Rattle.std.proofs.Common.{◌≡◌, ℕ, zero, suc, ◌+◌, ◌*◌, ◌<◌, ◌≤◌, List, [], ◌∷◌, ◌++◌, map, take, length, Some, slice_get, All, refl, ap, ap₂, sym, ◌∙◌, subst, Bool, add-one, arith}
use Rattle.std.proofs.lemmas.List.{length-take-le}
use Rattle.std.proofs.lemmas.Option.{slice_get_within, get_or_from_slice_get}
use Rattle.std.proofs.Math.Seq.{take-suc}
use Rattle.theory.specs.Terms.{Term, height, top}
use Rattle.theory.specs.Terms.Term.{Var, App, Fam}
use Rattle.theory.specs.Substitutions.{ren, inst}
use Rattle.theory.specs.Spines.{head_of}
use Rattle.theory.specs.Telescopes.{Telescope, applied, weaken_by, variables}
use Rattle.theory.specs.Families as pure
use Rattle.theory.specs.Families.{family_head}
use Rattle.theory.specs.Signatures.{Signature, Entry, FamilyOf, IsEntryAt}
use Rattle.theory.specs.Prelude.{prelude, at_levels, empty_family, equality_family, unit_family, pair_family}
use Rattle.theory.proofs.PreludeWellFormed.{equality_at, unit_at, pair_at}
use Rattle.theory.specs.WellFormed.{pushed, first_entries}
use Rattle.core_sig.specs.Kinds.{IsRecursiveType, HasKind, HaveKinds, HasKinds}
use Rattle.core_terms.specs.Meanings.{tree_of}
use Rattle.core_terms.specs.declared.term.Term as Code
use Rattle.core_sig.specs.Meanings.{family_of}
use Rattle.core_sig.specs.declared.family.ArgKind.TheVariants.{Plain}
use Rattle.core_sig.specs.declared.family.Arg.{Arg}
use Rattle.core_sig.specs.declared.family.Constructor.{Constructor}
use Rattle.core_sig.specs.declared.family.Family.{Family}
use Rattle.std.proofs.lemmas.List.Elements.{All-nil}
use Rattle.std.specs.List.{range_with_len}
use Rattle.theory.proofs.Lists.{only, some_is}
use Rattle.core_sig.specs.EntryIds.{AreLowBehind, type_behind}
use Rattle.core_sig.proofs.ConstructorTypes.{ren-applied}

head_of-applied : (head : Term) (ts : List Term) → head_of (applied head ts) ≡ head_of head
head_of-applied head [] = refl
head_of-applied head (t ∷ ts) = head_of-applied (App head t) ts

head_of-ren : (r : ℕ → ℕ) (n : ℕ) (ts : List Term) → head_of (ren r (applied (Fam n) ts)) ≡ Fam n
head_of-ren r n ts = ap head_of (ren-applied r (Fam n) ts) ∙ head_of-applied (Fam n) (map (ren r) ts)

-- a variable is no recursive type
pub variable_plain : (n : ℕ) (f : pure.Family) (at v : ℕ) (inner : Telescope) (targets : List Term) → ¬ IsRecursiveType n f at inner targets (Var v)
variable_plain n f at v [] targets is =
    let same : Var v ≡ Fam n = ap head_of is.form ∙ (head_of-applied (weaken_by at (family_head n f)) (map (inst Var) targets) ∙ head_of-ren (λ k. k + at) n (variables (length f.parameters))) in
    cc
variable_plain n f at v (a ∷ inner) targets is = let form = is.form in cc

take-next : {X : Type 0} (xs : List X) (n : ℕ) (x : X) → slice_get xs n ≡ Some x → take (n + 1) xs ≡ take n xs ++ x ∷ []
take-next xs n x at =
    ap (λ k. take k xs) (add-one n)
    ∙ (take-suc xs n x (slice_get_within xs n x at) ∙ ap (λ y. take n xs ++ y ∷ []) (get_or_from_slice_get xs n x x at))

-- the entries up to the next one
pub first_entries-push : (S : Signature) (n : ℕ) (e : Entry) → IsEntryAt S n e → pushed (first_entries S n) e ≡ first_entries S (n + 1)
first_entries-push S n e at = ap (λ (es : List Entry). record { entries = es; has_k = S.has_k }) (sym (take-next S.entries n e at))

-- the first m entries of the prelude say whether K is on, and how many they are
pub first-are : (k : Bool) (m : ℕ) (S : Signature) → m ≤ length (prelude k).entries → S ≡ first_entries (prelude k) m → (S.has_k ≡ k) × (length S.entries ≡ m)
first-are k m S le so_far =
    (ap (λ (s : Signature). s.has_k) so_far, ap (λ (s : Signature). length s.entries) so_far ∙ length-take-le m (prelude k).entries le)

pub so_far-at : (k : Bool) (m : ℕ) (S : Signature) → m ≤ length (prelude k).entries → S ≡ first_entries (prelude k) m → S ≡ first_entries (prelude S.has_k) (length S.entries)
so_far-at k m S le so_far =
    let are = first-are k m S le so_far in
    so_far ∙ ap₂ (λ j n. first_entries (prelude j) n) (sym are.0) (sym are.1)

-- a family with one constructor of two plain arguments that are variables has the kinds of its types
pub pair_kinds : (n : ℕ) (f : Family) (con : Constructor) (a b : Arg) (v w i j : ℕ) → f.indices ≡ [] → f.cons ≡ con ∷ [] → con.args ≡ a ∷ b ∷ [] → a ≡ record { ty = Code.Var v; level = i; kind = Plain } → b ≡ record { ty = Code.Var w; level = j; kind = Plain } → HasKinds n f
pair_kinds n f con a b v w i j indices cons args is_a is_b = record {
  indices = subst (All (λ k. k.kind ≡ Plain)) (sym indices) (All-nil (λ (k : Arg). k.kind ≡ Plain));
  constructors = subst (All Kinds) (sym cons) (only Kinds con (subst (HaveKinds n (family_of f) 0) (sym args) (plain a v i 0 is_a, (plain b w j 1 is_b, tt))));
}
  where
    Kinds : Constructor → Type 0
    Kinds c = HaveKinds n (family_of f) 0 c.args

    plain : (x : Arg) (u l at : ℕ) → x ≡ record { ty = Code.Var u; level = l; kind = Plain } → HasKind n (family_of f) at x.kind (tree_of x.ty)
    plain x u l at is = subst (λ (y : Arg). HasKind n (family_of f) at y.kind (tree_of y.ty)) (sym is) (variable_plain n (family_of f) at u)

-- the families Eq.i, Unit.i and Pair.i by their numbers
pub equality_number : (k : Bool) (n i : ℕ) → i < top → suc i ≡ n → IsEntryAt (prelude k) n (FamilyOf (equality_family i))
equality_number k n i lt at = subst (λ m. IsEntryAt (prelude k) m (FamilyOf (equality_family i))) at (equality_at top i lt)

pub unit_number : (k : Bool) (n i : ℕ) → i < top → top + 1 + i ≡ n → IsEntryAt (prelude k) n (FamilyOf (unit_family i))
unit_number k n i lt at = subst (λ m. IsEntryAt (prelude k) m (FamilyOf (unit_family i))) at (unit_at top i lt)

pub pair_number : (k : Bool) (n i : ℕ) → i < top → 2 * top + 1 + i ≡ n → IsEntryAt (prelude k) n (FamilyOf (pair_family i))
pair_number k n i lt at = subst (λ m. IsEntryAt (prelude k) m (FamilyOf (pair_family i))) at (pair_at top i lt)

-- P holds of each element of a list
abbrev Each : {X : Type 0} → (X → Type 0) → List X → Type 0
Each {X} P xs = (n : ℕ) (x : X) → slice_get xs n ≡ Some x → P x

each-append : {X : Type 0} (P : X → Type 0) (xs ys : List X) → Each P xs → Each P ys → Each P (xs ++ ys)
each-append P [] ys first second n y at = second n y at
each-append P (x ∷ xs) ys first second zero y at = first zero y at
each-append P (x ∷ xs) ys first second (suc n) y at = each-append P xs ys (λ m z there. first (suc m) z there) second n y at

each-family : (P : Entry → Type 0) (family : ℕ → pure.Family) → ((i : ℕ) → P (FamilyOf (family i))) → (is : List ℕ) → Each P (map (λ i. FamilyOf (family i)) is)
each-family P family all [] n e at = absurd cc
each-family P family all (i ∷ is) zero e at = subst P (some_is at) (all i)
each-family P family all (i ∷ is) (suc n) e at = each-family P family all is n e at

abbrev IsLowEntry : ℕ → Entry → Type 0
IsLowEntry m (FamilyOf f) = AreLowBehind m f
IsLowEntry m _ = Unit {0}

-- the types of the prelude's constructors are low behind the parameters
pub prelude-low : (k : Bool) (n m : ℕ) (f : pure.Family) → IsEntryAt (prelude k) n (FamilyOf f) → AreLowBehind m f
prelude-low k n m f at =
    each-append (IsLowEntry m) (FamilyOf empty_family ∷ []) (at_levels equality_family ++ (at_levels unit_family ++ at_levels pair_family)) none
    (each-append (IsLowEntry m) (at_levels equality_family) (at_levels unit_family ++ at_levels pair_family)
    (each-family (IsLowEntry m) equality_family (λ i. only (IsLow (equality_family i)) _ (omega arith)) (range_with_len 0 top))
    (each-append (IsLowEntry m) (at_levels unit_family) (at_levels pair_family)
    (each-family (IsLowEntry m) unit_family (λ i. only (IsLow (unit_family i)) _ (omega arith)) (range_with_len 0 top))
    (each-family (IsLowEntry m) pair_family (λ i. only (IsLow (pair_family i)) _ (omega arith)) (range_with_len 0 top))))
    n (FamilyOf f) at
  where
    IsLow : pure.Family → pure.Constructor → Type 0
    IsLow g c = height (type_behind m g c) ≤ 2000

    none : Each (IsLowEntry m) (FamilyOf empty_family ∷ [])
    none zero e there = subst (IsLowEntry m) (some_is there) (All-nil (IsLow empty_family))
    none (suc i) e there = absurd cc
