-- Arguments of the code and those that they stand for, where their kinds are those of their types.
use Rattle.std.proofs.Common.{◌≡◌, ℕ, zero, suc, ◌+◌, List, [], ◌∷◌, ◌++◌, map, drop, length, refl, ap, ap₂, sym, ◌∙◌, arith, append-nil, append_assoc}
use Rattle.std.proofs.lemmas.List.{length-append}
use Rattle.std.proofs.lemmas.Simd.{map-map}
use Rattle.std.proofs.Math.Seq.{drop-append_seam}
use mathlib.Core.Path.{fun_ext}
use Rattle.theory.specs.Terms.{Term}
use Rattle.theory.specs.Terms.Term.{Var, App, Fam}
use Rattle.theory.specs.Substitutions.{ren, inst, ups, weaken}
use Rattle.theory.specs.Spines.{spine_of}
use Rattle.theory.specs.Telescopes.{Telescope, applied, variables, weaken_by, inst_telescope}
use Rattle.theory.specs.Families as pure
use Rattle.theory.specs.Families.{recursive_type, argument_type, argument_types, family_head, index_types}
use Rattle.theory.proofs.Instances.{inst-var, ups-var, ren-ren, ren-same}
use Rattle.theory.proofs.Instantiation.{inst-weaken, ups_by}
use Rattle.theory.proofs.ScopedTypes.{length-variables}
use Rattle.core_terms.specs.Meanings.{tree_of}
use Rattle.core_sig.specs.Kinds.{IsRecursiveType, HasKind, HaveKinds}
use Rattle.core_sig.specs.Meanings.{domains, behind, argument_with, argument_of, family_of}
use Rattle.core_sig.specs.Shapes.{argument_shape, types_of}
use Rattle.core_sig.specs.declared.family.Family.{Family}
use Rattle.core_sig.specs.declared.family.ArgKind.{ArgKind}
use Rattle.core_sig.specs.declared.family.ArgKind.TheVariants.{Plain, Recursive}
use Rattle.core_sig.specs.declared.family.Arg.{Arg}
use Rattle.core_sig.proofs.EntryInstances.{ren-id, inst-argument_type}

-- ---- splitting the type of a recursive argument

domains-recursive_type : (s : ℕ → Term) (head : Term) (inner : Telescope) (targets : List Term) → domains (length inner) (recursive_type s head inner targets) ≡ inst_telescope s inner
domains-recursive_type s head [] targets = refl
domains-recursive_type s head (a ∷ inner) targets = ap (λ tele. inst s a ∷ tele) (domains-recursive_type (ups s) (weaken head) inner targets)

pub ups-same_var : ups Var ≡ Var
ups-same_var = fun_ext ups-var

pub inst_telescope-var : (tele : Telescope) → inst_telescope Var tele ≡ tele
inst_telescope-var [] = refl
inst_telescope-var (a ∷ tele) = ap₂ ◌∷◌ (inst-var a) (ap (λ s. inst_telescope s tele) ups-same_var ∙ inst_telescope-var tele)

pub map-inst-var : (ts : List Term) → map (inst Var) ts ≡ ts
map-inst-var [] = refl
map-inst-var (t ∷ ts) = ap₂ ◌∷◌ (inst-var t) (map-inst-var ts)

ups_by-var : (k : ℕ) → ups_by k Var ≡ Var
ups_by-var zero = refl
ups_by-var (suc k) = ap (ups_by k) ups-same_var ∙ ups_by-var k

pub spine_of-applied : (head : Term) (ts : List Term) → spine_of (applied head ts) ≡ spine_of head ++ ts
spine_of-applied head [] = sym (append-nil (spine_of head))
spine_of-applied head (t ∷ ts) = spine_of-applied (App head t) ts ∙ append_assoc (spine_of head) (t ∷ []) ts

length-spine_of-ren : (r : ℕ → ℕ) (t : Term) → length (spine_of (ren r t)) ≡ length (spine_of t)
length-spine_of-ren r (App f a) =
    omega (arith, length-append (spine_of (ren r f)) (ren r a ∷ []), length-append (spine_of f) (a ∷ []), length-spine_of-ren r f)
length-spine_of-ren r _ = refl

targets-recursive_type : (s : ℕ → Term) (head : Term) (inner : Telescope) (targets : List Term) (p : ℕ) → length (spine_of head) ≡ p → drop p (spine_of (behind (length inner) (recursive_type s head inner targets))) ≡ map (inst (ups_by (length inner) s)) targets
targets-recursive_type s head [] targets p is =
    ap (drop p) (spine_of-applied head (map (inst s) targets))
    ∙ (ap (λ k. drop k (spine_of head ++ map (inst s) targets)) (sym is) ∙ drop-append_seam (spine_of head) (map (inst s) targets))
targets-recursive_type s head (a ∷ inner) targets p is =
    targets-recursive_type (ups s) (weaken head) inner targets p (length-spine_of-ren suc head ∙ is)

-- a family at its parameters has as many arguments
pub length-spine_of-head : (n : ℕ) (f : pure.Family) (at : ℕ) → length (spine_of (weaken_by at (family_head n f))) ≡ length f.parameters
length-spine_of-head n f at =
    length-spine_of-ren (λ k. k + at) (family_head n f)
    ∙ (ap length (spine_of-applied (Fam n) (variables (length f.parameters))) ∙ length-variables (length f.parameters))

-- an argument of recursive type stands for the recursive argument with its parts
pub argument_with-recursive : (n : ℕ) (f : pure.Family) (at count : ℕ) (inner : Telescope) (targets : List Term) (t : Term) (level : ℕ) → length inner ≡ count → IsRecursiveType n f at inner targets t → argument_with (length f.parameters) t level (Recursive count) ≡ pure.Recursive inner targets level
argument_with-recursive n f at count inner targets t level counted is =
    ap₂ (λ u k. argument_with (length f.parameters) u level (Recursive k)) is.form (sym counted)
    ∙ ap₂ (λ tele ts. pure.Recursive tele ts level)
    (domains-recursive_type Var head inner targets ∙ inst_telescope-var inner)
    (targets-recursive_type Var head inner targets (length f.parameters) (length-spine_of-head n f at)
    ∙ (ap (λ s. map (inst s) targets) (ups_by-var (length inner)) ∙ map-inst-var targets))
  where
    head : Term
    head = weaken_by at (family_head n f)

-- the type of an argument's meaning is its own
pub argument_type-of : (n : ℕ) (f : pure.Family) (at : ℕ) (kind : ArgKind) (t : Term) (level : ℕ) → HasKind n f at kind t → argument_type Var (weaken_by at (family_head n f)) (argument_with (length f.parameters) t level kind) ≡ t
argument_type-of n f at Plain t level is = inst-var t
argument_type-of n f at (Recursive count) t level is =
    ap (argument_type Var (weaken_by at (family_head n f))) (argument_with-recursive n f at count is.0 is.1 t level is.2 is.3)
    ∙ sym (is.3).form

-- ---- the types of arguments

pub weaken-weaken_by : (at : ℕ) (t : Term) → weaken (weaken_by at t) ≡ weaken_by (at + 1) t
weaken-weaken_by at t = ren-ren suc (λ n. n + at) t ∙ ren-same t (λ n. omega arith)

-- the telescope of arguments is that of their types, where the head is an instance of the family at its parameters
pub argument_types-inst : (n : ℕ) (f : pure.Family) (at : ℕ) (s : ℕ → Term) (args : List Arg) → HaveKinds n f at args → argument_types s (inst s (weaken_by at (family_head n f))) (map (argument_of (length f.parameters)) args) ≡ inst_telescope s (types_of (map argument_shape args))
argument_types-inst n f at s [] kinds = refl
argument_types-inst n f at s (a ∷ args) kinds =
    ap₂ ◌∷◌
    (sym (inst-argument_type s Var (weaken_by at (family_head n f)) (argument_of (length f.parameters) a))
    ∙ ap (inst s) (argument_type-of n f at a.kind (tree_of a.ty) a.level kinds.0))
    (ap (λ h. argument_types (ups s) h (map (argument_of (length f.parameters)) args))
    (sym (inst-weaken s (weaken_by at (family_head n f))) ∙ ap (inst (ups s)) (weaken-weaken_by at (family_head n f)))
    ∙ argument_types-inst n f (at + 1) (ups s) args kinds.1)

-- and their own where each variable stands for itself
pub argument_types-of : (n : ℕ) (f : pure.Family) (args : List Arg) → HaveKinds n f 0 args → argument_types Var (family_head n f) (map (argument_of (length f.parameters)) args) ≡ map (λ a. tree_of a.ty) args
argument_types-of n f args kinds =
    ap (λ h. argument_types Var h (map (argument_of (length f.parameters)) args))
    (sym (inst-var (weaken_by 0 (family_head n f)) ∙ ren-id (λ k. k + 0) (family_head n f) (λ k. omega arith)))
    ∙ (argument_types-inst n f 0 Var args kinds ∙ (inst_telescope-var (types_of (map argument_shape args)) ∙ map-map (λ x. x.type) argument_shape args))

-- the types of indices
pub index_types-of : (f : Family) → index_types (family_of f) ≡ map (λ a. tree_of a.ty) f.indices
index_types-of f = map-map (λ (i : Term × ℕ). i.0) (λ (a : Arg). (tree_of a.ty, a.level)) f.indices

pub ruleset index_laws = (index_types-of)
