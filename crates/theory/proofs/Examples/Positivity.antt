-- Families that are positive, and constructors that are refused.
use Rattle.std.proofs.Common.{◌≡◌, ℕ, List, [], ◌∷◌, length, map, refl, arith, true≢false, true, false, ap, sym, ◌∙◌, All}
use Rattle.std.proofs.lemmas.List.Elements.{All-cons, All-nil}
use Rattle.theory.specs.Terms.{Term, Var, Sort, Pi, Lam, App, Let, Fam, Con, Elim}
use Rattle.theory.specs.Substitutions.{inst}
use Rattle.theory.specs.Telescopes.{products, applied, weaken_by}
use Rattle.theory.specs.Families.{Family, Constructor, Argument, Plain, Recursive, IsPositive, IsPositiveArgument, IsPositiveConstructor, Lacks, mentions, constructor_type, argument_types}
use Rattle.theory.proofs.Examples.Forms.{domain_same}
use Rattle.theory.proofs.Examples.Sample.{nat, vec, tree, Nat, suc_of, zero_term, zero_constructor, suc_constructor, nil, cons, node, nat_family, vec_family, tree_family}
use Rattle.theory.proofs.Instances.{inst-var}
use Rattle.theory.proofs.Lists.{only, both}

pub nat_is_positive : IsPositive nat nat_family
nat_is_positive =
    both (IsPositiveConstructor nat) zero_constructor suc_constructor
    (record { arguments = All-nil _; targets = All-nil _ })
    (record { arguments = only (IsPositiveArgument nat) (Recursive [] [] 0) (All-nil _, All-nil _); targets = All-nil _ })

pub vec_is_positive : IsPositive vec vec_family
vec_is_positive =
    both (IsPositiveConstructor vec) nil cons
    (record { arguments = All-nil _; targets = only (Lacks vec) zero_term refl })
    (record {
      arguments =
          All-cons (IsPositiveArgument vec) (Plain Nat 0) (Plain (Var 1) 0 ∷ Recursive [] (Var 1 ∷ []) 0 ∷ []) refl
          (both (IsPositiveArgument vec) (Plain (Var 1) 0) (Recursive [] (Var 1 ∷ []) 0) refl (All-nil _, only (Lacks vec) (Var 1) refl));
      targets = only (Lacks vec) (suc_of (Var 2)) refl;
    })

pub tree_is_positive : IsPositive tree tree_family
tree_is_positive =
    only (IsPositiveConstructor tree) node
    (record { arguments = only (IsPositiveArgument tree) (Recursive (Nat ∷ []) [] 0) (only (Lacks tree) Nat refl, All-nil _); targets = All-nil _ })

-- each symbol of the family is a mention of it, wherever it is
mentioned_anywhere : (mentions nat (Pi (Sort 0) (Lam (Sort 0) (App (Var 0) Nat))) ≡ true) × (mentions nat (Let (Sort 0) (Con nat 1) (Elim vec 0)) ≡ true)
    × (mentions nat (Elim nat 0) ≡ true) × (mentions nat (Pi (Fam vec) (App (Con vec 0) (Elim tree 0))) ≡ false)
mentioned_anywhere = (refl, refl, refl, refl)

-- Bad : Type 0 with one constructor, as entry 5
abbrev bad : ℕ
bad = 5

abbrev bad_family : Constructor → Family
bad_family c = record { name = []; parameters = []; indices = []; level = 0; constructors = c ∷ [] }

no_product : (f u : Term) (spine : List Term) (a b : Term) → applied (App f u) spine ≡ Pi a b → ⊥
no_product f u [] a b e = grind arith
no_product f u (v ∷ spine) a b e = no_product (App f u) v spine a b e

no_family_product : (n : ℕ) (spine : List Term) (a b : Term) → applied (Fam n) spine ≡ Pi a b → ⊥
no_family_product n [] a b e = grind arith
no_family_product n (v ∷ spine) a b e = no_product (Fam n) v spine a b e

mentioned : (t u : Term) → u ≡ t → mentions bad t ≡ true → Lacks bad u → ⊥
mentioned t u e m h = true≢false (sym m ∙ (ap (mentions bad) (sym e) ∙ h))

-- no record whose constructor has the type (Bad -> Empty) -> Bad is positive
bad_argument : (arguments : List Argument) (targets : List Term)
    → products (argument_types Var (Fam bad) arguments) (applied (weaken_by (length arguments) (Fam bad)) targets) ≡ Pi (Pi (Fam bad) (Fam 0)) (Fam bad)
    → All (IsPositiveArgument bad) arguments → ⊥
bad_argument [] targets e h = no_family_product bad targets _ _ e
bad_argument (Plain type level ∷ arguments) targets e h =
    mentioned (Pi (Fam bad) (Fam 0)) type (sym (inst-var type) ∙ domain_same e) refl (h 0 (Plain type level) (omega arith))
bad_argument (Recursive [] js level ∷ arguments) targets e h = no_family_product bad (map (inst Var) js) _ _ (domain_same e)
bad_argument (Recursive (a ∷ inner) js level ∷ arguments) targets e h =
    mentioned (Fam bad) a (sym (inst-var a) ∙ domain_same (domain_same e)) refl ((h 0 (Recursive (a ∷ inner) js level) (omega arith)).0 0 a (omega arith))

bad_is_refused : (c : Constructor) → constructor_type bad (bad_family c) c ≡ Pi (Pi (Fam bad) (Fam 0)) (Fam bad) → IsPositive bad (bad_family c) → ⊥
bad_is_refused c e h = bad_argument c.arguments c.targets e (h 0 c (omega arith)).arguments

-- the family may not be in a target either
target_is_refused : IsPositive bad (bad_family (record { name = []; arguments = []; targets = Fam bad ∷ [] })) → ⊥
target_is_refused h = true≢false ((h 0 (record { name = []; arguments = []; targets = Fam bad ∷ [] }) (omega arith)).targets 0 (Fam bad) (omega arith))
