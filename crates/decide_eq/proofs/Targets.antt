-- The family into which equality is decided, as a family of the theory: its first constructor has one plain argument.
use Rattle.std.proofs.Common.{◌≡◌, ℕ, ◌==◌, true, false, ◌&&◌, Option, Some, None, List, [], ◌∷◌, ◌++◌, map, length, slice_get, Ok, ◌+◌, refl, ap, sym, ◌∙◌, arith}
use Rattle.std.specs.Option.{option_map_or}
use Rattle.std.specs.Prelude.{option_and_then}
use Rattle.std.proofs.lemmas.Bool.Decides.{nat_tests}
use Rattle.std.proofs.lemmas.Bool.{and_parts}
use Rattle.std.proofs.lemmas.List.{length-map}
use Rattle.theory.specs.Terms.{Term}
use Rattle.theory.specs.Terms.Term.{Var, App, Fam, Elim, Con}
use Rattle.theory.specs.Substitutions.{inst, ren}
use Rattle.theory.specs.Telescopes.{Telescope, applied, variables, weaken_by}
use Rattle.theory.specs.Families.{Argument, Plain, Recursive, Constructor, Family, family_head, recursive_type}
use Rattle.theory.specs.Eliminators.{hypotheses, no_variable}
use Rattle.theory.specs.Substitutions.{fill}
use Rattle.theory.specs.Signatures.{Signature, Entry, FamilyOf, EliminatorAt, AxiomKAt, Definition, IsEntryAt}
use Rattle.theory.specs.Conversion.{IsIotaRedex, Converts}
use Rattle.theory.specs.Conversion.Contracts.{iota}
use Rattle.theory.specs.Conversion.Step.{here}
use Rattle.theory.specs.Conversion.Converts.{forwards}
use Rattle.core_sig.specs.FamilyShapes.{argument_shapes, constructor_shape, family_shape}
use Rattle.kernel_reduce.specs.Entries.{family_in}
use Rattle.case_below_gen.proofs.Functions.{converts-from}
use Rattle.decide_eq.specs.PlainFamilies.{Known, is_claim, is_refutation, has_only, proves_or_refutes, has_one_universe, is_decision, is_decision_at, plain_family}
use Rattle.decide_eq.proofs.PlainShapes.{at-family, plain-shape, passed}

pub record IsTarget (S : Signature) (into : ℕ) : Type 0 where
  pub family : Family
  pub there : IsEntryAt S into (FamilyOf family)
  pub first : Constructor
  pub at : slice_get family.constructors 0 ≡ Some first
  pub type : Term
  pub level : ℕ
  pub plain : first.arguments ≡ Plain type level ∷ []
  pub parameters : length family.parameters ≡ 1
  pub indices : length family.indices ≡ 0
  pub constructors : length family.constructors ≡ 2

-- ---- a recursive argument is not the parameter

applied-no-claim : (h : Term) (ts : List Term) → is_claim h ≡ false → is_claim (applied h ts) ≡ false
applied-no-claim h [] none = none
applied-no-claim h (t ∷ ts) none = applied-no-claim (App h t) ts refl

renamed-no-claim : (r : ℕ → ℕ) (h : Term) (ts : List Term) → is_claim (ren r h) ≡ false → is_claim (ren r (applied h ts)) ≡ false
renamed-no-claim r h [] none = none
renamed-no-claim r h (t ∷ ts) none = renamed-no-claim r (App h t) ts refl

recursive-no-claim : (head : Term) (inner : Telescope) (targets : List Term) → is_claim head ≡ false → is_claim (recursive_type Var head inner targets) ≡ false
recursive-no-claim head [] targets none = applied-no-claim head (map (inst Var) targets) none
recursive-no-claim head (b ∷ inner) targets none = refl

head-no-claim : (n : ℕ) (f : Family) → is_claim (weaken_by 0 (family_head n f)) ≡ false
head-no-claim n f = renamed-no-claim (λ k. k + 0) (Fam n) (variables (length f.parameters)) refl

record IsOnly (arguments : List Argument) : Type 0 where
  type : Term
  level : ℕ
  is : arguments ≡ Plain type level ∷ []

only-plain : (n : ℕ) (f : Family) (arguments : List Argument) → has_only is_claim (argument_shapes n f 0 arguments) ≡ true → IsOnly arguments
only-plain n f [] h = absurd cc
only-plain n f (Plain type level ∷ []) h = record { type = type; level = level; is = refl }
only-plain n f (Recursive inner targets level ∷ []) h =
    let none = recursive-no-claim (weaken_by 0 (family_head n f)) inner targets (head-no-claim n f) in absurd cc
only-plain n f (a ∷ b ∷ arguments) h = absurd cc

-- ---- the family

record IsPair (n : ℕ) (f : Family) (cs : List Constructor) : Type 0 where
  first : Constructor
  at : slice_get cs 0 ≡ Some first
  only : IsOnly first.arguments
  count : length cs ≡ 2

pair-of : (n : ℕ) (f : Family) (cs : List Constructor) → proves_or_refutes (map (constructor_shape n f) cs) ≡ true → IsPair n f cs
pair-of n f [] h = absurd cc
pair-of n f (a ∷ []) h = absurd cc
pair-of n f (a ∷ b ∷ []) h =
    let one = (and_parts (has_only is_claim (constructor_shape n f a).arguments) (has_only is_refutation (constructor_shape n f b).arguments) h).0 in
    record { first = a; at = refl; only = only-plain n f a.arguments one; count = refl }
pair-of n f (a ∷ b ∷ c ∷ cs) h = absurd cc

one-universe : (l : ℕ) (parameters : List Term) → has_one_universe l parameters ≡ true → length parameters ≡ 1
one-universe l [] h = absurd cc
one-universe l (a ∷ []) h = refl
one-universe l (a ∷ b ∷ parameters) h = absurd cc

target-of : (S : Signature) (l into : ℕ) (e : Family) → IsEntryAt S into (FamilyOf e) → is_decision l (family_shape into e) ≡ true → IsTarget S into
target-of S l into e at is =
    let g = family_shape into e in
    let universe = has_one_universe l g.parameters in
    let indices = length g.indices == 0 in
    let level = g.level == l in
    let constructors = proves_or_refutes g.constructors in
    let first = and_parts universe (indices && (level && constructors)) is in
    let second = and_parts indices (level && constructors) first.1 in
    let third = and_parts level constructors second.1 in
    let pair = pair-of into e e.constructors third.1 in
    let none : length g.indices ≡ 0 = grind (arith, nat_tests, second.0) in
    record {
      family = e;
      there = at;
      first = pair.first;
      at = pair.at;
      type = pair.only.type;
      level = pair.only.level;
      plain = pair.only.is;
      parameters = one-universe l g.parameters first.0;
      indices = sym (length-map e.indices _) ∙ none;
      constructors = pair.count;
    }

target-at : (S : Signature) (l into : ℕ) → is_decision_at S l into ≡ true → IsTarget S into
target-at S l into is = by (slice_get S.entries into) refl is
  where
    by : (o : Option Entry) → slice_get S.entries into ≡ o → option_map_or (λ f. is_decision l (family_shape into f)) (option_and_then family_in o) false ≡ true → IsTarget S into
    by (Some (FamilyOf e)) at h = target-of S l into e at h
    by (Some (EliminatorAt n m)) at h = absurd cc
    by (Some (AxiomKAt i m)) at h = absurd cc
    by (Some (Definition name type body)) at h = absurd cc
    by None at h = absurd cc

pub target-there : (S : Signature) (n into : ℕ) (known : Known) (f : Family) → IsEntryAt S n (FamilyOf f) → plain_family S n into known ≡ Ok tt → IsTarget S into
target-there S n into known f at plain =
    target-at S f.level into (passed S into known (family_shape n f) (plain-shape S n into known f (at-family S n f at) plain)).decision

-- a proof taken apart
pub proof-iota : (S : Signature) (into l : ℕ) (A P M R claim e : Term) → IsTarget S into → Converts S (App (App (App (App (App (Elim into l) A) P) M) R) (App (App (Con into 0) claim) e)) (App M e)
proof-iota S into l A P M R claim e is =
    let redex : IsIotaRedex is.family is.first (A ∷ []) (M ∷ R ∷ []) [] (claim ∷ []) (e ∷ []) =
    record { parameters = sym is.parameters; methods = sym is.constructors; indices = sym is.indices; constructor_parameters = sym is.parameters; arguments = sym (ap length is.plain) } in
    forwards (here (iota into l 0 is.family is.first (A ∷ []) P (M ∷ R ∷ []) [] (claim ∷ []) (e ∷ []) is.there is.at redex refl))
    (converts-from (ap (λ arguments. applied M ((e ∷ []) ++ hypotheses (fill no_variable (A ∷ [])) (applied (Elim into l) ((A ∷ []) ++ P ∷ (M ∷ R ∷ []))) arguments (e ∷ []))) is.plain))
