-- The comparison of a step by injectivity or conflict is between the members that the rule speaks of.
use Rattle.std.proofs.Common.{◌≡◌, ◌≢◌, ℕ, zero, suc, ◌+◌, ◌-◌, ◌==◌, true, cond, Some, None, option_and_then, List, [], ◌∷◌, ◌++◌, length, map, take, drop, slice_get, refl, sym, ap, ap₂, ◌∙◌, arith}
use Rattle.std.proofs.lemmas.Bool.Decides.{nat_tests}
use Rattle.std.proofs.lemmas.List.{length-append}
use Rattle.std.proofs.Math.Seq.{take-append_seam, drop-append_seam}
use Rattle.theory.specs.Terms.{Term, Fam, Con, lift}
use Rattle.theory.specs.Telescopes.{applied, variables}
use Rattle.theory.specs.Spines.{spine_of}
use Rattle.theory.specs.Families.{Family}
use Rattle.theory.specs.Signatures.{Signature, FamilyOf, IsEntryAt}
use Rattle.theory.proofs.Instances.{ren-ren, ren-same, ren-is_inst, inst-var}
use Rattle.theory.proofs.Shifts.{weaken_by-is_lift}
use Rattle.core_terms.specs.CaseTrees.{Step}
use Rattle.kernel_reduce.specs.Entries.{family_in}
use Rattle.unification.specs.Built.{Built, term_of, with_all, with_spine, built_of}
use Rattle.unification.specs.Groups.{lowered}
use Rattle.unification.specs.Injecting.{lifted}
use Rattle.unification.specs.Paths.{IsBuilt}
use Rattle.unification.specs.States.{State, right_sides}
use Rattle.unification.proofs.Constructors.{one-family}
use Rattle.case_trees.proofs.Arguments.{head-applied, spine-applied}
use Rattle.tree_translation.specs.Comparisons.{Comparison, compared_by, compared_in, compared}

-- ---- constructors

-- a constructor with all its arguments is found as such
pub built-again : (S : Signature) (b : Built) → IsBuilt S b → built_of S (term_of b) ≡ Some b
built-again S b is =
    let us = b.parameters ++ b.arguments in
    ap₂ (with_spine S) (head-applied (Con b.n b.number) us) (spine-applied (Con b.n b.number) us)
    ∙ (ap (option_and_then (λ f. option_and_then (with_all b.n b.number f us) (slice_get f.constructors b.number)))
    (ap (option_and_then family_in) is.family)
    ∙ (ap (option_and_then (with_all b.n b.number b.family us)) is.constructor ∙ whole))
  where
    whole : with_all b.n b.number b.family (b.parameters ++ b.arguments) b.constructor ≡ Some b
    whole =
        let us = b.parameters ++ b.arguments in
        let count = length b.family.parameters in
        let all : (length us == count + length b.constructor.arguments) ≡ true =
        grind (arith, nat_tests, length-append b.parameters b.arguments, is.parameters, is.arguments) in
        ap (λ test. cond test (Some (record b { parameters = take count us; arguments = drop count us })) None) all
        ∙ ap₂ (λ ps vs. Some (record b { parameters = ps; arguments = vs }))
        (ap (λ k. take k us) (sym is.parameters) ∙ take-append_seam b.parameters b.arguments)
        (ap (λ k. drop k us) (sym is.parameters) ∙ drop-append_seam b.parameters b.arguments)

-- ---- parameters of a group

lowered-lifted : (k : ℕ) (t : Term) → lowered k (lift t k 0) ≡ t
lowered-lifted k t =
    ap (lowered k) (sym (weaken_by-is_lift k t))
    ∙ (ren-ren (λ n. n - k) (λ n. n + k) t
    ∙ (ren-same {r = λ n. n + k - k} {q = λ n. n} t (λ n. omega arith)
    ∙ (ren-is_inst (λ n. n) t ∙ inst-var t)))

pub all-lowered : (k : ℕ) (ps : List Term) → map (lowered k) (lifted k ps) ≡ ps
all-lowered k [] = refl
all-lowered k (p ∷ ps) = ap₂ ◌∷◌ (lowered-lifted k p) (all-lowered k ps)

length-variables : (k : ℕ) → length (variables k) ≡ k
length-variables zero = refl
length-variables (suc k) = ap (λ n. suc n) (length-variables k)

-- the parameters of a type at its places
pub group-parameters : (k n : ℕ) (ps : List Term) (type : Term) → type ≡ applied (Fam n) (lifted k ps ++ variables k)
    → map (lowered k) (take (length (spine_of type) - k) (spine_of type)) ≡ ps
group-parameters k n ps type form =
    ap (λ spine. map (lowered k) (take (length spine - k) spine)) (ap spine_of form ∙ spine-applied (Fam n) spine)
    ∙ (ap (map (lowered k)) (ap (λ count. take count spine) count ∙ take-append_seam (lifted k ps) (variables k))
    ∙ all-lowered k ps)
  where
    spine : List Term
    spine = lifted k ps ++ variables k

    count : length (lifted k ps ++ variables k) - k ≡ length (lifted k ps)
    count = let long = length-append (lifted k ps) (variables k) in let last = length-variables k in omega arith

-- ---- comparisons

-- both sides are constructors
pub compared-built : (S : Signature) (s : State) (step : Step) (b d : Built) → IsBuilt S b → IsBuilt S d → step.left ≡ term_of b → step.right ≡ term_of d
    → compared S s step ≡ Some (compared_by s (step.group - 1) step.ty b d)
compared-built S s step b d left right e f =
    ap₂ (compared_in s step) (ap (built_of S) e ∙ built-again S b left) (ap (built_of S) f ∙ built-again S d right)

-- the comparison of a group
pub compared-group : (S : Signature) (s : State) (k : ℕ) (f : Family) (ps : List Term) (type : Term) (b d : Built) → k ≢ 0
    → IsEntryAt S b.n (FamilyOf f) → IsBuilt S b → type ≡ applied (Fam b.n) (lifted k ps ++ variables k)
    → (let c : Comparison = record { n = b.n; family = f; parameters = ps; left = b; right = d; indices = take k (right_sides s.equations) } in
    compared_by s k type b d ≡ c)
compared-group S s zero f ps type b d some there built form = absurd (some refl)
compared-group S s (suc k) f ps type b d some there built form =
    same b.family f _ ps (one-family S b.n b.n b.family f built.family there refl) (group-parameters (suc k) b.n ps type form)
  where
    same : (g g' : Family) (qs qs' : List Term) → g ≡ g' → qs ≡ qs'
        → (let one : Comparison = record { n = b.n; family = g; parameters = qs; left = b; right = d; indices = take (suc k) (right_sides s.equations) } in
        let other : Comparison = record { n = b.n; family = g'; parameters = qs'; left = b; right = d; indices = take (suc k) (right_sides s.equations) } in
        one ≡ other)
    same g g' qs qs' e h = cc
