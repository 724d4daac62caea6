-- A type over more than 2,000 parameters, indices, constructors or arguments is too high.
use Rattle.std.proofs.Common.{◌≡◌, ℕ, ◌+◌, ◌≤◌, List, [], ◌∷◌, length, Result, Ok, Err, codes, ap, sym, arith}
use Rattle.std.proofs.lemmas.List.{length-map}
use Rattle.theory.specs.Terms.{Term, height}
use Rattle.theory.specs.Terms.Term.{Sort, Pi}
use Rattle.theory.specs.Signatures.{Definition}
use Rattle.core_terms.specs.Levels.{variable}
use Rattle.core_terms.specs.Answers.{and_then, bounded}
use Rattle.core_terms.specs.declared.levels.Binder.TheVariants.{Product}
use Rattle.core_terms.specs.declared.stop.Stop.{Stop}
use Rattle.core_terms.specs.declared.stop.Stop.TheVariants.{Deep}
use Rattle.core_terms.proofs.Builders.{height-products}
use Rattle.core_terms.proofs.Placing.{height-over, deep-unless}
use Rattle.core_sig.specs.ByLevels.{family_at, motive_type, conclusion}
use Rattle.core_sig.specs.Shapes.{ConstructorShape, Shape, types_of, HaveFewArguments, IsFew}
use Rattle.case_below_gen.specs.CaseEntries.{branches_over, scrutinee_over, at_scrutinee, case_type, case_term, case_of_shape}
use Rattle.core_sig.specs.Drafts.{Draft, generated_name}

few-branches : (n p motive number depth : ℕ) (cs : List ConstructorShape) (end : Term) → height (branches_over Product n p motive number depth cs end) ≤ 2000
    → HaveFewArguments cs × (length cs + height end ≤ height (branches_over Product n p motive number depth cs end))
few-branches n p motive number depth [] end low = (tt, omega arith)
few-branches n p motive number depth (c ∷ cs) end low =
    let rest = few-branches n p motive (number + 1) (depth + 1) cs end (omega arith) in
    let count = length c.arguments in
    let least = height-over Product ((0, p) ∷ (depth, count) ∷ []) p depth (types_of c.arguments) (conclusion n p motive number depth (depth + count) c) in
    let types = length-map c.arguments (λ a. a.type) in
    let tail = rest.1 in
    ((omega arith, rest.0), omega arith)

few-case : (n : ℕ) (f : Shape) (m : ℕ) → height (case_type n f m) ≤ 2000 → IsFew f
few-case n f m low =
    let p = length f.parameters in
    let k = length f.indices in
    let depth = p + 1 + length f.constructors in
    let end = scrutinee_over Product n f depth (at_scrutinee (depth + k + 1) depth k (variable (depth + k + 1) p)) in
    let branches = branches_over Product n p p 0 (p + 1) f.constructors end in
    let outer = height-products f.parameters (Pi (motive_type n f m p) branches) in
    let motive = height-over Product ((0, p) ∷ (p, k) ∷ []) p p (types_of f.indices) (Pi (family_at n p (p + k) p k) (Sort m)) in
    let types = length-map f.indices (λ a. a.type) in
    let inner = few-branches n p p 0 (p + 1) f.constructors end (omega arith) in
    let tail = inner.1 in
    record { parameters = omega arith; indices = omega arith; constructors = omega arith; arguments = inner.0 }

-- a definition from the answer for its type
abbrev drafted_from : (name : List ℕ) (base : ℕ) (names : List (List ℕ)) (term : Term) → Result Term Stop → Result Draft Stop
drafted_from name base names term type =
    and_then type (λ t. and_then (bounded term) (λ u. Ok (record { entry = Definition name t u; base = base; names = names })))

pub case-deep : (base : ℕ) (name : List ℕ) (n : ℕ) (f : Shape) (m : ℕ) → ¬ IsFew f → Err Deep ≡ case_of_shape base name n f m
case-deep base name n f m many =
    sym (ap (drafted_from (generated_name name (codes "!case.") m) base [] (case_term n f m))
    (deep-unless (case_type n f m) (λ low. many (few-case n f m low))))
