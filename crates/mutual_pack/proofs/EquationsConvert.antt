-- Both sides of each equation of induction convert.
use Rattle.std.proofs.Common.{◌≡◌, ℕ, zero, suc, ◌+◌, ◌-◌, ◌<◌, ◌≤◌, Bool, true, false, ◌&&◌, cond, List, [], ◌∷◌, ◌++◌, length, Some, option_map, Result, Ok, Err, slice_get, All, refl, ap, ap₂, sym, ◌∙◌, subst, subst₂, arith}
use Rattle.std.proofs.lemmas.List.{length-map}
use Rattle.std.proofs.lemmas.Option.{slice_get-map, slice_get_within}
use Rattle.std.specs.Option.{option_map_or}
use Rattle.theory.specs.Terms.{Term}
use Rattle.theory.specs.Terms.Term.{Var, Sort, Pi, App, Fam, Con, Elim}
use Rattle.theory.specs.Substitutions.{inst, fill}
use Rattle.theory.specs.Telescopes.{Telescope, products, applied}
use Rattle.theory.specs.Families.{Constructor, Family}
use Rattle.theory.specs.Eliminators.{hypotheses, no_variable}
use Rattle.theory.specs.Signatures.{Signature, FamilyOf, IsEntryAt}
use Rattle.theory.specs.Conversion.{IsIotaRedex, Converts}
use Rattle.theory.specs.Conversion.Contracts.{iota}
use Rattle.theory.specs.Conversion.Step.{here}
use Rattle.theory.specs.Conversion.Converts.{same, forwards}
use Rattle.theory.proofs.Congruence.{converts-trans}
use Rattle.theory.proofs.Spines.{applied-append}
use Rattle.core_terms.specs.Answers.{is_low, are_low}
use Rattle.core_terms.specs.Levels.{variable, run, level_at}
use Rattle.core_terms.specs.declared.stop.Stop.{Stop}
use Rattle.core_terms.specs.declared.stop.Stop.TheVariants.{Deep}
use Rattle.core_terms.proofs.Builders.{applied-push}
use Rattle.core_terms.proofs.Placing.{IsPlaced}
use Rattle.core_sig.specs.FamilyShapes.{argument_shapes, constructor_shape, family_shape}
use Rattle.core_sig.specs.Shapes.{ArgumentShape, ConstructorShape}
use Rattle.case_below_gen.specs.CourseLaws.{IsRegular, IsRegularConstructor}
use Rattle.case_below_gen.proofs.Computing.{all-slice_get, length-shapes}
use Rattle.case_below_gen.proofs.Filling.{variable-filled}
use Rattle.case_below_gen.proofs.Functions.{converts-from}
use Rattle.core_sig.specs.Raw.{MutualRaw}
use Rattle.mutual_pack.specs.declared.packed_family.PackedFamily.{PackedFamily}
use Rattle.mutual_pack.specs.EquationLaws.{HasPackedInductions, SidesConvert}
use Rattle.mutual_pack.specs.Equations.{inductions_in, constructor_number, arguments_of, equation_telescope, left_side, right_side, bounded_sides, induction_equation}
use Rattle.mutual_pack.specs.InductionLaws.{HasInductions}
use Rattle.mutual_pack.specs.Inductions.{packed_numbers, packed_number, constructor_at, induction_size, selected_motive, eliminated}
use Rattle.mutual_pack.specs.MutualFamilies.{Packed, all_constructors}
use Rattle.mutual_pack.specs.Packing.{members_of, packed_with}
use Rattle.mutual_pack.proofs.InductionsUnfold.{run-at, induction-unfolds}
use Rattle.mutual_pack.proofs.PackedTypes.{packed-as}
use Rattle.mutual_pack.proofs.RecursionsConvert.{HasTag, levels, level-here, recursions-convert}
use Rattle.mutual_pack.proofs.Runs.{length-run}
use Rattle.mutual_pack.proofs.Tags.{LacksFamily, one-index, packed-tagged}
use Rattle.mutual_pack.proofs.Unfolding.{length-entries}

-- ---- runs

run-gets : (depth start count l : ℕ) → l < count → slice_get (run depth start count) l ≡ Some (variable depth (start + l))
run-gets depth start zero l lt = absurd (omega arith)
run-gets depth start (suc count) zero lt = ap (λ n. Some (variable depth n)) (omega arith)
run-gets depth start (suc count) (suc l) lt = run-gets depth (start + 1) count l (omega arith) ∙ ap (λ n. Some (variable depth n)) (omega arith)

-- the parameters are the variables with the first levels
parameters-placed : (depth p first : ℕ) → p ≤ depth → IsPlaced (levels p first 0) (p + 0) depth (fill no_variable (run depth 0 p))
parameters-placed depth p first low v lt =
    let l = p - (v + 1) in
    let s = fill no_variable (run depth 0 p) in
    let place : p + 0 - (v + 1) ≡ l = omega arith in
    let below : l < p = omega arith in
    let itself : Var v ≡ variable p l = ap Var (omega arith) in
    let level-is : level_at (levels p first 0) (p + 0 - (v + 1)) ≡ 0 + l = ap (level_at (levels p first 0)) place ∙ level-here 0 p l ((first, 0) ∷ []) below in
    let filled = variable-filled no_variable (run depth 0 p) (run depth 0 l) (variable depth (0 + l)) (run depth (0 + l + 1) (p - (l + 1))) p l (run-at depth 0 p l below) (sym (length-run depth 0 p)) (sym (length-run depth 0 l)) in
    (omega arith, ap (inst s) itself ∙ (filled ∙ ap (variable depth) (sym level-is)))

-- ---- the equation of a constructor

module _ (S : Signature) (packed : Packed) (f : Family) (analysis : ℕ) (inductions : List ℕ) (has : HasInductions S packed (family_shape (packed_number packed) f) analysis inductions) (entry : IsEntryAt S (packed_number packed) (FamilyOf f)) (regular : IsRegular (family_shape (packed_number packed) f)) (indices : length f.indices ≡ 1) (tags : All (λ c. All (HasTag (packed_numbers packed (family_shape (packed_number packed) f)).tag (length packed.members)) c.arguments) f.constructors) (k number : ℕ) (c : Constructor) (member : k < length packed.members) (there : slice_get f.constructors number ≡ Some c) where
  abbrev n : ℕ
  n = packed_number packed

  abbrev q : PackedFamily
  q = packed_numbers packed (family_shape n f)

  abbrev arguments : List ArgumentShape
  arguments = argument_shapes n f 0 c.arguments

  abbrev x : ℕ
  x = induction_size q

  abbrev count : ℕ
  count = length arguments

  abbrev depth : ℕ
  depth = x + count

  abbrev ps : List Term
  ps = run depth 0 q.params

  abbrev M : Term
  M = selected_motive q analysis depth

  abbrev ms : List Term
  ms = run depth (q.params + q.members) q.constructors

  abbrev us : List Term
  us = run depth x count

  abbrev method : Term
  method = variable depth (q.params + q.members + number)

  counted : count ≡ length c.arguments
  counted = length-shapes n f 0 c.arguments

  number-low : number < q.constructors
  number-low = let all = length-map f.constructors (constructor_shape n f) in let lt = slice_get_within f.constructors number c there in omega arith

  redex : IsIotaRedex f c ps ms (Con q.tag k ∷ []) ps us
  redex = record {
    parameters = length-run depth 0 q.params;
    methods = length-run depth (q.params + q.members) q.constructors ∙ length-map f.constructors (constructor_shape n f);
    indices = sym indices;
    constructor_parameters = length-run depth 0 q.params;
    arguments = length-run depth x count ∙ counted;
  }

  recursor-is : applied (Elim n q.level) (ps ++ M ∷ ms) ≡ eliminated q analysis depth
  recursor-is = applied-append (Elim n q.level) ps (M ∷ ms)

  eliminated-at : App (eliminated q analysis depth) (Con q.tag k) ≡ applied (Elim n q.level) (ps ++ M ∷ (ms ++ Con q.tag k ∷ []))
  eliminated-at = sym (applied-append (Elim n q.level) ps (M ∷ (ms ++ Con q.tag k ∷ [])) ∙ applied-push (App (applied (Elim n q.level) ps) M) ms (Con q.tag k))

  regular_constructor : IsRegularConstructor q.params (constructor_shape n f c)
  regular_constructor =
      all-slice_get (IsRegularConstructor q.params) (family_shape n f).constructors number (constructor_shape n f c) regular.constructors
      (slice_get-map (constructor_shape n f) f.constructors number ∙ ap (option_map (constructor_shape n f)) there)

  contracted : Converts S (App (App (eliminated q analysis depth) (Con q.tag k)) (constructor_at q number x count depth))
      (applied (applied method us) (hypotheses (fill no_variable ps) (eliminated q analysis depth) c.arguments us))
  contracted =
      converts-trans (converts-from (ap₂ App eliminated-at (sym (applied-append (Con n number) ps us))))
      (forwards (here (iota n q.level number f c ps M ms (Con q.tag k ∷ []) ps us entry there redex (run-gets depth (q.params + q.members) q.constructors number number-low)))
      (converts-from
      (ap (λ R. applied method (us ++ hypotheses (fill no_variable ps) R c.arguments us)) recursor-is
      ∙ applied-append method us (hypotheses (fill no_variable ps) (eliminated q analysis depth) c.arguments us))))

  recursions : Converts S (applied (applied method us) (hypotheses (fill no_variable ps) (eliminated q analysis depth) c.arguments us)) (right_side q inductions number arguments)
  recursions =
      let start : x + 0 ≡ x = omega arith in
      subst (λ vs. Converts S (applied (applied method us) (hypotheses (fill no_variable ps) (eliminated q analysis depth) c.arguments vs)) (right_side q inductions number arguments))
      (ap₂ (λ a b. run depth a b) start (sym counted))
      (recursions-convert S q analysis inductions (λ j deeper y low deep. induction-unfolds S packed (family_shape n f) analysis inductions has j deeper y low deep)
      n f x 0 depth (fill no_variable ps) c.arguments (applied method us) (applied method us) (omega arith) (omega (arith, counted)) (parameters-placed depth q.params x (omega arith))
      (all-slice_get (λ e. All (HasTag q.tag q.members) e.arguments) f.constructors number c tags there) regular_constructor.arguments same)

  equation-converts : Converts S (left_side q inductions k number count) (right_side q inductions number arguments)
  equation-converts =
      converts-trans (induction-unfolds S packed (family_shape n f) analysis inductions has k depth (constructor_at q number x count depth) member (omega arith))
      (converts-trans contracted recursions)

-- ---- the law

-- what is answered are the sides
pub sides-are : (tele : Telescope) (left right : Term) (sides : Telescope × Term × Term) → bounded_sides tele left right ≡ Ok sides → (tele ≡ sides.0) × (left ≡ sides.1) × (right ≡ sides.2)
sides-are tele left right sides e = by (are_low tele && (is_low left && is_low right)) e
  where
    by : (b : Bool) → ◌≡◌ {A = Result (Telescope × Term × Term) Stop} (cond b (Ok (tele, left, right)) (Err Deep)) (Ok sides) → (tele ≡ sides.0) × (left ≡ sides.1) × (right ≡ sides.2)
    by true e = let whole : (tele, left, right) ≡ sides = cc in (ap (λ s. s.0) whole, ap (λ s. s.1) whole, ap (λ s. s.2) whole)
    by false e = absurd cc

-- a constructor that is there
pub constructor-there : (cs : List Constructor) (number : ℕ) → number < length cs → (c : Constructor) × (slice_get cs number ≡ Some c)
constructor-there [] number lt = absurd (omega arith)
constructor-there (c ∷ cs) zero lt = (c, refl)
constructor-there (c ∷ cs) (suc number) lt = constructor-there cs number (omega arith)

-- where what is packed is given by its level
sides-at : (S : Signature) (base l : ℕ) (d : MutualRaw) (f : Family) (analysis : ℕ) → All (LacksFamily (members_of base d)) (all_constructors d.members) → HasPackedInductions S (packed_with (members_of base d) l d) f analysis
    → (member con : ℕ) (sides : Telescope × Term × Term) → member < length (packed_with (members_of base d) l d).members → constructor_number (packed_with (members_of base d) l d).owners member con < length f.constructors
    → induction_equation S (packed_with (members_of base d) l d) f member con ≡ Ok sides → Converts S sides.1 sides.2
sides-at S base l d f analysis lacks has member con sides low within e =
    let g = members_of base d in
    let packed = packed_with g l d in
    let n = packed_number packed in
    let number = constructor_number packed.owners member con in
    let (c, there) = constructor-there f.constructors number within in
    let shape-there = slice_get-map (constructor_shape n f) f.constructors number ∙ ap (option_map (constructor_shape n f)) there in
    let arguments = arguments_of (family_shape n f) number in
    let arguments-are : arguments ≡ argument_shapes n f 0 c.arguments = ap (λ o. option_map_or (λ (c : ConstructorShape). c.arguments) o []) shape-there in
    let q = packed_numbers packed (family_shape n f) in
    let inductions = inductions_in S packed.members in
    let counted = length-entries g l d.parameters 0 d.members in
    let tags = packed-tagged g l d f refl lacks has.parameters has.constructors in
    let tags-are = subst (λ m. All (λ c. All (HasTag g.first m) c.arguments) f.constructors) (sym counted) tags in
    let (tele, left, right) = sides-are (equation_telescope q packed.owners (family_shape n f) arguments) (left_side q inductions member number (length arguments)) (right_side q inductions number arguments) sides e in
    subst₂ (Converts S)
    (ap (λ given. left_side q inductions member number (length given)) (sym arguments-are) ∙ left) (ap (right_side q inductions number) (sym arguments-are) ∙ right)
    (equation-converts S packed f analysis inductions has.inductions has.family has.regular
    (one-index f l (Fam g.first) (has.type ∙ ap (λ tele. products tele (Pi (Fam g.first) (Sort l))) (sym has.parameters)))
    tags-are member number c low there)

pub sides-convert : SidesConvert
sides-convert S base d packed f analysis e lacks has member con sides low within equation =
    let is = packed-as base d packed e in
    let back = sym is.same in
    sides-at S base is.level d f analysis lacks (subst (λ p. HasPackedInductions S p f analysis) back has) member con sides
    (subst (λ p. member < length p.members) back low) (subst (λ p. constructor_number p.owners member con < length f.constructors) back within)
    (subst (λ p. induction_equation S p f member con ≡ Ok sides) back equation)
