-- The terms of an injectivity are low, as the definition of a turn has tested: then the code makes the standing after it.
use Rattle.std.proofs.Common.{◌≡◌, ℕ, ◌+◌, ◌≤◌, nat_le, ◌&&◌, true, cond, List, length, map, Result, Ok, Err, refl, ap, ap₂, ◌∙◌, subst as transport, arith}
use Rattle.std.proofs.lemmas.Bool.{eq-eqb}
use Rattle.std.proofs.lemmas.Bool.Decides.{nat_tests}
use Rattle.std.proofs.lemmas.List.{length-map}
use Rattle.theory.specs.Terms.{Term}
use Rattle.theory.specs.Substitutions.{inst}
use Rattle.theory.specs.Telescopes.{variables}
use Rattle.theory.specs.Families.{Family}
use Rattle.core_terms.specs.Answers.{and_then}
use Rattle.core_terms.specs.declared.stop.Stop.{Stop}
use Rattle.core_terms.specs.declared.stop.Stop.TheVariants.{Deep}
use Rattle.tele_eq.specs.Congruences.{congruences}
use Rattle.tele_eq.specs.Items.{Item}
use Rattle.tele_eq.specs.TelescopicEquality.{equations}
use Rattle.tele_eq.proofs.Carrying.{ups_by}
use Rattle.unification.specs.Built.{Built}
use Rattle.unification.specs.Heights.{are_low_items}
use Rattle.unification.specs.Injecting.{lifted, group_proofs}
use Rattle.unification.specs.Records.{argument_items, constructor_terms, family_items}
use Rattle.unification.specs.States.{Equation}
use Rattle.unification.proofs.Constructors.{instance_of}
use Rattle.unification.proofs.ScopedRecords.{length-argument_items, length-family_items}
use Rattle.problems.specs.CodeInjections.{equations_joined}
use Rattle.problems.specs.Conditions.{AreLow}
use Rattle.problems.proofs.LowTerms.{terms-low}
use Rattle.tree_translation.specs.Comparisons.{Comparison}
use Rattle.tree_translation.specs.Replays.{injected_standing, with_state}
use Rattle.tree_translation.specs.Standings.{Standing}
use Rattle.tree_translation.proofs.RecordInstances.{argument-instance, constructor-instance, family-instance, lifted-instance}
use Rattle.run_terms.specs.CodeInjections.{arguments_of, group_made, standing_made, terms_at}
use Rattle.run_terms.specs.CodeRuns.{injected_one}
use Rattle.run_terms.specs.Made.{are_low_sides, congruences_made, equations_made, is_low_map}
use Rattle.entry_laws.proofs.replay_laws.LowInstances.{IsFlat, flat-under, low-instance, low-instances, low-lifted, low-variables}
use Rattle.entry_laws.proofs.replay_laws.ReplayedSteps.{joined-is}

-- how many arguments the constructor has, and the parameters after the equations of the arguments
abbrev pub count_of : Comparison → ℕ
count_of c = length c.left.constructor.arguments

abbrev pub further_parameters : Comparison → List Term
further_parameters c = lifted (count_of c) c.parameters

pub record IsLowComparison (c : Comparison) : Type 0 where
  pub whole : length c.parameters ≡ length c.family.parameters
  pub few : length c.left.constructor.arguments ≤ 1000
  pub indices : length c.family.indices + 1 ≤ 1000
  pub items : are_low_items (argument_items c.n c.parameters c.left.constructor) ≡ true
  pub further : are_low_items (argument_items c.n (further_parameters c) c.left.constructor) ≡ true
  pub members : are_low_items (family_items c.n c.family (further_parameters c)) ≡ true
  pub terms : AreLow (constructor_terms c.n c.left.number (further_parameters c) c.left.constructor)
  pub left : AreLow c.left.arguments
  pub right : AreLow c.right.arguments

-- ---- instances

abbrev pub comparison_of : (n : ℕ) → Family → (ps : List Term) (b d : Built) (indices : List Term) → Comparison
comparison_of n f ps b d indices = record { n = n; family = f; parameters = ps; left = b; right = d; indices = indices }

-- a low comparison is low over another context, where variables are put for variables
pub low-comparison : (q : ℕ → Term) (n : ℕ) (f : Family) (ps : List Term) (b d : Built) (indices others : List Term) → IsFlat q
    → IsLowComparison (comparison_of n f ps b d indices)
    → IsLowComparison (comparison_of n f (map (inst q) ps) (instance_of q b) (instance_of q d) others)
low-comparison q n f ps b d indices others flat low = record {
  whole = length-map ps (inst q) ∙ low.whole;
  few = low.few;
  indices = low.indices;
  items =
      low-instance q (argument_items n ps b.constructor) (argument_items n (map (inst q) ps) b.constructor) flat (argument-instance q n ps b.constructor)
      low.items;
  further =
      transport (λ qs. are_low_items (argument_items n qs b.constructor) ≡ true) same
      (low-instance q' (argument_items n ps' b.constructor) (argument_items n (map (inst q') ps') b.constructor) flat'
      (argument-instance q' n ps' b.constructor) low.further);
  members =
      transport (λ qs. are_low_items (family_items n f qs) ≡ true) same
      (low-instance q' (family_items n f ps') (family_items n f (map (inst q') ps')) flat' (family-instance q' n f ps') low.members);
  terms =
      transport (λ qs. AreLow (constructor_terms n b.number qs b.constructor)) same
      (transport AreLow (constructor-instance q' n b.number ps' b.constructor)
      (low-instances (ups_by count q') (constructor_terms n b.number ps' b.constructor) (flat-under count q' flat') low.terms));
  left = low-instances q b.arguments flat low.left;
  right = low-instances q d.arguments flat low.right;
}
  where
    count : ℕ
    count = length b.constructor.arguments

    q' : ℕ → Term
    q' = ups_by (length b.constructor.arguments) q

    ps' : List Term
    ps' = lifted (length b.constructor.arguments) ps

    flat' : IsFlat (ups_by (length b.constructor.arguments) q)
    flat' = flat-under (length b.constructor.arguments) q flat

    same : map (inst (ups_by (length b.constructor.arguments) q)) (lifted (length b.constructor.arguments) ps)
        ≡ lifted (length b.constructor.arguments) (map (inst q) ps)
    same = lifted-instance q (length b.constructor.arguments) ps

-- ---- what is made

pub few-enough : (n : ℕ) → n ≤ 1000 → nat_le n 1000 ≡ true
few-enough n le = grind (arith, nat_tests)

pub equations-there : (X : List Item) (us vs : List Term) → length X ≤ 1000 → are_low_items X ≡ true → AreLow us → AreLow vs
    → equations_made X us vs ≡ Ok (equations X us vs)
equations-there X us vs few low hu hv =
    ap (λ b. cond {A = Result (List Term) Stop} b (Ok (equations X us vs)) (Err Deep))
    (ap₂ ◌&&◌ (few-enough (length X) few) (ap₂ ◌&&◌ low (ap₂ ◌&&◌ (terms-low us hu) (terms-low vs hv))))

congruences-there : (X Y : List Item) (terms us vs es : List Term) → is_low_map X Y terms ≡ true → are_low_sides us vs es ≡ true
    → congruences_made X Y terms us vs es ≡ Ok (congruences X Y terms us vs es)
congruences-there X Y terms us vs es low sides =
    ap₂ (λ b b'. cond {A = Result (List Term) Stop} b (cond b' (Ok (congruences X Y terms us vs es)) (Err Deep)) (Err Deep)) low sides

low-map : (X Y : List Item) (terms : List Term) → length X ≤ 1000 → length Y ≤ 1000 → are_low_items X ≡ true → are_low_items Y ≡ true
    → AreLow terms → is_low_map X Y terms ≡ true
low-map X Y terms fx fy lx ly low =
    ap₂ ◌&&◌ (few-enough (length X) fx) (ap₂ ◌&&◌ (few-enough (length Y) fy) (ap₂ ◌&&◌ lx (ap₂ ◌&&◌ ly (terms-low terms low))))

low-sides : (us vs es : List Term) → AreLow us → AreLow vs → AreLow es → are_low_sides us vs es ≡ true
low-sides us vs es hu hv he = ap₂ ◌&&◌ (terms-low us hu) (ap₂ ◌&&◌ (terms-low vs hv) (terms-low es he))

group-there : (c : Comparison) → IsLowComparison c
    → group_made c ≡ Ok (group_proofs c.n c.left.number c.family c.left.constructor c.parameters c.left.arguments c.right.arguments)
group-there c low =
    let count = length c.left.constructor.arguments in
    let ps = lifted count c.parameters in
    let X = argument_items c.n ps c.left.constructor in
    let Y = family_items c.n c.family ps in
    let ex : length X ≡ count = length-argument_items c.n ps c.left.constructor in
    let ey : length Y ≡ length c.family.indices + 1 = length-family_items c.n c.family ps in
    let fx : count ≤ 1000 = low.few in
    let fy : length c.family.indices + 1 ≤ 1000 = low.indices in
    congruences-there X Y (terms_at c ps) (lifted count c.left.arguments) (lifted count c.right.arguments) (variables count)
    (low-map X Y (terms_at c ps) (omega arith) (omega arith) low.further low.members low.terms)
    (low-sides (lifted count c.left.arguments) (lifted count c.right.arguments) (variables count) (low-lifted count c.left.arguments low.left)
    (low-lifted count c.right.arguments low.right) (low-variables count))

standing-there : (s : Standing) (g : ℕ) (c : Comparison) → IsLowComparison c → standing_made s g c ≡ Ok (injected_standing s g c)
standing-there s g c low =
    let us = c.left.arguments in
    let vs = c.right.arguments in
    let X = arguments_of c in
    let proofs = group_proofs c.n c.left.number c.family c.left.constructor c.parameters us vs in
    let joined : List Term → List Term → List Equation = λ types proofs. equations_joined s.state g X types us vs (terms_at c c.parameters) proofs in
    let standing : List Equation → Standing = λ es. with_state s (record s.state { equations = es }) in
    let next : Result (List Equation) Stop → Result Standing Stop = λ r. and_then r (λ es. Ok (standing es)) in
    let ex : length X ≡ length c.left.constructor.arguments = length-argument_items c.n c.parameters c.left.constructor in
    let fx : length c.left.constructor.arguments ≤ 1000 = low.few in
    ap (λ (r : Result (List Term) Stop). next (and_then r (λ types. and_then (group_made c) (λ proofs. Ok (joined types proofs)))))
    (equations-there X us vs (omega arith) low.items low.left low.right)
    ∙ (ap (λ (r : Result (List Term) Stop). next (and_then r (λ proofs. Ok (joined (equations X us vs) proofs)))) (group-there c low)
    ∙ ap (λ es. Ok (standing es)) (joined-is s.state g c (equations X us vs) proofs refl refl))

-- the standing after a low injectivity is answered
pub one-there : (s : Standing) (g : ℕ) (c : Comparison) → IsLowComparison c → injected_one s g c ≡ Ok (injected_standing s g c)
one-there s g c low =
    ap (λ b. cond b (standing_made s g c) (Err Deep)) (eq-eqb (length c.parameters) (length c.family.parameters) low.whole)
    ∙ standing-there s g c low
