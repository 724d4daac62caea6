-- How the code goes below a constructor.
use Rattle.std.proofs.Common.{◌≡◌, ℕ, suc, ◌-◌, ◌≤◌, ◌<◌, Option, Some, None, option_map, Result, Ok, Err, List, ◌++◌, map, length, take, drop, sym, ap, ap₂, ◌∙◌, subst, arith}
use Rattle.std.proofs.lemmas.List.{length-map, length-drop}
use Rattle.theory.specs.Terms.{Term, Con, height}
use Rattle.theory.specs.Telescopes.{applied}
use Rattle.theory.specs.Spines.{spine_of}
use Rattle.theory.specs.Signatures.{Signature}
use Rattle.theory.proofs.Spines.{applied-append}
use Rattle.core_terms.specs.Answers.{Spent, Gives, Runs}
use Rattle.core_terms.specs.Meanings.{tree_of, tele_of}
use Rattle.core_terms.specs.declared.stop.Stop.{Stop}
use Rattle.core_terms.specs.declared.term.Term as code
use Rattle.core_sig.specs.Meanings.{argument_of}
use Rattle.core_sig.specs.declared.family.Arg.{Arg}
use Rattle.kernel_reduce.proofs.SpineLengths.{spine_fits}
use Rattle.unification.specs.Built as pure
use Rattle.unification.specs.Built.{built_of}
use Rattle.unification.specs.Cycles.{among_arguments, with_arguments}
use Rattle.problems.specs.CodeBuilt.{IsBuiltAs}
use Rattle.problems.specs.CodeCycles.{search_within, within}
use Rattle.problems.specs.declared.built.Built.{Built}
use Rattle.problems.proofs.BuiltCodes.{from_code, of-built, of-pure}
use Rattle.problems.proofs.CycleForms.{bounded_by, mapped, search-among}

-- an answer after units that are left
pub gives-runs : {A B : Type 0} (f : A → B) (result : Result A Stop) (left : ℕ) (meant : Result B Stop) (whole : Spent B) → Gives f result meant → ◌≡◌ {A = Spent B} (meant, left) whole → Runs f result left whole
gives-runs f (Ok a) left meant whole g e = ap (λ r. (r, left)) g ∙ e
gives-runs f (Err x) left meant whole g e = λ other. ap (λ r. (r, left)) (g other) ∙ e

some-is : {A : Type 0} {a b : A} → ◌≡◌ {A = Option A} (Some a) (Some b) → a ≡ b
some-is e = cc

pub few-terms : (t : Term) (us : List code.Term) (count : ℕ) → height t ≤ 2000 → tele_of us ≡ drop count (spine_of t) → length us ≤ 2000
few-terms t us count low e =
    let l = ap length e in let f = spine_fits t in omega (arith, length-map us tree_of, length-drop count (spine_of t))

module _ (S : Signature) (x room left : ℕ) (t : Term) (b : Built) (p : pure.Built) (us : List code.Term) (args : List Arg) (found : built_of S t ≡ Some p) (is : IsBuiltAs b p) (positive : 0 < room)
    (at_us : tele_of us ≡ drop (length b.record.now.params) (spine_of t)) (at_args : args ≡ b.con.now.args) where
  -- the search among the arguments
  abbrev pub among_all : Spent (Option (List Term))
  among_all = among_arguments S (λ before. search_within S b.family x (room - 1)) (map (argument_of (length b.record.now.params)) args) (tele_of us) left

  below-is : search_within S p.n x room t left ≡ bounded_by room (mapped (with_arguments (from_code b t)) among_all)
  below-is =
      let h = of-pure S t b p found is in
      let same : p ≡ from_code b t = some-is (sym found ∙ of-built S t b h) in
      let count : suc (room - 1) ≡ room = omega arith in
      subst (λ r. search_within S p.n x r t left ≡ bounded_by r (mapped (with_arguments p) (among_arguments S (λ before. search_within S p.n x (room - 1)) p.constructor.arguments p.arguments left))) count (search-among S x (room - 1) t left p found)
      ∙ (ap (λ (p : pure.Built). bounded_by room (mapped (with_arguments p) (among_arguments S (λ before. search_within S p.n x (room - 1)) p.constructor.arguments p.arguments left))) same
      ∙ ap₂ (λ args us. bounded_by room (mapped (with_arguments (from_code b t)) (among_arguments S (λ before. search_within S b.family x (room - 1)) (map (argument_of (length b.record.now.params)) args) us left)))
      (sym at_args) (ap (λ n. drop n (spine_of t)) (length-map b.record.now.params tree_of) ∙ sym at_us))

  pub below-refused : (e : Stop) (end : ℕ) → ◌≡◌ {A = Spent (Option (List Term))} (Err e, end) among_all → ◌≡◌ {A = Spent (Option Term)} (Err e, end) (search_within S p.n x room t left)
  below-refused e end h = sym (below-is ∙ ap (λ r. bounded_by room (mapped (with_arguments (from_code b t)) r)) (sym h))

  pub below-without : (end : ℕ) → ◌≡◌ {A = Spent (Option (List Term))} (Ok None, end) among_all → ◌≡◌ {A = Spent (Option Term)} (Ok None, end) (search_within S p.n x room t left)
  below-without end h = sym (below-is ∙ ap (λ r. bounded_by room (mapped (with_arguments (from_code b t)) r)) (sym h))

  pub below-found : (end : ℕ) (ps new : List code.Term) (head whole : code.Term) (result : Result (Option code.Term) Stop) → ◌≡◌ {A = Spent (Option (List Term))} (Ok (Some (tele_of new)), end) among_all
      → tele_of ps ≡ take (length b.record.now.params) (spine_of t) → tree_of head ≡ applied (Con b.family b.number) (tele_of ps) → tree_of whole ≡ applied (tree_of head) (tele_of new)
      → Gives (option_map tree_of) result (within room (Some (tree_of whole))) → Runs (option_map tree_of) result end (search_within S p.n x room t left)
  below-found end ps new head whole result h at_ps at_head at_whole g =
      let parameters : (from_code b t).parameters ≡ tele_of ps = ap (λ n. take n (spine_of t)) (length-map b.record.now.params tree_of) ∙ sym at_ps in
      let term : with_arguments (from_code b t) (tele_of new) ≡ tree_of whole =
      ap (λ ps. applied (Con b.family b.number) (ps ++ tele_of new)) parameters
      ∙ (applied-append (Con b.family b.number) (tele_of ps) (tele_of new) ∙ sym (at_whole ∙ ap (λ h. applied h (tele_of new)) at_head)) in
      gives-runs (option_map tree_of) result end (within room (Some (tree_of whole))) (search_within S p.n x room t left) g
      (sym (below-is ∙ (ap (λ r. bounded_by room (mapped (with_arguments (from_code b t)) r)) (sym h) ∙ ap (λ t. (within room (Some t), end)) term)))
