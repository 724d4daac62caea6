-- The new order of the variables of a context: the other variables after a solution, its dependants last.
use Rattle.std.proofs.Common.{◌≡◌, ℕ, zero, suc, ◌+◌, ◌-◌, ◌≤◌, ◌<◌, ◌==◌, Bool, true, false, cond, List, [], ◌∷◌, ◌++◌, length, take, drop, ap, ap₂, sym, ◌∙◌, subst as transport, length-drop, arith}
use Rattle.std.proofs.lemmas.List.{length-map}
use Rattle.theory.specs.Telescopes.{Telescope}
use Rattle.core_terms.specs.Meanings.{tree_of, tele_of}
use Rattle.core_terms.specs.declared.term.Term as code
use Rattle.unification.proofs.SolvedContexts.{length-order}
use Rattle.problems.specs.Conditions.{AreBelow}
use Rattle.tele_eq.specs.Items.{each_position}
use Rattle.tele_eq.specs.Levels.{has_level, place_in, is_among}
use Rattle.unification.specs.Occurrences.{dependants_from, dependants, without, order_without}
use Rattle.problems.proofs.LowTerms.{slice-from, map-drop}

-- the dependants, found in the types after the variable
pub dependants-sliced : (made found : List ℕ) (p : ℕ) (context : List code.Term) → made ≡ [] → found ≡ p ∷ []
    → made ++ dependants_from (p + 1) found (tele_of (take (length context - (p + 1)) (drop (p + 1) context))) ≡ dependants (tele_of context) p
dependants-sliced made found p context em ef =
    ap₂ (λ front begin. front ++ dependants_from (p + 1) begin (tele_of (take (length context - (p + 1)) (drop (p + 1) context)))) em ef
    ∙ ap (dependants_from (p + 1) (p ∷ [])) (ap tele_of (slice-from (p + 1) context) ∙ map-drop tree_of (p + 1) context)

-- ---- the levels are those of variables

below-append : (n : ℕ) (levels more : List ℕ) → AreBelow n levels → AreBelow n more → AreBelow n (levels ++ more)
below-append n [] more h k = k
below-append n (j ∷ levels) more h k = (h.0, below-append n levels more h.1 k)

below-either : (b : Bool) (n at : ℕ) (others rest : List ℕ) → at < n → AreBelow n others → AreBelow n rest → AreBelow n (cond b (at ∷ others) rest)
below-either true n at others rest lt h k = (lt, h)
below-either false n at others rest lt h k = k

dependants_from-below : (n at : ℕ) (found : List ℕ) (types : Telescope) → at + length types ≤ n → AreBelow n (dependants_from at found types)
dependants_from-below n at found [] le = tt
dependants_from-below n at found (a ∷ types) le =
    below-either (has_level at found a) n at (dependants_from (at + 1) (at ∷ found) types) (dependants_from (at + 1) found types) (omega arith)
    (dependants_from-below n (at + 1) (at ∷ found) types (omega arith)) (dependants_from-below n (at + 1) found types (omega arith))

below-unless : (b : Bool) (n j : ℕ) (rest : List ℕ) → j < n → AreBelow n rest → AreBelow n (cond b rest (j ∷ rest))
below-unless true n j rest lt h = h
below-unless false n j rest lt h = (lt, h)

without-below : (out : List ℕ) (at count n : ℕ) → at + count ≤ n → AreBelow n (without out (each_position (λ j. j) at count))
without-below out at zero n le = tt
without-below out at (suc count) n le =
    below-unless (is_among at out) n at (without out (each_position (λ j. j) (at + 1) count)) (omega arith)
    (without-below out (at + 1) count n (omega arith))

order-below : (context : Telescope) (p : ℕ) → p < length context → AreBelow (length context) (order_without context p)
order-below context p lt =
    let n = length context in
    let moved = dependants context p in
    below-append n (without (p ∷ moved) (each_position (λ j. j) 0 n)) moved (without-below (p ∷ moved) 0 n n (omega arith))
    (dependants_from-below n (p + 1) (p ∷ []) (drop (p + 1) context) (omega (arith, length-drop (p + 1) context)))

-- ---- the order that the code makes

order-of_code : (context : List code.Term) (p : ℕ) (moved order : List ℕ) → moved ≡ dependants (tele_of context) p
    → order ≡ without (p ∷ moved) (each_position (λ j. j) 0 (length context)) ++ moved → order ≡ order_without (tele_of context) p
order-of_code context p moved order em eo =
    eo
    ∙ ap₂ (λ n moved. without (p ∷ moved) (each_position (λ j. j) 0 n) ++ moved) (sym (length-map context tree_of)) em

pub code-fewer : (context : List code.Term) (p : ℕ) (moved order : List ℕ) → p < length context → moved ≡ dependants (tele_of context) p
    → order ≡ without (p ∷ moved) (each_position (λ j. j) 0 (length context)) ++ moved → length order < length context
code-fewer context p moved order lt em eo =
    let many = length-map context tree_of in
    let few = length-order (tele_of context) p (omega arith) in
    let e = ap length (order-of_code context p moved order em eo) in
    omega arith

pub code-below : (context : List code.Term) (p : ℕ) (moved order : List ℕ) → p < length context → moved ≡ dependants (tele_of context) p
    → order ≡ without (p ∷ moved) (each_position (λ j. j) 0 (length context)) ++ moved → AreBelow (length context) order
code-below context p moved order lt em eo =
    let many = length-map context tree_of in
    let below = order-below (tele_of context) p (omega arith) in
    transport (λ n. AreBelow n order) many (transport (AreBelow (length (tele_of context))) (sym (order-of_code context p moved order em eo)) below)
