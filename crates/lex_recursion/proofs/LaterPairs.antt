-- The choice among pairs that are one after the other, as the code makes it.
use Rattle.std.proofs.Common.{◌≡◌, ℕ, zero, suc, ◌+◌, ◌-◌, ◌≤◌, Option, Some, None, option_map, List, [], ◌∷◌, ◌++◌, flat_map, refl, sym, ap, ◌∙◌, append_assoc, append-nil, arith}
use Rattle.std.specs.List.{range_with_len}
use Rattle.theory.specs.Terms.{Term}
use Rattle.theory.specs.Signatures.{Signature}
use Rattle.tree_translation.specs.structural_rec.Orders.{recursive_positions}
use Rattle.tree_translation.specs.structural_rec.Positions.{Admission}
use Rattle.tree_translation.specs.structural_rec.Uses.{Use}
use Rattle.lex_recursion.specs.Following.{following}
use Rattle.lex_recursion.specs.PairChoices.{At, Failing, FailingPair, PairChoice, choose_among, first_failing, or_later, with_rows}
use Rattle.lex_recursion.specs.Pairs.{Pair, if_some, pair_behind, pair_with}

-- the choice among the first pairs, or else among others
abbrev pub or_else : PairChoice → PairChoice → PairChoice
or_else (At j k) others = At j k
or_else (Failing rows) others = with_rows rows others

-- no rows before a choice, and none after rows
pub no_rows_before : (c : PairChoice) → with_rows [] c ≡ c
no_rows_before (At j k) = refl
no_rows_before (Failing rows) = refl

pub no_rows : (rows : List FailingPair) → Failing (rows ++ []) ≡ Failing rows
no_rows rows = ap Failing (append-nil rows)

with-rows-append : (rows more : List FailingPair) (c : PairChoice) → with_rows rows (with_rows more c) ≡ with_rows (rows ++ more) c
with-rows-append rows more (At j k) = refl
with-rows-append rows more (Failing others) = ap Failing (sym (append_assoc rows more others))

pub with_rows_else : (rows : List FailingPair) (c d : PairChoice) → with_rows rows (or_else c d) ≡ or_else (with_rows rows c) d
with_rows_else rows (At j k) d = refl
with_rows_else rows (Failing more) d = with-rows-append rows more d

pub among_append : (S : Signature) (own count : ℕ) (uses : List Use) (ps qs : List Pair)
    → choose_among S own count uses (ps ++ qs) ≡ or_else (choose_among S own count uses ps) (choose_among S own count uses qs)
among_append S own count uses [] qs = sym (no_rows_before (choose_among S own count uses qs))
among_append S own count uses (p ∷ ps) qs = by (first_failing S own count p uses) (among_append S own count uses ps qs)
  where
    rest : PairChoice
    rest = choose_among S own count uses ps

    by : (o : Option FailingPair) → choose_among S own count uses (ps ++ qs) ≡ or_else rest (choose_among S own count uses qs)
        → or_later p o (choose_among S own count uses (ps ++ qs)) ≡ or_else (or_later p o rest) (choose_among S own count uses qs)
    by None more = refl
    by (Some row) more = ap (with_rows (row ∷ [])) more ∙ with_rows_else (row ∷ []) rest (choose_among S own count uses qs)

-- where no pair that the first number of a range gives is usable, the choice among the later ones, after its rows
pub later-choice : (S : Signature) (own count : ℕ) (uses : List Use) (f : ℕ → List Pair) (rows more : List FailingPair) (from long less : ℕ) → 1 ≤ long
    → less ≡ long - 1 → (c : PairChoice) → c ≡ with_rows rows (choose_among S own count uses (f from)) → c ≡ Failing more
    → with_rows more (choose_among S own count uses (flat_map f (range_with_len (from + 1) less)))
    ≡ with_rows rows (choose_among S own count uses (flat_map f (range_with_len from long)))
later-choice S own count uses f rows more from zero less some is c first fails = absurd (omega arith)
later-choice S own count uses f rows more from (suc long) less some is c first fails =
    let others = flat_map f (range_with_len (from + 1) long) in
    let same : less ≡ long = omega arith in
    ap (λ n. with_rows more (choose_among S own count uses (flat_map f (range_with_len (from + 1) n)))) same
    ∙ (ap (λ d. or_else d (choose_among S own count uses others)) (sym fails ∙ first)
    ∙ (sym (with_rows_else rows (choose_among S own count uses (f from)) (choose_among S own count uses others))
    ∙ ap (with_rows rows) (sym (among_append S own count uses (f from) others))))

-- at j and k, where they may be a pair, with the row of its first failing call, if it has one
abbrev pub after_one : (rows : List FailingPair) (j k : ℕ) → Option (Option FailingPair) → PairChoice
after_one rows j k None = Failing rows
after_one rows j k (Some None) = At j k
after_one rows j k (Some (Some row)) = Failing (rows ++ row ∷ [])

pub one_choice : (S : Signature) (own count : ℕ) (uses : List Use) (rows : List FailingPair) (tele : List Term) (j : ℕ) (a : Admission) (k : ℕ)
    → with_rows rows (choose_among S own count uses (if_some (pair_behind S tele j a k)))
    ≡ after_one rows j k (option_map (λ p. first_failing S own count p uses) (pair_behind S tele j a k))
one_choice S own count uses rows tele j a k = found (following S tele (recursive_positions j a) k)
  where
    by : (p : Pair) (o : Option FailingPair) → with_rows rows (or_later p o (Failing [])) ≡ after_one rows p.first p.second (Some o)
    by p None = refl
    by p (Some row) = refl

    found : (o : Option Admission) → with_rows rows (choose_among S own count uses (if_some (option_map (pair_with j a k) o)))
        ≡ after_one rows j k (option_map (λ p. first_failing S own count p uses) (option_map (pair_with j a k) o))
    found None = no_rows rows
    found (Some b) = by (pair_with j a k b) (first_failing S own count (pair_with j a k b) uses)
