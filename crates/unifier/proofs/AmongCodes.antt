-- How the code goes along the arguments of a constructor, from a number on.
use Rattle.std.proofs.Common.{◌≡◌, ℕ, zero, suc, ◌+◌, ◌≤◌, ◌<◌, Bool, true, false, cond, Option, Some, None, option_map, Result, Ok, Err, List, [], ◌∷◌, map, length, take, drop, set, get_or, refl, sym, ap, ap₂, ◌∙◌, arith}
use Rattle.std.proofs.lemmas.List.{length-map}
use Rattle.theory.specs.Terms.{Term}
use Rattle.theory.specs.Families.{Argument}
use Rattle.theory.specs.Signatures.{Signature}
use Rattle.core_terms.specs.Answers.{Spent, Runs, and_next, on_answer}
use Rattle.core_terms.specs.Meanings.{tree_of, tele_of}
use Rattle.core_terms.specs.declared.stop.Stop.{Stop}
use Rattle.core_terms.specs.declared.term.Term as code
use Rattle.core_terms.proofs.Lists.{drop-at, map-item}
use Rattle.core_sig.specs.Meanings.{argument_of}
use Rattle.core_sig.specs.declared.family.Arg.{Arg}
use Rattle.kernel_reduce.specs.Reduction.{answered, whnf_of}
use Rattle.unification.specs.Built.{is_direct}
use Rattle.unification.specs.Cycles.{Search, found_as, here_or, among_arguments}
use Rattle.problems.specs.CodeCycles.{at_argument, search_within}
use Rattle.problems.proofs.CycleForms.{mapped}

drop-past : {A : Type 0} (xs : List A) (k : ℕ) → length xs ≤ k → drop k xs ≡ []
drop-past [] zero le = refl
drop-past [] (suc k) le = refl
drop-past (x ∷ xs) zero le = absurd (omega arith)
drop-past (x ∷ xs) (suc k) le = drop-past xs k (omega arith)

module _ (S : Signature) (n x room p : ℕ) (args : List Arg) (us : List code.Term) (at left : ℕ) where
  -- the search in the arguments from number at on
  abbrev pub among_from : Spent (Option (List Term))
  among_from = among_arguments S (λ before. search_within S n x room) (map (argument_of p) (drop at args)) (drop at (tele_of us)) left

  pub no-terms : length us ≤ at → answered (Ok None) left ≡ among_from
  no-terms le = sym (ap (λ ts. among_arguments S (λ before. search_within S n x room) (map (argument_of p) (drop at args)) ts left) (drop-past (tele_of us) at (omega (arith, length-map us tree_of))) ∙ nothing (map (argument_of p) (drop at args)))
    where
      nothing : (arguments : List Argument) → among_arguments S (λ before. search_within S n x room) arguments [] left ≡ answered (Ok None) left
      nothing [] = refl
      nothing (a ∷ arguments) = refl

  pub no-arguments : length args ≤ at → answered (Ok None) left ≡ among_from
  no-arguments le = sym (ap (λ xs. among_arguments S (λ before. search_within S n x room) (map (argument_of p) xs) (drop at (tele_of us)) left) (drop-past args at le))

  module _ (a : Arg) (u : code.Term) (few : at < length args) (is : a ≡ get_or args at a) (there : at < length us) (at_u : u ≡ get_or us at u) where
    -- those after it
    abbrev behind : Search (List Term)
    behind left = among_arguments S (λ before. search_within S n x room) (map (argument_of p) (drop (at + 1) args)) (drop (at + 1) (tele_of us)) left

    at-number : among_from ≡ among_arguments S (λ before. search_within S n x room) (argument_of p a ∷ map (argument_of p) (drop (at + 1) args)) (tree_of u ∷ drop (at + 1) (tele_of us)) left
    at-number =
        ap₂ (λ xs ts. among_arguments S (λ before. search_within S n x room) xs ts left)
        (ap (map (argument_of p)) (drop-at args at a few is))
        (drop-at (tele_of us) at (tree_of u) (omega (arith, length-map us tree_of)) (map-item tree_of us at u at_u))

    -- the search after the argument's own
    abbrev after : Option Term → Search (List Term)
    after found = here_or (option_map (λ w. w ∷ drop (at + 1) (tele_of us)) found) (found_as (λ ws. tree_of u ∷ ws) behind)

    later : (r : Result Term Stop) (rest : ℕ)
        → on_answer r rest (λ v rest. and_next (search_within S n x room v rest) (λ found end. after found end))
        ≡ and_next (on_answer r rest (λ v rest. search_within S n x room v rest)) (λ found end. after found end)
    later (Ok v) rest = refl
    later (Err e) rest = refl

    one-argument : (b : Bool)
        → cond b (and_next (whnf_of S true left (tree_of u)) (λ v rest. and_next (search_within S n x room v rest) (λ found end. after found end))) (found_as (λ ws. tree_of u ∷ ws) behind left)
        ≡ and_next (cond b (and_next (whnf_of S true left (tree_of u)) (λ v rest. search_within S n x room v rest)) (answered (Ok None) left)) (λ found end. after found end)
    one-argument true = later (whnf_of S true left (tree_of u)).0 (whnf_of S true left (tree_of u)).1
    one-argument false = refl

    at-argument : among_from ≡ and_next (at_argument S n x room (argument_of p a) (tree_of u) left) (λ found end. after found end)
    at-argument = at-number ∙ one-argument (is_direct (argument_of p a))

    pub argument-refused : (e : Stop) (end : ℕ) → ◌≡◌ {A = Spent (Option Term)} (Err e, end) (at_argument S n x room (argument_of p a) (tree_of u) left)
        → ◌≡◌ {A = Spent (Option (List Term))} (Err e, end) among_from
    argument-refused e end h = sym (at-argument ∙ ap (λ r. and_next r (λ found end. after found end)) (sym h))

    pub argument-found : (w : Term) (end : ℕ) → ◌≡◌ {A = Spent (Option Term)} (Ok (Some w), end) (at_argument S n x room (argument_of p a) (tree_of u) left)
        → ◌≡◌ {A = Spent (Option (List Term))} (Ok (Some (w ∷ drop (at + 1) (tele_of us))), end) among_from
    argument-found w end h = sym (at-argument ∙ ap (λ r. and_next r (λ found end. after found end)) (sym h))

    pub argument-without : (end : ℕ) → ◌≡◌ {A = Spent (Option Term)} (Ok None, end) (at_argument S n x room (argument_of p a) (tree_of u) left) → among_from ≡ mapped (λ ws. tree_of u ∷ ws) (behind end)
    argument-without end h = at-argument ∙ ap (λ r. and_next r (λ found end. after found end)) (sym h)

-- ---- elements of the list that is written

-- the term at the number stays where those up to it stay
pub kept-at : (old new : List code.Term) (at : ℕ) (u : code.Term) → at < length old → u ≡ get_or old at u → take (at + 1) new ≡ take (at + 1) old → drop at (tele_of new) ≡ tree_of u ∷ drop (at + 1) (tele_of new)
kept-at old new zero u lt is same = first old new lt is same
  where
    first : (old new : List code.Term) → 0 < length old → u ≡ get_or old 0 u → take 1 new ≡ take 1 old → tele_of new ≡ tree_of u ∷ drop 1 (tele_of new)
    first (o ∷ old) (m ∷ new) lt is same = ap (λ v. v ∷ tele_of new) (ap tree_of (let e : m ≡ o = cc in e ∙ sym is))
    first (o ∷ old) [] lt is same = absurd (cc)
    first [] new lt is same = absurd (omega arith)
kept-at [] new (suc at) u lt is same = absurd (omega arith)
kept-at (o ∷ old) [] (suc at) u lt is same = absurd (let n : suc at + 1 ≡ suc (at + 1) = omega arith in let e = rw n at same in cc)
kept-at (o ∷ old) (m ∷ new) (suc at) u lt is same =
    let n : suc at + 1 ≡ suc (at + 1) = omega arith in rw n (kept-at old new at u (omega arith) is (tail same))
  where
    tail : take (suc at + 1) (m ∷ new) ≡ take (suc at + 1) (o ∷ old) → take (at + 1) new ≡ take (at + 1) old
    tail e = ap (drop 1) (let n : suc at + 1 ≡ suc (at + 1) = omega arith in rw n at e)

pub written-at : (us : List code.Term) (at : ℕ) (w : code.Term) → at < length us → drop at (tele_of (set us at w)) ≡ tree_of w ∷ drop (at + 1) (tele_of us)
written-at [] at w lt = absurd (omega arith)
written-at (u ∷ us) zero w lt = refl
written-at (u ∷ us) (suc at) w lt = let n : suc at + 1 ≡ suc (at + 1) = omega arith in rw n (written-at us at w (omega arith))

-- the answer for those after is one for all of them
pub behind-runs : (at : ℕ) (old new : List code.Term) (u : code.Term) (result : Result Bool Stop) (left : ℕ) (rest whole : Spent (Option (List Term))) → at < length old → u ≡ get_or old at u
    → take (at + 1) new ≡ take (at + 1) old → whole ≡ mapped (λ ws. tree_of u ∷ ws) rest → Runs (λ found. cond found (Some (drop (at + 1) (tele_of new))) None) result left rest
    → Runs (λ found. cond found (Some (drop at (tele_of new))) None) result left whole
behind-runs at old new u (Ok true) left rest whole lt is same e h =
    ap (λ (us : List Term). answered (Ok (Some us)) left) (kept-at old new at u lt is same)
    ∙ sym (e ∙ ap (mapped (λ ws. tree_of u ∷ ws)) (sym h))
behind-runs at old new u (Ok false) left rest whole lt is same e h = sym (e ∙ ap (mapped (λ ws. tree_of u ∷ ws)) (sym h))
behind-runs at old new u (Err x) left rest whole lt is same e h = λ other. sym (e ∙ ap (mapped (λ ws. tree_of u ∷ ws)) (sym (h other)))
