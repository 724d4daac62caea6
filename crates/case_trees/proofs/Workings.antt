-- The pairs that result from working, without units.
use Rattle.std.proofs.Common.{◌≡◌, ℕ, nat_le, Bool, true, false, cond, Option, Some, None, Result, Ok, Err, IfOk, List, [], ◌∷◌, length, refl}
use Rattle.theory.specs.Terms.{Term, height}
use Rattle.theory.specs.Signatures.{Signature}
use Rattle.core_terms.specs.Answers.{and_next}
use Rattle.core_terms.specs.Patterns as pattern
use Rattle.core_terms.specs.Patterns.{Pat, Pats}
use Rattle.core_terms.specs.declared.stop.Stop.{Stop}
use Rattle.core_terms.specs.declared.stop.Stop.TheVariants.{Deep}
use Rattle.kernel_reduce.specs.Reduction.{whnf_of}
use Rattle.unification.specs.Built.{Built, built_of}
use Rattle.case_trees.specs.pattern_vectors.Matching.{is_constructor}
use Rattle.case_trees.specs.Pairs.{Pair, Pairs, Waits, Binds, Passes, Keeps, Builds, Clashes, nil, cons, terms_in, waiting, clashes}
use Rattle.case_trees.specs.Working.{Rooms, of_arguments, in_room, compared_head, compared, against_absurd, unless_clash, work_pattern, work_patterns, work_pair, work_pairs}
use Rattle.case_trees.proofs.Answered.{and_next-ok}

-- w is the head form of t, with some units
pub record ReducesTo (S : Signature) (t w : Term) : Type 0 where
  pub units : ℕ
  pub run : (whnf_of S true units t).0 ≡ Ok w

mutual
  -- a pattern, its term, and the pair that they come to
  pub data Works (S : Signature) : Pat → Term → Pair → Type 0 where
    binds : (t : Term) → Works S pattern.Bind t (Binds t)
    passes : (t : Term) → Works S pattern.Wild t (Passes t)
    keeps : (written t : Term) → Works S (pattern.Dot written) t (Keeps written t)
    stays : (n number : ℕ) (pats : Pats) (t w : Term) → ReducesTo S t w → built_of S w ≡ None
        → Works S (pattern.Con n number pats) t (Waits (pattern.Con n number pats) t)
    builds : (n number : ℕ) (pats : Pats) (t w : Term) (b : Built) (pairs : Pairs) → ReducesTo S t w → built_of S w ≡ Some b
        → is_constructor n number b ≡ true → WorkAll S pats b.arguments pairs
        → Works S (pattern.Con n number pats) t (Builds b.n b.number b.parameters pairs)
    clash : (n number : ℕ) (pats : Pats) (t w : Term) (b : Built) → ReducesTo S t w → built_of S w ≡ Some b → is_constructor n number b ≡ false
        → Works S (pattern.Con n number pats) t (Clashes (pattern.Con n number pats) w)
    absurd_stays : (t w : Term) → ReducesTo S t w → built_of S w ≡ None → Works S pattern.Absurd t (Waits pattern.Absurd t)
    absurd_clash : (t w : Term) (b : Built) → ReducesTo S t w → built_of S w ≡ Some b → Works S pattern.Absurd t (Clashes pattern.Absurd w)

  pub data WorkAll (S : Signature) : Pats → List Term → Pairs → Type 0 where
    no_patterns : (terms : List Term) → WorkAll S pattern.nil terms nil
    no_terms : (pat : Pat) (pats : Pats) → WorkAll S (pattern.cons pat pats) [] nil
    more : (pat : Pat) (pats : Pats) (t : Term) (terms : List Term) (pair : Pair) (pairs : Pairs) → Works S pat t pair → clashes pair ≡ false
        → WorkAll S pats terms pairs → WorkAll S (pattern.cons pat pats) (t ∷ terms) (cons pair pairs)
    ends : (pat : Pat) (pats : Pats) (t : Term) (terms : List Term) (pair : Pair) → Works S pat t pair → clashes pair ≡ true
        → WorkAll S (pattern.cons pat pats) (t ∷ terms) (cons pair (waiting pats terms))

mutual
  -- a pair, and the pair that it becomes
  pub data Becomes (S : Signature) : Pair → Pair → Type 0 where
    worked : (pat : Pat) (t : Term) (pair : Pair) → Works S pat t pair → Becomes S (Waits pat t) pair
    inside : (n number : ℕ) (ps : List Term) (pairs new : Pairs) → AllBecome S pairs new → Becomes S (Builds n number ps pairs) (Builds n number ps new)
    bound : (t : Term) → Becomes S (Binds t) (Binds t)
    passed : (t : Term) → Becomes S (Passes t) (Passes t)
    kept : (written t : Term) → Becomes S (Keeps written t) (Keeps written t)
    clashed : (pat : Pat) (t : Term) → Becomes S (Clashes pat t) (Clashes pat t)

  pub data AllBecome (S : Signature) : Pairs → Pairs → Type 0 where
    none : AllBecome S nil nil
    more : (pair new : Pair) (pairs others : Pairs) → Becomes S pair new → clashes new ≡ false → AllBecome S pairs others
        → AllBecome S (cons pair pairs) (cons new others)
    ends : (pair new : Pair) (pairs : Pairs) → Becomes S pair new → clashes new ≡ true → AllBecome S (cons pair pairs) (cons new pairs)

-- ---- calls with units give these results

reduces : (S : Signature) (t : Term) (left : ℕ) → IfOk (whnf_of S true left t).0 (λ w. ReducesTo S t w)
reduces S t left = by (whnf_of S true left t).0 refl
  where
    by : (r : Result Term Stop) → (whnf_of S true left t).0 ≡ r → IfOk r (λ w. ReducesTo S t w)
    by (Ok w) e = record { units = left; run = e }
    by (Err e) h = tt

-- and so are compared terms
head-reduces : (S : Signature) (room left : ℕ) (t : Term) → IfOk (compared_head S room left t).0 (λ w. ReducesTo S t w)
head-reduces S room left t =
    and_next-ok (ReducesTo S t) (ReducesTo S t) (whnf_of S true left t) _ (reduces S t left) (λ w rest h. by w h (built_of S w))
  where
    tested : (w : Term) → ReducesTo S t w → (test : Bool) → IfOk (cond test (Ok w) (Err Deep)) (λ u. ReducesTo S t u)
    tested w h true = h
    tested w h false = tt

    by : (w : Term) → ReducesTo S t w → (found : Option Built) → IfOk (in_room room w found) (λ u. ReducesTo S t u)
    by w h None = h
    by w h (Some b) = tested w h (nat_le (height w) room)

compared-works : (S : Signature) (rooms : Rooms) (n number : ℕ) (pats : Pats) (t w : Term) (found : Option Built) (left : ℕ) → ReducesTo S t w → built_of S w ≡ found
    → ((us : List Term) (next : ℕ) → IfOk (work_patterns S rooms pats us next).0 (WorkAll S pats us))
    → IfOk (compared n number pats t w (work_patterns S rooms pats) found left).0 (Works S (pattern.Con n number pats) t)
compared-works S rooms n number pats t w None left h e work = stays n number pats t w h e
compared-works S rooms n number pats t w (Some b) left h e work = by (is_constructor n number b) refl
  where
    by : (same : Bool) → is_constructor n number b ≡ same
        → IfOk (cond same (and_next (work_patterns S rooms pats b.arguments left) (λ pairs rest. (Ok (Builds b.n b.number b.parameters pairs), rest)))
        (Ok (Clashes (pattern.Con n number pats) w), left)).0 (Works S (pattern.Con n number pats) t)
    by true is =
        and_next-ok (WorkAll S pats b.arguments) (Works S (pattern.Con n number pats) t) (work_patterns S rooms pats b.arguments left) _
        (work b.arguments left) (λ pairs rest all. builds n number pats t w b pairs h e is all)
    by false is = clash n number pats t w b h e is

against-works : (S : Signature) (t w : Term) (found : Option Built) → ReducesTo S t w → built_of S w ≡ found → Works S pattern.Absurd t (against_absurd t w found)
against-works S t w None h e = absurd_stays t w h e
against-works S t w (Some b) h e = absurd_clash t w b h e

unless_clash-works : (S : Signature) (rooms : Rooms) (pat : Pat) (pats : Pats) (t : Term) (terms : List Term) (pair : Pair) (left : ℕ) → Works S pat t pair
    → IfOk (work_patterns S rooms pats terms left).0 (WorkAll S pats terms)
    → IfOk (unless_clash (waiting pats terms) (work_patterns S rooms pats terms) pair left).0 (WorkAll S (pattern.cons pat pats) (t ∷ terms))
unless_clash-works S rooms pat pats t terms pair left h all = by (clashes pair) refl
  where
    by : (test : Bool) → clashes pair ≡ test
        → IfOk (cond test (Ok (cons pair (waiting pats terms)), left) (and_next (work_patterns S rooms pats terms left) (λ pairs rest. (Ok (cons pair pairs), rest)))).0
        (WorkAll S (pattern.cons pat pats) (t ∷ terms))
    by true is = ends pat pats t terms pair h is
    by false is =
        and_next-ok (WorkAll S pats terms) (WorkAll S (pattern.cons pat pats) (t ∷ terms)) (work_patterns S rooms pats terms left) _ all
        (λ pairs rest others. more pat pats t terms pair pairs h is others)

mutual
  pub works : (S : Signature) (room : ℕ) (pat : Pat) (t : Term) (left : ℕ) → IfOk (work_pattern S room pat t left).0 (Works S pat t)
  works S room pattern.Bind t left = binds t
  works S room pattern.Wild t left = passes t
  works S room (pattern.Dot written) t left = keeps written t
  works S room (pattern.Con n number pats) t left =
      and_next-ok (ReducesTo S t) (Works S (pattern.Con n number pats) t) (compared_head S room left t) _ (head-reduces S room left t) (λ w rest h.
      compared-works S (of_arguments room) n number pats t w (built_of S w) rest h refl (work-all S (of_arguments room) pats))
  works S room pattern.Absurd t left =
      and_next-ok (ReducesTo S t) (Works S pattern.Absurd t) (compared_head S room left t) _ (head-reduces S room left t) (λ w rest h.
      against-works S t w (built_of S w) h refl)

  pub work-all : (S : Signature) (rooms : Rooms) (pats : Pats) (terms : List Term) (left : ℕ) → IfOk (work_patterns S rooms pats terms left).0 (WorkAll S pats terms)
  work-all S rooms (pattern.cons pat pats) (t ∷ terms) left =
      let room = rooms (length (t ∷ terms)) in
      and_next-ok (Works S pat t) (WorkAll S (pattern.cons pat pats) (t ∷ terms)) (work_pattern S room pat t left) _ (works S room pat t left) (λ pair rest h.
      unless_clash-works S rooms pat pats t terms pair rest h (work-all S rooms pats terms rest))
  work-all S rooms (pattern.cons pat pats) [] left = no_terms pat pats
  work-all S rooms pattern.nil terms left = no_patterns terms

unless_clash-becomes : (S : Signature) (rooms : Rooms) (pair new : Pair) (pairs : Pairs) (left : ℕ) → Becomes S pair new
    → IfOk (work_pairs S rooms pairs left).0 (AllBecome S pairs)
    → IfOk (unless_clash pairs (work_pairs S rooms pairs) new left).0 (AllBecome S (cons pair pairs))
unless_clash-becomes S rooms pair new pairs left h all = by (clashes new) refl
  where
    by : (test : Bool) → clashes new ≡ test
        → IfOk (cond test (Ok (cons new pairs), left) (and_next (work_pairs S rooms pairs left) (λ others rest. (Ok (cons new others), rest)))).0
        (AllBecome S (cons pair pairs))
    by true is = ends pair new pairs h is
    by false is =
        and_next-ok (AllBecome S pairs) (AllBecome S (cons pair pairs)) (work_pairs S rooms pairs left) _ all
        (λ others rest more_become. more pair new pairs others h is more_become)

mutual
  becomes : (S : Signature) (room : ℕ) (pair : Pair) (left : ℕ) → IfOk (work_pair S room pair left).0 (Becomes S pair)
  becomes S room (Waits pat t) left = by (work_pattern S room pat t left).0 (works S room pat t left)
    where
      by : (r : Result Pair Stop) → IfOk r (Works S pat t) → IfOk r (Becomes S (Waits pat t))
      by (Ok pair) h = worked pat t pair h
      by (Err e) h = tt
  becomes S room (Builds n number ps pairs) left =
      and_next-ok (AllBecome S pairs) (Becomes S (Builds n number ps pairs)) (work_pairs S (of_arguments room) pairs left) _
      (all-become S (of_arguments room) pairs left) (λ new rest h. inside n number ps pairs new h)
  becomes S room (Binds t) left = bound t
  becomes S room (Passes t) left = passed t
  becomes S room (Keeps written t) left = kept written t
  becomes S room (Clashes pat t) left = clashed pat t

  pub all-become : (S : Signature) (rooms : Rooms) (pairs : Pairs) (left : ℕ) → IfOk (work_pairs S rooms pairs left).0 (AllBecome S pairs)
  all-become S rooms nil left = none
  all-become S rooms (cons pair pairs) left =
      let room = rooms (length (terms_in (cons pair pairs))) in
      and_next-ok (Becomes S pair) (AllBecome S (cons pair pairs)) (work_pair S room pair left) _ (becomes S room pair left) (λ new rest h.
      unless_clash-becomes S rooms pair new pairs rest h (all-become S rooms pairs rest))
