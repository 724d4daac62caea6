-- Pairs are worked from the left, with units.
use Rattle.std.specs.Prelude.{ℕ, ◌-◌, true, nat_le, cond, Option, Some, None, List, ◌∷◌, length, Result, Ok, Err}
use Rattle.theory.specs.Terms.{Term, height}
use Rattle.theory.specs.Signatures.{Signature}
use Rattle.core_terms.specs.Answers.{Spent, and_next}
use Rattle.core_terms.specs.Bounds.{most_height}
use Rattle.core_terms.specs.declared.stop.Stop.{Stop}
use Rattle.core_terms.specs.declared.stop.Stop.TheVariants.{Deep}
use Rattle.core_terms.specs.Patterns as pattern
use Rattle.core_terms.specs.Patterns.{Pat, Pats}
use Rattle.kernel_reduce.specs.Reduction.{answered, whnf_of}
use Rattle.unification.specs.Built.{Built, built_of}
use Rattle.case_trees.specs.pattern_vectors.Matching.{is_constructor}
use Rattle.case_trees.specs.Pairs.{Pair, Pairs, Waits, Binds, Passes, Keeps, Builds, Clashes, nil, cons, terms_in, waiting, clashes}

-- ---- heights

-- How high a term may be, by the number of terms from it on: a column may be of any height that a term may have,
abbrev pub Rooms : Type 0
Rooms = ℕ → ℕ

abbrev pub of_columns : Rooms
of_columns count = most_height

-- and an argument is as many applications deep as there are arguments from it on.
abbrev pub of_arguments : (room : ℕ) → Rooms
of_arguments room count = room - count

-- A constructor takes the place of the term; it is Deep where it is too high there.
abbrev pub in_room : (room : ℕ) → Term → Option Built → Result Term Stop
in_room room w None = Ok w
in_room room w (Some b) = cond (nat_le (height w) room) (Ok w) (Err Deep)

-- the head form with which a pattern is compared
abbrev pub compared_head : Signature → (room left : ℕ) → Term → Spent Term
compared_head S room left t = and_next (whnf_of S true left t) (λ w rest. answered (in_room room w (built_of S w)) rest)

-- ---- comparisons

-- the term is kept as it is reduced, with the pairs of its arguments
abbrev pub builds : Built → Pairs → Pair
builds b pairs = Builds b.n b.number b.parameters pairs

-- A constructor pattern against a term with the head form w: with its own constructor the arguments are worked, with another one it
-- clashes, and with none it stays open.
abbrev pub compared : (n number : ℕ) → Pats → (t w : Term) → (work : List Term → ℕ → Spent Pairs) → Option Built → ℕ → Spent Pair
compared n number pats t w work None left = answered (Ok (Waits (pattern.Con n number pats) t)) left
compared n number pats t w work (Some b) left =
    cond (is_constructor n number b)
    (and_next (work b.arguments left) (λ pairs rest. answered (Ok (builds b pairs)) rest))
    (answered (Ok (Clashes (pattern.Con n number pats) w)) left)

-- the absurd pattern clashes with every constructor
abbrev pub against_absurd : (t w : Term) → Option Built → Pair
against_absurd t w None = Waits pattern.Absurd t
against_absurd t w (Some b) = Clashes pattern.Absurd w

-- the other pairs, or those that wait after a clash: they are not worked, since the clause is dropped
abbrev pub unless_clash : (waits : Pairs) → (work : ℕ → Spent Pairs) → Pair → ℕ → Spent Pairs
unless_clash waits work pair left =
    cond (clashes pair) (answered (Ok (cons pair waits)) left)
    (and_next (work left) (λ pairs rest. answered (Ok (cons pair pairs)) rest))

abbrev mutual
  -- A pattern with a term that it was not compared with yet, which may be so high.
  pub work_pattern : Signature → (room : ℕ) → Pat → Term → ℕ → Spent Pair
  work_pattern S room pattern.Bind t left = answered (Ok (Binds t)) left
  work_pattern S room pattern.Wild t left = answered (Ok (Passes t)) left
  work_pattern S room (pattern.Dot written) t left = answered (Ok (Keeps written t)) left
  work_pattern S room (pattern.Con n number pats) t left =
      and_next (compared_head S room left t) (λ w rest.
      compared n number pats t w (work_patterns S (of_arguments room) pats) (built_of S w) rest)
  work_pattern S room pattern.Absurd t left =
      and_next (compared_head S room left t) (λ w rest. answered (Ok (against_absurd t w (built_of S w))) rest)

  pub work_patterns : Signature → Rooms → Pats → List Term → ℕ → Spent Pairs
  work_patterns S rooms (pattern.cons pat pats) (t ∷ terms) left =
      and_next (work_pattern S (rooms (length (t ∷ terms))) pat t left)
      (unless_clash (waiting pats terms) (work_patterns S rooms pats terms))
  work_patterns S rooms _ _ left = answered (Ok nil) left

abbrev mutual
  -- The pairs of a clause: those that wait are worked, the others are done.
  pub work_pair : Signature → (room : ℕ) → Pair → ℕ → Spent Pair
  work_pair S room (Waits pat t) left = work_pattern S room pat t left
  work_pair S room (Builds n number ps pairs) left =
      and_next (work_pairs S (of_arguments room) pairs left) (λ worked rest. answered (Ok (Builds n number ps worked)) rest)
  work_pair S room pair left = answered (Ok pair) left

  pub work_pairs : Signature → Rooms → Pairs → ℕ → Spent Pairs
  work_pairs S rooms nil left = answered (Ok nil) left
  work_pairs S rooms (cons pair pairs) left =
      and_next (work_pair S (rooms (length (terms_in (cons pair pairs)))) pair left) (unless_clash pairs (work_pairs S rooms pairs))
