-- Working keeps low pairs low: a constructor takes the place of its term only if it is not too high there.
use Rattle.std.proofs.Common.{◌≡◌, ℕ, ◌+◌, ◌≤◌, nat_le, Bool, true, false, cond, Option, Some, None, Result, Ok, Err, IfOk, List, [], ◌∷◌, ◌++◌, length, refl, subst as transport, arith}
use Rattle.std.proofs.lemmas.Bool.{and_from}
use Rattle.std.proofs.lemmas.Bool.Decides.{nat_tests}
use Rattle.theory.specs.Terms.{Term, App, Con, height}
use Rattle.theory.specs.Telescopes.{applied}
use Rattle.theory.specs.Signatures.{Signature}
use Rattle.core_terms.specs.Answers.{Spent, and_next, is_low, are_low}
use Rattle.core_terms.specs.Patterns as pattern
use Rattle.core_terms.specs.Patterns.{Pat, Pats}
use Rattle.core_terms.specs.declared.stop.Stop.{Stop}
use Rattle.core_terms.specs.declared.stop.Stop.TheVariants.{Deep}
use Rattle.core_terms.proofs.Builders.{height-applied}
use Rattle.kernel_reduce.specs.Reduction.{whnf_of}
use Rattle.unification.specs.Built.{Built, built_of}
use Rattle.unification.proofs.Constructors.{built-is}
use Rattle.case_trees.specs.pattern_vectors.Matching.{is_constructor}
use Rattle.case_trees.proofs.pattern_vectors.Separate.{and-both}
use Rattle.case_trees.specs.Pairs.{Pair, Pairs, Waits, Binds, Passes, Keeps, Builds, Clashes, nil, cons, terms_in, waiting, clashes, is_low_pair, are_low_pairs}
use Rattle.case_trees.specs.Working.{Rooms, of_columns, of_arguments, in_room, compared_head, compared, against_absurd, unless_clash, work_pattern, work_patterns, work_pair, work_pairs}
use Rattle.case_trees.proofs.Answered.{and_next-ok}

abbrev pub IsLow : Pair → Type 0
IsLow pair = is_low_pair pair ≡ true

abbrev pub AreLow : Pairs → Type 0
AreLow pairs = are_low_pairs pairs ≡ true

-- ---- terms

is-low : (t : Term) → height t ≤ 2000 → is_low t ≡ true
is-low t le = grind (arith, nat_tests)

-- the arguments of a low term are low
low-arguments : (h : Term) (us : List Term) → height (applied h us) ≤ 2000 → are_low us ≡ true
low-arguments h [] le = refl
low-arguments h (u ∷ us) le =
    let under : height (App h u) + length us ≤ height (applied (App h u) us) = height-applied (App h u) us in
    and_from (is_low u) (are_low us) (is-low u (omega arith)) (low-arguments (App h u) us le)

low-parts : (ps us : List Term) → are_low (ps ++ us) ≡ true → (are_low ps ≡ true) × (are_low us ≡ true)
low-parts [] us e = (refl, e)
low-parts (p ∷ ps) us e =
    let (one, others) = and-both (is_low p) (are_low (ps ++ us)) e in
    let (first, rest) = low-parts ps us others in
    (and_from (is_low p) (are_low ps) one first, rest)

-- the parts of a constructor that is low
built-low : (S : Signature) (w : Term) (b : Built) → built_of S w ≡ Some b → height w ≤ 2000 → (are_low b.parameters ≡ true) × (are_low b.arguments ≡ true)
built-low S w b e le =
    low-parts b.parameters b.arguments
    (low-arguments (Con b.n b.number) (b.parameters ++ b.arguments) (transport (λ t. height t ≤ 2000) (built-is S w b e).term le))

-- ---- heads

-- where the term is a constructor it is as high as the room at most
abbrev HasRoom : Signature → (room : ℕ) → Term → Type 0
HasRoom S room w = (b : Built) → built_of S w ≡ Some b → height w ≤ room

room-tested : (S : Signature) (room : ℕ) (w : Term) (test : Bool) → nat_le (height w) room ≡ test → IfOk (cond test (Ok w) (Err Deep)) (HasRoom S room)
room-tested S room w true e = λ b found. grind (arith, nat_tests)
room-tested S room w false e = tt

in-room : (S : Signature) (room : ℕ) (w : Term) (o : Option Built) → built_of S w ≡ o → IfOk (in_room room w o) (HasRoom S room)
in-room S room w None e = λ b found. absurd (grind arith)
in-room S room w (Some c) e = room-tested S room w (nat_le (height w) room) refl

head-room : (S : Signature) (room left : ℕ) (t : Term) → IfOk (compared_head S room left t).0 (HasRoom S room)
head-room S room left t =
    and_next-ok (λ w. Unit {0}) (HasRoom S room) (whnf_of S true left t) _ (any (whnf_of S true left t).0) (λ w rest h. in-room S room w (built_of S w) refl)
  where
    any : (r : Result Term Stop) → IfOk r (λ w. Unit {0})
    any (Ok w) = tt
    any (Err e) = tt

-- ---- patterns

waiting-low : (pats : Pats) (terms : List Term) → are_low terms ≡ true → AreLow (waiting pats terms)
waiting-low pattern.nil terms e = refl
waiting-low (pattern.cons pat pats) [] e = refl
waiting-low (pattern.cons pat pats) (t ∷ terms) e =
    let (one, others) = and-both (is_low t) (are_low terms) e in
    and_from (is_low t) (are_low_pairs (waiting pats terms)) one (waiting-low pats terms others)

compared-low : (S : Signature) (room : ℕ) (rooms : Rooms) (n number : ℕ) (pats : Pats) (t w : Term) (o : Option Built) (left : ℕ) → room ≤ 2000 → is_low t ≡ true
    → built_of S w ≡ o → HasRoom S room w
    → ((us : List Term) (next : ℕ) → are_low us ≡ true → IfOk (work_patterns S rooms pats us next).0 AreLow)
    → IfOk (compared n number pats t w (work_patterns S rooms pats) o left).0 IsLow
compared-low S room rooms n number pats t w None left most low e has work = low
compared-low S room rooms n number pats t w (Some b) left most low e has work = by (is_constructor n number b)
  where
    by : (test : Bool)
        → IfOk (cond test (and_next (work_patterns S rooms pats b.arguments left) (λ pairs rest. (Ok (Builds b.n b.number b.parameters pairs), rest)))
        (Ok (Clashes (pattern.Con n number pats) w), left)).0 IsLow
    by true =
        let le : height w ≤ room = has b e in
        let parts = built-low S w b e (omega arith) in
        and_next-ok AreLow IsLow (work_patterns S rooms pats b.arguments left) _ (work b.arguments left parts.1)
        (λ pairs rest h. and_from (are_low b.parameters) (are_low_pairs pairs) parts.0 h)
    by false =
        let le : height w ≤ room = has b e in
        is-low w (omega arith)

against-low : (S : Signature) (room : ℕ) (t w : Term) (o : Option Built) → room ≤ 2000 → is_low t ≡ true → built_of S w ≡ o → HasRoom S room w
    → IsLow (against_absurd t w o)
against-low S room t w None most low e has = low
against-low S room t w (Some b) most low e has =
    let le : height w ≤ room = has b e in
    is-low w (omega arith)

unless-low : (waits : Pairs) (work : ℕ → Spent Pairs) (pair : Pair) (left : ℕ) → IsLow pair → AreLow waits → IfOk (work left).0 AreLow
    → IfOk (unless_clash waits work pair left).0 AreLow
unless-low waits work pair left low rest h = by (clashes pair)
  where
    by : (test : Bool)
        → IfOk (cond test (Ok (cons pair waits), left) (and_next (work left) (λ pairs rest. (Ok (cons pair pairs), rest)))).0 AreLow
    by true = and_from (is_low_pair pair) (are_low_pairs waits) low rest
    by false = and_next-ok AreLow AreLow (work left) _ h (λ pairs next k. and_from (is_low_pair pair) (are_low_pairs pairs) low k)

-- no room is higher than a term may be
abbrev pub AreRooms : Rooms → Type 0
AreRooms rooms = (count : ℕ) → rooms count ≤ 2000

arguments-rooms : (room : ℕ) → room ≤ 2000 → AreRooms (of_arguments room)
arguments-rooms room most = λ count. omega arith

mutual
  pattern-low : (S : Signature) (room : ℕ) (pat : Pat) (t : Term) (left : ℕ) → room ≤ 2000 → is_low t ≡ true → IfOk (work_pattern S room pat t left).0 IsLow
  pattern-low S room pattern.Bind t left most low = low
  pattern-low S room pattern.Wild t left most low = refl
  pattern-low S room (pattern.Dot written) t left most low = low
  pattern-low S room (pattern.Con n number pats) t left most low =
      and_next-ok (HasRoom S room) IsLow (compared_head S room left t) _ (head-room S room left t) (λ w rest has.
      compared-low S room (of_arguments room) n number pats t w (built_of S w) rest most low refl has
      (λ us next h. patterns-low S (of_arguments room) pats us next (arguments-rooms room most) h))
  pattern-low S room pattern.Absurd t left most low =
      and_next-ok (HasRoom S room) IsLow (compared_head S room left t) _ (head-room S room left t) (λ w rest has.
      against-low S room t w (built_of S w) most low refl has)

  patterns-low : (S : Signature) (rooms : Rooms) (pats : Pats) (terms : List Term) (left : ℕ) → AreRooms rooms → are_low terms ≡ true
      → IfOk (work_patterns S rooms pats terms left).0 AreLow
  patterns-low S rooms (pattern.cons pat pats) (t ∷ terms) left most low =
      let (one, others) = and-both (is_low t) (are_low terms) low in
      and_next-ok IsLow AreLow (work_pattern S (rooms (length (t ∷ terms))) pat t left) _
      (pattern-low S (rooms (length (t ∷ terms))) pat t left (most (length (t ∷ terms))) one) (λ pair rest h.
      unless-low (waiting pats terms) (work_patterns S rooms pats terms) pair rest h (waiting-low pats terms others) (patterns-low S rooms pats terms rest most others))
  patterns-low S rooms (pattern.cons pat pats) [] left most low = refl
  patterns-low S rooms pattern.nil terms left most low = refl

-- ---- pairs

mutual
  pair-low : (S : Signature) (room : ℕ) (pair : Pair) (left : ℕ) → room ≤ 2000 → IsLow pair → IfOk (work_pair S room pair left).0 IsLow
  pair-low S room (Waits pat t) left most low = pattern-low S room pat t left most low
  pair-low S room (Binds t) left most low = low
  pair-low S room (Passes t) left most low = refl
  pair-low S room (Keeps written t) left most low = low
  pair-low S room (Builds n number ps pairs) left most low =
      let (first, others) = and-both (are_low ps) (are_low_pairs pairs) low in
      and_next-ok AreLow IsLow (work_pairs S (of_arguments room) pairs left) _ (pairs-low S (of_arguments room) pairs left (arguments-rooms room most) others)
      (λ new rest h. and_from (are_low ps) (are_low_pairs new) first h)
  pair-low S room (Clashes pat t) left most low = low

  -- low pairs are worked to low pairs
  pub pairs-low : (S : Signature) (rooms : Rooms) (pairs : Pairs) (left : ℕ) → AreRooms rooms → AreLow pairs → IfOk (work_pairs S rooms pairs left).0 AreLow
  pairs-low S rooms nil left most low = refl
  pairs-low S rooms (cons pair pairs) left most low =
      let (one, others) = and-both (is_low_pair pair) (are_low_pairs pairs) low in
      and_next-ok IsLow AreLow (work_pair S (rooms (length (terms_in (cons pair pairs)))) pair left) _
      (pair-low S (rooms (length (terms_in (cons pair pairs)))) pair left (most (length (terms_in (cons pair pairs)))) one) (λ new rest h.
      unless-low pairs (work_pairs S rooms pairs) new rest h others (pairs-low S rooms pairs rest most others))

pub columns-low : (S : Signature) (pairs : Pairs) (left : ℕ) → are_low_pairs pairs ≡ true
    → IfOk (work_pairs S of_columns pairs left).0 (λ new. are_low_pairs new ≡ true)
columns-low S pairs left low = pairs-low S of_columns pairs left (λ count. omega arith) low
