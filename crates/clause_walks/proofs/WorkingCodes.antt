-- Working as the code does it, after pairs that are made, is that of the definition.
use Rattle.std.proofs.Common.{◌≡◌, ℕ, ◌+◌, ◌-◌, ◌*◌, ◌≤◌, ◌<◌, true, false, cond, Result, Ok, Err, List, [], ◌∷◌, ◌++◌, length, map, take, drop, get_or, refl, sym, ap, ◌∙◌, subst, arith}
use Rattle.std.proofs.lemmas.List.{map-append}
use Rattle.std.proofs.lemmas.List.Elements.{All-tail}
use Rattle.std.specs.List.{All}
use Rattle.theory.specs.Terms.{Term}
use Rattle.theory.specs.Signatures.{Signature}
use Rattle.theory.specs.SignatureScopes.{IsScoped}
use Rattle.core_terms.specs.Answers.{Spent, Gives, Runs, on_answer, and_next}
use Rattle.core_terms.specs.Meanings.{tree_of, tele_of}
use Rattle.core_terms.specs.PatternMeanings.{pats_of}
use Rattle.core_terms.specs.Patterns.{Pats}
use Rattle.core_terms.specs.declared.pattern.Pat as pattern
use Rattle.core_terms.specs.declared.stop.Stop.{Stop}
use Rattle.core_terms.specs.declared.term.Term as term
use Rattle.kernel_reduce.specs.Reduction.{answered}
use Rattle.case_trees.specs.pattern_vectors.Meeting as size
use Rattle.case_trees.proofs.pattern_vectors.CommonColumns.{rest-of}
use Rattle.case_trees.specs.Pairs.{Pair, Pairs, Builds, cons, term_in, terms_in, clashes}
use Rattle.case_trees.specs.Working.{Rooms, unless_clash, work_patterns, work_pair, work_pairs}
use Rattle.case_trees.proofs.ScopedWorking.{applied-parts}
use Rattle.clause_walks.specs.declared.pairs.Pair as code
use Rattle.clause_walks.specs.Meanings.{pair_of, pairs_of, put_before, behind}
use Rattle.clause_walks.specs.CodeWorking.{onto}
use Rattle.clause_walks.specs.Sizes.{size_of, size_of_all}
use Rattle.clause_walks.proofs.Behind.{before_more, made-all, pairs-first}

-- ---- answers

-- a result that is made without units, once the units are spent
pub gives-runs : {A B : Type 0} (f : A → B) (result : Result A Stop) (v : B) (left : ℕ) (meant : Spent B) → Gives f result (Ok v)
    → ◌≡◌ {A = Spent B} (Ok v, left) meant → Runs f result left meant
gives-runs {A} {B} f (Ok a) v left meant h is = ap (λ (r : Result B Stop). (r, left)) h ∙ is
gives-runs {A} {B} f (Err e) v left meant h is = λ other. absurd (let wrong : ◌≡◌ {A = Result B Stop} (Err e) (Ok v) = h other in cc)

pub refused-next : {A B : Type 0} (first : Spent A) (go : A → ℕ → Spent B) (e : Stop) (left : ℕ) → ◌≡◌ {A = Spent A} (Err e, left) first
    → ◌≡◌ {A = Spent B} (Err e, left) (and_next first go)
refused-next first go e left is = ap (λ r. and_next r go) is

pub answered-next : {A B : Type 0} (first : Spent A) (go : A → ℕ → Spent B) (a : A) (left : ℕ) → ◌≡◌ {A = Spent A} (Ok a, left) first
    → go a left ≡ and_next first go
answered-next first go a left is = ap (λ r. and_next r go) is

-- ---- after pairs that are made

onto-more : (made : List Pair) (pair : Pair) (spent : Spent Pairs) → onto (made ++ pair ∷ []) spent ≡ onto made (and_next spent (λ pairs left. answered (Ok (cons pair pairs)) left))
onto-more made pair spent = by spent.0 spent.1
  where
    by : (r : Result Pairs Stop) (left : ℕ)
        → ◌≡◌ {A = Spent Pairs} (on_answer r left (λ pairs left. answered (Ok (put_before (made ++ pair ∷ []) pairs)) left))
        (onto made (on_answer r left (λ pairs left. answered (Ok (cons pair pairs)) left)))
    by (Ok pairs) left = ap (λ ps. answered (Ok ps) left) (before_more made pair pairs)
    by (Err e) left = refl

clash-of : (made : List Pair) (waits : Pairs) (work : ℕ → Spent Pairs) (pair : Pair) (left : ℕ) → clashes pair ≡ true
    → ◌≡◌ {A = Spent Pairs} (Ok (put_before (made ++ pair ∷ []) waits), left) (onto made (unless_clash waits work pair left))
clash-of made waits work pair left clash =
    ap (λ ps. answered (Ok ps) left) (before_more made pair waits)
    ∙ ap (λ test. onto made (cond test (answered (Ok (cons pair waits)) left) (and_next (work left) (λ pairs rest. answered (Ok (cons pair pairs)) rest)))) (sym clash)

clean-of : (made : List Pair) (waits : Pairs) (work : ℕ → Spent Pairs) (pair : Pair) (left : ℕ) → clashes pair ≡ false
    → onto (made ++ pair ∷ []) (work left) ≡ onto made (unless_clash waits work pair left)
clean-of made waits work pair left clean =
    onto-more made pair (work left)
    ∙ ap (λ test. onto made (cond test (answered (Ok (cons pair waits)) left) (and_next (work left) (λ pairs rest. answered (Ok (cons pair pairs)) rest)))) (sym clean)

snoc-is : (made new : List code.Pair) (pair : code.Pair) → new ≡ made ++ pair ∷ [] → map pair_of new ≡ map pair_of made ++ pair_of pair ∷ []
snoc-is made new pair is = ap (map pair_of) is ∙ map-append pair_of made (pair ∷ [])

pub clash-behind : (made new : List code.Pair) (pair : code.Pair) (waits : Pairs) (work : ℕ → Spent Pairs) (left : ℕ) → new ≡ made ++ pair ∷ [] → clashes (pair_of pair) ≡ true
    → ◌≡◌ {A = Spent Pairs} (Ok (behind new waits), left) (onto (map pair_of made) (unless_clash waits work (pair_of pair) left))
clash-behind made new pair waits work left is clash =
    ap (λ all. answered (Ok (put_before all waits)) left) (snoc-is made new pair is) ∙ clash-of (map pair_of made) waits work (pair_of pair) left clash

pub clean-behind : (made new : List code.Pair) (pair : code.Pair) (waits : Pairs) (work : ℕ → Spent Pairs) (left : ℕ) → new ≡ made ++ pair ∷ [] → clashes (pair_of pair) ≡ false
    → onto (map pair_of new) (work left) ≡ onto (map pair_of made) (unless_clash waits work (pair_of pair) left)
clean-behind made new pair waits work left is clean =
    ap (λ all. onto all (work left)) (snoc-is made new pair is) ∙ clean-of (map pair_of made) waits work (pair_of pair) left clean

-- nothing is made yet
onto-none : (spent : Spent Pairs) → onto [] spent ≡ spent
onto-none spent = by spent.0 spent.1
  where
    by : (r : Result Pairs Stop) (left : ℕ) → ◌≡◌ {A = Spent Pairs} (on_answer r left (λ pairs left. answered (Ok pairs) left)) (r, left)
    by (Ok pairs) left = refl
    by (Err e) left = refl

pub first-made : (made : List code.Pair) (spent : Spent Pairs) → made ≡ [] → onto (map pair_of made) spent ≡ spent
first-made made spent none = ap (λ all. onto (map pair_of all) spent) none ∙ onto-none spent

-- the terms are a list of the code
module _ (S : Signature) (rooms : Rooms) (made : List code.Pair) (pats : Pats) (terms us : List term.Term) (left end : ℕ) where
  made-first : made ≡ [] → terms ≡ us → onto (map pair_of made) (work_patterns S rooms pats (tele_of terms) left) ≡ work_patterns S rooms pats (tele_of us) left
  made-first none is = first-made made (work_patterns S rooms pats (tele_of terms) left) none ∙ ap (λ us. work_patterns S rooms pats (tele_of us) left) is

  pub made-refused : (e : Stop) → made ≡ [] → terms ≡ us → ◌≡◌ {A = Spent Pairs} (Err e, end) (onto (map pair_of made) (work_patterns S rooms pats (tele_of terms) left))
      → ◌≡◌ {A = Spent Pairs} (Err e, end) (work_patterns S rooms pats (tele_of us) left)
  made-refused e none is h = h ∙ made-first none is

  pub made-answered : (pairs : Pairs) → made ≡ [] → terms ≡ us → ◌≡◌ {A = Spent Pairs} (Ok pairs, end) (onto (map pair_of made) (work_patterns S rooms pats (tele_of terms) left))
      → ◌≡◌ {A = Spent Pairs} (Ok pairs, end) (work_patterns S rooms pats (tele_of us) left)
  made-answered pairs none is h = h ∙ made-first none is

module _ (S : Signature) (rooms : Rooms) (made : List code.Pair) where
  -- ---- patterns

  pub patterns-none : (pats : List pattern.Pat) (terms : List Term) (left : ℕ) → length pats < 1
      → ◌≡◌ {A = Spent Pairs} (Ok (pairs_of made), left) (onto (map pair_of made) (work_patterns S rooms (pats_of pats) terms left))
  patterns-none [] terms left few = ap (λ ps. answered (Ok ps) left) (made-all made)
  patterns-none (pat ∷ pats) terms left few = absurd (grind arith)

  pub patterns-no_terms : (pats : List pattern.Pat) (terms : List term.Term) (left : ℕ) → 1 ≤ length pats → length terms < 1
      → ◌≡◌ {A = Spent Pairs} (Ok (pairs_of made), left) (onto (map pair_of made) (work_patterns S rooms (pats_of pats) (tele_of terms) left))
  patterns-no_terms [] terms left some few = absurd (grind arith)
  patterns-no_terms (pat ∷ pats) [] left some few = ap (λ ps. answered (Ok ps) left) (made-all made)
  patterns-no_terms (pat ∷ pats) (t ∷ terms) left some few = absurd (grind arith)

  -- ---- pairs

  pub pairs-end : (pairs : List code.Pair) (left : ℕ) → length pairs < 1
      → ◌≡◌ {A = Spent Pairs} (Ok (pairs_of made), left) (onto (map pair_of made) (work_pairs S rooms (pairs_of pairs) left))
  pairs-end [] left few = ap (λ ps. answered (Ok ps) left) (made-all made)
  pairs-end (pair ∷ pairs) left few = absurd (grind arith)

  terms-length : (pairs : List code.Pair) → length (terms_in (pairs_of pairs)) ≡ length pairs
  terms-length [] = refl
  terms-length (pair ∷ pairs) = let h = terms-length pairs in omega (arith, h)

  abbrev pub after-pairs : (pairs : List code.Pair) → Pair → ℕ → Spent Pairs
  after-pairs pairs = unless_clash (pairs_of pairs) (work_pairs S rooms (pairs_of pairs))

  pairs-step : (pairs : List code.Pair) (pair : code.Pair) (left : ℕ) → 1 ≤ length pairs → pair ≡ get_or pairs 0 pair
      → work_pairs S rooms (pairs_of pairs) left ≡ and_next (work_pair S (rooms (length pairs)) (pair_of pair) left) (after-pairs (drop 1 pairs))
  pairs-step [] pair left some is = absurd (grind arith)
  pairs-step (first ∷ pairs) pair left some is =
      ap (λ n. and_next (work_pair S (rooms n) (pair_of first) left) (after-pairs pairs)) (terms-length (first ∷ pairs))
      ∙ ap (λ p. and_next (work_pair S (rooms (length (first ∷ pairs))) (pair_of p) left) (after-pairs pairs)) (sym is)

  pub pairs-refused : (pairs : List code.Pair) (pair : code.Pair) (room left end : ℕ) (e : Stop) → 1 ≤ length pairs → pair ≡ get_or pairs 0 pair → room ≡ rooms (length pairs)
      → ◌≡◌ {A = Spent Pair} (Err e, end) (work_pair S room (pair_of pair) left)
      → ◌≡◌ {A = Spent Pairs} (Err e, end) (onto (map pair_of made) (work_pairs S rooms (pairs_of pairs) left))
  pairs-refused pairs pair room left end e some first at is =
      ap (onto (map pair_of made))
      (refused-next (work_pair S (rooms (length pairs)) (pair_of pair) left) (after-pairs (drop 1 pairs)) e end
      (subst (λ n. ◌≡◌ {A = Spent Pair} (Err e, end) (work_pair S n (pair_of pair) left)) at is)
      ∙ sym (pairs-step pairs pair left some first))

  pub pairs-go : (pairs rest : List code.Pair) (pair : code.Pair) (new : Pair) (room left end : ℕ) → 1 ≤ length pairs → pair ≡ get_or pairs 0 pair → room ≡ rooms (length pairs)
      → rest ≡ take (length pairs - 1) (drop 1 pairs)
      → ◌≡◌ {A = Spent Pair} (Ok new, end) (work_pair S room (pair_of pair) left)
      → onto (map pair_of made) (after-pairs rest new end) ≡ onto (map pair_of made) (work_pairs S rooms (pairs_of pairs) left)
  pairs-go pairs rest pair new room left end some first at behind_pairs is =
      ap (onto (map pair_of made))
      (ap (λ ps. after-pairs ps new end) (behind_pairs ∙ rest-of pairs)
      ∙ (answered-next (work_pair S (rooms (length pairs)) (pair_of pair) left) (after-pairs (drop 1 pairs)) new end
      (subst (λ n. ◌≡◌ {A = Spent Pair} (Ok new, end) (work_pair S n (pair_of pair) left)) at is)
      ∙ sym (pairs-step pairs pair left some first)))

-- ---- scoped terms

module _ (S : Signature) (n : ℕ) where
  others-scoped : (terms : List term.Term) → 1 ≤ length terms → All (IsScoped S n) (tele_of terms) → All (IsScoped S n) (tele_of (drop 1 terms))
  others-scoped [] some all = absurd (grind arith)
  others-scoped (u ∷ terms) some all = All-tail (IsScoped S n) (tree_of u) (tele_of terms) all

  pub rest-scoped : (terms : List term.Term) → 1 ≤ length terms → All (IsScoped S n) (tele_of terms) → All (IsScoped S n) (tele_of (take (length terms - 1) (drop 1 terms)))
  rest-scoped terms some all = subst (λ us. All (IsScoped S n) (tele_of us)) (sym (rest-of terms)) (others-scoped terms some all)

  pub rest-pairs-scoped : (pairs : List code.Pair) (pair : code.Pair) → 1 ≤ length pairs → pair ≡ get_or pairs 0 pair → All (IsScoped S n) (terms_in (pairs_of pairs))
      → All (IsScoped S n) (terms_in (pairs_of (take (length pairs - 1) (drop 1 pairs))))
  rest-pairs-scoped pairs pair some is all =
      subst (λ ps. All (IsScoped S n) (terms_in (pairs_of ps))) (sym (rest-of pairs))
      (All-tail (IsScoped S n) (term_in (pair_of pair)) (terms_in (pairs_of (drop 1 pairs))) (subst (λ ps. All (IsScoped S n) (terms_in ps)) (pairs-first pairs pair some is) all))

  -- the pairs of a constructor's arguments
  pub inside-scoped : (pair : Pair) (m number : ℕ) (ps : List Term) (pairs : Pairs) → pair ≡ Builds m number ps pairs → IsScoped S n (term_in pair) → All (IsScoped S n) (terms_in pairs)
  inside-scoped pair m number ps pairs is h = (applied-parts S n m number ps (terms_in pairs) (subst (λ p. IsScoped S n (term_in p)) is h)).2

-- ---- the pairs of a constructor's arguments

-- ---- the measures by which calls fall

pub rest-smaller : (pairs : List code.Pair) (pair : code.Pair) → 1 ≤ length pairs → pair ≡ get_or pairs 0 pair
    → 4 * size_of_all (pairs_of (take (length pairs - 1) (drop 1 pairs))) + 1 < 4 * size_of_all (pairs_of pairs)
rest-smaller pairs pair some is =
    let all : size_of_all (pairs_of pairs) ≡ 1 + (size_of (pair_of pair) + size_of_all (pairs_of (drop 1 pairs))) = ap size_of_all (pairs-first pairs pair some is) in
    let rest : size_of_all (pairs_of (take (length pairs - 1) (drop 1 pairs))) ≡ size_of_all (pairs_of (drop 1 pairs)) = ap (λ ps. size_of_all (pairs_of ps)) (rest-of pairs) in
    omega (arith, all, rest)

pub inside-smaller : (pair : Pair) (n number : ℕ) (ps : List Term) (pairs : Pairs) → pair ≡ Builds n number ps pairs → 4 * size_of_all pairs + 2 < 4 * size_of pair
inside-smaller pair n number ps pairs is =
    let all : size_of pair ≡ 1 + size_of_all pairs = ap size_of is in
    omega (arith, all)

pub rest-patterns-smaller : (pats : List pattern.Pat) (pat : pattern.Pat) → 1 ≤ length pats → pat ≡ get_or pats 0 pat
    → 4 * size.size_of_all (pats_of (take (length pats - 1) (drop 1 pats))) + 1 < 4 * size.size_of_all (pats_of pats)
rest-patterns-smaller [] pat some is = absurd (grind arith)
rest-patterns-smaller (p ∷ pats) pat some is =
    let rest : size.size_of_all (pats_of (take (length (p ∷ pats) - 1) (drop 1 (p ∷ pats)))) ≡ size.size_of_all (pats_of pats) = ap (λ ps. size.size_of_all (pats_of ps)) (rest-of (p ∷ pats)) in
    omega (arith, rest)
