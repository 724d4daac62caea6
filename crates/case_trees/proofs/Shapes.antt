-- Pairs keep to the patterns of their clause.
use Rattle.std.proofs.Common.{◌≡◌, ℕ, true, false, Some, List, [], ◌∷◌, ◌++◌, length, map, refl, ap, ap₂, sym, ◌∙◌, arith}
use Rattle.std.proofs.lemmas.Bool.{false≢true, true≢false, and_from, or_parts}
use Rattle.std.proofs.lemmas.List.{map-append}
use Rattle.theory.specs.Terms.{Term, Con}
use Rattle.theory.specs.Substitutions.{inst}
use Rattle.theory.specs.Telescopes.{applied}
use Rattle.theory.specs.Signatures.{Signature}
use Rattle.theory.proofs.Instantiation.{inst-applied}
use Rattle.core_terms.specs.Patterns as pattern
use Rattle.core_terms.specs.Patterns.{Pat, Pats}
use Rattle.kernel_reduce.specs.Entries.{constructor_at}
use Rattle.unification.specs.Built.{Built, built_of}
use Rattle.case_trees.specs.pattern_vectors.Columns.{IsWhole, AreWhole}
use Rattle.case_trees.specs.pattern_vectors.Matching.{is_as_long, is_constructor, matches, matches_all, matches_built, is_apart}
use Rattle.unification.proofs.Constructors.{found-constructor, instance_of, built-instance}
use Rattle.case_trees.proofs.pattern_vectors.Opens.{as-long-counted, numbers-same}
use Rattle.case_trees.specs.Pairs.{Pair, Pairs, Waits, Binds, Passes, Keeps, Builds, Clashes, nil, cons, waiting, term_in, terms_in, clashes, some_clashes, open_in, all_open, with_terms, all_with_terms}
use Rattle.case_trees.proofs.Workings as work
use Rattle.case_trees.proofs.Workings.{ReducesTo, Works, WorkAll, Becomes, AllBecome}
use Rattle.case_trees.proofs.Arguments.{built-with}

-- the term is another constructor than the pattern's, or any against ( )
pub data IsClash (S : Signature) : Pat → Term → Type 0 where
  another : (n number : ℕ) (pats : Pats) (t : Term) (b : Built) → built_of S t ≡ Some b → is_constructor n number b ≡ false
      → IsClash S (pattern.Con n number pats) t
  any : (t : Term) (b : Built) → built_of S t ≡ Some b → IsClash S pattern.Absurd t

mutual
  -- the pair is one of the pattern
  pub data HasShape (S : Signature) : Pat → Pair → Type 0 where
    waits : (pat : Pat) (t : Term) → HasShape S pat (Waits pat t)
    binds : (t : Term) → HasShape S pattern.Bind (Binds t)
    passes : (t : Term) → HasShape S pattern.Wild (Passes t)
    keeps : (written t : Term) → HasShape S (pattern.Dot written) (Keeps written t)
    builds : (n number : ℕ) (pats : Pats) (b : Built) (pairs : Pairs) → built_of S (term_in (Builds b.n b.number b.parameters pairs)) ≡ Some b
        → is_constructor n number b ≡ true → b.arguments ≡ terms_in pairs → HaveShapes S pats pairs
        → HasShape S (pattern.Con n number pats) (Builds b.n b.number b.parameters pairs)
    apart : (pat : Pat) (t : Term) → IsClash S pat t → HasShape S pat (Clashes pat t)

  pub data HaveShapes (S : Signature) : Pats → Pairs → Type 0 where
    none : HaveShapes S pattern.nil nil
    more : (pat : Pat) (pats : Pats) (pair : Pair) (pairs : Pairs) → HasShape S pat pair → HaveShapes S pats pairs
        → HaveShapes S (pattern.cons pat pats) (cons pair pairs)

-- ---- working

-- as many patterns as the constructor has arguments
pub whole-long : (S : Signature) (n number : ℕ) (pats : Pats) (t : Term) (b : Built) → IsWhole S (pattern.Con n number pats) → built_of S t ≡ Some b
    → is_constructor n number b ≡ true → is_as_long pats b.arguments ≡ true
whole-long S n number pats t b whole e same =
    let (at, count) = found-constructor S t b e in
    let (same_n, same_number) = numbers-same n number b same in
    as-long-counted pats b.arguments b.constructor.arguments count
    ∙ whole.0 b.constructor (sym (ap₂ (constructor_at S) same_n same_number) ∙ at)

pub waiting-shapes : (S : Signature) (pats : Pats) (terms : List Term) → is_as_long pats terms ≡ true
    → HaveShapes S pats (waiting pats terms) × (terms_in (waiting pats terms) ≡ terms)
waiting-shapes S pattern.nil [] long = (none, refl)
waiting-shapes S pattern.nil (t ∷ terms) long = absurd (false≢true long)
waiting-shapes S (pattern.cons pat pats) [] long = absurd (false≢true long)
waiting-shapes S (pattern.cons pat pats) (t ∷ terms) long =
    let (shapes, same) = waiting-shapes S pats terms long in
    (more pat pats (Waits pat t) (waiting pats terms) (waits pat t) shapes, ap (λ ts. t ∷ ts) same)

pub apart-constructor : (S : Signature) (n number : ℕ) (pats : Pats) (w : Term) (b : Built) → built_of S w ≡ Some b → is_constructor n number b ≡ false
    → is_apart S (pattern.Con n number pats) w ≡ true
apart-constructor S n number pats w b e other = rw e (rw other refl)

pub apart-absurd : (S : Signature) (w : Term) (b : Built) → built_of S w ≡ Some b → is_apart S pattern.Absurd w ≡ true
apart-absurd S w b e = rw e refl

pub is_clash-apart : (S : Signature) (pat : Pat) (t : Term) → IsClash S pat t → is_apart S pat t ≡ true
is_clash-apart S _ _ (another n number pats t b e other) = apart-constructor S n number pats t b e other
is_clash-apart S _ _ (any t b e) = apart-absurd S t b e

mutual
  pub works-shape : (S : Signature) (pat : Pat) (t : Term) (pair : Pair) → Works S pat t pair → IsWhole S pat → HasShape S pat pair
  works-shape S _ _ _ (work.binds t) whole = binds t
  works-shape S _ _ _ (work.passes t) whole = passes t
  works-shape S _ _ _ (work.keeps written t) whole = keeps written t
  works-shape S _ _ _ (work.stays n number pats t w to open_term) whole = waits (pattern.Con n number pats) t
  works-shape S _ _ _ (work.builds n number pats t w b pairs to e same all) whole =
      let (shapes, counted) = work-shapes S pats b.arguments pairs all whole.1 (whole-long S n number pats w b whole e same) in
      builds n number pats (record b { arguments = terms_in pairs }) pairs (built-with S w b (terms_in pairs) e counted) same refl shapes
  works-shape S _ _ _ (work.clash n number pats t w b to e other) whole =
      apart (pattern.Con n number pats) w (another n number pats w b e other)
  works-shape S _ _ _ (work.absurd_stays t w to open_term) whole = waits pattern.Absurd t
  works-shape S _ _ _ (work.absurd_clash t w b to e) whole = apart pattern.Absurd w (any w b e)

  pub work-shapes : (S : Signature) (pats : Pats) (terms : List Term) (pairs : Pairs) → WorkAll S pats terms pairs → AreWhole S pats
      → is_as_long pats terms ≡ true → HaveShapes S pats pairs × (length (terms_in pairs) ≡ length terms)
  work-shapes S _ _ _ (work.no_patterns []) whole long = (none, refl)
  work-shapes S _ _ _ (work.no_patterns (t ∷ terms)) whole long = absurd (false≢true long)
  work-shapes S _ _ _ (work.no_terms pat pats) whole long = absurd (false≢true long)
  work-shapes S _ _ _ (work.more pat pats t terms pair pairs h clean all) whole long =
      let (shapes, counted) = work-shapes S pats terms pairs all whole.1 long in
      (more pat pats pair pairs (works-shape S pat t pair h whole.0) shapes, grind arith)
  work-shapes S _ _ _ (work.ends pat pats t terms pair h clash) whole long =
      let (shapes, same) = waiting-shapes S pats terms long in
      (more pat pats pair (waiting pats terms) (works-shape S pat t pair h whole.0) shapes, ap (λ ts. length (t ∷ ts)) same)

mutual
  pub becomes-shape : (S : Signature) (pat : Pat) (pair new : Pair) → Becomes S pair new → HasShape S pat pair → IsWhole S pat → HasShape S pat new
  becomes-shape S pat _ _ (work.worked _ t new h) (waits _ _) whole = works-shape S pat t new h whole
  becomes-shape S _ _ _ (work.inside _ _ _ pairs new all) (builds n number pats b _ e same args shapes) whole =
      let (kept, counted) = all-shapes S pats pairs new all shapes whole.1 in
      builds n number pats (record b { arguments = terms_in new }) new
      (built-with S (term_in (Builds b.n b.number b.parameters pairs)) b (terms_in new) e (counted ∙ ap length (sym args))) same refl kept
  becomes-shape S _ _ _ (work.bound _) (binds t) whole = binds t
  becomes-shape S _ _ _ (work.passed _) (passes t) whole = passes t
  becomes-shape S _ _ _ (work.kept _ _) (keeps written t) whole = keeps written t
  becomes-shape S _ _ _ (work.clashed _ _) (apart pat t far) whole = apart pat t far

  pub all-shapes : (S : Signature) (pats : Pats) (pairs new : Pairs) → AllBecome S pairs new → HaveShapes S pats pairs → AreWhole S pats
      → HaveShapes S pats new × (length (terms_in new) ≡ length (terms_in pairs))
  all-shapes S _ _ _ work.none none whole = (none, refl)
  all-shapes S _ _ _ (work.more _ new _ others h clean all) (more pat pats pair pairs shape shapes) whole =
      let (kept, counted) = all-shapes S pats pairs others all shapes whole.1 in
      (more pat pats new others (becomes-shape S pat pair new h shape whole.0) kept, grind arith)
  all-shapes S _ _ _ (work.ends _ new _ h clash) (more pat pats pair pairs shape shapes) whole =
      (more pat pats new pairs (becomes-shape S pat pair new h shape whole.0) shapes, refl)

-- ---- instances

mutual
  pub term-moved : (s : ℕ → Term) (pair : Pair) → term_in (with_terms (inst s) pair) ≡ inst s (term_in pair)
  term-moved s (Waits pat t) = refl
  term-moved s (Binds t) = refl
  term-moved s (Passes t) = refl
  term-moved s (Keeps written t) = refl
  term-moved s (Clashes pat t) = refl
  term-moved s (Builds n number ps pairs) =
      ap (λ us. applied (Con n number) (map (inst s) ps ++ us)) (terms-moved s pairs)
      ∙ (ap (applied (Con n number)) (sym (map-append (inst s) ps (terms_in pairs)))
      ∙ sym (inst-applied s (Con n number) (ps ++ terms_in pairs)))

  pub terms-moved : (s : ℕ → Term) (pairs : Pairs) → terms_in (all_with_terms (inst s) pairs) ≡ map (inst s) (terms_in pairs)
  terms-moved s nil = refl
  terms-moved s (cons pair pairs) = ap₂ (λ t ts. t ∷ ts) (term-moved s pair) (terms-moved s pairs)

clash-stays : (S : Signature) (s : ℕ → Term) (pat : Pat) (t : Term) → IsClash S pat t → IsClash S pat (inst s t)
clash-stays S s _ _ (another n number pats t b e other) = another n number pats (inst s t) (instance_of s b) (built-instance S s t b e) other
clash-stays S s _ _ (any t b e) = any (inst s t) (instance_of s b) (built-instance S s t b e)

mutual
  pub moved-shape : (S : Signature) (s : ℕ → Term) (pat : Pat) (pair : Pair) → HasShape S pat pair → HasShape S pat (with_terms (inst s) pair)
  moved-shape S s _ _ (waits pat t) = waits pat (inst s t)
  moved-shape S s _ _ (binds t) = binds (inst s t)
  moved-shape S s _ _ (passes t) = passes (inst s t)
  moved-shape S s _ _ (keeps written t) = keeps written (inst s t)
  moved-shape S s _ _ (builds n number pats b pairs e same args shapes) =
      builds n number pats (instance_of s b) (all_with_terms (inst s) pairs)
      (ap (built_of S) (term-moved s (Builds b.n b.number b.parameters pairs)) ∙ built-instance S s (term_in (Builds b.n b.number b.parameters pairs)) b e)
      same (ap (map (inst s)) args ∙ sym (terms-moved s pairs)) (moved-shapes S s pats pairs shapes)
  moved-shape S s _ _ (apart pat t far) = apart pat (inst s t) (clash-stays S s pat t far)

  pub moved-shapes : (S : Signature) (s : ℕ → Term) (pats : Pats) (pairs : Pairs) → HaveShapes S pats pairs → HaveShapes S pats (all_with_terms (inst s) pairs)
  moved-shapes S s _ _ none = none
  moved-shapes S s _ _ (more pat pats pair pairs shape shapes) =
      more pat pats (with_terms (inst s) pair) (all_with_terms (inst s) pairs) (moved-shape S s pat pair shape) (moved-shapes S s pats pairs shapes)

-- ---- matching

-- no pair is open, and none clashes
abbrev pub IsDone : Pair → Type 0
IsDone pair = (open_in pair ≡ []) × (clashes pair ≡ false)

abbrev pub AreDone : Pairs → Type 0
AreDone pairs = (all_open pairs ≡ []) × (some_clashes pairs ≡ false)

pub done-parts : (pair : Pair) (pairs : Pairs) → AreDone (cons pair pairs) → IsDone pair × AreDone pairs
done-parts pair pairs done =
    let (first, second) = none-in-either (open_in pair) (all_open pairs) done.0 in
    let (clean, rest) = or_parts (clashes pair) (some_clashes pairs) done.1 in
    ((first, clean), (second, rest))
  where
    none-in-either : {A : Type 0} (xs ys : List A) → xs ++ ys ≡ [] → (xs ≡ []) × (ys ≡ [])
    none-in-either [] ys e = (refl, e)
    none-in-either (x ∷ xs) ys e = absurd (grind arith)

mutual
  done-matches : (S : Signature) (pat : Pat) (pair : Pair) → HasShape S pat pair → IsDone pair → matches S pat (term_in pair) ≡ true
  done-matches S _ _ (waits pat t) done = absurd (grind arith)
  done-matches S _ _ (binds t) done = refl
  done-matches S _ _ (passes t) done = refl
  done-matches S _ _ (keeps written t) done = refl
  done-matches S _ _ (builds n number pats b pairs e same args shapes) done =
      ap (matches_built n number (matches_all S pats)) e
      ∙ and_from (is_constructor n number b) (matches_all S pats b.arguments) same
      (ap (matches_all S pats) args ∙ all-done-match S pats pairs shapes done)
  done-matches S _ _ (apart pat t far) done = absurd (true≢false done.1)

  pub all-done-match : (S : Signature) (pats : Pats) (pairs : Pairs) → HaveShapes S pats pairs → AreDone pairs → matches_all S pats (terms_in pairs) ≡ true
  all-done-match S _ _ none done = refl
  all-done-match S _ _ (more pat pats pair pairs shape shapes) done =
      let (first, rest) = done-parts pair pairs done in
      and_from (matches S pat (term_in pair)) (matches_all S pats (terms_in pairs)) (done-matches S pat pair shape first) (all-done-match S pats pairs shapes rest)
