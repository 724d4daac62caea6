-- If two lists of patterns have nothing in common, no terms match both, and they clash.
use Rattle.std.proofs.Common.{◌≡◌, ◌≢◌, ◌⊎◌, inl, inr, ℕ, Bool, true, false, ◌&&◌, ◌==◌, cond, Option, Some, None, option_map, List, [], ◌∷◌, refl, ap, ◌∙◌, subst, arith}
use Rattle.std.proofs.lemmas.Bool.{and_right}
use Rattle.std.proofs.lemmas.Bool.Decides.{nat_tests}
use Rattle.theory.specs.Terms.{Term}
use Rattle.theory.specs.Signatures.{Signature}
use Rattle.core_terms.specs.Patterns.{Pat, Bind, Wild, Dot, Con, Absurd, Pats, nil, cons}
use Rattle.unification.specs.Built.{Built, built_of}
use Rattle.case_trees.specs.pattern_vectors.Matching.{is_constructor, matches, matches_built, matches_all}
use Rattle.case_trees.specs.pattern_vectors.Meeting.{meet_columns, unless_absurd, meet, meet_constructor, meet_all, Clash, absurd_left, absurd_right, other_family, other_number, in_arguments, SomeClash, first, further, AreComparable, AreColumns}

-- a pattern without instances matches nothing
none-match : (S : Signature) (b : Pat) (t : Term) → unless_absurd b ≡ None → matches S b t ≡ false
none-match S Absurd t e = refl
none-match S Bind t e = absurd (grind arith)
none-match S Wild t e = absurd (grind arith)
none-match S (Dot forced) t e = absurd (grind arith)
none-match S (Con n number pats) t e = absurd (grind arith)

-- no constructor has two pairs of numbers
two-constructors : (n number n' number' : ℕ) (b : Built) (x y : Bool) → ((n == n') && (number == number')) ≡ false
    → ((is_constructor n number b && x) && (is_constructor n' number' b && y)) ≡ false
two-constructors n number n' number' b x y other = go (is_constructor n number b) refl (is_constructor n' number' b) refl
  where
    go : (same : Bool) → is_constructor n number b ≡ same → (same' : Bool) → is_constructor n' number' b ≡ same' → ((same && x) && (same' && y)) ≡ false
    go false is same' is' = refl
    go true is false is' = and_right x (false && y) refl
    go true is true is' = absurd (grind (arith, nat_tests, other))

and-pairs : (a b c d : Bool) → (a && b) ≡ false → ((a && c) && (b && d)) ≡ false
and-pairs false b c d e = refl
and-pairs true false c d e = and_right c (false && d) refl
and-pairs true true c d e = absurd (grind arith)

and-others : (a b c d : Bool) → (c && d) ≡ false → ((a && c) && (b && d)) ≡ false
and-others false b c d e = refl
and-others true b false d e = refl
and-others true b true false e = and_right b false refl
and-others true b true true e = absurd (grind arith)

-- where nothing meets with these patterns, no terms match both
abbrev Excludes : Signature → Pats → Type 0
Excludes S pats =
    (others : Pats) (terms : List Term) → meet_all pats others ≡ None → (matches_all S pats terms && matches_all S others terms) ≡ false

nothing-same : (S : Signature) (n number n' number' : ℕ) (pats others : Pats) → Excludes S pats → (found : Option Built) (same : Bool)
    → ((n == n') && (number == number')) ≡ same → (columns : Option Pats) → meet_all pats others ≡ columns
    → cond same (option_map (Con n number) columns) None ≡ None
    → (matches_built n number (matches_all S pats) found && matches_built n' number' (matches_all S others) found) ≡ false
nothing-same S n number n' number' pats others excludes None same is columns made e = refl
nothing-same S n number n' number' pats others excludes (Some b) false is columns made e =
    two-constructors n number n' number' b (matches_all S pats b.arguments) (matches_all S others b.arguments) is
nothing-same S n number n' number' pats others excludes (Some b) true is (Some columns) made e = absurd (grind arith)
nothing-same S n number n' number' pats others excludes (Some b) true is None made e =
    and-others (is_constructor n number b) (is_constructor n' number' b) (matches_all S pats b.arguments) (matches_all S others b.arguments)
    (excludes others b.arguments made)

nothing-constructor : (S : Signature) (n number : ℕ) (pats : Pats) → Excludes S pats → (b : Pat) (t : Term)
    → meet_constructor n number pats (meet_all pats) b ≡ None → (matches S (Con n number pats) t && matches S b t) ≡ false
nothing-constructor S n number pats excludes Bind t e = absurd (grind arith)
nothing-constructor S n number pats excludes Wild t e = absurd (grind arith)
nothing-constructor S n number pats excludes (Dot forced) t e = absurd (grind arith)
nothing-constructor S n number pats excludes (Con n' number' others) t e =
    nothing-same S n number n' number' pats others excludes (built_of S t) ((n == n') && (number == number')) refl (meet_all pats others) refl e
nothing-constructor S n number pats excludes Absurd t e = and_right (matches S (Con n number pats) t) false refl

nothing-columns : (S : Signature) (a b : Pat) (pats others : Pats) (t : Term) (terms : List Term)
    → (meet a b ≡ None → (matches S a t && matches S b t) ≡ false)
    → (meet_all pats others ≡ None → (matches_all S pats terms && matches_all S others terms) ≡ false)
    → (one : Option Pat) → meet a b ≡ one → (rest : Option Pats) → meet_all pats others ≡ rest → meet_columns one rest ≡ None
    → ((matches S a t && matches_all S pats terms) && (matches S b t && matches_all S others terms)) ≡ false
nothing-columns S a b pats others t terms here there None is rest are e =
    and-pairs (matches S a t) (matches S b t) (matches_all S pats terms) (matches_all S others terms) (here is)
nothing-columns S a b pats others t terms here there (Some p) is None are e =
    and-others (matches S a t) (matches S b t) (matches_all S pats terms) (matches_all S others terms) (there are)
nothing-columns S a b pats others t terms here there (Some p) is (Some columns) are e = absurd (grind arith)

mutual
  nothing : (S : Signature) (a b : Pat) (t : Term) → meet a b ≡ None → (matches S a t && matches S b t) ≡ false
  nothing S Bind b t e = none-match S b t e
  nothing S Wild b t e = none-match S b t e
  nothing S (Dot forced) b t e = none-match S b t e
  nothing S (Con n number pats) b t e = nothing-constructor S n number pats (excluded S pats) b t e
  nothing S Absurd b t e = refl

  excluded : (S : Signature) (pats : Pats) → Excludes S pats
  excluded S nil nil terms e = absurd (grind arith)
  excluded S nil (cons b others) [] e = refl
  excluded S nil (cons b others) (t ∷ terms) e = refl
  excluded S (cons a pats) nil [] e = refl
  excluded S (cons a pats) nil (t ∷ terms) e = and_right (matches S a t && matches_all S pats terms) false refl
  excluded S (cons a pats) (cons b others) [] e = refl
  excluded S (cons a pats) (cons b others) (t ∷ terms) e =
      nothing-columns S a b pats others t terms (nothing S a b t) (excluded S pats others terms) (meet a b) refl (meet_all pats others) refl e

pub nothing_is_both : (S : Signature) (a b : Pats) (terms : List Term) → meet_all a b ≡ None
    → (matches_all S a terms && matches_all S b terms) ≡ false
nothing_is_both S a b terms e = excluded S a b terms e

-- ---- clashes

apart-numbers : (n m number k : ℕ) → ((n ≢ m) ⊎ (number ≢ k)) → ((n == m) && (number == k)) ≡ false
apart-numbers n m number k (inl other) = grind (arith, nat_tests)
apart-numbers n m number k (inr other) = and_right (n == m) (number == k) (grind (arith, nat_tests))

absurd-none : (a : Pat) → meet a Absurd ≡ None
absurd-none Bind = refl
absurd-none Wild = refl
absurd-none (Dot forced) = refl
absurd-none (Con n number pats) = refl
absurd-none Absurd = refl

columns-none : (one : Option Pat) → meet_columns one None ≡ None
columns-none None = refl
columns-none (Some p) = refl

mutual
  clash-none : (a b : Pat) → Clash a b → meet a b ≡ None
  clash-none _ _ (absurd_left b) = refl
  clash-none _ _ (absurd_right a) = absurd-none a
  clash-none _ _ (other_family n m number k pats others other) =
      ap (λ c. cond c (option_map (Con n number) (meet_all pats others)) None) (apart-numbers n m number k (inl other))
  clash-none _ _ (other_number n m number k pats others other) =
      ap (λ c. cond c (option_map (Con n number) (meet_all pats others)) None) (apart-numbers n m number k (inr other))
  clash-none _ _ (in_arguments n number pats others some) =
      ap (λ o. cond ((n == n) && (number == number)) (option_map (Con n number) o) None) (clash_is_none pats others some)
      ∙ either ((n == n) && (number == number))
    where
      either : (c : Bool) → cond c (option_map (Con n number) None) None ≡ None
      either true = refl
      either false = refl

  pub clash_is_none : (a b : Pats) → SomeClash a b → meet_all a b ≡ None
  clash_is_none _ _ (first a b pats others is) = ap (λ o. meet_columns o (meet_all pats others)) (clash-none a b is)
  clash_is_none _ _ (further a b pats others some) =
      ap (meet_columns (meet a b)) (clash_is_none pats others some) ∙ columns-none (meet a b)

absurd-clash : (a b : Pat) → unless_absurd b ≡ None → Clash a b
absurd-clash a Absurd e = absurd_right a
absurd-clash a Bind e = absurd (grind arith)
absurd-clash a Wild e = absurd (grind arith)
absurd-clash a (Dot forced) e = absurd (grind arith)
absurd-clash a (Con n number pats) e = absurd (grind arith)

constructors-clash : (n number m k : ℕ) (pats others : Pats) → (n ≡ m → number ≡ k → meet_all pats others ≡ None → SomeClash pats others)
    → (one : Bool) → (n == m) ≡ one → (two : Bool) → (number == k) ≡ two → (columns : Option Pats) → meet_all pats others ≡ columns
    → cond (one && two) (option_map (Con n number) columns) None ≡ None → Clash (Con n number pats) (Con m k others)
constructors-clash n number m k pats others clash false is two is' columns made e = other_family n m number k pats others (λ same. grind (arith, nat_tests))
constructors-clash n number m k pats others clash true is false is' columns made e = other_number n m number k pats others (λ same. grind (arith, nat_tests))
constructors-clash n number m k pats others clash true is true is' (Some columns) made e = absurd (grind arith)
constructors-clash n number m k pats others clash true is true is' None made e =
    let same_n : n ≡ m = grind (arith, nat_tests) in
    let same_number : number ≡ k = grind (arith, nat_tests) in
    subst (λ j. Clash (Con n number pats) (Con j k others)) same_n
    (subst (λ j. Clash (Con n number pats) (Con n j others)) same_number (in_arguments n number pats others (clash same_n same_number made)))

columns-clash : (a b : Pat) (pats others : Pats) → (meet a b ≡ None → Clash a b) → (meet_all pats others ≡ None → SomeClash pats others)
    → (one : Option Pat) → meet a b ≡ one → (rest : Option Pats) → meet_all pats others ≡ rest → meet_columns one rest ≡ None
    → SomeClash (cons a pats) (cons b others)
columns-clash a b pats others here there None is rest are e = first a b pats others (here is)
columns-clash a b pats others here there (Some p) is None are e = further a b pats others (there are)
columns-clash a b pats others here there (Some p) is (Some q) are e = absurd (grind arith)

mutual
  none-clash : (a b : Pat) → AreComparable a b → meet a b ≡ None → Clash a b
  none-clash Bind b alike e = absurd-clash Bind b e
  none-clash Wild b alike e = absurd-clash Wild b e
  none-clash (Dot forced) b alike e = absurd-clash (Dot forced) b e
  none-clash Absurd b alike e = absurd_left b
  none-clash (Con n number pats) Bind alike e = absurd (grind arith)
  none-clash (Con n number pats) Wild alike e = absurd (grind arith)
  none-clash (Con n number pats) (Dot forced) alike e = absurd (grind arith)
  none-clash (Con n number pats) Absurd alike e = absurd_right (Con n number pats)
  none-clash (Con n number pats) (Con m k others) alike e =
      constructors-clash n number m k pats others (λ same_n same_number. none_is_clash pats others (alike same_n same_number))
      (n == m) refl (number == k) refl (meet_all pats others) refl e

  pub none_is_clash : (a b : Pats) → AreColumns a b → meet_all a b ≡ None → SomeClash a b
  none_is_clash nil nil alike e = absurd (grind arith)
  none_is_clash nil (cons b others) alike e = absurd alike
  none_is_clash (cons a pats) nil alike e = absurd alike
  none_is_clash (cons a pats) (cons b others) alike e =
      columns-clash a b pats others (none-clash a b alike.0) (none_is_clash pats others alike.1) (meet a b) refl (meet_all pats others) refl e
