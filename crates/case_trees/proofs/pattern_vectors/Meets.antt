-- Terms match the common patterns of two lists exactly where they match both.
use Rattle.std.proofs.Common.{◌≡◌, ℕ, Bool, true, false, ◌&&◌, ◌==◌, cond, Option, Some, None, option_map, List, [], ◌∷◌, refl, ap, ap₂, sym, ◌∙◌, arith}
use Rattle.std.proofs.lemmas.Bool.Decides.{nat_tests}
use Rattle.theory.specs.Terms.{Term}
use Rattle.theory.specs.Signatures.{Signature}
use Rattle.core_terms.specs.Patterns.{Pat, Bind, Wild, Dot, Con, Absurd, Pats, nil, cons}
use Rattle.unification.specs.Built.{Built, built_of}
use Rattle.case_trees.specs.pattern_vectors.Matching.{is_constructor, matches, matches_built, matches_all}
use Rattle.case_trees.specs.pattern_vectors.Meeting.{meet_columns, unless_absurd, meet, meet_constructor, meet_all}
use Rattle.case_trees.proofs.pattern_vectors.Separate.{and-both}

and-one : (a : Bool) → a ≡ (a && true)
and-one true = refl
and-one false = refl

-- tests of two pairs, taken the other way round
and-four : (a b c d : Bool) → ((a && b) && (c && d)) ≡ ((a && c) && (b && d))
and-four true true c d = refl
and-four true false true d = refl
and-four true false false d = refl
and-four false b c d = refl

twice : (a : Bool) → a ≡ (a && a)
twice true = refl
twice false = refl

and-inside : (a b c : Bool) → (a && (b && c)) ≡ ((a && b) && (a && c))
and-inside true b c = refl
and-inside false b c = refl

same-pattern : (b m : Pat) → unless_absurd b ≡ Some m → b ≡ m
same-pattern Bind m e = grind arith
same-pattern Wild m e = grind arith
same-pattern (Dot forced) m e = grind arith
same-pattern (Con n number pats) m e = grind arith
same-pattern Absurd m e = absurd (grind arith)

-- the common patterns with these patterns are matched by the terms that match both
abbrev Meets : Signature → Pats → Type 0
Meets S pats =
    (others columns : Pats) (terms : List Term) → meet_all pats others ≡ Some columns →
    matches_all S columns terms ≡ (matches_all S pats terms && matches_all S others terms)

both-found : (S : Signature) (n number : ℕ) (pats others columns : Pats) → Meets S pats → (found : Option Built)
    → meet_all pats others ≡ Some columns
    → matches_built n number (matches_all S columns) found
    ≡ (matches_built n number (matches_all S pats) found && matches_built n number (matches_all S others) found)
both-found S n number pats others columns meets None made = refl
both-found S n number pats others columns meets (Some b) made =
    ap (λ c. is_constructor n number b && c) (meets others columns b.arguments made)
    ∙ and-inside (is_constructor n number b) (matches_all S pats b.arguments) (matches_all S others b.arguments)

both-same : (S : Signature) (n number n' number' : ℕ) (pats others : Pats) → Meets S pats → (m : Pat) (t : Term) (same : Bool)
    → ((n == n') && (number == number')) ≡ same → (columns : Option Pats) → meet_all pats others ≡ columns
    → cond same (option_map (Con n number) columns) None ≡ Some m
    → matches S m t ≡ (matches S (Con n number pats) t && matches S (Con n' number' others) t)
both-same S n number n' number' pats others meets m t false is columns made e = absurd (grind arith)
both-same S n number n' number' pats others meets m t true is None made e = absurd (grind arith)
both-same S n number n' number' pats others meets m t true is (Some columns) made e =
    let (first, second) = and-both (n == n') (number == number') is in
    let same_n : n ≡ n' = grind (arith, nat_tests) in
    let same_number : number ≡ number' = grind (arith, nat_tests) in
    let same : Con n number columns ≡ m = grind arith in
    ap (λ p. matches S p t) (sym same)
    ∙ (both-found S n number pats others columns meets (built_of S t) made
    ∙ ap₂ (λ k j. matches S (Con n number pats) t && matches S (Con k j others) t) same_n same_number)

both-constructor : (S : Signature) (n number : ℕ) (pats : Pats) → Meets S pats → (b m : Pat) (t : Term)
    → meet_constructor n number pats (meet_all pats) b ≡ Some m → matches S m t ≡ (matches S (Con n number pats) t && matches S b t)
both-constructor S n number pats meets Bind m t e = let same : Con n number pats ≡ m = grind arith in ap (λ p. matches S p t) (sym same) ∙ and-one (matches S (Con n number pats) t)
both-constructor S n number pats meets Wild m t e = let same : Con n number pats ≡ m = grind arith in ap (λ p. matches S p t) (sym same) ∙ and-one (matches S (Con n number pats) t)
both-constructor S n number pats meets (Dot forced) m t e = let same : Con n number pats ≡ m = grind arith in ap (λ p. matches S p t) (sym same) ∙ and-one (matches S (Con n number pats) t)
both-constructor S n number pats meets (Con n' number' others) m t e =
    both-same S n number n' number' pats others meets m t ((n == n') && (number == number')) refl (meet_all pats others) refl e
both-constructor S n number pats meets Absurd m t e = absurd (grind arith)

column-both : (S : Signature) (a b p : Pat) (pats others columns : Pats) → Meets S pats → (terms : List Term)
    → ((t : Term) → matches S p t ≡ (matches S a t && matches S b t)) → meet_all pats others ≡ Some columns
    → matches_all S (cons p columns) terms ≡ (matches_all S (cons a pats) terms && matches_all S (cons b others) terms)
column-both S a b p pats others columns meets [] first made = refl
column-both S a b p pats others columns meets (t ∷ terms) first made =
    ap₂ (λ c d. c && d) (first t) (meets others columns terms made)
    ∙ and-four (matches S a t) (matches S b t) (matches_all S pats terms) (matches_all S others terms)

both-columns : (S : Signature) (a b : Pat) (pats others m : Pats) → Meets S pats
    → ((p : Pat) (t : Term) → meet a b ≡ Some p → matches S p t ≡ (matches S a t && matches S b t))
    → (terms : List Term) (one : Option Pat) → meet a b ≡ one → (rest : Option Pats) → meet_all pats others ≡ rest
    → meet_columns one rest ≡ Some m
    → matches_all S m terms ≡ (matches_all S (cons a pats) terms && matches_all S (cons b others) terms)
both-columns S a b pats others m meets first terms None is rest made e = absurd (grind arith)
both-columns S a b pats others m meets first terms (Some p) is None made e = absurd (grind arith)
both-columns S a b pats others m meets first terms (Some p) is (Some columns) made e =
    let same : cons p columns ≡ m = grind arith in
    ap (λ q. matches_all S q terms) (sym same)
    ∙ column-both S a b p pats others columns meets terms (λ t. first p t is) made

mutual
  both : (S : Signature) (a b m : Pat) (t : Term) → meet a b ≡ Some m → matches S m t ≡ (matches S a t && matches S b t)
  both S Bind b m t e = ap (λ p. matches S p t) (sym (same-pattern b m e))
  both S Wild b m t e = ap (λ p. matches S p t) (sym (same-pattern b m e))
  both S (Dot forced) b m t e = ap (λ p. matches S p t) (sym (same-pattern b m e))
  both S (Con n number pats) b m t e = both-constructor S n number pats (meets-both S pats) b m t e
  both S Absurd b m t e = absurd (grind arith)

  meets-both : (S : Signature) (pats : Pats) → Meets S pats
  meets-both S nil nil m terms e = let same : nil ≡ m = grind arith in ap (λ p. matches_all S p terms) (sym same) ∙ twice (matches_all S nil terms)
  meets-both S nil (cons b others) m terms e = absurd (grind arith)
  meets-both S (cons a pats) nil m terms e = absurd (grind arith)
  meets-both S (cons a pats) (cons b others) m terms e =
      both-columns S a b pats others m (meets-both S pats) (λ p t is. both S a b p t is) terms (meet a b) refl (meet_all pats others) refl e

pub meet_is_both : (S : Signature) (a b both : Pats) (terms : List Term) → meet_all a b ≡ Some both
    → matches_all S both terms ≡ (matches_all S a terms && matches_all S b terms)
meet_is_both S a b m terms e = meets-both S a b m terms e
