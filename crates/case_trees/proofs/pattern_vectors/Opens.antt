-- Terms that are neither matched nor apart are open in some column, and open terms are not matched.
use Rattle.std.proofs.Common.{◌≡◌, ℕ, Bool, true, false, ◌&&◌, ◌==◌, IsTrue, cond, Option, Some, None, List, [], ◌∷◌, length, refl, ap, ap₂, sym, ◌∙◌, arith}
use Rattle.std.proofs.lemmas.Bool.{false≢true, true≢false, and_right, or_parts}
use Rattle.std.proofs.lemmas.Bool.Decides.{nat_tests}
use Rattle.theory.specs.Terms.{Term}
use Rattle.theory.specs.Families.{Constructor}
use Rattle.theory.specs.Signatures.{Signature}
use Rattle.core_terms.specs.Patterns.{Pat, Bind, Wild, Dot, Con, Absurd, Pats, nil, cons}
use Rattle.kernel_reduce.specs.Entries.{constructor_at}
use Rattle.unification.specs.Built.{Built, built_of}
use Rattle.case_trees.specs.pattern_vectors.Matching.{is_as_long, is_constructor, is_there, matches, matches_built, matches_all, is_apart, is_apart_from, has_apart, are_apart}
use Rattle.case_trees.specs.pattern_vectors.Columns.{IsWhole, AreWhole, IsOpen, asks_constructor, asks_any, inside, SomeOpen, here, there}
use Rattle.unification.proofs.Constructors.{found-constructor}
use Rattle.case_trees.proofs.pattern_vectors.Separate.{and-both}

pub as-long-counted : {A B : Type 0} (pats : Pats) (xs : List A) (ys : List B) → length xs ≡ length ys → is_as_long pats xs ≡ is_as_long pats ys
as-long-counted nil [] [] e = refl
as-long-counted nil [] (y ∷ ys) e = absurd (grind arith)
as-long-counted nil (x ∷ xs) [] e = absurd (grind arith)
as-long-counted nil (x ∷ xs) (y ∷ ys) e = refl
as-long-counted (cons pat pats) [] [] e = refl
as-long-counted (cons pat pats) [] (y ∷ ys) e = absurd (grind arith)
as-long-counted (cons pat pats) (x ∷ xs) [] e = absurd (grind arith)
as-long-counted (cons pat pats) (x ∷ xs) (y ∷ ys) e = as-long-counted pats xs ys (grind arith)

-- the constructor of a pattern
pub numbers-same : (n number : ℕ) (b : Built) → is_constructor n number b ≡ true → (b.n ≡ n) × (b.number ≡ number)
numbers-same n number b is =
    let (first, second) = and-both (b.n == n) (b.number == number) is in
    (grind (arith, nat_tests), grind (arith, nat_tests))

-- the arguments that are found are as many as the patterns
long-enough : (S : Signature) (n number : ℕ) (pats : Pats) (t : Term) (b : Built)
    → ((c : Constructor) → constructor_at S n number ≡ Some c → IsTrue (is_as_long pats c.arguments)) → built_of S t ≡ Some b
    → b.n ≡ n → b.number ≡ number → is_as_long pats b.arguments ≡ true
long-enough S n number pats t b whole e same_n same_number =
    let (at, count) = found-constructor S t b e in
    as-long-counted pats b.arguments b.constructor.arguments count
    ∙ whole b.constructor (sym (ap₂ (constructor_at S) same_n same_number) ∙ at)

open-any : (S : Signature) (t : Term) (found : Option Built) → built_of S t ≡ found → is_there found ≡ false → IsOpen S Absurd t
open-any S t None e near = asks_any t e
open-any S t (Some b) e near = absurd (true≢false near)

-- some column is open in as many terms as there are patterns, which are neither matched nor apart
abbrev Opens : Signature → Pats → Type 0
Opens S pats =
    (terms : List Term) → is_as_long pats terms ≡ true → matches_all S pats terms ≡ false → has_apart S pats terms ≡ false → SomeOpen S pats terms

open-same : (S : Signature) (n number : ℕ) (pats : Pats) → Opens S pats → (t : Term)
    → ((c : Constructor) → constructor_at S n number ≡ Some c → IsTrue (is_as_long pats c.arguments))
    → (b : Built) → built_of S t ≡ Some b → (same : Bool) → is_constructor n number b ≡ same → (same && matches_all S pats b.arguments) ≡ false
    → cond same (is_as_long pats b.arguments && has_apart S pats b.arguments) true ≡ false → IsOpen S (Con n number pats) t
open-same S n number pats opens t long b e false is unmatched near = absurd (true≢false near)
open-same S n number pats opens t long b e true is unmatched near =
    let (same_n, same_number) = numbers-same n number b is in
    let counted = long-enough S n number pats t b long e same_n same_number in
    let none : has_apart S pats b.arguments ≡ false = sym (ap (λ c. c && has_apart S pats b.arguments) counted) ∙ near in
    inside n number pats t b e same_n same_number (opens b.arguments counted unmatched none)

open-constructor : (S : Signature) (n number : ℕ) (pats : Pats) → Opens S pats → (t : Term)
    → ((c : Constructor) → constructor_at S n number ≡ Some c → IsTrue (is_as_long pats c.arguments))
    → (found : Option Built) → built_of S t ≡ found → matches_built n number (matches_all S pats) found ≡ false
    → is_apart_from n number pats (has_apart S pats) found ≡ false → IsOpen S (Con n number pats) t
open-constructor S n number pats opens t long None e unmatched near = asks_constructor n number pats t e
open-constructor S n number pats opens t long (Some b) e unmatched near =
    open-same S n number pats opens t long b e (is_constructor n number b) refl unmatched near

some-column : (S : Signature) (pat : Pat) (pats : Pats) (t : Term) (terms : List Term) → (matches S pat t ≡ false → IsOpen S pat t)
    → (matches_all S pats terms ≡ false → SomeOpen S pats terms)
    → (matched : Bool) → matches S pat t ≡ matched → (matched && matches_all S pats terms) ≡ false → SomeOpen S (cons pat pats) (t ∷ terms)
some-column S pat pats t terms first rest true is unmatched = there pat pats t terms (rest unmatched)
some-column S pat pats t terms first rest false is unmatched = here pat pats t terms (first is)

mutual
  open-column : (S : Signature) (pat : Pat) (t : Term) → IsWhole S pat → matches S pat t ≡ false → is_apart S pat t ≡ false → IsOpen S pat t
  open-column S Bind t whole unmatched near = absurd (true≢false unmatched)
  open-column S Wild t whole unmatched near = absurd (true≢false unmatched)
  open-column S (Dot forced) t whole unmatched near = absurd (true≢false unmatched)
  open-column S (Con n number pats) t whole unmatched near =
      open-constructor S n number pats (some-open S pats whole.1) t whole.0 (built_of S t) refl unmatched near
  open-column S Absurd t whole unmatched near = open-any S t (built_of S t) refl near

  some-open : (S : Signature) (pats : Pats) → AreWhole S pats → Opens S pats
  some-open S nil whole [] long unmatched near = absurd (true≢false unmatched)
  some-open S nil whole (t ∷ terms) long unmatched near = absurd (false≢true long)
  some-open S (cons pat pats) whole [] long unmatched near = absurd (false≢true long)
  some-open S (cons pat pats) whole (t ∷ terms) long unmatched near =
      let (first, rest) = or_parts (is_apart S pat t) (has_apart S pats terms) near in
      some-column S pat pats t terms (λ no. open-column S pat t whole.0 no first) (λ no. some-open S pats whole.1 terms long no rest)
      (matches S pat t) refl unmatched

pub neither_is_open : (S : Signature) (pats : Pats) (terms : List Term) → AreWhole S pats → IsTrue (is_as_long pats terms)
    → matches_all S pats terms ≡ false → are_apart S pats terms ≡ false → SomeOpen S pats terms
neither_is_open S pats terms whole long unmatched near =
    some-open S pats whole terms long unmatched (sym (ap (λ c. c && has_apart S pats terms) long) ∙ near)

mutual
  unmatched : (S : Signature) (pat : Pat) (t : Term) → IsOpen S pat t → matches S pat t ≡ false
  unmatched S _ _ (asks_constructor n number pats t e) = ap (matches_built n number (matches_all S pats)) e
  unmatched S _ _ (asks_any t e) = refl
  unmatched S _ _ (inside n number pats t b e same_n same_number some) =
      ap (matches_built n number (matches_all S pats)) e
      ∙ and_right (is_constructor n number b) (matches_all S pats b.arguments) (open_is_not_matched S pats b.arguments some)

  pub open_is_not_matched : (S : Signature) (pats : Pats) (terms : List Term) → SomeOpen S pats terms → matches_all S pats terms ≡ false
  open_is_not_matched S _ _ (here pat pats t terms is) = ap (λ c. c && matches_all S pats terms) (unmatched S pat t is)
  open_is_not_matched S _ _ (there pat pats t terms some) = and_right (matches S pat t) (matches_all S pats terms) (open_is_not_matched S pats terms some)
