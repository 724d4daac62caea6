-- Texts in which numbers stand for shared terms expand to texts of version 1.
use Rattle.std.proofs.Common.{◌≡◌, ℕ, zero, suc, ◌+◌, ◌<◌, ◌/◌, ◌%◌, Bool, true, false, not, List, [], ◌∷◌, ◌++◌, slice_get, append_assoc, Option, Some, None, refl, sym, ap, subst, subst₂, ◌∙◌, arith}
use Rattle.std.specs.Prelude.{codes, decimal, nat_lt, ◌==◌, if◌then◌else◌}
use Rattle.std.specs.Fmt.{digits, digits_onto, digit_glyph}
use Rattle.std.proofs.lemmas.Bool.{and_from, and_parts, false≢true}
use Rattle.std.proofs.lemmas.Bool.Decides.{nat_tests}
use Rattle.theory.specs.Terms.{Term}
use Rattle.theory.specs.Terms.Term.{Var, Sort, Pi, Lam, App, Let, Const, Fam, Con, Elim, AxiomK}
use Rattle.theory.specs.Signatures.{Signature}
use Rattle.core_text.specs.SymbolNames.{name_at, constructor_name_at, eliminator_name, axiom_k_name}
use Rattle.core_text.specs.TermText.{enclosed, spelled, term_text}
use Rattle.shared_text.specs.BlockText.{head_number, in_full, numbered, shared_text}
use Rattle.shared_text.specs.Expansions.{Expands, Byte, Number, begins_with_digit, is_without_dollar, HasNamesWithoutDollar}
use Rattle.shared_text.specs.PrintedTerms.{ends_of, number_in}
use Rattle.shared_text.proofs.Joined.{IsIn, in-left, in-right}
use Rattle.shared_text.proofs.PrintedEnds.{inner, ends-inner, shorter-ends}
use Rattle.shared_text.proofs.PrintedParts.{ends-last}

-- ---- bytes without `$`

pub both : (xs ys : List ℕ) → is_without_dollar xs ≡ true → is_without_dollar ys ≡ true → is_without_dollar (xs ++ ys) ≡ true
both [] ys p q = q
both (x ∷ xs) ys p q =
    let parts = and_parts (not (x == 36)) (is_without_dollar xs) p in and_from (not (x == 36)) (is_without_dollar (xs ++ ys)) parts.0 (both xs ys parts.1 q)

apart : (k d : ℕ) → 36 < k → not (k + d == 36) ≡ true
apart k d high = grind (arith, nat_tests)

glyph-without : (d : ℕ) → not (digit_glyph false d == 36) ≡ true
glyph-without d =
    elim (nat_lt d 10) as (λ small. not ((if small then 48 + d else (if false then 55 + d else 87 + d)) == 36) ≡ true) [
      | true ↦ apart 48 d (omega arith)
      | false ↦ apart 87 d (omega arith)
    ]

either : (b : Bool) (xs ys : List ℕ) → is_without_dollar xs ≡ true → is_without_dollar ys ≡ true → is_without_dollar (if b then xs else ys) ≡ true
either true xs ys p q = p
either false xs ys p q = q

digits-without : (k n : ℕ) (acc : List ℕ) → is_without_dollar acc ≡ true → is_without_dollar (digits_onto k 10 false n acc) ≡ true
digits-without zero n acc p = p
digits-without (suc k) n acc p =
    let more = and_from (not (digit_glyph false (n % 10) == 36)) (is_without_dollar acc) (glyph-without (n % 10)) p in
    either (n / 10 == 0) (digit_glyph false (n % 10) ∷ acc) (digits_onto k 10 false (n / 10) (digit_glyph false (n % 10) ∷ acc)) more
    (digits-without k (n / 10) (digit_glyph false (n % 10) ∷ acc) more)

pub decimal-without : (n : ℕ) → is_without_dollar (decimal n) ≡ true
unfolding digits
decimal-without n = digits-without 64 n [] refl

-- ---- pieces of texts

module _ (texts : List (List ℕ)) where
  -- it expands to the other text, whatever follows
  abbrev pub Becomes : List ℕ → List ℕ → Type 0
  Becomes xs ys = (rest out : List ℕ) → Expands texts rest out → Expands texts (xs ++ rest) (ys ++ out)

  -- so it does where no digit follows
  abbrev pub BecomesAtEnd : List ℕ → List ℕ → Type 0
  BecomesAtEnd xs ys = (rest out : List ℕ) → begins_with_digit rest ≡ false → Expands texts rest out → Expands texts (xs ++ rest) (ys ++ out)

  pub at-end : (xs ys : List ℕ) → Becomes xs ys → BecomesAtEnd xs ys
  at-end xs ys piece rest out stops more = piece rest out more

  not-dollar : (b : ℕ) → not (b == 36) ≡ true → (b == 36) ≡ false
  not-dollar b h = go (b == 36) h
    where
      go : (t : Bool) → not t ≡ true → t ≡ false
      go true h = absurd (false≢true h)
      go false h = refl

  -- bytes without `$` stay
  pub stays : (xs : List ℕ) → is_without_dollar xs ≡ true → Becomes xs xs
  stays [] h rest out more = more
  stays (x ∷ xs) h rest out more =
      let parts = and_parts (not (x == 36)) (is_without_dollar xs) h in
      Byte x (xs ++ rest) (xs ++ out) (not-dollar x parts.0) (stays xs parts.1 rest out more)

  pub then-piece : (xs ys us vs : List ℕ) → Becomes xs ys → Becomes us vs → Becomes (xs ++ us) (ys ++ vs)
  then-piece xs ys us vs one other rest out more =
      subst₂ (Expands texts) (sym (append_assoc xs us rest)) (sym (append_assoc ys vs out)) (one (us ++ rest) (vs ++ out) (other rest out more))

  pub then-end : (xs ys us vs : List ℕ) → Becomes xs ys → BecomesAtEnd us vs → BecomesAtEnd (xs ++ us) (ys ++ vs)
  then-end xs ys us vs one other rest out stops more =
      subst₂ (Expands texts) (sym (append_assoc xs us rest)) (sym (append_assoc ys vs out)) (one (us ++ rest) (vs ++ out) (other rest out stops more))

  -- after a number, bytes that begin with no digit
  pub then-bytes : (xs ys us : List ℕ) → ((rest : List ℕ) → begins_with_digit (us ++ rest) ≡ false) → is_without_dollar us ≡ true → BecomesAtEnd xs ys
      → Becomes (xs ++ us) (ys ++ us)
  then-bytes xs ys us stops plain one rest out more =
      subst₂ (Expands texts) (sym (append_assoc xs us rest)) (sym (append_assoc ys us out)) (one (us ++ rest) (us ++ out) (stops rest) (stays us plain rest out more))

  -- two parts in parentheses
  two-parts : (start middle us vs xs ys : List ℕ) → is_without_dollar start ≡ true → ((rest : List ℕ) → begins_with_digit (middle ++ rest) ≡ false)
      → is_without_dollar middle ≡ true → BecomesAtEnd us vs → BecomesAtEnd xs ys
      → BecomesAtEnd (start ++ us ++ middle ++ xs ++ codes ")") (start ++ vs ++ middle ++ ys ++ codes ")")
  two-parts start middle us vs xs ys p stops q one other =
      let first = then-end start start us vs (stays start p) one in
      let second = then-bytes (start ++ us) (start ++ vs) middle stops q first in
      let third = then-end (start ++ us ++ middle) (start ++ vs ++ middle) xs ys second other in
      at-end (start ++ us ++ middle ++ xs ++ codes ")") (start ++ vs ++ middle ++ ys ++ codes ")")
      (then-bytes (start ++ us ++ middle ++ xs) (start ++ vs ++ middle ++ ys) (codes ")") (λ rest. refl) refl third)

-- ---- terms

module _ (S : Signature) (names : HasNamesWithoutDollar S) (shared : List Term) (texts : List (List ℕ)) where
  -- where the term has a number, that of its text
  abbrev pub HasText : Term → Type 0
  HasText t = (n : ℕ) → number_in shared t ≡ Some n → slice_get texts n ≡ Some (term_text S t)

  abbrev pub InText : Term → Type 0
  InText t = (u : Term) → IsIn u (inner t) → HasText u

  -- a number, or the text
  by-number : (o : Option ℕ) (text full : List ℕ) → ((n : ℕ) → o ≡ Some n → slice_get texts n ≡ Some text) → BecomesAtEnd texts full text
      → BecomesAtEnd texts (numbered o full) text
  by-number (Some n) text full has whole rest out stops more = Number n text rest out (has n refl) stops more
  by-number None text full has whole rest out stops more = whole rest out stops more

  -- the term in full
  abbrev Full : Bool → Term → Type 0
  Full is_function t = InText t → BecomesAtEnd texts (in_full S shared is_function t) (spelled S is_function t)

  -- the term by its number, or in full
  part : (t : Term) → Full false t → InText t → HasText t → BecomesAtEnd texts (shared_text S shared t) (term_text S t)
  part t full below has = by-number (number_in shared t) (term_text S t) (in_full S shared false t) has (full below)

  child : (t : Term) (ts : List Term) → Full false t → ((u : Term) → IsIn u ts → HasText u) → ((u : Term) → IsIn u (ends_of false t) → IsIn u ts)
      → BecomesAtEnd texts (shared_text S shared t) (term_text S t)
  child t ts full each within =
      part t full (λ u h. each u (within u (subst (IsIn u) (sym (ends-inner t)) (in-left (inner t) (t ∷ []) u h)))) (each t (within t (ends-last t)))

  -- the head of an application
  head-part : (f : Term) → Full true f → spelled S true f ≡ term_text S f → InText f → HasText f → BecomesAtEnd texts (numbered (number_in shared f) (in_full S shared true f)) (spelled S true f)
  head-part f full is below has =
      by-number (number_in shared f) (spelled S true f) (in_full S shared true f) (λ n at. has n at ∙ ap (λ text. Some text) (sym is)) (full below)

  function-part : (f : Term) → Full true f → ((u : Term) → IsIn u (ends_of true f) → HasText u)
      → BecomesAtEnd texts (numbered (head_number shared f) (in_full S shared true f)) (spelled S true f)
  function-part (App g a) full each = full (λ u h. each u (subst (IsIn u) (sym (shorter-ends g a)) h))
  function-part (Var n) full each = head-part (Var n) full refl (λ u h. absurd (false≢true h)) (each (Var n) (ends-last (Var n)))
  function-part (Sort i) full each = head-part (Sort i) full refl (λ u h. absurd (false≢true h)) (each (Sort i) (ends-last (Sort i)))
  function-part (Pi a b) full each =
      head-part (Pi a b) full refl (λ u h. each u (in-left (inner (Pi a b)) (Pi a b ∷ []) u h)) (each (Pi a b) (ends-last (Pi a b)))
  function-part (Lam a b) full each =
      head-part (Lam a b) full refl (λ u h. each u (in-left (inner (Lam a b)) (Lam a b ∷ []) u h)) (each (Lam a b) (ends-last (Lam a b)))
  function-part (Let a t b) full each =
      head-part (Let a t b) full refl (λ u h. each u (in-left (inner (Let a t b)) (Let a t b ∷ []) u h)) (each (Let a t b) (ends-last (Let a t b)))
  function-part (Const n) full each = head-part (Const n) full refl (λ u h. absurd (false≢true h)) (each (Const n) (ends-last (Const n)))
  function-part (Fam n) full each = head-part (Fam n) full refl (λ u h. absurd (false≢true h)) (each (Fam n) (ends-last (Fam n)))
  function-part (Con n c) full each = head-part (Con n c) full refl (λ u h. absurd (false≢true h)) (each (Con n c) (ends-last (Con n c)))
  function-part (Elim n m) full each = head-part (Elim n m) full refl (λ u h. absurd (false≢true h)) (each (Elim n m) (ends-last (Elim n m)))
  function-part (AxiomK i m) full each = head-part (AxiomK i m) full refl (λ u h. absurd (false≢true h)) (each (AxiomK i m) (ends-last (AxiomK i m)))

  -- an application in its parentheses, but for one that is the function of another
  in-parentheses : (is_function : Bool) (us vs : List ℕ) → BecomesAtEnd texts us vs → BecomesAtEnd texts (enclosed is_function us) (enclosed is_function vs)
  in-parentheses true us vs one = one
  in-parentheses false us vs one =
      at-end texts (codes "(" ++ us ++ codes ")") (codes "(" ++ vs ++ codes ")")
      (then-bytes texts (codes "(" ++ us) (codes "(" ++ vs) (codes ")") (λ rest. refl) refl (then-end texts (codes "(") (codes "(") us vs (stays texts (codes "(") refl) one))

  leaf : (text : List ℕ) → is_without_dollar text ≡ true → BecomesAtEnd texts text text
  leaf text plain = at-end texts text text (stays texts text plain)

  pub full : (is_function : Bool) (t : Term) → Full is_function t
  full f (Pi a b) below =
      two-parts texts (codes "(") (codes " -> ") (shared_text S shared a) (term_text S a) (shared_text S shared b) (term_text S b) refl (λ rest. refl) refl
      (child a (inner (Pi a b)) (full false a) below (λ u h. in-left (ends_of false a) (ends_of false b) u h))
      (child b (inner (Pi a b)) (full false b) below (λ u h. in-right (ends_of false a) (ends_of false b) u h))
  full f (Lam a b) below =
      two-parts texts (codes "(\\") (codes " . ") (shared_text S shared a) (term_text S a) (shared_text S shared b) (term_text S b) refl (λ rest. refl) refl
      (child a (inner (Lam a b)) (full false a) below (λ u h. in-left (ends_of false a) (ends_of false b) u h))
      (child b (inner (Lam a b)) (full false b) below (λ u h. in-right (ends_of false a) (ends_of false b) u h))
  full is_function (App f a) below =
      let us = numbered (head_number shared f) (in_full S shared true f) in
      let vs = spelled S true f in
      let first = function-part f (full true f) (λ u h. below u (in-left (ends_of true f) (ends_of false a) u h)) in
      let second = then-bytes texts us vs (codes " ") (λ rest. refl) refl first in
      let third = child a (inner (App f a)) (full false a) below (λ u h. in-right (ends_of true f) (ends_of false a) u h) in
      in-parentheses is_function (us ++ codes " " ++ shared_text S shared a) (vs ++ codes " " ++ term_text S a)
      (then-end texts (us ++ codes " ") (vs ++ codes " ") (shared_text S shared a) (term_text S a) second third)
  full f (Let a t b) below =
      let first = child a (inner (Let a t b)) (full false a) below (λ u h. in-left (ends_of false a ++ ends_of false t) (ends_of false b) u (in-left (ends_of false a) (ends_of false t) u h)) in
      let second = child t (inner (Let a t b)) (full false t) below (λ u h. in-left (ends_of false a ++ ends_of false t) (ends_of false b) u (in-right (ends_of false a) (ends_of false t) u h)) in
      let third = child b (inner (Let a t b)) (full false b) below (λ u h. in-right (ends_of false a ++ ends_of false t) (ends_of false b) u h) in
      let us = codes "(let " ++ shared_text S shared a ++ codes " = " in
      let vs = codes "(let " ++ term_text S a ++ codes " = " in
      let one : Becomes texts us vs =
      then-bytes texts (codes "(let " ++ shared_text S shared a) (codes "(let " ++ term_text S a) (codes " = ") (λ rest. refl) refl
      (then-end texts (codes "(let ") (codes "(let ") (shared_text S shared a) (term_text S a) (stays texts (codes "(let ") refl) first) in
      let two : Becomes texts (us ++ shared_text S shared t ++ codes " . ") (vs ++ term_text S t ++ codes " . ") =
      then-bytes texts (us ++ shared_text S shared t) (vs ++ term_text S t) (codes " . ") (λ rest. refl) refl
      (then-end texts us vs (shared_text S shared t) (term_text S t) one second) in
      at-end texts (us ++ shared_text S shared t ++ codes " . " ++ shared_text S shared b ++ codes ")") (vs ++ term_text S t ++ codes " . " ++ term_text S b ++ codes ")")
      (then-bytes texts (us ++ shared_text S shared t ++ codes " . " ++ shared_text S shared b) (vs ++ term_text S t ++ codes " . " ++ term_text S b) (codes ")") (λ rest. refl) refl
      (then-end texts (us ++ shared_text S shared t ++ codes " . ") (vs ++ term_text S t ++ codes " . ") (shared_text S shared b) (term_text S b) two third))
  full f (Var n) below = leaf (codes "%" ++ decimal n) (decimal-without n)
  full f (Sort i) below = leaf (codes "Type " ++ decimal i) (decimal-without i)
  full f (Const n) below = leaf (name_at S n) (names.entries n)
  full f (Fam n) below = leaf (name_at S n) (names.entries n)
  full f (Con n c) below = leaf (constructor_name_at S n c) (names.constructors n c)
  full f (Elim n m) below =
      leaf (eliminator_name (name_at S n) m) (both (name_at S n ++ codes "!elim.") (decimal m) (both (name_at S n) (codes "!elim.") (names.entries n) refl) (decimal-without m))
  full f (AxiomK i m) below =
      leaf (axiom_k_name i m) (both (decimal i ++ codes "!k.") (decimal m) (both (decimal i) (codes "!k.") (decimal-without i) refl) (decimal-without m))

  -- a term by its number, or in full
  pub shared-part : (t : Term) → ((u : Term) → IsIn u (ends_of false t) → HasText u) → BecomesAtEnd texts (shared_text S shared t) (term_text S t)
  shared-part t each = child t (ends_of false t) (full false t) each (λ u h. h)
