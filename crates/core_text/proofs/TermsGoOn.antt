-- A term that is read is one that may be there. Where a byte is wrong, the bytes before it begin the text of such a term.
use Rattle.std.proofs.Common.{◌≡◌, ℕ, zero, suc, ◌+◌, ◌<◌, ◌≤◌, ◌^◌, Bool, true, false, List, [], ◌++◌, length, drop, take, refl, sym, ap, ◌∙◌, append_assoc, arith}
use Rattle.std.specs.Prelude.{◌==◌, nat_le, if◌then◌else◌, Ok, Err, Option, Some, None, codes, decimal, bytes_eq}
use Rattle.std.proofs.lemmas.List.{take-append-drop}
use Rattle.theory.specs.Terms.{Term, Var, Sort, Pi, Lam, App, Let, height, top}
use Rattle.theory.specs.Signatures.{Signature}
use Rattle.core_text.specs.NameRuns.{run_len}
use Rattle.core_text.specs.Reading.{Reading, wrong, first, and_then, begins, read_index}
use Rattle.core_text.specs.TermReading.{most, limited, closed_by, as_term, known, variable_at, sort_at, named, is_application, read_term, term_after, function_at, let_at, product_from, argument_of, after_argument, arguments_from, spine_from, after_first, enclosed_at}
use Rattle.core_text.specs.TermText.{spelled, term_text}
use Rattle.core_text.specs.declared.halt.Halt.TheVariants.{Memory, Nested, Wrong}
use Rattle.core_text.proofs.Completions.{Meets, IsFront, whole-front, front-less, begun-past, meets-if, meets-wrong, meets-deep, meets-then, meets-word}
use Rattle.core_text.proofs.NumbersGoOn.{index-meets}
use Rattle.core_text.proofs.Over.{IsTermOver, over-sort, over-more, over-pi, over-lam, over-app, over-let}
use Rattle.core_text.proofs.SymbolsRead.{same-bytes}
use Rattle.core_text.proofs.SpineTexts.{spelled-alone}
use Rattle.core_text.proofs.TermFronts.{IsText, ReadsTerm, text-front, lam-front, lam-body-front, pi-front, pi-body-front, app-front, let-front, let-value-front, let-body-front, then-term, after-term}
use Rattle.core_text.proofs.TermsRead.{WritesNames}
use Rattle.core_text.proofs.WordsRead.{first-is, word-is}

-- any term is completed by a sort
pub no-text : (T S : Signature) (own : Bool) (n : ℕ) → IsFront (IsText T S own n) []
no-text T S own n = text-front T S own n (Sort 0) [] (term_text T (Sort 0)) (over-sort S own n) refl

-- ---- leaves

-- A number after a text is a term, where that text and any such number are the text of one.
as_term-meets : (T S : Signature) (own : Bool) (n : ℕ) (text rest whole : List ℕ) (form : ℕ → Term) (Is : ℕ → Type 0) (m : Reading ℕ) → whole ≡ text ++ rest → ((v : ℕ) → text ++ decimal v ≡ term_text T (form v)) → ((v : ℕ) → Is v → IsTermOver S own n (form v)) → Meets (λ v r. (rest ≡ decimal v ++ r) × Is v) (λ x. (v : ℕ) × (x ≡ decimal v) × Is v) rest m → Meets (ReadsTerm T S own n whole) (IsText T S own n) whole (as_term form m)
as_term-meets T S own n text rest whole form Is (Ok p) at spells over h =
    (at ∙ (ap (λ s. text ++ s) h.0 ∙ (sym (append_assoc text (decimal p.0) p.1) ∙ ap (λ s. s ++ p.1) (spells p.0))), over p.0 h.1)
as_term-meets T S own n text rest whole form Is (Err (Wrong left)) at spells over h =
    begun-past (λ x. (v : ℕ) × (x ≡ decimal v) × Is v) (IsText T S own n) text rest whole left at
    (λ x u. whole-front (IsText T S own n) (text ++ x) (form u.0, ap (λ s. text ++ s) u.1 ∙ spells u.0, over u.0 u.2)) h
as_term-meets T S own n text rest whole form Is (Err Memory) at spells over h = tt
as_term-meets T S own n text rest whole form Is (Err (Nested left)) at spells over h =
    begun-past (λ x. (v : ℕ) × (x ≡ decimal v) × Is v) (IsText T S own n) text rest whole left at
    (λ x u. whole-front (IsText T S own n) (text ++ x) (form u.0, ap (λ s. text ++ s) u.1 ∙ spells u.0, over u.0 u.2)) h

sort-meets : (T S : Signature) (own : Bool) (n : ℕ) (rest whole : List ℕ) → whole ≡ codes "Type" ++ rest → Meets (ReadsTerm T S own n whole) (IsText T S own n) whole (sort_at rest)
sort-meets T S own n rest whole at =
    meets-word (ReadsTerm T S own n whole) (IsText T S own n) (codes "Type") (codes " ") rest whole (λ r. as_term Sort (read_index (top + 1) r)) at
    (text-front T S own n (Sort 0) (codes "Type ") (decimal 0) (over-sort S own n) refl)
    (λ r is. as_term-meets T S own n (codes "Type ") r whole Sort (λ v. v < top + 1) (read_index (top + 1) r) (at ∙ ap (λ s. codes "Type" ++ s) is) (λ v. refl)
    (λ v lt. record { symbols = omega arith; free = omega arith }) (index-meets (top + 1) r (omega arith) (omega arith)))

variable-meets : (T S : Signature) (own : Bool) (n : ℕ) (rest : List ℕ) → n ≤ 2 ^ 64 → (first rest == 37) ≡ true → Meets (ReadsTerm T S own n rest) (IsText T S own n) rest (variable_at n rest)
variable-meets T S own zero rest le e = meets-wrong (ReadsTerm T S own zero rest) (IsText T S own zero) [] rest rest refl (no-text T S own zero)
variable-meets T S own (suc n) rest le e =
    as_term-meets T S own (suc n) (codes "%") (drop 1 rest) rest Var (λ v. v < suc n) (read_index (suc n) (drop 1 rest)) (first-is 37 rest (omega arith) e) (λ v. refl)
    (λ v lt. record { symbols = tt; free = omega arith }) (index-meets (suc n) (drop 1 rest) (omega arith) le)

known-meets : (T S : Signature) (own : Bool) (n : ℕ) (name rest whole : List ℕ) (o : Option Term) → whole ≡ name ++ rest → ((t : Term) → o ≡ Some t → (b : Bool) → spelled T b t ≡ name) → ((t : Term) → o ≡ Some t → IsTermOver S own 0 t) → Meets (ReadsTerm T S own n whole) (IsText T S own n) whole (known o whole rest)
known-meets T S own n name rest whole (Some t) at is over = (at ∙ ap (λ s. s ++ rest) (sym (is t refl false)), over-more S own n t (over t refl))
known-meets T S own n name rest whole None at is over = meets-wrong (ReadsTerm T S own n whole) (IsText T S own n) [] whole whole refl (no-text T S own n)

-- names stand for terms that may be at any place
abbrev pub NamesAreOver : Signature → Bool → (List ℕ → Option Term) → Type 0
NamesAreOver S own look = (name : List ℕ) (t : Term) → look name ≡ Some t → IsTermOver S own 0 t

named-meets : (T S : Signature) (own : Bool) (look : List ℕ → Option Term) → WritesNames T look → NamesAreOver S own look → (n k : ℕ) (rest : List ℕ) → Meets (ReadsTerm T S own n rest) (IsText T S own n) rest (named look k rest)
named-meets T S own look names symbols n k rest =
    meets-if (ReadsTerm T S own n rest) (IsText T S own n) rest (bytes_eq (take k rest) (codes "Type")) (sort_at (drop k rest)) (known (look (take k rest)) rest (drop k rest))
    (λ e. sort-meets T S own n (drop k rest) rest (sym (take-append-drop k rest) ∙ ap (λ w. w ++ drop k rest) (same-bytes (take k rest) (codes "Type") e)))
    (λ e. known-meets T S own n (take k rest) (drop k rest) rest (look (take k rest)) (sym (take-append-drop k rest)) (names (take k rest)) (symbols (take k rest)))

-- ---- the ends of forms

-- a term that is closed, of which the text before its last parenthesis is known
closed-meets : (T S : Signature) (own : Bool) (n : ℕ) (front : List ℕ) (t : Term) (rest whole : List ℕ) → whole ≡ front ++ rest → front ++ codes ")" ≡ term_text T t → IsTermOver S own n t → Meets (ReadsTerm T S own n whole) (IsText T S own n) whole (closed_by t rest)
closed-meets T S own n front t rest whole at text over =
    meets-word (ReadsTerm T S own n whole) (IsText T S own n) front (codes ")") rest whole (limited t) at
    (whole-front (IsText T S own n) (front ++ codes ")") (t, text, over))
    (λ r is. meets-if (ReadsTerm T S own n whole) (IsText T S own n) whole (nat_le (height t) most) (Ok (t, r)) (Err (Nested (length r)))
    (λ e. (at ∙ (ap (λ s. front ++ s) is ∙ (sym (append_assoc front (codes ")") r) ∙ ap (λ s. s ++ r) text)), over))
    (λ e. meets-deep (ReadsTerm T S own n whole) (IsText T S own n) (front ++ codes ")") r whole (at ∙ (ap (λ s. front ++ s) is ∙ sym (append_assoc front (codes ")") r))) (whole-front (IsText T S own n) (front ++ codes ")") (t, text, over))))

-- ---- compound terms, where `inner` reads terms

-- terms inside are read under at most as many binders
abbrev pub ReadsInside : Signature → Signature → Bool → ℕ → (ℕ → List ℕ → Reading Term) → Type 0
ReadsInside T S own bound inner =
    (n : ℕ) (rest : List ℕ) → n ≤ bound → Meets (ReadsTerm T S own n rest) (IsText T S own n) rest (inner n rest)

module _ (T S : Signature) (own : Bool) (bound : ℕ) (inner : ℕ → List ℕ → Reading Term) (inside : ReadsInside T S own (bound + 1) inner) where
  function-meets : (n : ℕ) (rest whole : List ℕ) → n ≤ bound → whole ≡ codes "(\\" ++ rest → Meets (ReadsTerm T S own n whole) (IsText T S own n) whole (function_at inner n rest)
  function-meets n rest whole le at =
      then-term T S own (ReadsTerm T S own n whole) (IsText T S own n) n (codes "(\\") rest whole (inner n rest) (λ a r. and_then (term_after inner (codes " . ") (n + 1) r) (λ b end. closed_by (Lam a b) end)) at
      (lam-front T S own n) (inside n rest (omega arith))
      (λ a r fa oa. after-term T S own (ReadsTerm T S own n whole) (IsText T S own n) (n + 1) (codes "(\\" ++ term_text T a) (codes " . ") r whole (inner (n + 1)) (λ b end. closed_by (Lam a b) end) (at ∙ ap (λ s. codes "(\\" ++ s) fa)
      (λ b ob. lam-body-front T S own n a b oa ob) (λ s. inside (n + 1) s (omega arith))
      (λ b end fb ob. closed-meets T S own n (codes "(\\" ++ (term_text T a ++ (codes " . " ++ term_text T b))) (Lam a b) end whole
      (at ∙ (ap (λ s. codes "(\\" ++ s) (fa ∙ ap (λ s. term_text T a ++ s) fb) ∙ simp append_assoc)) (simp append_assoc) (over-lam S own n a b oa ob)))

  product-meets : (n : ℕ) (a : Term) (rest whole : List ℕ) → n ≤ bound → IsTermOver S own n a → whole ≡ codes "(" ++ (term_text T a ++ (codes " " ++ rest)) → Meets (ReadsTerm T S own n whole) (IsText T S own n) whole (product_from inner a n rest)
  product-meets n a rest whole le oa at =
      after-term T S own (ReadsTerm T S own n whole) (IsText T S own n) (n + 1) (codes "(" ++ (term_text T a ++ codes " ")) (codes "-> ") rest whole (inner (n + 1)) (λ b end. closed_by (Pi a b) end) (at ∙ simp append_assoc)
      (λ b ob. pi-body-front T S own n a b oa ob) (λ s. inside (n + 1) s (omega arith))
      (λ b end fb ob. closed-meets T S own n (codes "(" ++ (term_text T a ++ (codes " -> " ++ term_text T b))) (Pi a b) end whole
      (at ∙ (ap (λ s. codes "(" ++ (term_text T a ++ (codes " " ++ s))) fb ∙ simp append_assoc)) (simp append_assoc) (over-pi S own n a b oa ob))

  let-meets : (n : ℕ) (rest whole : List ℕ) → n ≤ bound → whole ≡ codes "(let " ++ rest → Meets (ReadsTerm T S own n whole) (IsText T S own n) whole (let_at inner n rest)
  let-meets n rest whole le at =
      then-term T S own (ReadsTerm T S own n whole) (IsText T S own n) n (codes "(let ") rest whole (inner n rest)
      (λ a r1. and_then (term_after inner (codes " = ") n r1) (λ t r2. and_then (term_after inner (codes " . ") (n + 1) r2) (λ b end. closed_by (Let a t b) end))) at
      (let-front T S own n) (inside n rest (omega arith))
      (λ a r1 fa oa. after-term T S own (ReadsTerm T S own n whole) (IsText T S own n) n (codes "(let " ++ term_text T a) (codes " = ") r1 whole (inner n) (λ t r2. and_then (term_after inner (codes " . ") (n + 1) r2) (λ b end. closed_by (Let a t b) end)) (at ∙ ap (λ s. codes "(let " ++ s) fa)
      (λ t ot. let-value-front T S own n a t oa ot) (λ s. inside n s (omega arith))
      (λ t r2 ft ot. after-term T S own (ReadsTerm T S own n whole) (IsText T S own n) (n + 1) ((codes "(let " ++ term_text T a) ++ (codes " = " ++ term_text T t)) (codes " . ") r2 whole (inner (n + 1)) (λ b end. closed_by (Let a t b) end)
      (at ∙ (ap (λ s. codes "(let " ++ s) (fa ∙ ap (λ s. term_text T a ++ s) ft) ∙ simp append_assoc))
      (λ b ob. let-body-front T S own n a t b oa ot ob) (λ s. inside (n + 1) s (omega arith))
      (λ b end fb ob. closed-meets T S own n (codes "(let " ++ (term_text T a ++ (codes " = " ++ (term_text T t ++ (codes " . " ++ term_text T b))))) (Let a t b) end whole
      (at ∙ (ap (λ s. codes "(let " ++ s) (fa ∙ ap (λ s. term_text T a ++ s) (ft ∙ ap (λ s. codes " = " ++ (term_text T t ++ s)) fb)) ∙ simp append_assoc)) (simp append_assoc) (over-let S own n a t b oa ot ob))))

  -- ---- applications, by their text without parentheses

  -- the application so far, whose text lacks its parenthesis
  abbrev Opens : ℕ → List ℕ → Term → List ℕ → Type 0
  Opens n whole t r = ((codes "(" ++ spelled T true t) ++ codes ")" ≡ term_text T t) × (whole ≡ codes "(" ++ (spelled T true t ++ r)) × IsTermOver S own n t

  -- with one argument more
  argument-meets : (n : ℕ) (f : Term) (rest whole : List ℕ) → n ≤ bound → IsTermOver S own n f → whole ≡ codes "(" ++ (spelled T true f ++ (codes " " ++ rest)) → Meets (Opens n whole) (IsText T S own n) whole (argument_of inner f n rest)
  argument-meets n f rest whole le of at =
      then-term T S own (Opens n whole) (IsText T S own n) n (codes "(" ++ (spelled T true f ++ codes " ")) rest whole (inner n rest) (λ a r. limited (App f a) r) (at ∙ simp append_assoc)
      (λ a oa. app-front T S own n f a of oa) (inside n rest (omega arith))
      (λ a r fa oa. meets-if (Opens n whole) (IsText T S own n) whole (nat_le (height (App f a)) most) (Ok (App f a, r)) (Err (Nested (length r)))
      (λ e. (simp append_assoc, at ∙ (ap (λ s. codes "(" ++ (spelled T true f ++ (codes " " ++ s))) fa ∙ simp append_assoc), over-app S own n f a of oa))
      (λ e. meets-deep (Opens n whole) (IsText T S own n) ((codes "(" ++ (spelled T true f ++ codes " ")) ++ term_text T a) r whole
      (at ∙ (ap (λ s. codes "(" ++ (spelled T true f ++ (codes " " ++ s))) fa ∙ simp append_assoc)) (app-front T S own n f a of oa)))

  arguments-meet : (n k : ℕ) (f : Term) (rest whole : List ℕ) → n ≤ bound → IsTermOver S own n f → whole ≡ codes "(" ++ (spelled T true f ++ (codes " " ++ rest)) → Meets (ReadsTerm T S own n whole) (IsText T S own n) whole (arguments_from inner k f n rest)
  arguments-meet n zero f rest whole le of at =
      meets-deep (ReadsTerm T S own n whole) (IsText T S own n) (codes "(" ++ (spelled T true f ++ codes " ")) rest whole (at ∙ simp append_assoc)
      (front-less (IsText T S own n) (codes "(" ++ (spelled T true f ++ codes " ")) (term_text T (Sort 0)) (app-front T S own n f (Sort 0) of (over-sort S own n)))
  arguments-meet n (suc k) f rest whole le of at =
      meets-then (Opens n whole) (ReadsTerm T S own n whole) (IsText T S own n) (IsText T S own n) [] whole whole (argument_of inner f n rest) (after_argument inner (λ t end. arguments_from inner k t n end)) refl
      (whole-front (IsText T S own n)) (argument-meets n f rest whole le of at)
      (λ t r ft. meets-if (ReadsTerm T S own n whole) (IsText T S own n) whole (first r == 32) (arguments_from inner k t n (drop 1 r)) (closed_by t r)
      (λ e. arguments-meet n k t (drop 1 r) whole le ft.2 (ft.1 ∙ ap (λ s. codes "(" ++ (spelled T true t ++ s)) (first-is 32 r (omega arith) e)))
      (λ e. closed-meets T S own n (codes "(" ++ spelled T true t) t r whole ft.1 ft.0 ft.2))

  spine-meets : (n : ℕ) (f : Term) (rest whole : List ℕ) → n ≤ bound → IsTermOver S own n f → whole ≡ codes "(" ++ (term_text T f ++ (codes " " ++ rest)) → Meets (ReadsTerm T S own n whole) (IsText T S own n) whole (spine_from inner f n rest)
  spine-meets n f rest whole le of at =
      meets-if (ReadsTerm T S own n whole) (IsText T S own n) whole (is_application f) (wrong rest) (arguments_from inner most f n rest)
      (λ e. meets-wrong (ReadsTerm T S own n whole) (IsText T S own n) (codes "(" ++ (term_text T f ++ codes " ")) rest whole (at ∙ simp append_assoc) (pi-front T S own n f of))
      (λ e. arguments-meet n most f rest whole le of (at ∙ ap (λ s. codes "(" ++ (s ++ (codes " " ++ rest))) (sym (spelled-alone T f e))))

  first-meets : (n : ℕ) (a : Term) (rest whole : List ℕ) → n ≤ bound → IsTermOver S own n a → whole ≡ codes "(" ++ (term_text T a ++ rest) → Meets (ReadsTerm T S own n whole) (IsText T S own n) whole (after_first inner a n rest)
  first-meets n a rest whole le oa at =
      meets-word (ReadsTerm T S own n whole) (IsText T S own n) (codes "(" ++ term_text T a) (codes " ") rest whole (λ r. if first r == 45 then product_from inner a n r else spine_from inner a n r) at (pi-front T S own n a oa)
      (λ r is. by r (at ∙ ap (λ s. codes "(" ++ (term_text T a ++ s)) is))
    where
      by : (r : List ℕ) → whole ≡ codes "(" ++ (term_text T a ++ (codes " " ++ r)) → Meets (ReadsTerm T S own n whole) (IsText T S own n) whole (if first r == 45 then product_from inner a n r else spine_from inner a n r)
      by r so =
          meets-if (ReadsTerm T S own n whole) (IsText T S own n) whole (first r == 45) (product_from inner a n r) (spine_from inner a n r)
          (λ e. product-meets n a r whole le oa so) (λ e. spine-meets n a r whole le oa so)

  enclosed-meets : (n : ℕ) (rest whole : List ℕ) → n ≤ bound → whole ≡ codes "(" ++ rest → Meets (ReadsTerm T S own n whole) (IsText T S own n) whole (enclosed_at inner n rest)
  enclosed-meets n rest whole le at =
      meets-if (ReadsTerm T S own n whole) (IsText T S own n) whole (first rest == 92) (function_at inner n (drop 1 rest))
      (if begins (codes "let ") rest then let_at inner n (drop 4 rest) else and_then (inner n rest) (λ a r. after_first inner a n r))
      (λ e. function-meets n (drop 1 rest) whole le (at ∙ ap (λ s. codes "(" ++ s) (first-is 92 rest (omega arith) e)))
      (λ e. meets-if (ReadsTerm T S own n whole) (IsText T S own n) whole (begins (codes "let ") rest) (let_at inner n (drop 4 rest)) (and_then (inner n rest) (λ a r. after_first inner a n r))
      (λ e. let-meets n (drop 4 rest) whole le (at ∙ ap (λ s. codes "(" ++ s) (word-is (codes "let ") rest e)))
      (λ e. then-term T S own (ReadsTerm T S own n whole) (IsText T S own n) n (codes "(") rest whole (inner n rest) (λ a r. after_first inner a n r) at
      (λ a oa. front-less (IsText T S own n) (codes "(" ++ term_text T a) (codes " ") (pi-front T S own n a oa)) (inside n rest (omega arith))
      (λ a r fa oa. first-meets n a r whole le oa (at ∙ ap (λ s. codes "(" ++ s) fa))))

-- A term is read inside `room` others, so that at most as many binders are opened. The term that is read may be there
-- and its text; where a byte is wrong, the bytes before it begin such a text.
pub term-meets : (T S : Signature) (own : Bool) (look : List ℕ → Option Term) → WritesNames T look → NamesAreOver S own look → (room n : ℕ) (rest : List ℕ) → n + room ≤ 2 ^ 64 → Meets (ReadsTerm T S own n rest) (IsText T S own n) rest (read_term look room n rest)
term-meets T S own look names symbols zero n rest le =
    meets-deep (ReadsTerm T S own n rest) (IsText T S own n) [] rest rest refl (no-text T S own n)
term-meets T S own look names symbols (suc room) n rest le =
    meets-if (ReadsTerm T S own n rest) (IsText T S own n) rest (first rest == 40) (enclosed_at (read_term look room) n (drop 1 rest))
    (if first rest == 37 then variable_at n rest else named look (run_len rest) rest)
    (λ e. enclosed-meets T S own n (read_term look room) (λ m r within. term-meets T S own look names symbols room m r (omega arith)) n (drop 1 rest) rest (omega arith) (first-is 40 rest (omega arith) e))
    (λ e. meets-if (ReadsTerm T S own n rest) (IsText T S own n) rest (first rest == 37) (variable_at n rest) (named look (run_len rest) rest)
    (λ e. variable-meets T S own n rest (omega arith) e)
    (λ e. named-meets T S own look names symbols n (run_len rest) rest))
