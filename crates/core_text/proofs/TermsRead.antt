-- The bytes that are read as a term are the text of the term.
use Rattle.std.proofs.Common.{◌≡◌, ℕ, zero, suc, ◌+◌, ◌≤◌, ◌^◌, true, false, List, [], ◌∷◌, ◌++◌, length, drop, take, refl, sym, ap, ◌∙◌, append_assoc, arith}
use Rattle.std.specs.Prelude.{◌==◌, nat_le, if◌then◌else◌, Ok, Err, Option, Some, None, codes, decimal, bytes_eq}
use Rattle.std.proofs.lemmas.List.{take-append-drop}
use Rattle.theory.specs.Terms.{Term, Var, Sort, Pi, Lam, App, Let, Const, Fam, Con, Elim, AxiomK, height, top}
use Rattle.theory.specs.Signatures.{Signature}
use Rattle.core_text.specs.NameRuns.{run_len}
use Rattle.core_text.specs.Reading.{Reading, wrong, first, and_then, begins, read_index}
use Rattle.core_text.specs.TermReading.{most, limited, closed_by, as_term, known, variable_at, sort_at, named, is_application, read_term, term_after, function_at, let_at, product_from, argument_of, after_argument, arguments_from, spine_from, after_first, enclosed_at}
use Rattle.core_text.specs.TermText.{spelled, term_text}
use Rattle.core_text.specs.declared.halt.Halt.TheVariants.{Nested}
use Rattle.core_text.proofs.Outcomes.{Ensures, ensures-then, ensures-if}
use Rattle.core_text.proofs.SpineTexts.{spelled-alone}
use Rattle.core_text.proofs.SymbolsRead.{IsWritten, same-bytes}
use Rattle.core_text.proofs.WordsRead.{word-is, ensures-word, first-is, index-read}

-- the bytes are the text of the term and those after it
abbrev pub Writes : Signature → List ℕ → Term → List ℕ → Type 0
Writes T rest t r = rest ≡ term_text T t ++ r

-- the term of a name is written as the name
abbrev pub WritesNames : Signature → (List ℕ → Option Term) → Type 0
WritesNames T look = (name : List ℕ) (t : Term) → look name ≡ Some t → IsWritten T name t

-- ---- leaves

as_term-writes : (T : Signature) (word rest : List ℕ) (form : ℕ → Term) (m : Reading ℕ) → ((v : ℕ) → term_text T (form v) ≡ word ++ decimal v) → Ensures (λ v r. rest ≡ decimal v ++ r) m → Ensures (Writes T (word ++ rest)) (as_term form m)
as_term-writes T word rest form (Ok p) text is = ap (λ s. word ++ s) is ∙ (sym (append_assoc word (decimal p.0) p.1) ∙ ap (λ s. s ++ p.1) (sym (text p.0)))
as_term-writes T word rest form (Err e) text is = tt

sort-writes : (T : Signature) (rest : List ℕ) → Ensures (Writes T (codes "Type" ++ rest)) (sort_at rest)
sort-writes T rest =
    ensures-word (Writes T (codes "Type" ++ rest)) (codes " ") rest (λ r. as_term Sort (read_index (top + 1) r))
    (λ r is. moved r is (as_term-writes T (codes "Type ") r Sort (read_index (top + 1) r) (λ v. refl) (index-read (top + 1) r (omega arith))))
  where
    moved : (r : List ℕ) → rest ≡ codes " " ++ r → Ensures (Writes T (codes "Type " ++ r)) (as_term Sort (read_index (top + 1) r)) → Ensures (Writes T (codes "Type" ++ rest)) (as_term Sort (read_index (top + 1) r))
    moved r is = by (as_term Sort (read_index (top + 1) r))
      where
        by : (m : Reading Term) → Ensures (Writes T (codes "Type " ++ r)) m → Ensures (Writes T (codes "Type" ++ rest)) m
        by (Ok p) so = ap (λ s. codes "Type" ++ s) is ∙ so
        by (Err e) so = tt

known-writes : (T : Signature) (name start rest : List ℕ) (o : Option Term) → ((t : Term) → o ≡ Some t → IsWritten T name t) → Ensures (Writes T (name ++ rest)) (known o start rest)
known-writes T name start rest (Some t) is = ap (λ s. s ++ rest) (sym (is t refl false))
known-writes T name start rest None is = tt

-- from one text to one that is the same
pub ensures-same : (T : Signature) (a b : List ℕ) (m : Reading Term) → a ≡ b → Ensures (Writes T b) m → Ensures (Writes T a) m
ensures-same T a b (Ok p) is so = is ∙ so
ensures-same T a b (Err e) is so = tt

variable-writes : (T : Signature) (n : ℕ) (rest : List ℕ) → n ≤ 2 ^ 64 → (first rest == 37) ≡ true → Ensures (Writes T rest) (variable_at n rest)
variable-writes T zero rest le e = tt
variable-writes T (suc n) rest le e =
    let number = read_index (suc n) (drop 1 rest) in
    ensures-same T rest (37 ∷ drop 1 rest) (as_term Var number) (first-is 37 rest (omega arith) e) (as_term-writes T (codes "%") (drop 1 rest) Var number (λ v. refl) (index-read (suc n) (drop 1 rest) le))

named-writes : (T : Signature) (look : List ℕ → Option Term) → WritesNames T look → (k : ℕ) (rest : List ℕ) → Ensures (Writes T rest) (named look k rest)
named-writes T look names k rest =
    ensures-if (Writes T rest) (bytes_eq (take k rest) (codes "Type")) (sort_at (drop k rest)) (known (look (take k rest)) rest (drop k rest))
    (λ e. ensures-same T rest (codes "Type" ++ drop k rest) (sort_at (drop k rest)) (sym (take-append-drop k rest) ∙ ap (λ w. w ++ drop k rest) (same-bytes (take k rest) (codes "Type") e)) (sort-writes T (drop k rest)))
    (λ e. ensures-same T rest (take k rest ++ drop k rest) (known (look (take k rest)) rest (drop k rest)) (sym (take-append-drop k rest)) (known-writes T (take k rest) rest (drop k rest) (look (take k rest)) (names (take k rest))))

-- ---- the ends of forms

-- the term is t, and the bytes are the word and those after it
abbrev Ends : List ℕ → List ℕ → Term → Term → List ℕ → Type 0
Ends word rest t u r = (t ≡ u) × (rest ≡ word ++ r)

limited-ends : (t : Term) (rest : List ℕ) → Ensures (Ends [] rest t) (limited t rest)
limited-ends t rest = ensures-if (Ends [] rest t) (nat_le (height t) most) (Ok (t, rest)) (Err (Nested (length rest))) (λ e. (refl, refl)) (λ e. tt)

closed-ends : (t : Term) (rest : List ℕ) → Ensures (Ends (codes ")") rest t) (closed_by t rest)
closed-ends t rest =
    ensures-word (Ends (codes ")") rest t) (codes ")") rest (limited t)
    (λ r is. by r is (limited t r) (limited-ends t r))
  where
    by : (r : List ℕ) → rest ≡ codes ")" ++ r → (m : Reading Term) → Ensures (Ends [] r t) m → Ensures (Ends (codes ")") rest t) m
    by r is (Ok p) so = (so.0, is ∙ ap (λ s. codes ")" ++ s) so.1)
    by r is (Err e) so = tt

-- a term that is closed, of which the text before its last parenthesis is known
closed-writes : (T : Signature) (whole front : List ℕ) (t : Term) (rest : List ℕ) → whole ≡ front ++ rest → front ++ codes ")" ≡ term_text T t → Ensures (Writes T whole) (closed_by t rest)
closed-writes T whole front t rest is text = by (closed_by t rest) (closed-ends t rest)
  where
    by : (m : Reading Term) → Ensures (Ends (codes ")") rest t) m → Ensures (Writes T whole) m
    by (Ok p) so = is ∙ (ap (λ s. front ++ s) so.1 ∙ (sym (append_assoc front (codes ")") p.1) ∙ (ap (λ s. s ++ p.1) text ∙ ap (λ u. term_text T u ++ p.1) so.0)))
    by (Err e) so = tt

-- ---- compound terms, where `inner` reads texts of terms

-- terms inside are read under at most as many binders
abbrev pub Inside : Signature → ℕ → (ℕ → List ℕ → Reading Term) → Type 0
Inside T bound inner = (n : ℕ) (rest : List ℕ) → n ≤ bound → Ensures (Writes T rest) (inner n rest)

module _ (T : Signature) (bound : ℕ) (inner : ℕ → List ℕ → Reading Term) (inside : Inside T (bound + 1) inner) where
  after-writes : {B : Type 0} (Q : B → List ℕ → Type 0) (word : List ℕ) (n : ℕ) (rest : List ℕ) (next : Term → List ℕ → Reading B) → n ≤ bound + 1 → ((t : Term) (r : List ℕ) → rest ≡ word ++ (term_text T t ++ r) → Ensures Q (next t r)) → Ensures Q (and_then (term_after inner word n rest) next)
  after-writes Q word n rest next le k =
      ensures-then (λ t r. rest ≡ word ++ (term_text T t ++ r)) Q (term_after inner word n rest) next
      (ensures-word (λ t r. rest ≡ word ++ (term_text T t ++ r)) word rest (inner n) (λ r is. by r is (inner n r) (inside n r le))) k
    where
      by : (r : List ℕ) → rest ≡ word ++ r → (m : Reading Term) → Ensures (Writes T r) m → Ensures (λ t s. rest ≡ word ++ (term_text T t ++ s)) m
      by r is (Ok p) so = is ∙ ap (λ s. word ++ s) so
      by r is (Err e) so = tt

  function-writes : (n : ℕ) (rest : List ℕ) → n ≤ bound → Ensures (Writes T (codes "(\\" ++ rest)) (function_at inner n rest)
  function-writes n rest le =
      ensures-then (Writes T rest) (Writes T (codes "(\\" ++ rest)) (inner n rest) (λ a r. and_then (term_after inner (codes " . ") (n + 1) r) (λ b end. closed_by (Lam a b) end)) (inside n rest (omega arith))
      (λ a r fa. after-writes (Writes T (codes "(\\" ++ rest)) (codes " . ") (n + 1) r (λ b end. closed_by (Lam a b) end) (omega arith)
      (λ b end fb. closed-writes T (codes "(\\" ++ rest) (codes "(\\" ++ (term_text T a ++ (codes " . " ++ term_text T b))) (Lam a b) end
      (ap (λ s. codes "(\\" ++ s) (fa ∙ ap (λ s. term_text T a ++ s) fb) ∙ simp append_assoc) (simp append_assoc)))

  product-writes : (n : ℕ) (a : Term) (rest : List ℕ) → n ≤ bound → Ensures (Writes T (codes "(" ++ (term_text T a ++ (codes " " ++ rest)))) (product_from inner a n rest)
  product-writes n a rest le =
      after-writes (Writes T (codes "(" ++ (term_text T a ++ (codes " " ++ rest)))) (codes "-> ") (n + 1) rest (λ b end. closed_by (Pi a b) end) (omega arith)
      (λ b end fb. closed-writes T (codes "(" ++ (term_text T a ++ (codes " " ++ rest))) (codes "(" ++ (term_text T a ++ (codes " -> " ++ term_text T b))) (Pi a b) end
      (ap (λ s. codes "(" ++ (term_text T a ++ (codes " " ++ s))) fb ∙ simp append_assoc) (simp append_assoc))

  let-writes : (n : ℕ) (rest : List ℕ) → n ≤ bound → Ensures (Writes T (codes "(let " ++ rest)) (let_at inner n rest)
  let-writes n rest le =
      ensures-then (Writes T rest) (Writes T (codes "(let " ++ rest)) (inner n rest)
      (λ a r1. and_then (term_after inner (codes " = ") n r1) (λ t r2. and_then (term_after inner (codes " . ") (n + 1) r2) (λ b end. closed_by (Let a t b) end))) (inside n rest (omega arith))
      (λ a r1 fa. after-writes (Writes T (codes "(let " ++ rest)) (codes " = ") n r1 (λ t r2. and_then (term_after inner (codes " . ") (n + 1) r2) (λ b end. closed_by (Let a t b) end)) (omega arith)
      (λ t r2 ft. after-writes (Writes T (codes "(let " ++ rest)) (codes " . ") (n + 1) r2 (λ b end. closed_by (Let a t b) end) (omega arith)
      (λ b end fb. closed-writes T (codes "(let " ++ rest) (codes "(let " ++ (term_text T a ++ (codes " = " ++ (term_text T t ++ (codes " . " ++ term_text T b))))) (Let a t b) end
      (ap (λ s. codes "(let " ++ s) (fa ∙ ap (λ s. term_text T a ++ s) (ft ∙ ap (λ s. codes " = " ++ (term_text T t ++ s)) fb)) ∙ simp append_assoc) (simp append_assoc))))

  -- ---- applications, by their text without parentheses

  more-text : (f a : Term) (r : List ℕ) → spelled T true f ++ (codes " " ++ (term_text T a ++ r)) ≡ spelled T true (App f a) ++ r
  more-text f a r = simp append_assoc

  -- with one argument more
  argument-writes : (n : ℕ) (f : Term) (rest : List ℕ) → n ≤ bound → Ensures (λ t r. (is_application t ≡ true) × (spelled T true f ++ (codes " " ++ rest) ≡ spelled T true t ++ r)) (argument_of inner f n rest)
  argument-writes n f rest le =
      ensures-then (Writes T rest) Q (inner n rest) (λ a r. limited (App f a) r) (inside n rest (omega arith))
      (λ a r fa. by a r fa (limited (App f a) r) (limited-ends (App f a) r))
    where
      Q : Term → List ℕ → Type 0
      Q t r = (is_application t ≡ true) × (spelled T true f ++ (codes " " ++ rest) ≡ spelled T true t ++ r)

      by : (a : Term) (r : List ℕ) → Writes T rest a r → (m : Reading Term) → Ensures (Ends [] r (App f a)) m → Ensures Q m
      by a r fa (Ok p) so = (
        ap is_application (sym so.0),
        ap (λ s. spelled T true f ++ (codes " " ++ s)) (fa ∙ ap (λ s. term_text T a ++ s) so.1) ∙ (more-text f a p.1 ∙ ap (λ u. spelled T true u ++ p.1) so.0),
      )
      by a r fa (Err e) so = tt

  -- an application and the parenthesis that closes it
  abbrev Closes : List ℕ → Term → List ℕ → Type 0
  Closes whole t r = (is_application t ≡ true) × (whole ≡ spelled T true t ++ (codes ")" ++ r))

  arguments-write : (n k : ℕ) (f : Term) (rest : List ℕ) → n ≤ bound → Ensures (Closes (spelled T true f ++ (codes " " ++ rest))) (arguments_from inner k f n rest)
  arguments-write n zero f rest le = tt
  arguments-write n (suc k) f rest le =
      ensures-then (λ t r. (is_application t ≡ true) × (spelled T true f ++ (codes " " ++ rest) ≡ spelled T true t ++ r)) (Closes (spelled T true f ++ (codes " " ++ rest))) (argument_of inner f n rest) (after_argument inner (λ t end. arguments_from inner k t n end)) (argument-writes n f rest le)
      (λ t r ft. ensures-if (Closes (spelled T true f ++ (codes " " ++ rest))) (first r == 32) (arguments_from inner k t n (drop 1 r)) (closed_by t r)
      (λ e. longer (spelled T true f ++ (codes " " ++ rest)) (spelled T true t ++ (codes " " ++ drop 1 r)) (ft.1 ∙ ap (λ s. spelled T true t ++ s) (first-is 32 r (omega arith) e)) (arguments_from inner k t n (drop 1 r)) (arguments-write n k t (drop 1 r) le))
      (λ e. ended (spelled T true f ++ (codes " " ++ rest)) t r ft.0 ft.1 (closed_by t r) (closed-ends t r)))
    where
      longer : (a b : List ℕ) → a ≡ b → (m : Reading Term) → Ensures (Closes b) m → Ensures (Closes a) m
      longer a b is (Ok p) so = (so.0, is ∙ so.1)
      longer a b is (Err e) so = tt

      ended : (whole : List ℕ) (t : Term) (r : List ℕ) → is_application t ≡ true → whole ≡ spelled T true t ++ r → (m : Reading Term) → Ensures (Ends (codes ")") r t) m → Ensures (Closes whole) m
      ended whole t r app is (Ok p) so = (ap is_application (sym so.0) ∙ app, is ∙ (ap (λ s. spelled T true t ++ s) so.1 ∙ ap (λ u. spelled T true u ++ (codes ")" ++ p.1)) so.0))
      ended whole t r app is (Err e) so = tt

  enclosed-text : (t : Term) (r : List ℕ) → is_application t ≡ true → codes "(" ++ (spelled T true t ++ (codes ")" ++ r)) ≡ term_text T t ++ r
  enclosed-text (App f a) r e = simp append_assoc
  enclosed-text (Var _) r e = absurd (cc)
  enclosed-text (Sort _) r e = absurd (cc)
  enclosed-text (Pi _ _) r e = absurd (cc)
  enclosed-text (Lam _ _) r e = absurd (cc)
  enclosed-text (Let _ _ _) r e = absurd (cc)
  enclosed-text (Const _) r e = absurd (cc)
  enclosed-text (Fam _) r e = absurd (cc)
  enclosed-text (Con _ _) r e = absurd (cc)
  enclosed-text (Elim _ _) r e = absurd (cc)
  enclosed-text (AxiomK _ _) r e = absurd (cc)

  spine-writes : (n : ℕ) (f : Term) (rest : List ℕ) → n ≤ bound → Ensures (Writes T (codes "(" ++ (term_text T f ++ (codes " " ++ rest)))) (spine_from inner f n rest)
  spine-writes n f rest le =
      ensures-if (Writes T (codes "(" ++ (term_text T f ++ (codes " " ++ rest)))) (is_application f) (wrong rest) (arguments_from inner most f n rest)
      (λ e. tt) (λ e. by e (arguments_from inner most f n rest) (arguments-write n most f rest le))
    where
      by : is_application f ≡ false → (m : Reading Term) → Ensures (Closes (spelled T true f ++ (codes " " ++ rest))) m → Ensures (Writes T (codes "(" ++ (term_text T f ++ (codes " " ++ rest)))) m
      by alone (Ok p) so = ap (λ s. codes "(" ++ (s ++ (codes " " ++ rest))) (sym (spelled-alone T f alone)) ∙ (ap (λ s. codes "(" ++ s) so.1 ∙ enclosed-text p.0 p.1 so.0)
      by alone (Err e) so = tt

  first-writes : (n : ℕ) (a : Term) (rest : List ℕ) → n ≤ bound → Ensures (Writes T (codes "(" ++ (term_text T a ++ rest))) (after_first inner a n rest)
  first-writes n a rest le =
      ensures-word (Writes T (codes "(" ++ (term_text T a ++ rest))) (codes " ") rest (λ r. if first r == 45 then product_from inner a n r else spine_from inner a n r)
      (λ r is. ensures-same T (codes "(" ++ (term_text T a ++ rest)) (codes "(" ++ (term_text T a ++ (codes " " ++ r))) (if first r == 45 then product_from inner a n r else spine_from inner a n r) (ap (λ s. codes "(" ++ (term_text T a ++ s)) is)
      (ensures-if (Writes T (codes "(" ++ (term_text T a ++ (codes " " ++ r)))) (first r == 45) (product_from inner a n r) (spine_from inner a n r)
      (λ e. product-writes n a r le) (λ e. spine-writes n a r le)))

  enclosed-writes : (n : ℕ) (rest : List ℕ) → n ≤ bound → Ensures (Writes T (codes "(" ++ rest)) (enclosed_at inner n rest)
  enclosed-writes n rest le =
      ensures-if (Writes T (codes "(" ++ rest)) (first rest == 92) (function_at inner n (drop 1 rest))
      (if begins (codes "let ") rest then let_at inner n (drop 4 rest) else and_then (inner n rest) (λ a r. after_first inner a n r))
      (λ e. ensures-same T (codes "(" ++ rest) (codes "(\\" ++ drop 1 rest) (function_at inner n (drop 1 rest)) (ap (λ s. codes "(" ++ s) (first-is 92 rest (omega arith) e)) (function-writes n (drop 1 rest) le))
      (λ e. ensures-if (Writes T (codes "(" ++ rest)) (begins (codes "let ") rest) (let_at inner n (drop 4 rest)) (and_then (inner n rest) (λ a r. after_first inner a n r))
      (λ e. ensures-same T (codes "(" ++ rest) (codes "(let " ++ drop 4 rest) (let_at inner n (drop 4 rest)) (ap (λ s. codes "(" ++ s) (word-is (codes "let ") rest e)) (let-writes n (drop 4 rest) le))
      (λ e. ensures-then (Writes T rest) (Writes T (codes "(" ++ rest)) (inner n rest) (λ a r. after_first inner a n r) (inside n rest (omega arith))
      (λ a r fa. ensures-same T (codes "(" ++ rest) (codes "(" ++ (term_text T a ++ r)) (after_first inner a n r) (ap (λ s. codes "(" ++ s) fa) (first-writes n a r le))))

-- a term is read inside `room` others, so that at most as many binders are opened
pub term-writes : (T : Signature) (look : List ℕ → Option Term) → WritesNames T look → (room n : ℕ) (rest : List ℕ) → n + room ≤ 2 ^ 64 → Ensures (Writes T rest) (read_term look room n rest)
term-writes T look names zero n rest le = tt
term-writes T look names (suc room) n rest le =
    ensures-if (Writes T rest) (first rest == 40) (enclosed_at (read_term look room) n (drop 1 rest))
    (if first rest == 37 then variable_at n rest else named look (run_len rest) rest)
    (λ e. ensures-same T rest (40 ∷ drop 1 rest) (enclosed_at (read_term look room) n (drop 1 rest)) (first-is 40 rest (omega arith) e)
    (enclosed-writes T n (read_term look room) (λ m r within. term-writes T look names room m r (omega arith)) n (drop 1 rest) (omega arith)))
    (λ e. ensures-if (Writes T rest) (first rest == 37) (variable_at n rest) (named look (run_len rest) rest)
    (λ e. variable-writes T n rest (omega arith) e)
    (λ e. named-writes T look names (run_len rest) rest))
