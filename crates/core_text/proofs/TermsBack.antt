-- A term that is written is read back.
use Rattle.std.proofs.Common.{◌≡◌, ℕ, zero, suc, ◌+◌, ◌<◌, ◌≤◌, ◌^◌, Bool, true, false, List, [], ◌∷◌, ◌++◌, length, drop, take, refl, sym, ap, ap₂, ◌∙◌, subst, append_assoc, arith}
use Rattle.std.specs.Prelude.{◌==◌, ◌&&◌, nat_le, if◌then◌else◌, Ok, Err, Option, codes, decimal, bytes_eq, All}
use Rattle.std.specs.Str.{is_utf8, chars}
use Rattle.std.proofs.lemmas.Bool.Decides.{nat_tests}
use Rattle.std.proofs.lemmas.List.Elements.{All-head, All-tail, All-push}
use Rattle.unicode_ident.proofs.Computing.{unicode_ident}
use Rattle.theory.specs.Terms.{Term, Var, Sort, Pi, Lam, App, Let, Const, Fam, Con, Elim, AxiomK, free_of, height, top}
use Rattle.theory.specs.Telescopes.{applied}
use Rattle.theory.specs.Spines.{head_of, spine_of}
use Rattle.theory.specs.Signatures.{Signature}
use Rattle.theory.proofs.Bounds.{applied-parts}
use Rattle.theory.proofs.Spines.{applied-spine}
use Rattle.core_text.specs.NameRuns.{width, are_name_chars, name_char_len, run_len}
use Rattle.core_text.specs.ReadBack.{Stops, IsSpelled, AreSpelled, TermsAreReadBack}
use Rattle.core_text.specs.Reading.{Reading, wrong, first, and_then, after, begins, read_index}
use Rattle.core_text.specs.SymbolNames.{name_at, constructor_name_at, eliminator_name, axiom_k_name}
use Rattle.core_text.specs.TermReading.{most, limited, closed_by, as_term, known, sort_at, named, is_application, read_term, term_after, function_at, let_at, product_from, after_argument, arguments_from, spine_from, after_first, enclosed_at}
use Rattle.core_text.specs.TermText.{spelled, term_text, spaced}
use Rattle.core_text.specs.declared.halt.Halt.TheVariants.{Nested}
use Rattle.core_text.proofs.NumbersBack.{drop-word, begins-word, past-word, index-back}
use Rattle.core_text.proofs.RunSteps.{run_more, run_end}
use Rattle.core_text.proofs.SpineTexts.{spelled-alone, spelled-applied}
use Rattle.core_text.proofs.TermSteps.{term_named}

-- ---- bytes that stop names and numbers

and-none : (a : Bool) (k : ℕ) → (if a && false then k else 0) ≡ 0
and-none true k = refl
and-none false k = refl

pub no-char : (b : ℕ) (rest : List ℕ) → width b ≡ 1 → are_name_chars (b ∷ []) ≡ false → name_char_len (b ∷ rest) ≡ 0
no-char b rest one none =
    ap (λ k. if nat_le k (length (b ∷ rest)) && are_name_chars (take k (b ∷ rest)) then k else 0) one
    ∙ (ap (λ c. if nat_le 1 (length (b ∷ rest)) && c then 1 else 0) none ∙ and-none (nat_le 1 (length (b ∷ rest))) 1)

pub some-char : (b : ℕ) (rest : List ℕ) → width b ≡ 1 → are_name_chars (b ∷ []) ≡ true → name_char_len (b ∷ rest) ≡ 1
some-char b rest one some =
    let long : nat_le 1 (length (b ∷ rest)) ≡ true = grind (arith, nat_tests) in
    ap (λ k. if nat_le k (length (b ∷ rest)) && are_name_chars (take k (b ∷ rest)) then k else 0) one
    ∙ ap₂ (λ c d. if c && d then 1 else 0) long some

no-name : (are_name_chars (32 ∷ []) ≡ false) × (are_name_chars (41 ∷ []) ≡ false) × (are_name_chars (10 ∷ []) ≡ false)
unfolding is_utf8 chars unicode_ident lib.Utf8.encode
no-name = (refl, refl, refl)

letters : (are_name_chars (84 ∷ []) ≡ true) × (are_name_chars (121 ∷ []) ≡ true) × (are_name_chars (112 ∷ []) ≡ true) × (are_name_chars (101 ∷ []) ≡ true)
unfolding is_utf8 chars unicode_ident lib.Utf8.encode
letters = (refl, refl, refl, refl)

pub stops-space : (rest : List ℕ) → Stops (32 ∷ rest)
stops-space rest = record { run = run_end (32 ∷ rest) (no-char 32 rest refl no-name.0); digit = refl }

pub stops-close : (rest : List ℕ) → Stops (41 ∷ rest)
stops-close rest = record { run = run_end (41 ∷ rest) (no-char 41 rest refl no-name.1); digit = refl }

pub stops-line : (rest : List ℕ) → Stops (10 ∷ rest)
stops-line rest = record { run = run_end (10 ∷ rest) (no-char 10 rest refl no-name.2); digit = refl }

-- the word of sorts is a run
type-run : (rest : List ℕ) → run_len (84 ∷ 121 ∷ 112 ∷ 101 ∷ 32 ∷ rest) ≡ 4
type-run rest =
    run_more (84 ∷ 121 ∷ 112 ∷ 101 ∷ 32 ∷ rest) 1 (some-char 84 (121 ∷ 112 ∷ 101 ∷ 32 ∷ rest) refl letters.0) (omega arith)
    ∙ (ap (λ k. 1 + k) (run_more (121 ∷ 112 ∷ 101 ∷ 32 ∷ rest) 1 (some-char 121 (112 ∷ 101 ∷ 32 ∷ rest) refl letters.1) (omega arith))
    ∙ (ap (λ k. 1 + (1 + k)) (run_more (112 ∷ 101 ∷ 32 ∷ rest) 1 (some-char 112 (101 ∷ 32 ∷ rest) refl letters.2) (omega arith))
    ∙ (ap (λ k. 1 + (1 + (1 + k))) (run_more (101 ∷ 32 ∷ rest) 1 (some-char 101 (32 ∷ rest) refl letters.3) (omega arith))
    ∙ ap (λ k. 1 + (1 + (1 + (1 + k)))) (stops-space rest).run)))

-- ---- leaves

pub take-word : (word rest : List ℕ) → take (length word) (word ++ rest) ≡ word
take-word [] rest = refl
take-word (b ∷ word) rest = ap (λ r. b ∷ r) (take-word word rest)

-- a term's text begins with no `let `, no backslash and no hyphen
pub record Begins (text : List ℕ) : Type 0 where
  pub no_let : (rest : List ℕ) → Stops rest → begins (codes "let ") (text ++ rest) ≡ false
  pub no_function : (rest : List ℕ) → (first (text ++ rest) == 92) ≡ false
  pub no_arrow : (rest : List ℕ) → (first (text ++ rest) == 45) ≡ false

spelled-begins : (look : List ℕ → Option Term) (name : List ℕ) (t : Term) → IsSpelled look name t → Begins name
spelled-begins look name t is = record { no_let = is.no_let; no_function = is.no_function; no_arrow = is.no_arrow }

pub text-begins : (S : Signature) (look : List ℕ → Option Term) (t : Term) → AreSpelled S look t → Begins (term_text S t)
text-begins S look (Const n) is = spelled-begins look (name_at S n) (Const n) is
text-begins S look (Fam n) is = spelled-begins look (name_at S n) (Fam n) is
text-begins S look (Con n c) is = spelled-begins look (constructor_name_at S n c) (Con n c) is
text-begins S look (Elim n m) is = spelled-begins look (eliminator_name (name_at S n) m) (Elim n m) is
text-begins S look (AxiomK i m) is = spelled-begins look (axiom_k_name i m) (AxiomK i m) is
text-begins S look _ is = record { no_let = λ rest stops. refl; no_function = λ rest. refl; no_arrow = λ rest. refl }

pub symbol-back : (look : List ℕ → Option Term) (name : List ℕ) (t : Term) (room n : ℕ) (rest : List ℕ) → IsSpelled look name t → Stops rest → read_term look (suc room) n (name ++ rest) ≡ Ok (t, rest)
symbol-back look name t room n rest is stops =
    term_named look (suc room) n (name ++ rest) (omega arith) (is.no_form rest) (is.no_variable rest)
    ∙ (ap (λ k. named look k (name ++ rest)) (is.run rest stops)
    ∙ (ap₂ (λ a b. if bytes_eq a (codes "Type") then sort_at b else known (look a) (name ++ rest) b) (take-word name rest) (drop-word name rest)
    ∙ ap₂ (λ c o. if c then sort_at rest else known o (name ++ rest) rest) is.no_sort is.found))

sort-back : (look : List ℕ → Option Term) (i room n : ℕ) (rest : List ℕ) → i ≤ top → Stops rest → read_term look (suc room) n (84 ∷ 121 ∷ 112 ∷ 101 ∷ 32 ∷ (decimal i ++ rest)) ≡ Ok (Sort i, rest)
sort-back look i room n rest le stops =
    term_named look (suc room) n (84 ∷ 121 ∷ 112 ∷ 101 ∷ 32 ∷ (decimal i ++ rest)) (omega arith) refl refl
    ∙ (ap (λ k. named look k (84 ∷ 121 ∷ 112 ∷ 101 ∷ 32 ∷ (decimal i ++ rest))) (type-run (decimal i ++ rest))
    ∙ (ap (λ m. after m (λ r. as_term Sort (read_index (top + 1) r))) (past-word (codes " ") (decimal i ++ rest))
    ∙ ap (as_term Sort) (index-back (top + 1) i rest (omega arith) (omega arith) stops.digit)))

-- ---- the ends of forms

limited-back : (t : Term) (rest : List ℕ) → height t ≤ 2000 → limited t rest ≡ Ok (t, rest)
limited-back t rest low =
    let is : nat_le (height t) 2000 ≡ true = grind (arith, nat_tests) in ap (λ c. if c then Ok (t, rest) else Err (Nested (length rest))) is

closed-back : (t : Term) (rest : List ℕ) → height t ≤ 2000 → closed_by t (41 ∷ rest) ≡ Ok (t, rest)
closed-back t rest low = ap (λ m. after m (limited t)) (past-word (codes ")") rest) ∙ limited-back t rest low

-- ---- compound terms, where `inner` reads back what is inside

record IsFit (S : Signature) (look : List ℕ → Option Term) (room n : ℕ) (t : Term) : Type 0 where
  spelled : AreSpelled S look t
  free : free_of t ≤ n
  low : height t ≤ room

abbrev ReadsBack : Signature → (List ℕ → Option Term) → ℕ → (ℕ → List ℕ → Reading Term) → Type 0
ReadsBack S look room inner =
    (t : Term) (n : ℕ) (rest : List ℕ) → IsFit S look room n t → height t ≤ 2000 → Stops rest → inner n (term_text S t ++ rest) ≡ Ok (t, rest)

module _ (S : Signature) (look : List ℕ → Option Term) (room : ℕ) (inner : ℕ → List ℕ → Reading Term) (back : ReadsBack S look room inner) where
  -- a term after a word
  after-back : (word : List ℕ) (t : Term) (n : ℕ) (rest : List ℕ) → IsFit S look room n t → height t ≤ 2000 → Stops rest → term_after inner word n (word ++ (term_text S t ++ rest)) ≡ Ok (t, rest)
  after-back word t n rest fit low stops = ap (λ m. after m (inner n)) (past-word word (term_text S t ++ rest)) ∙ back t n rest fit low stops

  function-back : (a b : Term) (n : ℕ) (rest : List ℕ) → IsFit S look room n a → IsFit S look room (n + 1) b → height (Lam a b) ≤ 2000 → function_at inner n (term_text S a ++ (codes " . " ++ (term_text S b ++ 41 ∷ rest))) ≡ Ok (Lam a b, rest)
  function-back a b n rest fa fb low =
      ap (λ m. and_then m (λ a r. and_then (term_after inner (codes " . ") (n + 1) r) (λ b end. closed_by (Lam a b) end)))
      (back a n (codes " . " ++ (term_text S b ++ 41 ∷ rest)) fa (omega arith) (stops-space _))
      ∙ (ap (λ m. and_then m (λ b end. closed_by (Lam a b) end)) (after-back (codes " . ") b (n + 1) (41 ∷ rest) fb (omega arith) (stops-close rest))
      ∙ closed-back (Lam a b) rest low)

  let-back : (a t b : Term) (n : ℕ) (rest : List ℕ) → IsFit S look room n a → IsFit S look room n t → IsFit S look room (n + 1) b → height (Let a t b) ≤ 2000 → let_at inner n (term_text S a ++ (codes " = " ++ (term_text S t ++ (codes " . " ++ (term_text S b ++ 41 ∷ rest))))) ≡ Ok (Let a t b, rest)
  let-back a t b n rest fa ft fb low =
      ap (λ m. and_then m (λ a r1. and_then (term_after inner (codes " = ") n r1) (λ t r2. and_then (term_after inner (codes " . ") (n + 1) r2) (λ b end. closed_by (Let a t b) end))))
      (back a n (codes " = " ++ (term_text S t ++ (codes " . " ++ (term_text S b ++ 41 ∷ rest)))) fa (omega arith) (stops-space _))
      ∙ (ap (λ m. and_then m (λ t r2. and_then (term_after inner (codes " . ") (n + 1) r2) (λ b end. closed_by (Let a t b) end)))
      (after-back (codes " = ") t n (codes " . " ++ (term_text S b ++ 41 ∷ rest)) ft (omega arith) (stops-space _))
      ∙ (ap (λ m. and_then m (λ b end. closed_by (Let a t b) end)) (after-back (codes " . ") b (n + 1) (41 ∷ rest) fb (omega arith) (stops-close rest))
      ∙ closed-back (Let a t b) rest low))

  -- after the parenthesis of a product or an application
  open-back : (a : Term) (n : ℕ) (rest : List ℕ) → IsFit S look room n a → height a ≤ 2000 → enclosed_at inner n (term_text S a ++ 32 ∷ rest) ≡ after_first inner a n (32 ∷ rest)
  open-back a n rest fa low =
      let starts = text-begins S look a fa.spelled in
      let bytes = term_text S a ++ 32 ∷ rest in
      ap₂ (λ c d. if c then function_at inner n (drop 1 bytes) else (if d then let_at inner n (drop 4 bytes) else and_then (inner n bytes) (λ a r. after_first inner a n r))) (starts.no_function (32 ∷ rest)) (starts.no_let (32 ∷ rest) (stops-space rest))
      ∙ ap (λ m. and_then m (λ a r. after_first inner a n r)) (back a n (32 ∷ rest) fa low (stops-space rest))

  product-back : (a b : Term) (n : ℕ) (rest : List ℕ) → IsFit S look room n a → IsFit S look room (n + 1) b → height (Pi a b) ≤ 2000 → enclosed_at inner n (term_text S a ++ (codes " -> " ++ (term_text S b ++ 41 ∷ rest))) ≡ Ok (Pi a b, rest)
  product-back a b n rest fa fb low =
      open-back a n (codes "-> " ++ (term_text S b ++ 41 ∷ rest)) fa (omega arith)
      ∙ (ap (λ m. after m (λ r. if first r == 45 then product_from inner a n r else spine_from inner a n r)) (past-word (codes " ") (codes "-> " ++ (term_text S b ++ 41 ∷ rest)))
      ∙ (ap (λ m. and_then m (λ b end. closed_by (Pi a b) end)) (after-back (codes "-> ") b (n + 1) (41 ∷ rest) fb (omega arith) (stops-close rest))
      ∙ closed-back (Pi a b) rest low))

  height-more : (head : Term) (spine : List Term) → height head + length spine ≤ height (applied head spine)
  height-more head [] = omega arith
  height-more head (a ∷ spine) = omega (arith, height-more (App head a) spine)

  arguments-back : (f a : Term) (spine : List Term) (k n : ℕ) (rest : List ℕ) → IsFit S look room n a → All (IsFit S look room n) spine → length spine < k → height (applied (App f a) spine) ≤ 2000 → arguments_from inner k f n (term_text S a ++ (spaced S spine ++ 41 ∷ rest)) ≡ Ok (applied (App f a) spine, rest)
  arguments-back f a spine zero n rest fit all few low = absurd (omega arith)
  arguments-back f a [] (suc k) n rest fit all few low =
      ap (λ m. and_then (and_then m (λ a r. limited (App f a) r)) (after_argument inner (λ t end. arguments_from inner k t n end))) (back a n (41 ∷ rest) fit (omega arith) (stops-close rest))
      ∙ (ap (λ m. and_then m (after_argument inner (λ t end. arguments_from inner k t n end))) (limited-back (App f a) (41 ∷ rest) low)
      ∙ closed-back (App f a) rest low)
  arguments-back f a (c ∷ spine) (suc k) n rest fit all few low =
      let more = height-more (App f a) (c ∷ spine) in
      let tail = term_text S c ++ (spaced S spine ++ 41 ∷ rest) in
      ap (λ r. arguments_from inner (suc k) f n (term_text S a ++ 32 ∷ r)) (append_assoc (term_text S c) (spaced S spine) (41 ∷ rest))
      ∙ (ap (λ m. and_then (and_then m (λ a r. limited (App f a) r)) (after_argument inner (λ t end. arguments_from inner k t n end))) (back a n (32 ∷ tail) fit (omega arith) (stops-space tail))
      ∙ (ap (λ m. and_then m (after_argument inner (λ t end. arguments_from inner k t n end))) (limited-back (App f a) (32 ∷ tail) (omega arith))
      ∙ arguments-back (App f a) c spine k n rest (All-head (IsFit S look room n) c spine all) (All-tail (IsFit S look room n) c spine all) (omega arith) low))

  application-back : (h a : Term) (spine : List Term) (n : ℕ) (rest : List ℕ) → is_application h ≡ false → IsFit S look room n h → IsFit S look room n a → All (IsFit S look room n) spine → height (applied (App h a) spine) ≤ 2000 → enclosed_at inner n (term_text S h ++ (spaced S (a ∷ spine) ++ 41 ∷ rest)) ≡ Ok (applied (App h a) spine, rest)
  application-back h a spine n rest head fh fa all low =
      let more = height-more (App h a) spine in
      let tail = term_text S a ++ (spaced S spine ++ 41 ∷ rest) in
      let starts = text-begins S look a fa.spelled in
      ap (λ r. enclosed_at inner n (term_text S h ++ 32 ∷ r)) (append_assoc (term_text S a) (spaced S spine) (41 ∷ rest))
      ∙ (open-back h n tail fh (omega arith)
      ∙ (ap (λ m. after m (λ r. if first r == 45 then product_from inner h n r else spine_from inner h n r)) (past-word (codes " ") tail)
      ∙ (ap (λ c. if c then product_from inner h n tail else spine_from inner h n tail) (starts.no_arrow (spaced S spine ++ 41 ∷ rest))
      ∙ (ap (λ c. if c then wrong tail else arguments_from inner most h n tail) head
      ∙ arguments-back h a spine most n rest fa all (omega arith) low))))

-- ---- an application is its head and its spine

pub head-no-application : (t : Term) → is_application (head_of t) ≡ false
head-no-application (App f a) = head-no-application f
head-no-application (Var _) = refl
head-no-application (Sort _) = refl
head-no-application (Pi _ _) = refl
head-no-application (Lam _ _) = refl
head-no-application (Let _ _ _) = refl
head-no-application (Const _) = refl
head-no-application (Fam _) = refl
head-no-application (Con _ _) = refl
head-no-application (Elim _ _) = refl
head-no-application (AxiomK _ _) = refl

fit-parts : (S : Signature) (look : List ℕ → Option Term) (room n : ℕ) (f a : Term) → IsFit S look room n (App f a) → IsFit S look room n f × IsFit S look room n a
fit-parts S look room n f a fit = (
  record { spelled = fit.spelled.0; free = omega (arith, fit.free); low = omega (arith, fit.low) },
  record { spelled = fit.spelled.1; free = omega (arith, fit.free); low = omega (arith, fit.low) },
)

-- a spine that is not empty
pub record Split (ts : List Term) : Type 0 where
  pub one : Term
  pub others : List Term
  pub is : ts ≡ one ∷ others

pub split-push : (ts : List Term) (a : Term) → Split (ts ++ a ∷ [])
split-push [] a = record { one = a; others = []; is = refl }
split-push (t ∷ ts) a = record { one = t; others = ts ++ a ∷ []; is = refl }

positive : (t : Term) → 0 < height t
positive (Pi a b) = omega arith
positive (Lam a b) = omega arith
positive (App f a) = omega arith
positive (Let a t b) = omega arith
positive _ = omega arith

-- ---- texts by their parts

pub product-text : (S : Signature) (a b : Term) (rest : List ℕ) → term_text S (Pi a b) ++ rest ≡ 40 ∷ (term_text S a ++ (codes " -> " ++ (term_text S b ++ 41 ∷ rest)))
product-text S a b rest = simp append_assoc

pub function-text : (S : Signature) (a b : Term) (rest : List ℕ) → term_text S (Lam a b) ++ rest ≡ 40 ∷ 92 ∷ (term_text S a ++ (codes " . " ++ (term_text S b ++ 41 ∷ rest)))
function-text S a b rest = simp append_assoc

pub let-text : (S : Signature) (a t b : Term) (rest : List ℕ) → term_text S (Let a t b) ++ rest ≡ 40 ∷ (codes "let " ++ (term_text S a ++ (codes " = " ++ (term_text S t ++ (codes " . " ++ (term_text S b ++ 41 ∷ rest))))))
let-text S a t b rest = simp append_assoc

-- an application is its head at its spine, which are in one pair of parentheses
pub application-whole : (f a : Term) (split : Split (spine_of f ++ a ∷ [])) → applied (App (head_of f) split.one) split.others ≡ App f a
application-whole f a split = ap (applied (head_of f)) (sym split.is) ∙ applied-spine (App f a)

pub application-text : (S : Signature) (f a : Term) (split : Split (spine_of f ++ a ∷ [])) (rest : List ℕ) → term_text S (App f a) ++ rest ≡ 40 ∷ (term_text S (head_of f) ++ (spaced S (split.one ∷ split.others) ++ 41 ∷ rest))
application-text S f a split rest =
    ap (λ r. 40 ∷ r) (append_assoc (spelled S true (App f a)) (codes ")") rest
    ∙ (ap (λ r. r ++ 41 ∷ rest) spelling ∙ append_assoc (term_text S (head_of f)) (spaced S (split.one ∷ split.others)) (41 ∷ rest)))
  where
    spelling : spelled S true (App f a) ≡ term_text S (head_of f) ++ spaced S (split.one ∷ split.others)
    spelling =
        ap (spelled S true) (sym (applied-spine (App f a)))
        ∙ (spelled-applied S (head_of f) (spine_of f ++ a ∷ []) ∙ ap₂ (λ x y. x ++ spaced S y) (spelled-alone S (head_of f) (head-no-application f)) split.is)

-- ---- one form, by its first bytes

pub paren : (look : List ℕ → Option Term) (room n : ℕ) (rest : List ℕ) → read_term look (suc room) n (40 ∷ rest) ≡ enclosed_at (read_term look room) n rest
paren look room n rest = refl

percent : (look : List ℕ → Option Term) (room n : ℕ) (rest : List ℕ) → read_term look (suc room) (suc n) (37 ∷ rest) ≡ as_term Var (read_index (suc n) rest)
percent look room n rest = refl

pub backslash : (inner : ℕ → List ℕ → Reading Term) (n : ℕ) (rest : List ℕ) → enclosed_at inner n (92 ∷ rest) ≡ function_at inner n rest
backslash inner n rest = refl

pub let-word : (inner : ℕ → List ℕ → Reading Term) (n : ℕ) (rest : List ℕ) → enclosed_at inner n (codes "let " ++ rest) ≡ let_at inner n rest
let-word inner n rest =
    ap (λ c. if c then let_at inner n rest else and_then (inner n (codes "let " ++ rest)) (λ a r. after_first inner a n r)) (begins-word (codes "let ") rest)

enclosed-form : (look : List ℕ → Option Term) (room n : ℕ) (text rest : List ℕ) (m : Reading Term) → text ≡ 40 ∷ rest → enclosed_at (read_term look room) n rest ≡ m → read_term look (suc room) n text ≡ m
enclosed-form look room n text rest m is e = ap (read_term look (suc room) n) is ∙ (paren look room n rest ∙ e)

pub variable-form : (look : List ℕ → Option Term) (room n v : ℕ) (text rest : List ℕ) → text ≡ 37 ∷ (decimal v ++ rest) → v < n → v < 2 ^ 64 → Stops rest → read_term look (suc room) n text ≡ Ok (Var v, rest)
variable-form look room zero v text rest is lt fits stops = absurd (omega (arith, lt))
variable-form look room (suc n) v text rest is lt fits stops =
    ap (read_term look (suc room) (suc n)) is ∙ (percent look room n (decimal v ++ rest) ∙ ap (as_term Var) (index-back (suc n) v rest lt fits stops.digit))

pub sort-form : (look : List ℕ → Option Term) (room n i : ℕ) (text rest : List ℕ) → text ≡ 84 ∷ 121 ∷ 112 ∷ 101 ∷ 32 ∷ (decimal i ++ rest) → i ≤ top → Stops rest → read_term look (suc room) n text ≡ Ok (Sort i, rest)
sort-form look room n i text rest is le stops = ap (read_term look (suc room) n) is ∙ sort-back look i room n rest le stops

application-form : (S : Signature) (look : List ℕ → Option Term) (room : ℕ) → ReadsBack S look room (read_term look room) → (f a : Term) (n : ℕ) (rest : List ℕ) → IsFit S look (suc room) n (App f a) → height (App f a) ≤ 2000 → read_term look (suc room) n (term_text S (App f a) ++ rest) ≡ Ok (App f a, rest)
application-form S look room back f a n rest fit small =
    enclosed-form look room n (term_text S (App f a) ++ rest) (term_text S h ++ (spaced S (split.one ∷ split.others) ++ 41 ∷ rest)) (Ok (App f a, rest)) (application-text S f a split rest)
    (application-back S look room (read_term look room) back h split.one split.others n rest (head-no-application f) parts.0 (All-head Fit split.one split.others all) (All-tail Fit split.one split.others all) (subst (λ t. height t ≤ 2000) (sym (application-whole f a split)) small)
    ∙ ap (λ t. Ok (t, rest)) (application-whole f a split))
  where
    Fit : Term → Type 0
    Fit t = IsFit S look room n t

    h : Term
    h = head_of f

    split : Split (spine_of f ++ a ∷ [])
    split = split-push (spine_of f) a

    inside : Fit f × Fit a
    inside = (
      record { spelled = fit.spelled.0; free = omega (arith, fit.free); low = omega (arith, fit.low) },
      record { spelled = fit.spelled.1; free = omega (arith, fit.free); low = omega (arith, fit.low) },
    )

    parts : Fit h × All Fit (spine_of f)
    parts = applied-parts Fit (fit-parts S look room n) h (spine_of f) (subst Fit (sym (applied-spine f)) inside.0)

    all : All Fit (split.one ∷ split.others)
    all = subst (All Fit) split.is (All-push Fit (spine_of f) a parts.1 inside.1)

form-back : (S : Signature) (look : List ℕ → Option Term) (room : ℕ) → ReadsBack S look room (read_term look room) → (t : Term) (n : ℕ) (rest : List ℕ) → IsFit S look (suc room) n t → height t ≤ 2000 → Stops rest → read_term look (suc room) n (term_text S t ++ rest) ≡ Ok (t, rest)
form-back S look room back (Var v) n rest fit small stops =
    variable-form look room n v (term_text S (Var v) ++ rest) rest refl (omega (arith, fit.free)) fit.spelled stops
form-back S look room back (Sort i) n rest fit small stops = sort-form look room n i (term_text S (Sort i) ++ rest) rest refl fit.spelled stops
form-back S look room back (Pi a b) n rest fit small stops =
    enclosed-form look room n (term_text S (Pi a b) ++ rest) (term_text S a ++ (codes " -> " ++ (term_text S b ++ 41 ∷ rest))) (Ok (Pi a b, rest)) (product-text S a b rest)
    (product-back S look room (read_term look room) back a b n rest
    (record { spelled = fit.spelled.0; free = omega (arith, fit.free); low = omega (arith, fit.low) })
    (record { spelled = fit.spelled.1; free = omega (arith, fit.free); low = omega (arith, fit.low) }) small)
form-back S look room back (Lam a b) n rest fit small stops =
    let bytes = term_text S a ++ (codes " . " ++ (term_text S b ++ 41 ∷ rest)) in
    enclosed-form look room n (term_text S (Lam a b) ++ rest) (92 ∷ bytes) (Ok (Lam a b, rest)) (function-text S a b rest)
    (backslash (read_term look room) n bytes
    ∙ function-back S look room (read_term look room) back a b n rest
    (record { spelled = fit.spelled.0; free = omega (arith, fit.free); low = omega (arith, fit.low) })
    (record { spelled = fit.spelled.1; free = omega (arith, fit.free); low = omega (arith, fit.low) }) small)
form-back S look room back (App f a) n rest fit small stops = application-form S look room back f a n rest fit small
form-back S look room back (Let a t b) n rest fit small stops =
    let bytes = term_text S a ++ (codes " = " ++ (term_text S t ++ (codes " . " ++ (term_text S b ++ 41 ∷ rest)))) in
    enclosed-form look room n (term_text S (Let a t b) ++ rest) (codes "let " ++ bytes) (Ok (Let a t b, rest)) (let-text S a t b rest)
    (let-word (read_term look room) n bytes
    ∙ let-back S look room (read_term look room) back a t b n rest
    (record { spelled = fit.spelled.0; free = omega (arith, fit.free); low = omega (arith, fit.low) })
    (record { spelled = fit.spelled.1; free = omega (arith, fit.free); low = omega (arith, fit.low) })
    (record { spelled = fit.spelled.2; free = omega (arith, fit.free); low = omega (arith, fit.low) }) small)
form-back S look room back (Const c) n rest fit small stops = symbol-back look (name_at S c) (Const c) room n rest fit.spelled stops
form-back S look room back (Fam c) n rest fit small stops = symbol-back look (name_at S c) (Fam c) room n rest fit.spelled stops
form-back S look room back (Con f c) n rest fit small stops = symbol-back look (constructor_name_at S f c) (Con f c) room n rest fit.spelled stops
form-back S look room back (Elim f m) n rest fit small stops = symbol-back look (eliminator_name (name_at S f) m) (Elim f m) room n rest fit.spelled stops
form-back S look room back (AxiomK i m) n rest fit small stops = symbol-back look (axiom_k_name i m) (AxiomK i m) room n rest fit.spelled stops

reads-back : (S : Signature) (look : List ℕ → Option Term) (room : ℕ) → ReadsBack S look room (read_term look room)
reads-back S look zero t n rest fit small stops = absurd (omega (arith, fit.low, positive t))
reads-back S look (suc room) t n rest fit small stops = form-back S look room (reads-back S look room) t n rest fit small stops

pub terms-are-read-back : TermsAreReadBack
terms-are-read-back S look t room n rest spelled free low small stops =
    reads-back S look room t n rest (record { spelled = spelled; free = free; low = low }) small stops
