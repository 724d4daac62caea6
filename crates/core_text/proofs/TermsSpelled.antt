-- A term that is spelled is read back, whatever its height, unless it is too deep or too high.
use Rattle.std.proofs.Common.{◌≡◌, ℕ, zero, suc, ◌+◌, false, List, [], ◌∷◌, ◌++◌, length, drop, refl, sym, ap, ap₂, ◌∙◌, subst, append_assoc, arith}
use Rattle.std.specs.Prelude.{◌==◌, if◌then◌else◌, Option, codes, All}
use Rattle.std.proofs.lemmas.List.Elements.{All-head, All-tail, All-push}
use Rattle.theory.specs.Terms.{Term, Var, Sort, Pi, Lam, App, Let, Const, Fam, Con, Elim, AxiomK}
use Rattle.theory.specs.Telescopes.{applied}
use Rattle.theory.specs.Spines.{head_of, spine_of}
use Rattle.theory.specs.Signatures.{Signature}
use Rattle.theory.proofs.Bounds.{applied-parts}
use Rattle.theory.proofs.Spines.{applied-spine}
use Rattle.core_text.specs.EntryParts.{IsTermWith}
use Rattle.core_text.specs.ReadBack.{Stops, AreSpelled}
use Rattle.core_text.specs.Reading.{Reading, wrong, first, and_then, after}
use Rattle.core_text.specs.SymbolNames.{name_at, constructor_name_at, eliminator_name, axiom_k_name}
use Rattle.core_text.specs.TermReading.{most, limited, closed_by, is_application, read_term, term_after, function_at, let_at, product_from, after_argument, arguments_from, spine_from, after_first, enclosed_at}
use Rattle.core_text.specs.TermText.{term_text, spaced}
use Rattle.core_text.proofs.Depths.{OrNested, is_read, is_nested, or-same, or-then, or-other, or-limited, or-closed}
use Rattle.core_text.proofs.NumbersBack.{past-word}
use Rattle.core_text.proofs.TermsBack.{stops-space, stops-close, text-begins, symbol-back, variable-form, sort-form, paren, backslash, let-word, head-no-application, Split, split-push, application-whole, application-text, product-text, function-text, let-text}

-- ---- compound terms, where `inner` reads what is inside unless it is too deep or too high

-- a term over n variables that is spelled
abbrev pub IsSpelledTerm : Signature → (List ℕ → Option Term) → ℕ → Term → Type 0
IsSpelledTerm S look n t = IsTermWith (AreSpelled S look) n t

-- a reading of such terms, each before what stops names and numbers
abbrev pub ReadsSpelled : Signature → (List ℕ → Option Term) → (ℕ → List ℕ → Reading Term) → Type 0
ReadsSpelled S look inner =
    (t : Term) (n : ℕ) (rest : List ℕ) → IsSpelledTerm S look n t → Stops rest → OrNested (Unit {0}) (inner n (term_text S t ++ rest)) t rest

module _ (S : Signature) (look : List ℕ → Option Term) (inner : ℕ → List ℕ → Reading Term) (back : ReadsSpelled S look inner) where
  -- a term after a word
  after-spelled : (word : List ℕ) (t : Term) (n : ℕ) (rest : List ℕ) → IsSpelledTerm S look n t → Stops rest → OrNested (Unit {0}) (term_after inner word n (word ++ (term_text S t ++ rest))) t rest
  after-spelled word t n rest fit stops =
      or-same (term_after inner word n (word ++ (term_text S t ++ rest))) (inner n (term_text S t ++ rest)) (ap (λ m. after m (inner n)) (past-word word (term_text S t ++ rest))) (back t n rest fit stops)

  function-spelled : (a b : Term) (n : ℕ) (rest : List ℕ) → IsSpelledTerm S look n a → IsSpelledTerm S look (n + 1) b → OrNested (Unit {0}) (function_at inner n (term_text S a ++ (codes " . " ++ (term_text S b ++ 41 ∷ rest)))) (Lam a b) rest
  function-spelled a b n rest fa fb =
      or-then (λ a r. and_then (term_after inner (codes " . ") (n + 1) r) (λ b end. closed_by (Lam a b) end))
      (back a n (codes " . " ++ (term_text S b ++ 41 ∷ rest)) fa (stops-space _))
      (or-then (λ b end. closed_by (Lam a b) end) (after-spelled (codes " . ") b (n + 1) (41 ∷ rest) fb (stops-close rest)) (or-closed (Lam a b) rest))

  let-spelled : (a t b : Term) (n : ℕ) (rest : List ℕ) → IsSpelledTerm S look n a → IsSpelledTerm S look n t → IsSpelledTerm S look (n + 1) b → OrNested (Unit {0}) (let_at inner n (term_text S a ++ (codes " = " ++ (term_text S t ++ (codes " . " ++ (term_text S b ++ 41 ∷ rest)))))) (Let a t b) rest
  let-spelled a t b n rest fa ft fb =
      or-then (λ a r1. and_then (term_after inner (codes " = ") n r1) (λ t r2. and_then (term_after inner (codes " . ") (n + 1) r2) (λ b end. closed_by (Let a t b) end)))
      (back a n (codes " = " ++ (term_text S t ++ (codes " . " ++ (term_text S b ++ 41 ∷ rest)))) fa (stops-space _))
      (or-then (λ t r2. and_then (term_after inner (codes " . ") (n + 1) r2) (λ b end. closed_by (Let a t b) end))
      (after-spelled (codes " = ") t n (codes " . " ++ (term_text S b ++ 41 ∷ rest)) ft (stops-space _))
      (or-then (λ b end. closed_by (Let a t b) end) (after-spelled (codes " . ") b (n + 1) (41 ∷ rest) fb (stops-close rest)) (or-closed (Let a t b) rest)))

  -- after the parenthesis of a product or an application
  open-spelled : (a : Term) (n : ℕ) (rest : List ℕ) (t : Term) (end : List ℕ) → IsSpelledTerm S look n a → OrNested (Unit {0}) (after_first inner a n (32 ∷ rest)) t end → OrNested (Unit {0}) (enclosed_at inner n (term_text S a ++ 32 ∷ rest)) t end
  open-spelled a n rest t end fa h =
      let starts = text-begins S look a fa.symbols in
      let bytes = term_text S a ++ 32 ∷ rest in
      or-same (enclosed_at inner n bytes) (and_then (inner n bytes) (λ a r. after_first inner a n r))
      (ap₂ (λ c d. if c then function_at inner n (drop 1 bytes) else (if d then let_at inner n (drop 4 bytes) else and_then (inner n bytes) (λ a r. after_first inner a n r))) (starts.no_function (32 ∷ rest)) (starts.no_let (32 ∷ rest) (stops-space rest)))
      (or-then (λ a r. after_first inner a n r) (back a n (32 ∷ rest) fa (stops-space rest)) h)

  product-spelled : (a b : Term) (n : ℕ) (rest : List ℕ) → IsSpelledTerm S look n a → IsSpelledTerm S look (n + 1) b → OrNested (Unit {0}) (enclosed_at inner n (term_text S a ++ (codes " -> " ++ (term_text S b ++ 41 ∷ rest)))) (Pi a b) rest
  product-spelled a b n rest fa fb =
      let more = codes "-> " ++ (term_text S b ++ 41 ∷ rest) in
      open-spelled a n more (Pi a b) rest fa
      (or-same (after_first inner a n (32 ∷ more)) (product_from inner a n more) (ap (λ m. after m (λ r. if first r == 45 then product_from inner a n r else spine_from inner a n r)) (past-word (codes " ") more))
      (or-then (λ b end. closed_by (Pi a b) end) (after-spelled (codes "-> ") b (n + 1) (41 ∷ rest) fb (stops-close rest)) (or-closed (Pi a b) rest)))

  arguments-spelled : (f a : Term) (spine : List Term) (k n : ℕ) (rest : List ℕ) → IsSpelledTerm S look n a → All (IsSpelledTerm S look n) spine → OrNested (Unit {0}) (arguments_from inner k f n (term_text S a ++ (spaced S spine ++ 41 ∷ rest))) (applied (App f a) spine) rest
  arguments-spelled f a spine zero n rest fit all = is_nested (length (term_text S a ++ (spaced S spine ++ 41 ∷ rest))) tt refl
  arguments-spelled f a [] (suc k) n rest fit all =
      or-then (after_argument inner (λ t end. arguments_from inner k t n end))
      (or-then (λ a r. limited (App f a) r) (back a n (41 ∷ rest) fit (stops-close rest)) (or-limited (App f a) (41 ∷ rest)))
      (or-closed (App f a) rest)
  arguments-spelled f a (c ∷ spine) (suc k) n rest fit all =
      let tail = term_text S c ++ (spaced S spine ++ 41 ∷ rest) in
      or-same (arguments_from inner (suc k) f n (term_text S a ++ (spaced S (c ∷ spine) ++ 41 ∷ rest))) (arguments_from inner (suc k) f n (term_text S a ++ 32 ∷ tail))
      (ap (λ r. arguments_from inner (suc k) f n (term_text S a ++ 32 ∷ r)) (append_assoc (term_text S c) (spaced S spine) (41 ∷ rest)))
      (or-then (after_argument inner (λ t end. arguments_from inner k t n end))
      (or-then (λ a r. limited (App f a) r) (back a n (32 ∷ tail) fit (stops-space tail)) (or-limited (App f a) (32 ∷ tail)))
      (arguments-spelled (App f a) c spine k n rest (All-head (IsSpelledTerm S look n) c spine all) (All-tail (IsSpelledTerm S look n) c spine all)))

  application-spelled : (h a : Term) (spine : List Term) (n : ℕ) (rest : List ℕ) → is_application h ≡ false → IsSpelledTerm S look n h → IsSpelledTerm S look n a → All (IsSpelledTerm S look n) spine → OrNested (Unit {0}) (enclosed_at inner n (term_text S h ++ (spaced S (a ∷ spine) ++ 41 ∷ rest))) (applied (App h a) spine) rest
  application-spelled h a spine n rest head fh fa all =
      let tail = term_text S a ++ (spaced S spine ++ 41 ∷ rest) in
      let starts = text-begins S look a fa.symbols in
      or-same (enclosed_at inner n (term_text S h ++ (spaced S (a ∷ spine) ++ 41 ∷ rest))) (enclosed_at inner n (term_text S h ++ 32 ∷ tail))
      (ap (λ r. enclosed_at inner n (term_text S h ++ 32 ∷ r)) (append_assoc (term_text S a) (spaced S spine) (41 ∷ rest)))
      (open-spelled h n tail (applied (App h a) spine) rest fh
      (or-same (after_first inner h n (32 ∷ tail)) (arguments_from inner most h n tail)
      (ap (λ m. after m (λ r. if first r == 45 then product_from inner h n r else spine_from inner h n r)) (past-word (codes " ") tail)
      ∙ (ap (λ c. if c then product_from inner h n tail else spine_from inner h n tail) (starts.no_arrow (spaced S spine ++ 41 ∷ rest))
      ∙ ap (λ c. if c then wrong tail else arguments_from inner most h n tail) head))
      (arguments-spelled h a spine most n rest fa all)))

-- ---- one form, by its first bytes

enclosed-spelled : (look : List ℕ → Option Term) (room n : ℕ) (text rest : List ℕ) (t : Term) (end : List ℕ) → text ≡ 40 ∷ rest → OrNested (Unit {0}) (enclosed_at (read_term look room) n rest) t end → OrNested (Unit {0}) (read_term look (suc room) n text) t end
enclosed-spelled look room n text rest t end is h =
    or-same (read_term look (suc room) n text) (enclosed_at (read_term look room) n rest) (ap (read_term look (suc room) n) is ∙ paren look room n rest) h

parts-spelled : (S : Signature) (look : List ℕ → Option Term) (n : ℕ) (f a : Term) → IsSpelledTerm S look n (App f a) → IsSpelledTerm S look n f × IsSpelledTerm S look n a
parts-spelled S look n f a fit = (
  record { symbols = fit.symbols.0; free = omega (arith, fit.free) },
  record { symbols = fit.symbols.1; free = omega (arith, fit.free) },
)

application-form : (S : Signature) (look : List ℕ → Option Term) (room : ℕ) → ReadsSpelled S look (read_term look room) → (f a : Term) (n : ℕ) (rest : List ℕ) → IsSpelledTerm S look n (App f a) → OrNested (Unit {0}) (read_term look (suc room) n (term_text S (App f a) ++ rest)) (App f a) rest
application-form S look room back f a n rest fit =
    enclosed-spelled look room n (term_text S (App f a) ++ rest) (term_text S h ++ (spaced S (split.one ∷ split.others) ++ 41 ∷ rest)) (App f a) rest (application-text S f a split rest)
    (or-other (enclosed_at (read_term look room) n (term_text S h ++ (spaced S (split.one ∷ split.others) ++ 41 ∷ rest))) (application-whole f a split)
    (application-spelled S look (read_term look room) back h split.one split.others n rest (head-no-application f) parts.0 (All-head Fit split.one split.others all) (All-tail Fit split.one split.others all)))
  where
    Fit : Term → Type 0
    Fit t = IsSpelledTerm S look n t

    h : Term
    h = head_of f

    split : Split (spine_of f ++ a ∷ [])
    split = split-push (spine_of f) a

    inside : Fit f × Fit a
    inside = parts-spelled S look n f a fit

    parts : Fit h × All Fit (spine_of f)
    parts = applied-parts Fit (parts-spelled S look n) h (spine_of f) (subst Fit (sym (applied-spine f)) inside.0)

    all : All Fit (split.one ∷ split.others)
    all = subst (All Fit) split.is (All-push Fit (spine_of f) a parts.1 inside.1)

form-spelled : (S : Signature) (look : List ℕ → Option Term) (room : ℕ) → ReadsSpelled S look (read_term look room) → (t : Term) (n : ℕ) (rest : List ℕ) → IsSpelledTerm S look n t → Stops rest → OrNested (Unit {0}) (read_term look (suc room) n (term_text S t ++ rest)) t rest
form-spelled S look room back (Var v) n rest fit stops =
    is_read (variable-form look room n v (term_text S (Var v) ++ rest) rest refl (omega (arith, fit.free)) fit.symbols stops)
form-spelled S look room back (Sort i) n rest fit stops =
    is_read (sort-form look room n i (term_text S (Sort i) ++ rest) rest refl fit.symbols stops)
form-spelled S look room back (Pi a b) n rest fit stops =
    enclosed-spelled look room n (term_text S (Pi a b) ++ rest) (term_text S a ++ (codes " -> " ++ (term_text S b ++ 41 ∷ rest))) (Pi a b) rest (product-text S a b rest)
    (product-spelled S look (read_term look room) back a b n rest
    (record { symbols = fit.symbols.0; free = omega (arith, fit.free) }) (record { symbols = fit.symbols.1; free = omega (arith, fit.free) }))
form-spelled S look room back (Lam a b) n rest fit stops =
    let bytes = term_text S a ++ (codes " . " ++ (term_text S b ++ 41 ∷ rest)) in
    enclosed-spelled look room n (term_text S (Lam a b) ++ rest) (92 ∷ bytes) (Lam a b) rest (function-text S a b rest)
    (or-same (enclosed_at (read_term look room) n (92 ∷ bytes)) (function_at (read_term look room) n bytes) (backslash (read_term look room) n bytes)
    (function-spelled S look (read_term look room) back a b n rest
    (record { symbols = fit.symbols.0; free = omega (arith, fit.free) }) (record { symbols = fit.symbols.1; free = omega (arith, fit.free) })))
form-spelled S look room back (App f a) n rest fit stops = application-form S look room back f a n rest fit
form-spelled S look room back (Let a t b) n rest fit stops =
    let bytes = term_text S a ++ (codes " = " ++ (term_text S t ++ (codes " . " ++ (term_text S b ++ 41 ∷ rest)))) in
    enclosed-spelled look room n (term_text S (Let a t b) ++ rest) (codes "let " ++ bytes) (Let a t b) rest (let-text S a t b rest)
    (or-same (enclosed_at (read_term look room) n (codes "let " ++ bytes)) (let_at (read_term look room) n bytes) (let-word (read_term look room) n bytes)
    (let-spelled S look (read_term look room) back a t b n rest
    (record { symbols = fit.symbols.0; free = omega (arith, fit.free) })
    (record { symbols = fit.symbols.1; free = omega (arith, fit.free) })
    (record { symbols = fit.symbols.2; free = omega (arith, fit.free) })))
form-spelled S look room back (Const c) n rest fit stops = is_read (symbol-back look (name_at S c) (Const c) room n rest fit.symbols stops)
form-spelled S look room back (Fam c) n rest fit stops = is_read (symbol-back look (name_at S c) (Fam c) room n rest fit.symbols stops)
form-spelled S look room back (Con f c) n rest fit stops = is_read (symbol-back look (constructor_name_at S f c) (Con f c) room n rest fit.symbols stops)
form-spelled S look room back (Elim f m) n rest fit stops = is_read (symbol-back look (eliminator_name (name_at S f) m) (Elim f m) room n rest fit.symbols stops)
form-spelled S look room back (AxiomK i m) n rest fit stops = is_read (symbol-back look (axiom_k_name i m) (AxiomK i m) room n rest fit.symbols stops)

-- whatever room there is for terms inside
pub terms-spelled : (S : Signature) (look : List ℕ → Option Term) (room : ℕ) → ReadsSpelled S look (read_term look room)
terms-spelled S look zero t n rest fit stops = is_nested (length (term_text S t ++ rest)) tt refl
terms-spelled S look (suc room) t n rest fit stops = form-spelled S look room (terms-spelled S look room) t n rest fit stops
