-- Texts that agree are read alike: terms.
use Rattle.std.proofs.Common.{◌≡◌, ◌⊎◌, inl, inr, ℕ, zero, suc, ◌+◌, ◌<◌, ◌≤◌, Bool, true, false, List, [], ◌∷◌, ◌++◌, length, drop, take, refl, sym, ap, ap₂, ◌∙◌, subst, length-append, arith}
use Rattle.std.specs.Prelude.{◌==◌, nat_le, if◌then◌else◌, Ok, Err, Option, Some, None, codes, bytes_eq}
use Rattle.std.proofs.lemmas.Bool.{false≢true}
use Rattle.std.proofs.lemmas.Bool.Decides.{nat_tests}
use Rattle.std.proofs.lemmas.List.{take-append-drop}
use Rattle.theory.specs.Terms.{Term, Var, Sort, Pi, Lam, App, Let, height, top}
use Rattle.core_text.specs.Heads.{shared}
use Rattle.core_text.specs.NameRuns.{run_len}
use Rattle.core_text.specs.Reading.{Reading, wrong, first, and_then, after, begins, read_index}
use Rattle.core_text.specs.TermReading.{most, limited, closed_by, as_term, known, variable_at, sort_at, named, is_application, read_term, term_at, term_after, function_at, let_at, product_from, argument_of, after_argument, arguments_from, spine_from, after_first, enclosed_at}
use Rattle.core_text.specs.declared.halt.Halt.TheVariants.{Memory, Nested, Wrong}
use Rattle.core_text.proofs.Agreement.{Refused, by_character, by_name, Reread, Alike, StaysAt, StartsAt, refused-map, reread-within, stopped-within, alike-then}
use Rattle.core_text.proofs.Characters.{Same, SameName, first-same, same-named}
use Rattle.core_text.proofs.NamesAgree.{NameTells, goes_on, is_wrong, reread-named}
use Rattle.core_text.proofs.NumbersAgree.{led-same, alike-index, alike-as}
use Rattle.core_text.proofs.NumbersBack.{past-word, begins-word}
use Rattle.core_text.proofs.RunSteps.{run_more}
use Rattle.core_text.proofs.TermsBack.{some-char}
use Rattle.core_text.proofs.WholeRuns.{letters, let-run}
use Rattle.core_text.proofs.WordsAgree.{reread-shift, reread-first, reread-byte, alike-word, part-starts, word-starts, alike-here, alike-wrong, alike-nested, alike-if}
use Rattle.core_text.proofs.WordsRead.{word-is, first-is}

-- ---- leaves

alike-sort : Alike true sort_at
alike-sort = alike-word true (codes " ") (λ r. as_term Sort (read_index (top + 1) r)) (alike-as Sort (read_index (top + 1)) (alike-index (top + 1)))

sort-starts : (r : List ℕ) → StartsAt r (sort_at r)
sort-starts r = word-starts 32 [] (λ r. as_term Sort (read_index (top + 1) r)) r (omega arith)

variable-reread : (n : ℕ) (rest : List ℕ) → (first rest == 37) ≡ true → Reread true (variable_at n) rest (variable_at n rest)
variable-reread zero rest e = (alike-wrong true).reread rest
variable-reread (suc n) rest e =
    subst (λ x. Reread true (variable_at (suc n)) x (variable_at (suc n) x)) (sym (first-is 37 rest (omega arith) e))
    (reread-shift true (λ x. as_term Var (read_index (suc n) x)) (variable_at (suc n)) (37 ∷ []) (drop 1 rest) (as_term Var (read_index (suc n) (drop 1 rest))) (λ y. refl)
    ((alike-as Var (read_index (suc n)) (alike-index (suc n))).reread (drop 1 rest)))

module _ (look : List ℕ → Option Term) where
  -- how reading goes on after a name
  abbrev on_name : List ℕ → List ℕ → List ℕ → Reading Term
  on_name name r start = if bytes_eq name (codes "Type") then sort_at r else known (look name) start r

  name-tells : (name : List ℕ) → NameTells on_name name
  name-tells name = by (bytes_eq name (codes "Type")) refl (look name) refl
    where
      by : (b : Bool) → bytes_eq name (codes "Type") ≡ b → (o : Option Term) → look name ≡ o → NameTells on_name name
      by true e o f = goes_on sort_at alike-sort sort-starts (λ r x. ap (λ b. if b then sort_at r else known (look name) x r) e)
      by false e (Some t) f = goes_on (λ r. Ok (t, r)) (alike-here true t) (λ r. inr refl) (λ r x. ap₂ (λ b o. if b then sort_at r else known o x r) e f)
      by false e None f = is_wrong (λ r x. ap₂ (λ b o. if b then sort_at r else known o x r) e f)

  named-reread : (rest : List ℕ) → Reread true (λ x. named look (run_len x) x) rest (named look (run_len rest) rest)
  named-reread rest = reread-named on_name rest (name-tells (take (run_len rest) rest))

-- ---- the ends of forms

alike-limited : (t : Term) → Alike true (limited t)
alike-limited t = alike-if true (nat_le (height t) most) (λ r. Ok (t, r)) (λ r. Err (Nested (length r))) (alike-here true t) (alike-nested true length)

limited-starts : (t : Term) (r : List ℕ) → StartsAt r (limited t r)
limited-starts t r = inr (by (nat_le (height t) most))
  where
    by : (b : Bool) → StaysAt r (if b then Ok (t, r) else Err (Nested (length r)))
    by true = refl
    by false = tt

alike-closed : (t : Term) → Alike true (closed_by t)
alike-closed t = alike-word true (codes ")") (limited t) (alike-limited t)

closed-starts : (t : Term) (r : List ℕ) → StartsAt r (closed_by t r)
closed-starts t r = word-starts 41 [] (limited t) r (omega arith)

-- ---- the word `let`

l-run : (rest : List ℕ) → (first rest == 108) ≡ true → 0 < run_len rest
l-run rest e =
    let is = first-is 108 rest (omega arith) e in
    let more = run_more (108 ∷ drop 1 rest) 1 (some-char 108 (drop 1 rest) refl letters.0) (omega arith) in
    omega (arith, ap run_len is, more)

-- no `let ` begins with another letter
no-l : (y : List ℕ) → (first y == 108) ≡ false → begins (codes "let ") y ≡ false
no-l [] e = refl
no-l (c ∷ y) e = ap (λ t. (if t then 1 + shared y (101 ∷ 116 ∷ 32 ∷ []) else 0) == 4) e

-- equal names with equal characters after them begin alike with `let `
let-same : (z y : List ℕ) → 0 < run_len z → SameName z y → begins (codes "let ") y ≡ true → begins (codes "let ") z ≡ true
let-same z y some same e =
    let is : y ≡ codes "let " ++ drop 4 y = word-is (codes "let ") y e in
    let named = same-named z y some same in
    let three : run_len y ≡ 3 = ap run_len is ∙ let-run (drop 4 y) in
    let size : run_len z ≡ 3 = sym named.size ∙ three in
    let word : take 3 z ≡ codes "let" = ap (λ k. take k z) (sym size) ∙ (sym named.name ∙ (ap (λ k. take k y) three ∙ ap (take 3) is)) in
    let after_y : drop (run_len y) y ≡ 32 ∷ drop 4 y = ap (λ k. drop k y) three ∙ ap (drop 3) is in
    let space : Same (32 ∷ drop 4 y) (drop 3 z) =
    subst (λ r. Same r (drop 3 z)) after_y (subst (λ k. Same (drop (run_len y) y) (drop k z)) size (sym named.past)) in
    let more = drop 1 (drop 3 z) in
    let text : z ≡ codes "let " ++ more = sym (take-append-drop 3 z) ∙ ap₂ ◌++◌ word (led-same 32 (drop 4 y) (drop 3 z) space) in
    ap (begins (codes "let ")) text ∙ begins-word (codes "let ") more

shared-nothing : (y r : List ℕ) → shared y [] ≡ shared r []
shared-nothing [] [] = refl
shared-nothing [] (c ∷ r) = refl
shared-nothing (b ∷ y) [] = refl
shared-nothing (b ∷ y) (c ∷ r) = refl

-- bytes after as many as a word has do not count
shared-front : (word v y r : List ℕ) → length word ≤ length v → shared (v ++ y) word ≡ shared (v ++ r) word
shared-front [] [] y r le = shared-nothing y r
shared-front [] (c ∷ v) y r le = refl
shared-front (b ∷ word) [] y r le = absurd (omega arith)
shared-front (b ∷ word) (c ∷ v) y r le = ap (λ k. if c == b then 1 + k else 0) (shared-front word v y r (omega arith))

pub begins-front : (word v y r : List ℕ) → length word ≤ length v → begins word (v ++ y) ≡ begins word (v ++ r)
begins-front word v y r le = ap (λ k. k == length word) (shared-front word v y r le)

-- ---- compound terms

-- after `let ` in the place of a term the name is read, or refused at its first byte
abbrev LetAt : List ℕ → Reading Term → Type 0
LetAt x (Ok p) = p.1 ≡ 32 ∷ x
LetAt x (Err (Wrong left)) = left ≡ 4 + length x
LetAt x (Err (Nested left)) = Unit {0}
LetAt x (Err Memory) = Unit {0}

-- with all that follows the name, the reading ends or is refused within x, or is refused at the first byte of the name
abbrev LetThen : List ℕ → Reading Term → Type 0
LetThen x (Ok p) = length p.1 ≤ length x
LetThen x (Err (Wrong left)) = (left ≤ length x) ⊎ (left ≡ 4 + length x)
LetThen x (Err (Nested left)) = Unit {0}
LetThen x (Err Memory) = Unit {0}

module _ (inner : ℕ → List ℕ → Reading Term) (alike : (n : ℕ) → Alike true (inner n)) (let_in : (n : ℕ) (x : List ℕ) → LetAt x (inner n (108 ∷ 101 ∷ 116 ∷ 32 ∷ x))) where
  -- a term after a word, and what comes after it
  alike-part : (word : List ℕ) (n : ℕ) (h : Term → List ℕ → Reading Term) → ((b : Term) → Alike true (h b)) → ((b : Term) (r : List ℕ) → StartsAt r (h b r)) → Alike true (λ r. and_then (term_after inner word n r) h)
  alike-part word n h next starts = alike-then true (term_after inner word n) h (alike-word true word (inner n) (alike n)) next starts (λ b r no. absurd (cc))

  after-starts : (b : ℕ) (word : List ℕ) (n : ℕ) (h : Term → List ℕ → Reading Term) (r : List ℕ) → b < 128 → StartsAt r (and_then (term_after inner (b ∷ word) n r) h)
  after-starts b word n h r low = part-starts b word (λ m. and_then (after m (inner n)) h) r low (λ e. refl)

  alike-function : (n : ℕ) → Alike true (function_at inner n)
  alike-function n =
      alike-then true (inner n) (λ a r. and_then (term_after inner (codes " . ") (n + 1) r) (λ b end. closed_by (Lam a b) end)) (alike n)
      (λ a. alike-part (codes " . ") (n + 1) (λ b end. closed_by (Lam a b) end) (λ b. alike-closed (Lam a b)) (λ b r. closed-starts (Lam a b) r))
      (λ a r. after-starts 32 (46 ∷ 32 ∷ []) (n + 1) (λ b end. closed_by (Lam a b) end) r (omega arith)) (λ a r no. absurd (cc))

  alike-let : (n : ℕ) → Alike true (let_at inner n)
  alike-let n =
      alike-then true (inner n) (λ a r1. and_then (term_after inner (codes " = ") n r1) (λ t r2. and_then (term_after inner (codes " . ") (n + 1) r2) (λ b end. closed_by (Let a t b) end))) (alike n)
      (λ a. alike-part (codes " = ") n (λ t r2. and_then (term_after inner (codes " . ") (n + 1) r2) (λ b end. closed_by (Let a t b) end))
      (λ t. alike-part (codes " . ") (n + 1) (λ b end. closed_by (Let a t b) end) (λ b. alike-closed (Let a t b)) (λ b r. closed-starts (Let a t b) r))
      (λ t r. after-starts 32 (46 ∷ 32 ∷ []) (n + 1) (λ b end. closed_by (Let a t b) end) r (omega arith)))
      (λ a r. after-starts 32 (61 ∷ 32 ∷ []) n (λ t r2. and_then (term_after inner (codes " . ") (n + 1) r2) (λ b end. closed_by (Let a t b) end)) r (omega arith)) (λ a r no. absurd (cc))

  alike-product : (a : Term) (n : ℕ) → Alike true (product_from inner a n)
  alike-product a n = alike-part (codes "-> ") (n + 1) (λ b end. closed_by (Pi a b) end) (λ b. alike-closed (Pi a b)) (λ b r. closed-starts (Pi a b) r)

  alike-argument : (f : Term) (n : ℕ) → Alike true (argument_of inner f n)
  alike-argument f n = alike-then true (inner n) (λ a r. limited (App f a) r) (alike n) (λ a. alike-limited (App f a)) (λ a r. limited-starts (App f a) r) (λ a r no. absurd (cc))

  alike-arguments : (k : ℕ) (f : Term) (n : ℕ) → Alike true (arguments_from inner k f n)
  alike-arguments zero f n = alike-nested true length
  alike-arguments (suc k) f n =
      alike-then true (argument_of inner f n) (after_argument inner more) (alike-argument f n)
      (λ t. record { reread = λ rest. reread-byte true 32 (more t) (closed_by t) rest (omega arith) (λ r is. (alike-arguments k t n).reread r) (λ e. (alike-closed t).reread rest) (λ no. absurd (cc)) })
      (λ t r. starts t r (first r == 32) refl) (λ t r no. absurd (cc))
    where
      more : Term → List ℕ → Reading Term
      more t end = arguments_from inner k t n end

      starts : (t : Term) (r : List ℕ) (b : Bool) → (first r == 32) ≡ b → StartsAt r (if b then more t (drop 1 r) else closed_by t r)
      starts t r true e = let here : first r ≡ 32 = grind (arith, nat_tests) in inl (omega arith)
      starts t r false e = closed-starts t r

  alike-spine : (f : Term) (n : ℕ) → Alike true (spine_from inner f n)
  alike-spine f n = alike-if true (is_application f) (λ r. wrong r) (λ r. arguments_from inner most f n r) (alike-wrong true) (alike-arguments most f n)

  -- after the space that is after the first term
  abbrev arrow_or_spine : Term → ℕ → List ℕ → Reading Term
  arrow_or_spine a n r = if first r == 45 then product_from inner a n r else spine_from inner a n r

  alike-either : (a : Term) (n : ℕ) → Alike true (arrow_or_spine a n)
  alike-either a n = record {
    reread = λ rest. reread-first true 45 (product_from inner a n) (spine_from inner a n) rest (λ e. (alike-product a n).reread rest) (λ e. (alike-spine a n).reread rest) (λ no. absurd (cc)) (λ no. absurd (cc));
  }

  alike-past : (a : Term) (n : ℕ) → Alike true (after_first inner a n)
  alike-past a n = alike-word true (codes " ") (arrow_or_spine a n) (alike-either a n)

  -- a term and what comes after it in parentheses
  abbrev first_and_more : ℕ → List ℕ → Reading Term
  first_and_more n rest = and_then (inner n rest) (λ a r. after_first inner a n r)

  alike-first : (n : ℕ) → Alike true (first_and_more n)
  alike-first n =
      alike-then true (inner n) (λ a r. after_first inner a n r) (alike n) (λ a. alike-past a n)
      (λ a r. word-starts 32 [] (arrow_or_spine a n) r (omega arith)) (λ a r no. absurd (cc))

  -- ---- `let ` is distinguished from the names that begin so

  let-then : (n : ℕ) (x : List ℕ) → LetThen x (first_and_more n (108 ∷ 101 ∷ 116 ∷ 32 ∷ x))
  let-then n x = by (inner n (108 ∷ 101 ∷ 116 ∷ 32 ∷ x)) (let_in n x)
    where
      within : (a : Term) (m : Reading Term) → Reread true (arrow_or_spine a n) x m → LetThen x m
      within a (Ok p) t = reread-within true (arrow_or_spine a n) x p.0 p.1 t
      within a (Err (Wrong left)) t = inl (stopped-within (arrow_or_spine a n) x left t)
      within a (Err (Nested left)) t = tt
      within a (Err Memory) t = tt

      by : (m : Reading Term) → LetAt x m → LetThen x (and_then m (λ a r. after_first inner a n r))
      by (Ok p) is =
          subst (λ r. LetThen x (after_first inner p.0 n r)) (sym is)
          (subst (λ m. LetThen x (after m (arrow_or_spine p.0 n))) (sym (past-word (codes " ") x)) (within p.0 (arrow_or_spine p.0 n x) ((alike-either p.0 n).reread x)))
      by (Err (Wrong left)) is = inr is
      by (Err (Nested left)) is = tt
      by (Err Memory) is = tt

  -- where bytes that begin with `let ` are read otherwise, the four bytes are passed over
  let-passed : (n : ℕ) (v y : List ℕ) (a : Term) → begins (codes "let ") (v ++ y) ≡ true → first_and_more n (v ++ y) ≡ Ok (a, y) → 4 ≤ length v
  let-passed n v y a e is =
      let x = drop 4 (v ++ y) in
      let text : v ++ y ≡ codes "let " ++ x = word-is (codes "let ") (v ++ y) e in
      let le : length y ≤ length x = subst (LetThen x) (ap (first_and_more n) (sym text) ∙ is) (let-then n x) in
      omega (arith, ap length text, length-append v y)

  -- or no byte is, where they are refused
  let-stopped : (n : ℕ) (v y : List ℕ) → begins (codes "let ") (v ++ y) ≡ true → first_and_more n (v ++ y) ≡ wrong y → (4 ≤ length v) ⊎ (length v ≡ 0)
  let-stopped n v y e is =
      let x = drop 4 (v ++ y) in
      let text : v ++ y ≡ codes "let " ++ x = word-is (codes "let ") (v ++ y) e in
      by x (omega (arith, ap length text, length-append v y)) (subst (LetThen x) (ap (first_and_more n) (sym text) ∙ is) (let-then n x))
    where
      by : (x : List ℕ) → length v + length y ≡ 4 + length x → (length y ≤ length x) ⊎ (length y ≡ 4 + length x) → (4 ≤ length v) ⊎ (length v ≡ 0)
      by x size (inl le) = inl (omega arith)
      by x size (inr all) = inr (omega arith)

  -- by the word `let `, or a term
  abbrev let_or_first : ℕ → List ℕ → Reading Term
  let_or_first n x = if begins (codes "let ") x then let_at inner n (drop 4 x) else first_and_more n x

  other-first : (n : ℕ) (x : List ℕ) → begins (codes "let ") x ≡ false → let_or_first n x ≡ first_and_more n x
  other-first n x e = ap (λ b. if b then let_at inner n (drop 4 x) else first_and_more n x) e

  -- no text that agrees begins with `let ` where this one does not
  no-let-passed : (n : ℕ) (rest v r y : List ℕ) (a : Term) → begins (codes "let ") rest ≡ false → rest ≡ v ++ r → first_and_more n (v ++ y) ≡ Ok (a, y) → begins (codes "let ") (v ++ y) ≡ false
  no-let-passed n rest v r y a none is e = by (begins (codes "let ") (v ++ y)) refl
    where
      by : (b : Bool) → begins (codes "let ") (v ++ y) ≡ b → begins (codes "let ") (v ++ y) ≡ false
      by true f = begins-front (codes "let ") v y r (let-passed n v y a f e) ∙ (ap (begins (codes "let ")) (sym is) ∙ none)
      by false f = f

  no-let-stopped : (n : ℕ) (rest v r y : List ℕ) → begins (codes "let ") rest ≡ false → rest ≡ v ++ r → 0 < length v → first_and_more n (v ++ y) ≡ wrong y → begins (codes "let ") (v ++ y) ≡ false
  no-let-stopped n rest v r y none is some e = by (begins (codes "let ") (v ++ y)) refl
    where
      at : (4 ≤ length v) ⊎ (length v ≡ 0) → begins (codes "let ") (v ++ y) ≡ false
      at (inl four) = begins-front (codes "let ") v y r four ∙ (ap (begins (codes "let ")) (sym is) ∙ none)
      at (inr none) = absurd (omega arith)

      by : (b : Bool) → begins (codes "let ") (v ++ y) ≡ b → begins (codes "let ") (v ++ y) ≡ false
      by true f = at (let-stopped n v y f e)
      by false f = f

  -- at the first byte
  refused-start : (n : ℕ) (z : List ℕ) → begins (codes "let ") z ≡ false → Refused (first_and_more n) z → Refused (let_or_first n) z
  refused-start n z none refused = by (first z == 108) refl
    where
      other : 0 < run_len z → (y : List ℕ) → SameName z y → begins (codes "let ") y ≡ false
      other some y same = at (begins (codes "let ") y) refl
        where
          at : (b : Bool) → begins (codes "let ") y ≡ b → begins (codes "let ") y ≡ false
          at true f = absurd (false≢true (sym none ∙ let-same z y some same f))
          at false f = f

      by_run : 0 < run_len z → Refused (first_and_more n) z → (y : List ℕ) → SameName z y → first_and_more n y ≡ wrong y
      by_run some (by_character k) y same = k y (same-named z y some same).character
      by_run some (by_name more k) y same = k y same

      by : (b : Bool) → (first z == 108) ≡ b → Refused (let_or_first n) z
      by true e = let some = l-run z e in by_name some (λ y same. other-first n y (other some y same) ∙ by_run some refused y same)
      by false e = refused-map (first_and_more n) (let_or_first n) z (λ y same is. other-first n y (no-l y (ap (λ b. b == 108) (sym (first-same z y same)) ∙ e)) ∙ is) refused

  let-reread : (n : ℕ) (rest : List ℕ) → Reread true (let_or_first n) rest (let_or_first n rest)
  let-reread n rest = by (begins (codes "let ") rest) refl
    where
      stopped : (v z : List ℕ) → begins (codes "let ") rest ≡ false → rest ≡ v ++ z → Refused (λ y. first_and_more n (v ++ y)) z → Refused (λ y. let_or_first n (v ++ y)) z
      stopped [] z none is refused = refused-start n z (ap (begins (codes "let ")) (sym is) ∙ none) refused
      stopped (b ∷ v) z none is refused =
          refused-map (λ y. first_and_more n ((b ∷ v) ++ y)) (λ y. let_or_first n ((b ∷ v) ++ y)) z
          (λ y same e. other-first n ((b ∷ v) ++ y) (no-let-stopped n rest (b ∷ v) z y none is (omega arith) e) ∙ e) refused

      on : begins (codes "let ") rest ≡ false → (m : Reading Term) → Reread true (first_and_more n) rest m → Reread true (let_or_first n) rest m
      on none (Ok p) t = record {
        front = t.front;
        is = t.is;
        again = λ y same. let e = t.again y same in other-first n (t.front ++ y) (no-let-passed n rest t.front p.1 y p.0 none t.is e) ∙ e;
      }
      on none (Err (Wrong left)) t = record { front = t.front; back = t.back; is = t.is; size = t.size; refused = stopped t.front t.back none t.is t.refused }
      on none (Err (Nested left)) t = tt
      on none (Err Memory) t = tt

      by : (b : Bool) → begins (codes "let ") rest ≡ b → Reread true (let_or_first n) rest (if b then let_at inner n (drop 4 rest) else first_and_more n rest)
      by true e =
          subst (λ x. Reread true (let_or_first n) x (let_at inner n (drop 4 rest))) (sym (word-is (codes "let ") rest e))
          (reread-shift true (let_at inner n) (let_or_first n) (codes "let ") (drop 4 rest) (let_at inner n (drop 4 rest))
          (λ y. ap (λ b. if b then let_at inner n y else first_and_more n (codes "let " ++ y)) (begins-word (codes "let ") y)) ((alike-let n).reread (drop 4 rest)))
      by false e = on e (first_and_more n rest) ((alike-first n).reread rest)

  alike-enclosed : (n : ℕ) → Alike true (enclosed_at inner n)
  alike-enclosed n = record {
    reread = λ rest. reread-byte true 92 (function_at inner n) (let_or_first n) rest (omega arith) (λ r is. (alike-function n).reread r) (λ e. let-reread n rest) (λ no. absurd (cc));
  }

  alike-term : (look : List ℕ → Option Term) (n : ℕ) → Alike true (term_at inner look n)
  alike-term look n = record {
    reread = λ rest. reread-byte true 40 (enclosed_at inner n) (λ x. if first x == 37 then variable_at n x else named look (run_len x) x) rest (omega arith) (λ r is. (alike-enclosed n).reread r)
        (λ e. reread-first true 37 (variable_at n) (λ x. named look (run_len x) x) rest (λ f. variable-reread n rest f) (λ f. named-reread look rest) (λ no. absurd (cc)) (λ no. absurd (cc))) (λ no. absurd (cc));
  }

-- ---- whole terms

read-let : (look : List ℕ → Option Term) (room n : ℕ) (x : List ℕ) → LetAt x (read_term look room n (108 ∷ 101 ∷ 116 ∷ 32 ∷ x))
read-let look zero n x = tt
read-let look (suc room) n x =
    subst (λ k. LetAt x (named look k (108 ∷ 101 ∷ 116 ∷ 32 ∷ x))) (sym (let-run x)) (by (look (codes "let")))
  where
    by : (o : Option Term) → LetAt x (known o (108 ∷ 101 ∷ 116 ∷ 32 ∷ x) (32 ∷ x))
    by (Some t) = refl
    by None = omega arith

pub alike-read : (look : List ℕ → Option Term) (room n : ℕ) → Alike true (read_term look room n)
alike-read look zero n = alike-nested true length
alike-read look (suc room) n = alike-term (read_term look room) (λ m. alike-read look room m) (λ m x. read-let look room m x) look n
