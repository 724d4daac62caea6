-- Reading a term step by step.
use Rattle.std.proofs.Common.{◌≡◌, ℕ, zero, suc, ◌-◌, ◌<◌, Bool, true, false, List, drop, length, refl, sym, ap, ◌∙◌, arith}
use Rattle.std.proofs.lemmas.Bool.{false≢true}
use Rattle.std.specs.Prelude.{◌==◌, if◌then◌else◌, Ok, Err, Option, codes}
use Rattle.theory.specs.Terms.{Term}
use Rattle.core_text.specs.NameRuns.{run_len}
use Rattle.core_text.specs.Reading.{Reading, wrong, first, and_then, after, past}
use Rattle.core_text.specs.declared.halt.Halt.TheVariants.{Nested, Wrong}
use Rattle.core_text.specs.TermReading.{most, is_application, read_term, enclosed_at, named, closed_by, argument_of, arguments_from, after_argument, product_from, spine_from, after_first}

less-one : (k : ℕ) → suc k - 1 ≡ k
less-one k = omega arith

if-true : {A : Type 0} (b : Bool) (x y : A) → b ≡ true → (if b then x else y) ≡ x
if-true true x y is = refl
if-true false x y is = absurd (false≢true is)

pub term_open : (look : List ℕ → Option Term) (room n : ℕ) (rest : List ℕ) → 0 < room → (first rest == 40) ≡ true → read_term look room n rest ≡ enclosed_at (read_term look (room - 1)) n (drop 1 rest)
term_open look zero n rest some is = absurd (omega arith)
term_open look (suc k) n rest some is =
    if-true (first rest == 40) (enclosed_at (read_term look k) n (drop 1 rest)) _ is
    ∙ ap (λ m. enclosed_at (read_term look m) n (drop 1 rest)) (sym (less-one k))

pub term_named : (look : List ℕ → Option Term) (room n : ℕ) (rest : List ℕ) → 0 < room → (first rest == 40) ≡ false → (first rest == 37) ≡ false → read_term look room n rest ≡ named look (run_len rest) rest
term_named look zero n rest some paren percent = absurd (omega arith)
term_named look (suc k) n rest some paren percent = rw (paren, percent) refl

-- one argument, and what is after it
pub arguments_step : (inner : ℕ → List ℕ → Reading Term) (k : ℕ) (f : Term) (n : ℕ) (rest : List ℕ) → 0 < k → and_then (argument_of inner f n rest) (after_argument inner (λ t end. arguments_from inner (k - 1) t n end)) ≡ arguments_from inner k f n rest
arguments_step inner zero f n rest some = absurd (omega arith)
arguments_step inner (suc k) f n rest some =
    ap (λ m. and_then (argument_of inner f n rest) (after_argument inner (λ t end. arguments_from inner m t n end))) (less-one k)

pub arguments_more : (inner : ℕ → List ℕ → Reading Term) (k : ℕ) (f : Term) (n : ℕ) (rest : List ℕ) (t : Term) (r : List ℕ) → 0 < k → Ok (t, r) ≡ argument_of inner f n rest → (first r == 32) ≡ true → arguments_from inner (k - 1) t n (drop 1 r) ≡ arguments_from inner k f n rest
arguments_more inner k f n rest t r some is space =
    sym (ap (λ b. if b then arguments_from inner (k - 1) t n (drop 1 r) else closed_by t r) space)
    ∙ ap (λ m. and_then m (after_argument inner (λ u end. arguments_from inner (k - 1) u n end))) is
    ∙ arguments_step inner k f n rest some

pub arguments_end : (inner : ℕ → List ℕ → Reading Term) (k : ℕ) (f : Term) (n : ℕ) (rest : List ℕ) (t : Term) (r : List ℕ) → 0 < k → Ok (t, r) ≡ argument_of inner f n rest → (first r == 32) ≡ false → closed_by t r ≡ arguments_from inner k f n rest
arguments_end inner k f n rest t r some is other =
    sym (ap (λ b. if b then arguments_from inner (k - 1) t n (drop 1 r) else closed_by t r) other)
    ∙ ap (λ m. and_then m (after_argument inner (λ u end. arguments_from inner (k - 1) u n end))) is
    ∙ arguments_step inner k f n rest some

pub arguments_none : (inner : ℕ → List ℕ → Reading Term) (k : ℕ) (f : Term) (n : ℕ) (rest : List ℕ) → k ≡ 0 → Err (Nested (length rest)) ≡ arguments_from inner k f n rest
arguments_none inner zero f n rest none = refl
arguments_none inner (suc k) f n rest none = absurd (omega (arith, none))

-- the reading after the space that follows the first term in parentheses
after_space : (inner : ℕ → List ℕ → Reading Term) (a : Term) (n : ℕ) (rest r : List ℕ) → Ok r ≡ past (codes " ") rest → (if first r == 45 then product_from inner a n r else spine_from inner a n r) ≡ after_first inner a n rest
after_space inner a n rest r is =
    ap (λ m. after m (λ r. if first r == 45 then product_from inner a n r else spine_from inner a n r)) is

pub after_arrow : (inner : ℕ → List ℕ → Reading Term) (a : Term) (n : ℕ) (rest r : List ℕ) → Ok r ≡ past (codes " ") rest → (first r == 45) ≡ true → product_from inner a n r ≡ after_first inner a n rest
after_arrow inner a n rest r is arrow =
    sym (ap (λ b. if b then product_from inner a n r else spine_from inner a n r) arrow) ∙ after_space inner a n rest r is

after_spine : (inner : ℕ → List ℕ → Reading Term) (a : Term) (n : ℕ) (rest r : List ℕ) → Ok r ≡ past (codes " ") rest → (first r == 45) ≡ false → spine_from inner a n r ≡ after_first inner a n rest
after_spine inner a n rest r is other =
    sym (ap (λ b. if b then product_from inner a n r else spine_from inner a n r) other) ∙ after_space inner a n rest r is

pub after_application : (inner : ℕ → List ℕ → Reading Term) (a : Term) (n : ℕ) (rest r : List ℕ) → Ok r ≡ past (codes " ") rest → (first r == 45) ≡ false → is_application a ≡ true → Err (Wrong (length r)) ≡ after_first inner a n rest
after_application inner a n rest r is other app =
    sym (ap (λ b. if b then wrong r else arguments_from inner most a n r) app) ∙ after_spine inner a n rest r is other

pub after_head : (inner : ℕ → List ℕ → Reading Term) (a : Term) (n : ℕ) (rest r : List ℕ) → Ok r ≡ past (codes " ") rest → (first r == 45) ≡ false → is_application a ≡ false → arguments_from inner most a n r ≡ after_first inner a n rest
after_head inner a n rest r is other head =
    sym (ap (λ b. if b then wrong r else arguments_from inner most a n r) head) ∙ after_spine inner a n rest r is other
