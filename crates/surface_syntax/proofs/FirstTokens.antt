-- The longest spelling of a token is at the front of a text.
use Rattle.std.proofs.Common.{◌≡◌, ℕ, ◌+◌, ◌<◌, ◌≤◌, ◌==◌, suc, Bool, true, false, ◌&&◌, ◌||◌, if◌then◌else◌, ◌⊎◌, inl, inr, List, [], ◌∷◌, ◌++◌, length, take, drop, nat_lt, refl, sym, ap, subst, ◌∙◌, arith, append_assoc, length-append}
use Rattle.std.specs.List.{prefix_len}
use Rattle.std.proofs.lemmas.Bool.{lt-ltb, cases_lt}
use Rattle.std.proofs.lemmas.Bool.Decides.{nat_tests}
use Rattle.std.proofs.Math.Seq.{take-append_seam, drop-append_seam}
use Rattle.unicode_ident.specs.Ident.{is_xid_start}
use Rattle.surface_syntax.specs.Spelling.{is_digit, is_continuing, is_mark, is_keyword, name_len, number_len, tail_len, mark_len, comment_len}
use Rattle.surface_syntax.specs.Tokens.{IsName, letter, underscore, IsNumber, naught, digits, Spells, keyword, plain, dotted, number, mark, arrow}
use Rattle.surface_syntax.specs.declared.token.TokenKind.{TokenKind}
use Rattle.surface_syntax.proofs.Prefixes as pre

-- how many characters the longest spelling has with which the text begins
abbrev pub reach : List ℕ → ℕ
reach cs =
    if nat_lt 0 (name_len cs) then (if is_keyword (take (name_len cs) cs) then name_len cs else name_len cs + tail_len (drop (name_len cs) cs))
    else (if nat_lt 0 (number_len cs) then number_len cs else (if nat_lt 0 (comment_len cs) then 0 else mark_len cs))

-- a name at the front
pub if_true : {A : Type 0} {b : Bool} (x y : A) → b ≡ true → (if b then x else y) ≡ x
if_true {A} x y e = ap (λ (c : Bool). if c then x else y) e

pub if_false : {A : Type 0} {b : Bool} (x y : A) → b ≡ false → (if b then x else y) ≡ y
if_false {A} x y e = ap (λ (c : Bool). if c then x else y) e

or_second : (a b : Bool) → b ≡ true → (a || b) ≡ true
or_second true b e = refl
or_second false b e = e

pub name_front : {text : List ℕ} (rest : List ℕ) → IsName text → name_len (text ++ rest) ≡ length text + prefix_len is_continuing rest
name_front rest (letter {c = c} {cs = cs} s h) =
    let q = pre.prefix_all is_continuing cs rest h in
    if_true _ _ (ap (λ (b : Bool). b || ((c == 95) && nat_lt 0 (prefix_len is_continuing (cs ++ rest)))) s) ∙ omega arith
name_front rest (underscore {c = c} {cs = cs} h) =
    let q = pre.prefix_all is_continuing (c ∷ cs) rest h in
    if_true _ _ (or_second (is_xid_start 95) (nat_lt 0 (prefix_len is_continuing ((c ∷ cs) ++ rest))) (lt-ltb 0 (prefix_len is_continuing ((c ∷ cs) ++ rest)) (omega arith))) ∙ omega arith

pub name_some : {text : List ℕ} → IsName text → 0 < length text
name_some (letter s h) = omega arith
name_some (underscore h) = omega arith

pub number_some : {ds : List ℕ} → IsNumber ds → 0 < length ds
number_some naught = omega arith
number_some (digits n h) = omega arith

pub number_front : {ds : List ℕ} (rest : List ℕ) → IsNumber ds → length ds ≤ number_len (ds ++ rest)
number_front rest naught = omega arith
number_front rest (digits {c = c} {cs = cs} n h) =
    let q = pre.prefix_all is_digit (c ∷ cs) rest h in
    let e = if_false 1 (prefix_len is_digit ((c ∷ cs) ++ rest)) n in
    omega arith

-- no name is at the front where the first character begins none
pub no_name : (c : ℕ) (cs : List ℕ) → is_xid_start c ≡ false → (c == 95) ≡ false → name_len (c ∷ cs) ≡ 0
no_name c cs s e = if_false _ _ (ap (λ (b : Bool). b || ((c == 95) && nat_lt 0 (prefix_len is_continuing cs))) s ∙ ap (λ (b : Bool). b && nat_lt 0 (prefix_len is_continuing cs)) e)

pub number_no_name : {ds : List ℕ} (rest : List ℕ) → IsNumber ds → name_len (ds ++ rest) ≡ 0
number_no_name rest naught = no_name 48 rest pre.naught_starts refl
number_no_name rest (digits {c = c} {cs = cs} n h) =
    let d = pre.all_head is_digit c cs h in
    no_name c (cs ++ rest) (pre.digit_starts c d) (pre.digit_bar c d)

-- the cases of how far a spelling reaches
pub reach_name : (cs : List ℕ) → 0 < name_len cs → name_len cs ≤ reach cs
reach_name cs h =
    let e = if_true (if is_keyword (take (name_len cs) cs) then name_len cs else name_len cs + tail_len (drop (name_len cs) cs)) (if nat_lt 0 (number_len cs) then number_len cs else (if nat_lt 0 (comment_len cs) then 0 else mark_len cs)) (lt-ltb 0 (name_len cs) h) in
    subst (λ (n : ℕ). name_len cs ≤ n) (sym e) (by (is_keyword (take (name_len cs) cs)))
  where
    by : (b : Bool) → name_len cs ≤ (if b then name_len cs else name_len cs + tail_len (drop (name_len cs) cs))
    by true = omega arith
    by false = omega arith

pub reach_dotted : (cs : List ℕ) → 0 < name_len cs → is_keyword (take (name_len cs) cs) ≡ false → reach cs ≡ name_len cs + tail_len (drop (name_len cs) cs)
reach_dotted cs h k = if_true _ _ (lt-ltb 0 (name_len cs) h) ∙ if_false _ _ k

pub zero_lt : (n : ℕ) → n ≡ 0 → nat_lt 0 n ≡ false
zero_lt n e = grind (arith, nat_tests)

pub reach_other : (cs : List ℕ) → name_len cs ≡ 0 → reach cs ≡ (if nat_lt 0 (number_len cs) then number_len cs else (if nat_lt 0 (comment_len cs) then 0 else mark_len cs))
reach_other cs e = if_false _ _ (zero_lt (name_len cs) e)

-- a spelling at the front is no longer than the longest
tail_front : {ds : List ℕ} (rest : List ℕ) → IsNumber ds → suc (length ds) ≤ tail_len (46 ∷ (ds ++ rest))
tail_front {ds} rest n =
    let f = number_front rest n in
    let s = number_some n in
    let e = if_true (1 + number_len (ds ++ rest)) (0) (lt-ltb 0 (number_len (ds ++ rest)) (omega arith)) in
    omega arith

dotted_front : {cs ds : List ℕ} (rest : List ℕ) → IsName cs → is_keyword cs ≡ false → IsNumber ds → length (cs ++ 46 ∷ ds) ≤ reach ((cs ++ 46 ∷ ds) ++ rest)
dotted_front {cs} {ds} rest name k n =
    let whole = append_assoc cs (46 ∷ ds) rest in
    let size : name_len (cs ++ 46 ∷ (ds ++ rest)) ≡ length cs = name_front (46 ∷ (ds ++ rest)) name ∙ (let e = pre.prefix_stop is_continuing 46 (ds ++ rest) pre.point_stops in omega arith) in
    subst (λ (l : List ℕ). length (cs ++ 46 ∷ ds) ≤ reach l) (sym whole) (sized (cs ++ 46 ∷ (ds ++ rest)) refl size)
  where
    sized : (l : List ℕ) → cs ++ 46 ∷ (ds ++ rest) ≡ l → name_len (cs ++ 46 ∷ (ds ++ rest)) ≡ length cs → length (cs ++ 46 ∷ ds) ≤ reach (cs ++ 46 ∷ (ds ++ rest))
    sized l p size =
        let l' = cs ++ 46 ∷ (ds ++ rest) in
        let front : take (name_len l') l' ≡ cs = ap (λ (n : ℕ). take n l') size ∙ take-append_seam cs (46 ∷ (ds ++ rest)) in
        let back : drop (name_len l') l' ≡ 46 ∷ (ds ++ rest) = ap (λ (n : ℕ). drop n l') size ∙ drop-append_seam cs (46 ∷ (ds ++ rest)) in
        let s = name_some name in
        let r = reach_dotted l' (omega arith) (ap is_keyword front ∙ k) in
        let t = ap tail_len back in
        let f = tail_front rest n in
        let a = length-append cs (46 ∷ ds) in
        omega arith

pub mark_front : (c : ℕ) (rest : List ℕ) → is_mark c ≡ true → mark_len (c ∷ rest) ≡ 1
mark_front c [] m = if_true _ _ m
mark_front c (d ∷ rest) m = if_true _ _ m

pub no_comment : (c : ℕ) (rest : List ℕ) → (c == 45) ≡ false → comment_len (c ∷ rest) ≡ 0
no_comment c [] e = refl
no_comment c (d ∷ rest) e = if_false _ _ (ap (λ (b : Bool). b && (d == 45)) e)

reach_mark : (c : ℕ) (rest : List ℕ) → is_mark c ≡ true → 1 ≤ reach (c ∷ rest)
reach_mark c rest m = by_name (cases_lt 0 (name_len (c ∷ rest)))
  where
    by_number : name_len (c ∷ rest) ≡ 0 → (0 < number_len (c ∷ rest)) ⊎ (number_len (c ∷ rest) ≤ 0) → 1 ≤ reach (c ∷ rest)
    by_number z (inl h) = let r = reach_other (c ∷ rest) z ∙ if_true _ _ (lt-ltb 0 (number_len (c ∷ rest)) h) in omega arith
    by_number z (inr h) =
        let n : number_len (c ∷ rest) ≡ 0 = omega arith in
        let r = reach_other (c ∷ rest) z ∙ if_false _ _ (zero_lt (number_len (c ∷ rest)) n) ∙ if_false _ _ (zero_lt (comment_len (c ∷ rest)) (no_comment c rest (pre.mark_dash c m))) in
        let f = mark_front c rest m in
        omega arith

    by_name : (0 < name_len (c ∷ rest)) ⊎ (name_len (c ∷ rest) ≤ 0) → 1 ≤ reach (c ∷ rest)
    by_name (inl h) = let r = reach_name (c ∷ rest) h in omega arith
    by_name (inr h) = by_number (omega arith) (cases_lt 0 (number_len (c ∷ rest)))

pub spelled_front : {of : TokenKind} {text : List ℕ} {fits : Bool} (rest : List ℕ) → Spells of text fits → length text ≤ reach (text ++ rest)
spelled_front {text = text} rest (keyword name k) = let f = name_front rest name in let s = name_some name in let r = reach_name (text ++ rest) (omega arith) in omega arith
spelled_front {text = text} rest (plain name k) = let f = name_front rest name in let s = name_some name in let r = reach_name (text ++ rest) (omega arith) in omega arith
spelled_front rest (dotted name k n) = dotted_front rest name k n
spelled_front {text = text} rest (number n) =
    let z = number_no_name rest n in
    let f = number_front rest n in
    let s = number_some n in
    let r = reach_other (text ++ rest) z ∙ if_true _ _ (lt-ltb 0 (number_len (text ++ rest)) (omega arith)) in
    omega arith
spelled_front rest (mark {c = c} m) = reach_mark c rest m
spelled_front rest arrow =
    let z = no_name 45 (62 ∷ rest) pre.dash_starts refl in
    let r = reach_other (45 ∷ 62 ∷ rest) z in
    omega arith
