-- The front of a text, by the spellings of tokens: a token, a blank or a comment, or neither.
use Rattle.std.proofs.Common.{◌≡◌, ℕ, ◌+◌, ◌<◌, ◌≤◌, ◌==◌, suc, Bool, true, false, not, ◌&&◌, ◌||◌, if◌then◌else◌, ◌⊎◌, inl, inr, List, [], ◌∷◌, ◌++◌, length, take, drop, nat_lt, nat_le, refl, sym, ap, ap₂, subst, subst₂, ◌∙◌, arith, append_assoc, length-append}
use Rattle.std.specs.List.{list_all, prefix_len}
use Rattle.std.proofs.lemmas.Bool.{lt-ltb, eqb-true, cases_lt}
use Rattle.std.proofs.lemmas.Bool.Decides.{nat_tests}
use Rattle.std.proofs.Math.Seq.{take-append_seam, drop-append_seam}
use Rattle.unicode_ident.specs.Ident.{is_xid_start}
use Rattle.surface_syntax.specs.Spelling.{is_blank, is_digit, is_continuing, is_mark, is_keyword, byte_len, name_len, number_len, tail_len, mark_len, comment_len, found_within, name_piece, other_piece, piece}
use Rattle.surface_syntax.specs.Tokens.{IsName, letter, underscore, IsNumber, naught, digits, Spells, keyword, plain, dotted, number, mark, arrow, EndsLine, end, feed, IsGap, blank, comment}
use Rattle.surface_syntax.specs.declared.token.Piece.{Piece}
use Rattle.surface_syntax.specs.declared.token.Piece.TheVariants.{Gap, Found, Bad}
use Rattle.surface_syntax.specs.declared.token.TokenKind.{TokenKind}
use Rattle.surface_syntax.specs.declared.token.TokenKind.TheVariants as kind
use Rattle.surface_syntax.proofs.Prefixes as pre
use Rattle.surface_syntax.proofs.FirstTokens.{reach, if_true, if_false, zero_lt, name_front, name_some, no_name, no_comment, reach_dotted, reach_other}

pub data View (cs : List ℕ) : Type 0 where
  token : (of : TokenKind) (text rest : List ℕ) (fits : Bool) → cs ≡ text ++ rest → Spells of text fits → reach cs ≡ length text → piece cs ≡ found_within fits of (length text) → View cs
  gap : (n : ℕ) → IsGap cs n → piece cs ≡ Gap n → reach cs ≡ 0 → View cs
  none : piece cs ≡ Bad → reach cs ≡ 0 → View cs

-- a number at the front
data Number_parts (cs : List ℕ) : Type 0 where
  number_parts : (ds last : List ℕ) → cs ≡ ds ++ last → IsNumber ds → number_len cs ≡ length ds → Number_parts cs

digits_parts : (c : ℕ) (cs : List ℕ) → (c == 48) ≡ false → 0 < number_len (c ∷ cs) → pre.Span is_digit (c ∷ cs) → Number_parts (c ∷ cs)
digits_parts c cs n h s = by s.front refl
  where
    size : number_len (c ∷ cs) ≡ length s.front
    size = if_false _ _ n ∙ s.size

    by : (front : List ℕ) → s.front ≡ front → Number_parts (c ∷ cs)
    by [] e = let z = size ∙ ap length e in absurd (omega arith)
    by (d ∷ ds) e =
        let whole = s.parts ∙ ap (λ (l : List ℕ). l ++ s.rest) e in
        let same : c ≡ d = cc in
        let all = subst (λ (l : List ℕ). list_all is_digit l ≡ true) e s.passes in
        number_parts (d ∷ ds) s.rest whole (digits (subst (λ (i : ℕ). (i == 48) ≡ false) same n) all) (size ∙ ap length e)

number_parts_at : (cs : List ℕ) → 0 < number_len cs → Number_parts cs
number_parts_at [] h = absurd (omega arith)
number_parts_at (c ∷ cs) h = by (c == 48) refl
  where
    by : (b : Bool) → (c == 48) ≡ b → Number_parts (c ∷ cs)
    by true e = number_parts (48 ∷ []) cs (ap (λ (i : ℕ). i ∷ cs) (eqb-true c 48 e)) naught (if_true _ _ e)
    by false e = digits_parts c cs e h (pre.span is_digit (c ∷ cs))

-- after a name
data Tail_parts (cs : List ℕ) : Type 0 where
  tail_parts : (ds last : List ℕ) → cs ≡ 46 ∷ (ds ++ last) → IsNumber ds → tail_len cs ≡ suc (length ds) → Tail_parts cs

tail_by : (c : ℕ) (cs : List ℕ) → c ≡ 46 → tail_len (c ∷ cs) ≡ 1 + number_len cs → Number_parts cs → Tail_parts (c ∷ cs)
tail_by c cs e t (number_parts ds last q n s) = let h : c ∷ cs ≡ 46 ∷ (ds ++ last) = cc in tail_parts ds last h n (omega arith)

tail_parts_at : (cs : List ℕ) → 0 < tail_len cs → Tail_parts cs
tail_parts_at [] h = absurd (omega arith)
tail_parts_at (c ∷ cs) h = by (c == 46) refl
  where
    more : (c == 46) ≡ true → (0 < number_len cs) ⊎ (number_len cs ≤ 0) → Tail_parts (c ∷ cs)
    more e (inl n) =
        tail_by c cs (eqb-true c 46 e) (if_true _ _ (ap (λ (b : Bool). b && nat_lt 0 (number_len cs)) e ∙ lt-ltb 0 (number_len cs) n)) (number_parts_at cs n)
    more e (inr n) =
        let z : number_len cs ≡ 0 = omega arith in
        let t : tail_len (c ∷ cs) ≡ 0 = if_false _ _ (ap (λ (b : Bool). b && nat_lt 0 (number_len cs)) e ∙ zero_lt (number_len cs) z) in
        absurd (omega arith)

    by : (b : Bool) → (c == 46) ≡ b → Tail_parts (c ∷ cs)
    by true e = more e (cases_lt 0 (number_len cs))
    by false e =
        let t : tail_len (c ∷ cs) ≡ 0 = if_false _ _ (ap (λ (b : Bool). b && nat_lt 0 (number_len cs)) e) in
        absurd (omega arith)

abbrev pub named : ℕ → List ℕ → List ℕ → Piece
named n text rest =
    if is_keyword text then Found kind.Keyword n
    else (if tail_len rest == 0 then found_within (nat_le (byte_len text) 255) kind.Plain n
    else found_within (nat_le (byte_len text) 255 && nat_le (tail_len rest) 3) kind.Dotted (n + tail_len rest))

pub short_tail : (n : ℕ) → nat_le (suc n) 3 ≡ nat_le n 2
short_tail n = grind (arith, nat_tests)

pub zero_eq : (n : ℕ) → n ≡ 0 → (n == 0) ≡ true
zero_eq n e = grind (arith, nat_tests)

pub more_eq : (n : ℕ) → 0 < n → (n == 0) ≡ false
more_eq n e = grind (arith, nat_tests)

-- where a name is at the front
module _ (cs text rest : List ℕ) (parts : cs ≡ text ++ rest) (name : IsName text) (size : name_len cs ≡ length text) (bare : piece cs ≡ (if nat_lt 0 (name_len cs) then name_piece (name_len cs) cs else other_piece cs)) where
  front_is : take (name_len cs) cs ≡ text
  front_is = ap₂ (λ (n : ℕ) (l : List ℕ). take n l) size parts ∙ take-append_seam text rest

  back_is : drop (name_len cs) cs ≡ rest
  back_is = ap₂ (λ (n : ℕ) (l : List ℕ). drop n l) size parts ∙ drop-append_seam text rest

  some_name : 0 < name_len cs
  some_name = let s = name_some name in omega arith

  pub piece_is : piece cs ≡ named (length text) text rest
  piece_is =
      bare ∙ if_true _ _ (lt-ltb 0 (name_len cs) some_name) ∙
      ap₂ (λ (t r : List ℕ). named (name_len cs) t r) front_is back_is ∙ ap (λ (n : ℕ). named n text rest) size

  keyword_view : is_keyword text ≡ true → View cs
  keyword_view k =
      token kind.Keyword text rest true parts (keyword name k)
      (if_true _ _ (lt-ltb 0 (name_len cs) some_name) ∙ if_true _ _ (ap is_keyword front_is ∙ k) ∙ size) (piece_is ∙ if_true _ _ k)

  reach_is : is_keyword text ≡ false → reach cs ≡ length text + tail_len rest
  reach_is k = reach_dotted cs some_name (ap is_keyword front_is ∙ k) ∙ (let a = ap tail_len back_is in omega arith)

  dotted_view : is_keyword text ≡ false → 0 < tail_len rest → Tail_parts rest → View cs
  dotted_view k h (tail_parts ds last q n t) =
      let fits = nat_le (byte_len text) 255 && nat_le (length ds) 2 in
      let whole : cs ≡ (text ++ 46 ∷ ds) ++ last = parts ∙ ap (λ (l : List ℕ). text ++ l) q ∙ sym (append_assoc text (46 ∷ ds) last) in
      let long : length (text ++ 46 ∷ ds) ≡ length text + suc (length ds) = length-append text (46 ∷ ds) in
      let far = reach_is k in
      let within : (nat_le (byte_len text) 255 && nat_le (tail_len rest) 3) ≡ fits = ap (λ (b : Bool). nat_le (byte_len text) 255 && b) (ap (λ (i : ℕ). nat_le i 3) t ∙ short_tail (length ds)) in
      let count : length text + tail_len rest ≡ length (text ++ 46 ∷ ds) = omega arith in
      token kind.Dotted (text ++ 46 ∷ ds) last fits whole (dotted name k n) (far ∙ count)
      (piece_is ∙ if_false _ _ k ∙ if_false _ _ (more_eq (tail_len rest) h) ∙ ap₂ (λ (b : Bool) (i : ℕ). found_within b kind.Dotted i) within count)

  plain_view : is_keyword text ≡ false → tail_len rest ≡ 0 → View cs
  plain_view k t =
      let far = reach_is k in
      let near : reach cs ≡ length text = omega arith in
      token kind.Plain text rest (nat_le (byte_len text) 255) parts (plain name k) near (piece_is ∙ if_false _ _ k ∙ if_true _ _ (zero_eq (tail_len rest) t))

  tail_view : is_keyword text ≡ false → (0 < tail_len rest) ⊎ (tail_len rest ≤ 0) → View cs
  tail_view k (inl h) = dotted_view k h (tail_parts_at rest h)
  tail_view k (inr h) = plain_view k (omega arith)

  pub name_view : View cs
  name_view = by (is_keyword text) refl
    where
      by : (b : Bool) → is_keyword text ≡ b → View cs
      by true k = keyword_view k
      by false k = tail_view k (cases_lt 0 (tail_len rest))

-- where no name is at the front
module _ (cs : List ℕ) (z : name_len cs ≡ 0) (bare : piece cs ≡ (if nat_lt 0 (name_len cs) then name_piece (name_len cs) cs else other_piece cs)) where
  pub other_is : piece cs ≡ other_piece cs
  other_is = bare ∙ if_false _ _ (zero_lt (name_len cs) z)

  number_view : 0 < number_len cs → Number_parts cs → View cs
  number_view h (number_parts ds last q n s) =
      token kind.Number ds last (nat_le (length ds) 3) q (number n) (reach_other cs z ∙ if_true _ _ (lt-ltb 0 (number_len cs) h) ∙ s)
      (other_is ∙ if_true _ _ (lt-ltb 0 (number_len cs) h) ∙ ap (λ (i : ℕ). found_within (nat_le i 3) kind.Number i) s)

  comment_view : number_len cs ≡ 0 → (n : ℕ) → 0 < comment_len cs → comment_len cs ≡ n → IsGap cs n → View cs
  comment_view d n h e is =
      gap n is (other_is ∙ if_false _ _ (zero_lt (number_len cs) d) ∙ if_true _ _ (lt-ltb 0 (comment_len cs) h) ∙ ap Gap e)
      (reach_other cs z ∙ if_false _ _ (zero_lt (number_len cs) d) ∙ if_true _ _ (lt-ltb 0 (comment_len cs) h))

  mark_view : number_len cs ≡ 0 → comment_len cs ≡ 0 → (text rest : List ℕ) → cs ≡ text ++ rest → Spells kind.Mark text true → 0 < mark_len cs → mark_len cs ≡ length text → View cs
  mark_view d e text rest q s h n =
      token kind.Mark text rest true q s (reach_other cs z ∙ if_false _ _ (zero_lt (number_len cs) d) ∙ if_false _ _ (zero_lt (comment_len cs) e) ∙ n)
      (other_is ∙ if_false _ _ (zero_lt (number_len cs) d) ∙ if_false _ _ (zero_lt (comment_len cs) e) ∙ if_true _ _ (lt-ltb 0 (mark_len cs) h) ∙ ap (Found kind.Mark) n)

  none_view : number_len cs ≡ 0 → comment_len cs ≡ 0 → mark_len cs ≡ 0 → View cs
  none_view d e h =
      none (other_is ∙ if_false _ _ (zero_lt (number_len cs) d) ∙ if_false _ _ (zero_lt (comment_len cs) e) ∙ if_false _ _ (zero_lt (mark_len cs) h))
      (reach_other cs z ∙ if_false _ _ (zero_lt (number_len cs) d) ∙ if_false _ _ (zero_lt (comment_len cs) e) ∙ h)

line_ends : (rest : List ℕ) → ((c : ℕ) (last : List ℕ) → rest ≡ c ∷ last → not (c == 10) ≡ false) → EndsLine rest
line_ends [] h = end
line_ends (c ∷ last) h = subst (λ (i : ℕ). EndsLine (i ∷ last)) (sym (feed_at c (h c last refl))) feed
  where
    feed_at : (d : ℕ) → not (d == 10) ≡ false → d ≡ 10
    feed_at d e = grind (arith, nat_tests)

data Comment_parts (cs : List ℕ) : Type 0 where
  comment_parts : (n : ℕ) → comment_len cs ≡ n → IsGap cs n → Comment_parts cs

comment_by : (cs : List ℕ) → comment_len (45 ∷ 45 ∷ cs) ≡ 2 + prefix_len (λ c. not (c == 10)) cs → pre.Span (λ c. not (c == 10)) cs → Comment_parts (45 ∷ 45 ∷ cs)
comment_by cs e s =
    comment_parts (2 + length s.front) (e ∙ ap (λ (i : ℕ). 2 + i) s.size) (subst (λ (l : List ℕ). IsGap (45 ∷ 45 ∷ l) (2 + length s.front)) (sym s.parts) (comment s.front s.rest s.passes (line_ends s.rest s.stops)))

comment_parts_at : (cs : List ℕ) → 0 < comment_len cs → Comment_parts cs
comment_parts_at [] h = absurd (omega arith)
comment_parts_at (c ∷ []) h = absurd (omega arith)
comment_parts_at (c ∷ d ∷ cs) h = by (c == 45) (d == 45) refl refl
  where
    by : (a b : Bool) → (c == 45) ≡ a → (d == 45) ≡ b → Comment_parts (c ∷ d ∷ cs)
    by true true e f = subst₂ (λ (i j : ℕ). Comment_parts (i ∷ j ∷ cs)) (sym (eqb-true c 45 e)) (sym (eqb-true d 45 f)) (comment_by cs refl (pre.span (λ x. not (x == 10)) cs))
    by true false e f = let t : comment_len (c ∷ d ∷ cs) ≡ 0 = if_false _ _ (ap₂ (λ (a b : Bool). a && b) e f) in absurd (omega arith)
    by false b e f = let t : comment_len (c ∷ d ∷ cs) ≡ 0 = if_false _ _ (ap (λ (a : Bool). a && (d == 45)) e) in absurd (omega arith)

data Mark_parts (cs : List ℕ) : Type 0 where
  mark_parts : (text rest : List ℕ) → cs ≡ text ++ rest → Spells kind.Mark text true → mark_len cs ≡ length text → Mark_parts cs

mark_parts_at : (cs : List ℕ) → 0 < mark_len cs → Mark_parts cs
mark_parts_at [] h = absurd (omega arith)
mark_parts_at (c ∷ []) h = by (is_mark c) refl
  where
    by : (b : Bool) → is_mark c ≡ b → Mark_parts (c ∷ [])
    by true e = mark_parts (c ∷ []) [] refl (mark e) (if_true _ _ e)
    by false e = let t : mark_len (c ∷ []) ≡ 0 = if_false _ _ e in absurd (omega arith)
mark_parts_at (c ∷ d ∷ cs) h = by (is_mark c) refl
  where
    two : is_mark c ≡ false → (a b : Bool) → (c == 45) ≡ a → (d == 62) ≡ b → Mark_parts (c ∷ d ∷ cs)
    two e true true p q = subst₂ (λ (i j : ℕ). Mark_parts (i ∷ j ∷ cs)) (sym (eqb-true c 45 p)) (sym (eqb-true d 62 q)) (mark_parts (45 ∷ 62 ∷ []) cs refl arrow refl)
    two e true false p q = let t : mark_len (c ∷ d ∷ cs) ≡ 0 = if_false _ _ e ∙ if_false _ _ (ap₂ (λ (a b : Bool). a && b) p q) in absurd (omega arith)
    two e false b p q = let t : mark_len (c ∷ d ∷ cs) ≡ 0 = if_false _ _ e ∙ if_false _ _ (ap (λ (a : Bool). a && (d == 62)) p) in absurd (omega arith)

    by : (b : Bool) → is_mark c ≡ b → Mark_parts (c ∷ d ∷ cs)
    by true e = mark_parts (c ∷ []) (d ∷ cs) refl (mark e) (if_true _ _ e)
    by false e = two e (c == 45) (d == 62) refl refl

pub other_view : (cs : List ℕ) → name_len cs ≡ 0 → piece cs ≡ (if nat_lt 0 (name_len cs) then name_piece (name_len cs) cs else other_piece cs) → View cs
other_view cs z bare = by_number (cases_lt 0 (number_len cs))
  where
    by_mark : number_len cs ≡ 0 → comment_len cs ≡ 0 → (0 < mark_len cs) ⊎ (mark_len cs ≤ 0) → View cs
    by_mark d e (inl h) = marked (mark_parts_at cs h)
      where
        marked : Mark_parts cs → View cs
        marked (mark_parts text rest q s n) = mark_view cs z bare d e text rest q s h n
    by_mark d e (inr h) = none_view cs z bare d e (omega arith)

    by_comment : number_len cs ≡ 0 → (0 < comment_len cs) ⊎ (comment_len cs ≤ 0) → View cs
    by_comment d (inl h) = commented (comment_parts_at cs h)
      where
        commented : Comment_parts cs → View cs
        commented (comment_parts n e is) = comment_view cs z bare d n h e is
    by_comment d (inr h) = by_mark d (omega arith) (cases_lt 0 (mark_len cs))

    by_number : (0 < number_len cs) ⊎ (number_len cs ≤ 0) → View cs
    by_number (inl h) = number_view cs z bare h (number_parts_at cs h)
    by_number (inr h) = by_comment (omega arith) (cases_lt 0 (comment_len cs))

-- the name at the front
zero_front : (rest : List ℕ) → ((c : ℕ) (last : List ℕ) → rest ≡ c ∷ last → is_continuing c ≡ false) → prefix_len is_continuing rest ≡ 0
zero_front [] h = refl
zero_front (c ∷ last) h = pre.prefix_stop is_continuing c last (h c last refl)

span_view : (c : ℕ) (cs : List ℕ) (s : pre.Span is_continuing cs) → IsName (c ∷ s.front) → piece (c ∷ cs) ≡ (if nat_lt 0 (name_len (c ∷ cs)) then name_piece (name_len (c ∷ cs)) (c ∷ cs) else other_piece (c ∷ cs)) → View (c ∷ cs)
span_view c cs s name bare =
    let parts : c ∷ cs ≡ (c ∷ s.front) ++ s.rest = ap (λ (l : List ℕ). c ∷ l) s.parts in
    let size : name_len (c ∷ cs) ≡ length (c ∷ s.front) = ap name_len parts ∙ name_front s.rest name ∙ (let z = zero_front s.rest s.stops in omega arith) in
    name_view (c ∷ cs) (c ∷ s.front) s.rest parts name size bare

mark_none : (c : ℕ) (cs : List ℕ) → is_mark c ≡ false → (c == 45) ≡ false → mark_len (c ∷ cs) ≡ 0
mark_none c [] m d = if_false _ _ m
mark_none c (e ∷ cs) m d = if_false _ _ m ∙ if_false _ _ (ap (λ (b : Bool). b && (e == 62)) d)

blank_view : (c : ℕ) (cs : List ℕ) → is_blank c ≡ true → View (c ∷ cs)
blank_view c cs e =
    let f = pre.blank_apart c e in
    let n : number_len (c ∷ cs) ≡ 0 = if_false _ _ f.3 ∙ pre.prefix_stop is_digit c cs f.1 in
    gap 1 (blank e) (if_true _ _ e)
    (reach_other (c ∷ cs) (no_name c cs (pre.blank_starts c e) f.2) ∙ if_false _ _ (zero_lt (number_len (c ∷ cs)) n) ∙
    if_false _ _ (zero_lt (comment_len (c ∷ cs)) (no_comment c cs f.4)) ∙ mark_none c cs f.0 f.4)

bar_name : (c : ℕ) (cs : List ℕ) → (c == 95) ≡ true → list_all is_continuing cs ≡ true → 0 < length cs → IsName (c ∷ cs)
bar_name c [] e h s = absurd (omega arith)
bar_name c (d ∷ cs) e h s = subst (λ (i : ℕ). IsName (i ∷ d ∷ cs)) (sym (eqb-true c 95 e)) (underscore h)

pub view : (cs : List ℕ) → View cs
view [] = none refl refl
view (c ∷ cs) = by_blank (is_blank c) refl
  where
    by_bar : is_blank c ≡ false → is_xid_start c ≡ false → (c == 95) ≡ true → (0 < length (pre.span is_continuing cs).front) ⊎ (length (pre.span is_continuing cs).front ≤ 0) → View (c ∷ cs)
    by_bar e s b (inl h) = span_view c cs (pre.span is_continuing cs) (bar_name c (pre.span is_continuing cs).front b (pre.span is_continuing cs).passes h) (if_false _ _ e)
    by_bar e s b (inr h) =
        let q = (pre.span is_continuing cs).size in
        let z : prefix_len is_continuing cs ≡ 0 = omega arith in
        let n : name_len (c ∷ cs) ≡ 0 = if_false _ _ (ap₂ (λ (x y : Bool). x || ((c == 95) && y)) s (zero_lt (prefix_len is_continuing cs) z) ∙ ap (λ (x : Bool). x && false) b) in
        other_view (c ∷ cs) n (if_false _ _ e)

    by_letter : is_blank c ≡ false → (b : Bool) → is_xid_start c ≡ b → (d : Bool) → (c == 95) ≡ d → View (c ∷ cs)
    by_letter e true s d h = span_view c cs (pre.span is_continuing cs) (letter s (pre.span is_continuing cs).passes) (if_false _ _ e)
    by_letter e false s true h = by_bar e s h (cases_lt 0 (length (pre.span is_continuing cs).front))
    by_letter e false s false h = other_view (c ∷ cs) (no_name c cs s h) (if_false _ _ e)

    by_blank : (b : Bool) → is_blank c ≡ b → View (c ∷ cs)
    by_blank true e = blank_view c cs e
    by_blank false e = by_letter e (is_xid_start c) refl (c == 95) refl
