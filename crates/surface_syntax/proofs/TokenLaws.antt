-- Proofs of the laws on the front of a text, and on how it splits.
use Rattle.std.proofs.Common.{◌≡◌, ℕ, ◌+◌, ◌<◌, ◌≤◌, ◌==◌, suc, Bool, true, false, not, ◌&&◌, ◌||◌, if◌then◌else◌, List, [], ◌∷◌, ◌++◌, length, take, drop, nat_lt, nat_le, refl, sym, ap, ap₂, subst, subst₂, ◌∙◌, arith, append_assoc, length-append, All}
use Rattle.std.specs.List.{list_all, prefix_len}
use Rattle.std.proofs.lemmas.List.{append-nil, take-append-drop, length-take-le}
use Rattle.std.proofs.lemmas.Bool.{lt-ltb}
use Rattle.std.proofs.lemmas.Bool.Decides.{nat_tests}
use Rattle.std.proofs.lemmas.List.Sums.{sum_by-append}
use Rattle.std.proofs.lemmas.List.Elements.{All-cons}
use Rattle.std.specs.Char.{len_utf8}
use Rattle.unicode_ident.specs.Ident.{is_xid_start}
use Rattle.surface_syntax.specs.Spelling.{is_blank, is_digit, is_continuing, is_mark, byte_len, name_len, number_len, tail_len, mark_len, comment_len, found_within, name_piece, other_piece, piece}
use Rattle.surface_syntax.specs.Splitting.{Reads, stop, gap, token, Splits}
use Rattle.std.proofs.Math.Seq.{take-append_seam, drop-append_seam}
use Rattle.surface_syntax.specs.Tokens as t
use Rattle.surface_syntax.specs.Tokens.{IsName, IsNumber, Spells, IsFirstToken, IsGap, EndsLine}
use Rattle.surface_syntax.specs.TokenLaws.{IsTokenOf, AreSpelled}
use Rattle.surface_syntax.specs.TokenLaws as laws
use Rattle.surface_syntax.specs.declared.token.Token.{Token}
use Rattle.surface_syntax.specs.declared.token.Piece.{Piece}
use Rattle.surface_syntax.specs.declared.token.Piece.TheVariants.{Gap, Found, Bad}
use Rattle.surface_syntax.specs.declared.token.TokenKind.{TokenKind}
use Rattle.surface_syntax.specs.declared.token.TokenKind.TheVariants as kind
use Rattle.surface_syntax.proofs.Prefixes as pre
use Rattle.surface_syntax.proofs.FirstTokens.{reach, if_true, if_false, zero_lt, name_front, name_some, number_some, no_name, mark_front, number_no_name, spelled_front}
use Rattle.surface_syntax.proofs.TokenViews as v
use Rattle.surface_syntax.proofs.TokenViews.{View, view, named, piece_is, other_is, short_tail, more_eq}

-- a spelling alone is found with its kind and its limit
not_blank : (c : ℕ) → is_xid_start c ≡ true → is_blank c ≡ false
not_blank c s = by (is_blank c) refl
  where
    by : (b : Bool) → is_blank c ≡ b → is_blank c ≡ false
    by true e = let h = pre.blank_starts c e in cc
    by false e = e

bare_name : {text : List ℕ} (rest : List ℕ) → IsName text → piece (text ++ rest) ≡ (if nat_lt 0 (name_len (text ++ rest)) then name_piece (name_len (text ++ rest)) (text ++ rest) else other_piece (text ++ rest))
bare_name rest (t.letter {c = c} s h) = if_false _ _ (not_blank c s)
bare_name rest (t.underscore h) = refl

named_piece : {text : List ℕ} (rest : List ℕ) → IsName text → prefix_len is_continuing rest ≡ 0 → piece (text ++ rest) ≡ named (length text) text rest
named_piece {text} rest name z = piece_is (text ++ rest) text rest refl name (name_front rest name ∙ (let q = z in omega arith)) (bare_name rest name)

digit_not_blank : (c : ℕ) → is_digit c ≡ true → is_blank c ≡ false
digit_not_blank c d = grind (arith, nat_tests)

number_whole : {ds : List ℕ} → IsNumber ds → number_len ds ≡ length ds
number_whole t.naught = refl
number_whole (t.digits {c = c} {cs = cs} n h) =
    let q = pre.prefix_all is_digit (c ∷ cs) [] h in
    if_false _ _ n ∙ ap (λ (l : List ℕ). prefix_len is_digit (c ∷ l)) (sym (append-nil cs)) ∙ omega arith

bare_number : {ds : List ℕ} → IsNumber ds → piece ds ≡ (if nat_lt 0 (name_len ds) then name_piece (name_len ds) ds else other_piece ds)
bare_number t.naught = refl
bare_number (t.digits {c = c} {cs = cs} n h) = if_false _ _ (digit_not_blank c (pre.all_head is_digit c cs h))

mark_not_blank : (c : ℕ) → is_mark c ≡ true → is_blank c ≡ false
mark_not_blank c d = grind (arith, nat_tests)

mark_not_naught : (c : ℕ) → is_mark c ≡ true → (c == 48) ≡ false
mark_not_naught c d = grind (arith, nat_tests)

mark_no_name : (c : ℕ) → is_mark c ≡ true → name_len (c ∷ []) ≡ 0
mark_no_name c m = if_false _ _ (ap (λ (b : Bool). b || ((c == 95) && false)) (pre.mark_starts c m) ∙ and_false (c == 95))
  where
    and_false : (b : Bool) → (b && false) ≡ false
    and_false true = refl
    and_false false = refl

pub spelled_piece : {of : TokenKind} {text : List ℕ} {fits : Bool} → Spells of text fits → piece text ≡ found_within fits of (length text)
spelled_piece {text = text} (t.keyword name k) = ap piece (sym (append-nil text)) ∙ named_piece [] name refl ∙ if_true _ _ k
spelled_piece {text = text} (t.plain name k) = ap piece (sym (append-nil text)) ∙ named_piece [] name refl ∙ if_false _ _ k ∙ refl
spelled_piece (t.dotted {cs = cs} {ds = ds} name k n) =
    let s = number_some n in
    let q = number_whole n in
    let tail : tail_len (46 ∷ ds) ≡ suc (length ds) = if_true _ _ (lt-ltb 0 (number_len ds) (omega arith)) ∙ omega arith in
    let long = length-append cs (46 ∷ ds) in
    let count : length cs + tail_len (46 ∷ ds) ≡ length (cs ++ 46 ∷ ds) = omega arith in
    named_piece (46 ∷ ds) name (pre.prefix_stop is_continuing 46 ds pre.point_stops) ∙ if_false _ _ k ∙ if_false _ _ (more_eq (tail_len (46 ∷ ds)) (omega arith)) ∙
    ap₂ (λ (b : Bool) (i : ℕ). found_within (nat_le (byte_len cs) 255 && b) kind.Dotted i) (ap (λ (i : ℕ). nat_le i 3) tail ∙ short_tail (length ds)) count
spelled_piece (t.number {ds = ds} n) =
    let s = number_some n in
    let q = number_whole n in
    let z : name_len ds ≡ 0 = ap name_len (sym (append-nil ds)) ∙ number_no_name [] n in
    other_is ds z (bare_number n) ∙ if_true _ _ (lt-ltb 0 (number_len ds) (omega arith)) ∙ ap (λ (i : ℕ). found_within (nat_le i 3) kind.Number i) q
spelled_piece (t.mark {c = c} m) =
    let d : number_len (c ∷ []) ≡ 0 = if_false _ _ (mark_not_naught c m) ∙ pre.prefix_stop is_digit c [] (pre.mark_digit c m) in
    other_is (c ∷ []) (mark_no_name c m) (if_false _ _ (mark_not_blank c m)) ∙ if_false _ _ (zero_lt (number_len (c ∷ [])) d) ∙
    if_true _ _ (lt-ltb 0 (mark_len (c ∷ [])) (let f = mark_front c [] m in omega arith)) ∙ ap (Found kind.Mark) (mark_front c [] m)
spelled_piece t.arrow = other_is (45 ∷ 62 ∷ []) (no_name 45 (62 ∷ []) pre.dash_starts refl) refl

spelled_some : {of : TokenKind} {text : List ℕ} {fits : Bool} → Spells of text fits → 0 < length text
spelled_some (t.keyword name k) = name_some name
spelled_some (t.plain name k) = name_some name
spelled_some (t.dotted {cs = cs} {ds = ds} name k n) = let s = name_some name in let a = length-append cs (46 ∷ ds) in omega arith
spelled_some (t.number n) = number_some n
spelled_some (t.mark m) = omega arith
spelled_some t.arrow = omega arith

-- two fronts of one text
data Fronts (a b c d : List ℕ) : Type 0 where
  within : (more : List ℕ) → c ≡ a ++ more → b ≡ more ++ d → Fronts a b c d
  beyond : length c < length a → Fronts a b c d

more_fronts : {x y : ℕ} {a b c d : List ℕ} → x ≡ y → Fronts a b c d → Fronts (x ∷ a) b (y ∷ c) d
more_fronts {x} {y} {a} {c = c} e (within more p q) = let h : y ∷ c ≡ x ∷ (a ++ more) = cc in within more h q
more_fronts e (beyond h) = beyond (omega arith)

fronts : (a b c d : List ℕ) → a ++ b ≡ c ++ d → Fronts a b c d
fronts [] b c d e = within c refl e
fronts (x ∷ a) b [] d e = beyond (omega arith)
fronts (x ∷ a) b (y ∷ c) d e = let h : x ≡ y = cc in let r : a ++ b ≡ c ++ d = cc in more_fronts h (fronts a b c d r)

nil_more : (text more : List ℕ) → length (text ++ more) ≤ length text → more ≡ []
nil_more text [] h = refl
nil_more text (x ∷ more) h = let e = length-append text (x ∷ more) in absurd (omega arith)

-- a token is found exactly where it is the longest
found_parts : (fits : Bool) (of other : TokenKind) (n m : ℕ) → found_within fits other m ≡ Found of n → (fits ≡ true) × (other ≡ of) × (m ≡ n)
found_parts true of other n m e = (refl, cc, cc)
found_parts false of other n m e = cc

by_view : (cs : List ℕ) (of : TokenKind) (n : ℕ) → piece cs ≡ Found of n → View cs → IsFirstToken cs of n
by_view cs of n e (v.token other text rest fits q s far p) =
    let f = found_parts fits of other n (length text) (sym p ∙ e) in
    record {
      text = text;
      rest = rest;
      parts = q;
      size = f.2;
      spelled = subst₂ (λ (k : TokenKind) (b : Bool). Spells k text b) f.1 f.0 s;
      longest = λ more last k b r longer. nil_more text more (subst (λ (i : ℕ). length (text ++ more) ≤ i) far
          (subst (λ (l : List ℕ). length (text ++ more) ≤ reach l) (append_assoc text more last ∙ ap (λ (l : List ℕ). text ++ l) (sym r) ∙ sym q) (spelled_front last longer)));
    }
by_view cs of n e (v.gap k is p far) = cc
by_view cs of n e (v.none p far) = cc

pub found_first : (cs : List ℕ) (of : TokenKind) (n : ℕ) → piece cs ≡ Found of n → IsFirstToken cs of n
found_first cs of n e = by_view cs of n e (view cs)

front_reach : {cs : List ℕ} {of : TokenKind} {n : ℕ} (w : IsFirstToken cs of n) → length w.text ≤ reach cs
front_reach w = subst (λ (l : List ℕ). length w.text ≤ reach l) (sym w.parts) (spelled_front w.rest w.spelled)

same_token : {cs : List ℕ} {of : TokenKind} {n : ℕ} (w : IsFirstToken cs of n) (other : TokenKind) (text rest : List ℕ) (fits : Bool) → Spells other text fits → reach cs ≡ length text → piece cs ≡ found_within fits other (length text) →
    Fronts w.text w.rest text rest → piece cs ≡ Found of n
same_token w other text rest fits s far p (beyond h) = let a = front_reach w in absurd (omega arith)
same_token {cs} {of} {n} w other text rest fits s far p (within more q r) =
    let none = w.longest more rest other fits r (subst (λ (l : List ℕ). Spells other l fits) q s) in
    let same : text ≡ w.text = q ∙ ap (λ (l : List ℕ). w.text ++ l) none ∙ append-nil w.text in
    p ∙ sym (spelled_piece s) ∙ ap piece same ∙ spelled_piece w.spelled ∙ ap (Found of) w.size

pub first_found : (cs : List ℕ) (of : TokenKind) (n : ℕ) → IsFirstToken cs of n → piece cs ≡ Found of n
first_found cs of n w = by (view cs)
  where
    by : View cs → piece cs ≡ Found of n
    by (v.token other text rest fits q s far p) = same_token w other text rest fits s far p (fronts w.text w.rest text rest (sym w.parts ∙ q))
    by (v.gap k is p far) = let a = front_reach w in let b = spelled_some w.spelled in absurd (omega arith)
    by (v.none p far) = let a = front_reach w in let b = spelled_some w.spelled in absurd (omega arith)

-- blanks and comments
not_found : (fits : Bool) (of : TokenKind) (m n : ℕ) → found_within fits of m ≡ Gap n → ⊥
not_found true of m n e = cc
not_found false of m n e = cc

pub gap_is : (cs : List ℕ) (n : ℕ) → piece cs ≡ Gap n → IsGap cs n
gap_is cs n e = by (view cs)
  where
    by : View cs → IsGap cs n
    by (v.token of text rest fits q s far p) = absurd (not_found fits of (length text) n (sym p ∙ e))
    by (v.gap k is p far) = let h : k ≡ n = cc in subst (λ (i : ℕ). IsGap cs i) h is
    by (v.none p far) = cc

line_stops : {rest : List ℕ} → EndsLine rest → prefix_len (λ c. not (c == 10)) rest ≡ 0
line_stops t.end = refl
line_stops t.feed = refl

comment_gap : (line rest : List ℕ) → list_all (λ c. not (c == 10)) line ≡ true → EndsLine rest → piece (45 ∷ 45 ∷ (line ++ rest)) ≡ Gap (2 + length line)
comment_gap line rest h e =
    let l = 45 ∷ 45 ∷ (line ++ rest) in
    let c : comment_len l ≡ 2 + length line = ap (λ (i : ℕ). 2 + i) (pre.prefix_all (λ c. not (c == 10)) line rest h ∙ (let z = line_stops e in omega arith)) in
    other_is l (no_name 45 (45 ∷ (line ++ rest)) pre.dash_starts refl) refl ∙ if_true _ _ (lt-ltb 0 (comment_len l) (omega arith)) ∙ ap Gap c

pub is_gap : (cs : List ℕ) (n : ℕ) → IsGap cs n → piece cs ≡ Gap n
is_gap cs n (t.blank e) = if_true _ _ e
is_gap cs n (t.comment line rest h e) = comment_gap line rest h e

-- nothing else
by_piece : (cs : List ℕ) (p : Piece) → piece cs ≡ p → ((of : TokenKind) (n : ℕ) → IsFirstToken cs of n → ⊥) → ((n : ℕ) → IsGap cs n → ⊥) → piece cs ≡ Bad
by_piece cs (Gap n) e a b = absurd (b n (gap_is cs n e))
by_piece cs (Found of n) e a b = absurd (a of n (found_first cs of n e))
by_piece cs Bad e a b = e

pub nothing_bad : (cs : List ℕ) → ((of : TokenKind) (n : ℕ) → IsFirstToken cs of n → ⊥) → ((n : ℕ) → IsGap cs n → ⊥) → piece cs ≡ Bad
nothing_bad cs a b = by_piece cs (piece cs) refl a b

pub bad_nothing : (cs : List ℕ) → piece cs ≡ Bad → ((of : TokenKind) (n : ℕ) → IsFirstToken cs of n → ⊥) × ((n : ℕ) → IsGap cs n → ⊥)
bad_nothing cs e = (λ of n w. (let h = first_found cs of n w in cc), λ n w. (let h = is_gap cs n w in cc))

-- tokens are slices of the text
take_parts : (cs : List ℕ) (of : TokenKind) (n : ℕ) → IsFirstToken cs of n → IsFirstToken (take n cs ++ drop n cs) of (length (take n cs))
take_parts cs of n w =
    let a = ap length w.parts in
    let b = length-append w.text w.rest in
    let c = w.size in
    let long : n ≤ length cs = omega arith in
    subst₂ (λ (l : List ℕ) (i : ℕ). IsFirstToken l of i) (sym (take-append-drop n cs)) (sym (length-take-le n cs long)) w

no_tokens : (P : Token → Type 0) → All P []
no_tokens P = λ k d h. absurd (omega arith)

pub slices : {at end : ℕ} {cs rest : List ℕ} {tokens : List Token} (whole before : List ℕ) → whole ≡ before ++ cs → byte_len before ≡ at → Reads at cs tokens end rest → All (IsTokenOf whole) tokens
slices whole before p q stop = no_tokens (IsTokenOf whole)
slices {cs = cs} whole before p q (gap {n = n} e r) =
    slices whole (before ++ take n cs) (p ∙ ap (λ (l : List ℕ). before ++ l) (sym (take-append-drop n cs)) ∙ sym (append_assoc before (take n cs) (drop n cs)))
    (sum_by-append len_utf8 before (take n cs) ∙ ap (λ (i : ℕ). i + byte_len (take n cs)) q) r
slices {at} {cs = cs} whole before p q (token {n = n} {tokens = tokens} {kind = of} e r) =
    All-cons (IsTokenOf whole) (record { kind = of; start = at; end = at + byte_len (take n cs) }) tokens
    (record {
      before = before;
      text = take n cs;
      after = drop n cs;
      parts = p ∙ ap (λ (l : List ℕ). before ++ l) (sym (take-append-drop n cs));
      starts = q;
      ends = refl;
      begins = take_parts cs of n (found_first cs of n e);
    })
    (slices whole (before ++ take n cs) (p ∙ ap (λ (l : List ℕ). before ++ l) (sym (take-append-drop n cs)) ∙ sym (append_assoc before (take n cs) (drop n cs)))
    (sum_by-append len_utf8 before (take n cs) ∙ ap (λ (i : ℕ). i + byte_len (take n cs)) q) r)

-- a text splits as it is spelled
gap_within : {cs : List ℕ} {n : ℕ} → IsGap cs n → n ≤ length cs
gap_within (t.blank e) = omega arith
gap_within (t.comment line rest h e) = let a = length-append line rest in omega arith

gap_parts : (cs : List ℕ) (n : ℕ) → IsGap cs n → IsGap (take n cs ++ drop n cs) (length (take n cs))
gap_parts cs n w = subst₂ (λ (l : List ℕ) (i : ℕ). IsGap l i) (sym (take-append-drop n cs)) (sym (length-take-le n cs (gap_within w))) w

pub reads_spelled : {at end : ℕ} {cs rest : List ℕ} {tokens : List Token} → Reads at cs tokens end rest → rest ≡ [] → AreSpelled at cs tokens
reads_spelled {at} {tokens = tokens} stop e = subst (λ (l : List ℕ). AreSpelled at l []) (sym e) laws.end
reads_spelled {at} {cs = cs} {tokens = tokens} (gap {n = n} p r) e =
    subst (λ (l : List ℕ). AreSpelled at l tokens) (take-append-drop n cs) (laws.gap (take n cs) (drop n cs) (gap_parts cs n (gap_is cs n p)) (reads_spelled r e))
reads_spelled {at} {cs = cs} (token {n = n} {tokens = tokens} {kind = of} p r) e =
    subst (λ (l : List ℕ). AreSpelled at l (record { kind = of; start = at; end = at + byte_len (take n cs) } ∷ tokens)) (take-append-drop n cs)
    (laws.token (take n cs) (drop n cs) (take_parts cs of n (found_first cs of n p)) (reads_spelled r e))

further : (at : ℕ) (text rest : List ℕ) (tokens : List Token) → Reads (at + byte_len text) rest tokens (at + byte_len text + byte_len rest) [] →
    Reads (at + byte_len (take (length text) (text ++ rest))) (drop (length text) (text ++ rest)) tokens (at + byte_len (text ++ rest)) []
further at text rest tokens r =
    let a = sum_by-append len_utf8 text rest in
    let q : at + byte_len text + byte_len rest ≡ at + byte_len (text ++ rest) = omega arith in
    let s = subst (λ (end : ℕ). Reads (at + byte_len text) rest tokens end []) q r in
    subst₂ (λ (l k : List ℕ). Reads (at + byte_len l) k tokens (at + byte_len (text ++ rest)) []) (sym (take-append_seam text rest)) (sym (drop-append_seam text rest)) s

pub spelled_reads : {at : ℕ} {cs : List ℕ} {tokens : List Token} → AreSpelled at cs tokens → Reads at cs tokens (at + byte_len cs) []
spelled_reads {at} laws.end = subst (λ (end : ℕ). Reads at [] [] end []) (let e : at ≡ at + 0 = omega arith in e) stop
spelled_reads {at} {tokens = tokens} (laws.gap text rest w more) = gap (is_gap (text ++ rest) (length text) w) (further at text rest tokens (spelled_reads more))
spelled_reads {at} (laws.token {of = of} {tokens = tokens} text rest w more) =
    subst (λ (l : List ℕ). Reads at (text ++ rest) (record { kind = of; start = at; end = at + byte_len l } ∷ tokens) (at + byte_len (text ++ rest)) []) (take-append_seam text rest)
    (token (first_found (text ++ rest) of (length text) w) (further at text rest tokens (spelled_reads more)))

pub spelled_splits : (cs : List ℕ) (tokens : List Token) → AreSpelled 0 cs tokens → Splits cs tokens
spelled_splits cs tokens s = subst (λ (end : ℕ). Reads 0 cs tokens end []) (let e : 0 + byte_len cs ≡ byte_len cs = omega arith in e) (spelled_reads s)
