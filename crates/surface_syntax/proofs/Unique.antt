-- A text splits in one way.
use Rattle.std.proofs.Common.{◌≡◌, ◌≢◌, ℕ, ◌+◌, List, [], ◌∷◌, take, drop, length, Result, Ok, Err, refl, sym, ap, subst, ◌∙◌, arith, length-append}
use Rattle.std.specs.Str.{IsUtf8, chars}
use Rattle.std.proofs.lemmas.List.{take_all}
use Rattle.std.proofs.lemmas.List.Sums.{sum_by-cons}
use Rattle.std.proofs.lemmas.Str.{encodes-chars, length-encode}
use Rattle.std.specs.Char.{len_utf8}
use lib.Utf8.{encode, encodes}
use Rattle.surface_syntax.specs.declared.token.Token.{Token}
use Rattle.surface_syntax.specs.declared.token.Piece.{Piece}
use Rattle.surface_syntax.specs.declared.token.Piece.TheVariants.{Bad}
use Rattle.surface_syntax.specs.declared.stop.SyntaxStop.{SyntaxStop}
use Rattle.surface_syntax.specs.declared.stop.SyntaxStop.TheVariants.{Memory, NotUtf8, BadToken, Nested, Syntax}
use Rattle.surface_syntax.specs.Spelling.{piece, byte_len}
use Rattle.surface_syntax.specs.Splitting.{Reads, stop, gap, token, Splits, StopsAt, AreTokens, AreInOrder}
use Rattle.surface_syntax.proofs.Splits.{in_order}
use Rattle.std.specs.Prelude.{IfOk}
use Rattle.surface_syntax.specs.Outcomes.{SplitSays, TokensSay, GivesOnly}

empty_is_bad : {cs : List ℕ} {p : Piece} → cs ≡ [] → piece cs ≡ p → Bad ≡ p
empty_is_bad e q = sym (ap piece e) ∙ q

pub one_split : {at end end' : ℕ} {cs rest rest' : List ℕ} {ts ts' : List Token} → Reads at cs ts end rest → Reads at cs ts' end' rest' → rest ≡ [] → rest' ≡ [] → ts ≡ ts'
one_split stop stop e e' = refl
one_split stop (gap q s) e e' = let h = empty_is_bad e q in cc
one_split stop (token q s) e e' = let h = empty_is_bad e q in cc
one_split (gap p r) stop e e' = let h = empty_is_bad e' p in cc
one_split (token p r) stop e e' = let h = empty_is_bad e' p in cc
one_split (gap p r) (token q s) e e' = cc
one_split (token p r) (gap q s) e e' = cc
one_split {at} {end} {end'} {cs} {rest} {rest'} {ts} {ts'} (gap {n = n} p r) (gap {n = m} q s) e e' =
    let same : m ≡ n = cc in
    one_split r (subst (λ (k : ℕ). Reads (at + byte_len (take k cs)) (drop k cs) ts' end' rest') same s) e e'
one_split {at} {end} {end'} {cs} {rest} {rest'} (token {n = n} {tokens = us} p r) (token {n = m} {tokens = vs} q s) e e' =
    let same : m ≡ n = cc in
    let more = one_split r (subst (λ (k : ℕ). Reads (at + byte_len (take k cs)) (drop k cs) vs end' rest') same s) e e' in
    cc

pub splits_or_stops : {at end end' : ℕ} {cs rest rest' : List ℕ} {ts ts' : List Token} → Reads at cs ts end rest → Reads at cs ts' end' rest' → rest ≡ [] → rest' ≢ [] → piece rest' ≡ Bad → ⊥
splits_or_stops stop stop e n b = n e
splits_or_stops stop (gap q s) e n b = let h = empty_is_bad e q in cc
splits_or_stops stop (token q s) e n b = let h = empty_is_bad e q in cc
splits_or_stops (gap p r) stop e n b = cc
splits_or_stops (token p r) stop e n b = cc
splits_or_stops (gap p r) (token q s) e n b = cc
splits_or_stops (token p r) (gap q s) e n b = cc
splits_or_stops {at} {end} {end'} {cs} {rest} {rest'} {ts} {ts'} (gap {n = n} p r) (gap {n = m} q s) e x b =
    let same : m ≡ n = cc in
    splits_or_stops r (subst (λ (k : ℕ). Reads (at + byte_len (take k cs)) (drop k cs) ts' end' rest') same s) e x b
splits_or_stops {at} {end} {end'} {cs} {rest} {rest'} (token {n = n} {tokens = us} p r) (token {n = m} {tokens = vs} q s) e x b =
    let same : m ≡ n = cc in
    splits_or_stops r (subst (λ (k : ℕ). Reads (at + byte_len (take k cs)) (drop k cs) vs end' rest') same s) e x b

pub tokens_only : (bytes : List ℕ) (r : Result (List Token) SyntaxStop) (ts : List Token) → TokensSay bytes r → AreTokens bytes ts → GivesOnly r ts
tokens_only bytes (Ok tokens) ts said are = one_split said.whole are.whole refl refl
tokens_only bytes (Err Memory) ts said are = refl
tokens_only bytes (Err (NotUtf8 n)) ts said are =
    absurd (said.longest (length bytes) said.short (subst (λ (bs : List ℕ). IsUtf8 bs) (sym (take_all (length bytes) bytes (omega arith))) are.utf8))
tokens_only bytes (Err (BadToken n)) ts said are = absurd (splits_or_stops are.whole said.stops.front refl said.stops.more said.stops.bad)
tokens_only bytes (Err (Nested n)) ts said are = absurd said
tokens_only bytes (Err (Syntax n)) ts said are = absurd said

pub tokens_from_split : (bytes cs : List ℕ) (r : Result (List Token) SyntaxStop) → IsUtf8 bytes → cs ≡ chars bytes → SplitSays cs r → TokensSay bytes r
tokens_from_split bytes cs (Ok tokens) u e said = record { utf8 = u; whole = subst (λ (x : List ℕ). Splits x tokens) e said }
tokens_from_split bytes cs (Err Memory) u e said = tt
tokens_from_split bytes cs (Err (NotUtf8 n)) u e said = absurd said
tokens_from_split bytes cs (Err (BadToken n)) u e said = record { utf8 = u; stops = subst (λ (x : List ℕ). StopsAt x n) e said }
tokens_from_split bytes cs (Err (Nested n)) u e said = absurd said
tokens_from_split bytes cs (Err (Syntax n)) u e said = absurd said

encodes_len : (cs : List ℕ) → length (encodes cs) ≡ byte_len cs
encodes_len [] = refl
encodes_len (c ∷ cs) = rw (sum_by-cons len_utf8 c cs) (omega (arith, length-append (encode c) (encodes cs), length-encode c, encodes_len cs))

pub chars_len : (bytes cs : List ℕ) → IsUtf8 bytes → cs ≡ chars bytes → byte_len cs ≡ length bytes
chars_len bytes cs u e = ap byte_len e ∙ sym (encodes_len (chars bytes)) ∙ ap length (encodes-chars bytes u)

pub tokens_in_order : (bytes : List ℕ) (r : Result (List Token) SyntaxStop) → TokensSay bytes r → IfOk r (λ ts. AreInOrder 0 ts (length bytes))
tokens_in_order bytes (Ok tokens) said =
    subst (λ (to : ℕ). AreInOrder 0 tokens to) (chars_len bytes (chars bytes) said.utf8 refl) (in_order said.whole)
tokens_in_order bytes (Err e) said = tt
