-- Lemmas on how a text splits.
use Rattle.std.proofs.Common.{◌≡◌, ℕ, ◌+◌, ◌-◌, ◌<◌, ◌≤◌, List, [], ◌∷◌, ◌++◌, take, drop, length, refl, sym, ap, subst, ◌∙◌, arith, append_assoc, length-drop}
use Rattle.std.specs.Char.{len_utf8}
use Rattle.std.proofs.lemmas.Str.{len_utf8_bounds}
use Rattle.std.proofs.lemmas.List.Sums.{sum_by-take-drop, sum_by-cons}
use Rattle.std.proofs.lemmas.List.{drop-drop, drop_all, append-nil}
use Rattle.surface_syntax.specs.declared.token.Token.{Token}
use Rattle.surface_syntax.specs.declared.token.TokenKind.{TokenKind}
use Rattle.surface_syntax.specs.declared.token.Piece.TheVariants.{Gap, Found, Bad}
use Rattle.surface_syntax.specs.Spelling.{piece, byte_len}
use Rattle.surface_syntax.specs.Splitting.{Reads, stop, gap, token, Splits, StopsAt, AreInOrder}

-- the front that was read: if the rest splits into some tokens, the whole splits into these tokens and then those
pub record Goes (cs : List ℕ) (tokens : List Token) (at : ℕ) (rest : List ℕ) : Type 0 where
  pub onward : (more : List Token) (end : ℕ) (final : List ℕ) → Reads at rest more end final → Reads 0 cs (tokens ++ more) end final

pub goes-gap : {cs rest : List ℕ} {tokens : List Token} {at n : ℕ} → Goes cs tokens at rest → piece rest ≡ Gap n → Goes cs tokens (at + byte_len (take n rest)) (drop n rest)
goes-gap g p = record { onward = λ more end final r. g.onward more end final (gap p r) }

pub goes-token : {cs rest : List ℕ} {tokens : List Token} {at n : ℕ} {kind : TokenKind} → Goes cs tokens at rest → piece rest ≡ Found kind n →
    Goes cs (tokens ++ record { kind = kind; start = at; end = at + byte_len (take n rest) } ∷ []) (at + byte_len (take n rest)) (drop n rest)
goes-token {cs} {rest} {tokens} {at} {n} {kind} g p = record {
  onward = λ more end final r. rw append_assoc (g.onward _ end final (token p r));
}

pub length_le_byte_len : (cs : List ℕ) → length cs ≤ byte_len cs
length_le_byte_len [] = omega arith
length_le_byte_len (c ∷ cs) = rw (sum_by-cons len_utf8 c cs) (omega (arith, (len_utf8_bounds c).0, length_le_byte_len cs))

pub byte_len_parts : (cs : List ℕ) (n : ℕ) → byte_len (take n cs) + byte_len (drop n cs) ≡ byte_len cs
byte_len_parts cs n = sum_by-take-drop len_utf8 cs n

pub goes-end : {cs rest : List ℕ} {tokens : List Token} {at : ℕ} → Goes cs tokens at rest → Reads 0 cs tokens at rest
goes-end {cs} {rest} {tokens} {at} g = subst (λ (ts : List Token). Reads 0 cs ts at rest) (append-nil tokens) (g.onward [] at rest stop)

-- the rest is the text from a place on
module _ (cs rest : List ℕ) (tokens : List Token) (at from : ℕ) (e : rest ≡ drop from cs) (g : Goes cs tokens at (drop from cs)) where
  goes_rest : Goes cs tokens at rest
  goes_rest = subst (λ (r : List ℕ). Goes cs tokens at r) (sym e) g

  drop_rest : (n : ℕ) → drop n rest ≡ drop (from + n) cs
  drop_rest n = ap (λ (r : List ℕ). drop n r) e ∙ drop-drop n from cs

  pub within_at : (n : ℕ) → from ≤ length cs → n ≤ length rest → from + n ≤ length cs
  within_at n f h = let l : length rest ≡ length cs - from = ap length e ∙ length-drop from cs in omega arith

  pub goes-gap_at : (n bytes : ℕ) → bytes ≡ byte_len (take n rest) → Gap n ≡ piece rest → Goes cs tokens (at + bytes) (drop (from + n) cs)
  goes-gap_at n bytes b p = rw (b, ← drop_rest n) (goes-gap goes_rest (sym p))

  pub goes-token_at : (kind : TokenKind) (n bytes : ℕ) → bytes ≡ byte_len (take n rest) → Found kind n ≡ piece rest →
      Goes cs (tokens ++ record { kind = kind; start = at; end = at + bytes } ∷ []) (at + bytes) (drop (from + n) cs)
  goes-token_at kind n bytes b p = rw (b, ← drop_rest n) (goes-token goes_rest (sym p))

  pub total_at : (n bytes : ℕ) → bytes ≡ byte_len (take n rest) → at + byte_len (drop from cs) ≡ byte_len cs → at + bytes + byte_len (drop (from + n) cs) ≡ byte_len cs
  total_at n bytes b t =
      let d = ap byte_len (drop_rest n) in
      let r = ap byte_len e in
      omega (arith, byte_len_parts rest n)

  pub stops_at : from < length cs → Bad ≡ piece rest → StopsAt cs at
  stops_at h b = record {
    tokens = tokens;
    rest = rest;
    front = goes-end goes_rest;
    more = λ n. (let l : length rest ≡ length cs - from = ap length e ∙ length-drop from cs in let z : length rest ≡ 0 = ap length n in omega arith);
    bad = sym b;
  }

pub splits_at : (cs : List ℕ) (tokens : List Token) (at from : ℕ) → Goes cs tokens at (drop from cs) → at + byte_len (drop from cs) ≡ byte_len cs → length cs ≤ from → Splits cs tokens
splits_at cs tokens at from g t h =
    let e = drop_all from cs h in
    let z : byte_len (drop from cs) ≡ 0 = rw e refl in
    let whole : at ≡ byte_len cs = omega arith in
    subst (λ (n : ℕ). Reads 0 cs tokens n []) whole (subst (λ (r : List ℕ). Reads 0 cs tokens at r) e (goes-end g))

from_before : (n from : ℕ) (ts : List Token) (to : ℕ) → n ≤ from → AreInOrder from ts to → AreInOrder n ts to
from_before n from [] to h o = omega arith
from_before n from (t ∷ ts) to h o = (omega (arith, o.0), o.1, o.2)

pub in_order : {at end : ℕ} {cs rest : List ℕ} {tokens : List Token} → Reads at cs tokens end rest → AreInOrder at tokens end
in_order stop = omega arith
in_order {at} {end} {cs} {tokens = tokens} (gap {n = n} p r) = from_before at (at + byte_len (take n cs)) tokens end (omega arith) (in_order r)
in_order {at} {end} {cs} (token {n = n} p r) = (omega arith, omega arith, in_order r)
