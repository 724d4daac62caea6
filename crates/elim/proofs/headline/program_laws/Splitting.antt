-- A source file splits into tokens, or there is a first place at which no token begins.
use Rattle.std.proofs.Common.{◌≡◌, ◌≢◌, ℕ, zero, suc, ◌+◌, ◌<◌, ◌≤◌, Bool, ◌⊎◌, inl, inr, List, [], ◌∷◌, length, take, drop, refl, ap, subst, arith, length-append, length-drop}
use Rattle.std.specs.Str.{IsUtf8, chars}
use Rattle.std.proofs.lemmas.List.Sums.{sum_by-take-drop}
use Rattle.std.specs.Char.{len_utf8}
use Rattle.surface_syntax.specs.Spelling.{piece, byte_len}
use Rattle.surface_syntax.specs.Splitting.{Reads, stop, gap, token, AreTokens, IsBadToken}
use Rattle.surface_syntax.specs.Tokens.{IsGap, blank, comment, Spells, keyword, plain, dotted, number, mark, arrow, IsFirstToken}
use Rattle.surface_syntax.specs.declared.token.Piece.{Piece}
use Rattle.surface_syntax.specs.declared.token.Piece.TheVariants.{Gap, Found, Bad}
use Rattle.surface_syntax.specs.declared.token.Token.{Token}
use Rattle.surface_syntax.specs.declared.token.TokenKind.{TokenKind}
use Rattle.surface_syntax.proofs.FirstTokens.{name_some, number_some}
use Rattle.surface_syntax.proofs.TokenLaws.{found_first, gap_is}

gap-some : {cs : List ℕ} {n : ℕ} → IsGap cs n → (0 < n) × (n ≤ length cs)
gap-some (blank e) = (omega arith, omega arith)
gap-some (comment line rest h e) = let a = length-append line rest in (omega arith, omega arith)

spelled-some : {of : TokenKind} {text : List ℕ} {fits : Bool} → Spells of text fits → 0 < length text
spelled-some (keyword name k) = name_some name
spelled-some (plain name k) = name_some name
spelled-some (dotted {cs = cs} {ds = ds} name k n) = let a = length-append cs (46 ∷ ds) in omega arith
spelled-some (number n) = number_some n
spelled-some (mark m) = omega arith
spelled-some arrow = omega arith

token-some : {cs : List ℕ} {of : TokenKind} {n : ℕ} → IsFirstToken cs of n → (0 < n) × (n ≤ length cs)
token-some {cs} {of} {n} w =
    let a = ap length w.parts in
    let b = length-append w.text w.rest in
    let c = w.size in
    let d = spelled-some w.spelled in
    (omega arith, omega arith)

-- the characters read up to their end, or up to a place at which nothing is found
data Ended (at : ℕ) (cs : List ℕ) : Type 0 where
  all : (tokens : List Token) → Reads at cs tokens (at + byte_len cs) [] → Ended at cs
  bad : (tokens : List Token) (end : ℕ) (rest : List ℕ) → Reads at cs tokens end rest → rest ≢ [] → piece rest ≡ Bad → Ended at cs

-- the length of what is read and of what is left
parts : (at n : ℕ) (cs : List ℕ) → at + byte_len (take n cs) + byte_len (drop n cs) ≡ at + byte_len cs
parts at n cs = let a = sum_by-take-drop len_utf8 cs n in omega arith

over-gap : (at n : ℕ) (cs : List ℕ) → piece cs ≡ Gap n → Ended (at + byte_len (take n cs)) (drop n cs) → Ended at cs
over-gap at n cs e (all tokens r) = all tokens (subst (λ end. Reads at cs tokens end []) (parts at n cs) (gap e r))
over-gap at n cs e (bad tokens end rest r some b) = bad tokens end rest (gap e r) some b

over-token : (at n : ℕ) (of : TokenKind) (cs : List ℕ) → piece cs ≡ Found of n → Ended (at + byte_len (take n cs)) (drop n cs) → Ended at cs
over-token at n of cs e (all tokens r) =
    let first : Token = record { kind = of; start = at; end = at + byte_len (take n cs) } in
    all (first ∷ tokens) (subst (λ end. Reads at cs (first ∷ tokens) end []) (parts at n cs) (token e r))
over-token at n of cs e (bad tokens end rest r some b) = bad (record { kind = of; start = at; end = at + byte_len (take n cs) } ∷ tokens) end rest (token e r) some b

shorter : (n k : ℕ) (cs : List ℕ) → 0 < n → n ≤ length cs → length cs ≤ suc k → length (drop n cs) ≤ k
shorter n k cs some within le = let a = length-drop n cs in omega arith

ended : (k at : ℕ) (cs : List ℕ) → length cs ≤ k → Ended at cs
ended k at [] le = all [] (subst (λ end. Reads at [] [] end []) (let e : at ≡ at + 0 = omega arith in e) stop)
ended zero at (c ∷ cs) le = absurd (omega arith)
ended (suc k) at (c ∷ cs) le = by (piece (c ∷ cs)) refl (λ n. ended k (at + byte_len (take n (c ∷ cs))) (drop n (c ∷ cs)))
  where
    by : (p : Piece) → piece (c ∷ cs) ≡ p → ((n : ℕ) → length (drop n (c ∷ cs)) ≤ k → Ended (at + byte_len (take n (c ∷ cs))) (drop n (c ∷ cs))) → Ended at (c ∷ cs)
    by (Gap n) e further =
        let w = gap-some (gap_is (c ∷ cs) n e) in over-gap at n (c ∷ cs) e (further n (shorter n k (c ∷ cs) w.0 w.1 le))
    by (Found of n) e further =
        let w = token-some (found_first (c ∷ cs) of n e) in over-token at n of (c ∷ cs) e (further n (shorter n k (c ∷ cs) w.0 w.1 le))
    by Bad e further = bad [] at (c ∷ cs) stop (λ q. cc) e

from-start : (cs : List ℕ) → Ended 0 cs
from-start cs = ended (length cs) 0 cs (omega arith)

-- UTF-8 splits into tokens, or has a first place at which none is
pub tokens_or_bad : (bytes : List ℕ) → IsUtf8 bytes → ((tokens : List Token) × AreTokens bytes tokens) ⊎ ((offset : ℕ) × IsBadToken bytes offset)
tokens_or_bad bytes utf8 = by (from-start (chars bytes))
  where
    by : Ended 0 (chars bytes) → ((tokens : List Token) × AreTokens bytes tokens) ⊎ ((offset : ℕ) × IsBadToken bytes offset)
    by (all tokens r) = inl (tokens, record { utf8 = utf8; whole = subst (λ end. Reads 0 (chars bytes) tokens end []) (let e : 0 + byte_len (chars bytes) ≡ byte_len (chars bytes) = omega arith in e) r })
    by (bad tokens end rest r some b) = inr (end, record { utf8 = utf8; stops = record { tokens = tokens; rest = rest; front = r; more = some; bad = b } })
