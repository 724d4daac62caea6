-- One output at most is defined.
use Rattle.std.proofs.Common.{◌≡◌, ℕ, ◌+◌, Bool, true, false, List, [], ◌∷◌, length, take, drop, Option, Some, None, Err, refl, sym, ap, subst, ◌∙◌, arith, codes}
use Rattle.std.specs.Prelude.{bytes_eq, ◌&&◌, if◌then◌else◌}
use Rattle.std.proofs.lemmas.Slice.Eq.{bytes_eq-Decides}
use Rattle.std.specs.Str.{IsUtf8, IsValidUpTo}
use Rattle.std.proofs.lemmas.Str.{utf8_valid_len-IsValidUpTo, utf8_valid_len-IsUtf8}
use Rattle.surface_syntax.specs.Spelling.{piece, byte_len}
use Rattle.surface_syntax.specs.Splitting.{Reads, stop, gap, token, AreTokens, IsBadToken}
use Rattle.surface_syntax.specs.declared.token.Piece.{Piece}
use Rattle.surface_syntax.specs.declared.token.Piece.TheVariants.{Gap, Found, Bad}
use Rattle.surface_syntax.specs.declared.token.Token.{Token}
use Rattle.surface_syntax.specs.declared.token.TokenKind.{TokenKind}
use Rattle.elim.specs.declared.program_texts.text_stop.TextStop.TheVariants as failure
use Rattle.elim.specs.declared.program_texts.words.Command.{Command}
use Rattle.surface_syntax.specs.Parses.{parsed}
use Rattle.elim.specs.declared.program_texts.words.Work.{Work}
use Rattle.elim.specs.elim_program.DefinedOutputs.{refused_words, compiles, verifies, works, HasOneOutput}
use Rattle.elim.specs.elim_program.Outputs.{compiled, text_block}
use Rattle.elim.specs.program_texts.Texts.{Answer, Gives, too_long, not_utf8, bad_token, tokens, limited, read}
use Rattle.elim.specs.elim_program.Verifies.{file_block}
use Rattle.elim.specs.program_texts.Words.{asked, count_of, default_fuel, flags, fuel_of, is_fuel, verify_asked, work_asked, work_of}
use Rattle.elim.specs.elim_program.WorkTexts.{work_text}
use Rattle.elim.specs.elim_program.Works.{work_output}

gap-of : Piece → ℕ → ℕ
gap-of (Gap n) m = n
gap-of (Found kind n) m = n
gap-of Bad m = m

same-gap : (p : Piece) (n m : ℕ) → p ≡ Gap n → p ≡ Gap m → n ≡ m
unfolding gap-of
same-gap p n m e f = ap (λ x. gap-of x n) (sym e ∙ f)

same-length : (p : Piece) (k l : TokenKind) (n m : ℕ) → p ≡ Found k n → p ≡ Found l m → n ≡ m
unfolding gap-of
same-length p k l n m e f = ap (λ x. gap-of x n) (sym e ∙ f)

kind-of : TokenKind → Piece → TokenKind
kind-of k (Found l n) = l
kind-of k _ = k

same-kind : (p : Piece) (k l : TokenKind) (n m : ℕ) → p ≡ Found k n → p ≡ Found l m → k ≡ l
unfolding kind-of
same-kind p k l n m e f = ap (kind-of k) (sym e ∙ f)

-- tokens that are read up to a place at which nothing is found are the same, and so are their end and the rest
record AreSame (ts us : List Token) (a b : ℕ) (r s : List ℕ) : Type 0 where
  tokens : ts ≡ us
  end : a ≡ b
  rest : r ≡ s

same : {at a b : ℕ} {cs r s : List ℕ} {ts us : List Token} → Reads at cs ts a r → piece r ≡ Bad → Reads at cs us b s → piece s ≡ Bad → AreSame ts us a b r s
same stop p stop q = record { tokens = refl; end = refl; rest = refl }
same stop p (gap e f) q = absurd (let k = sym p ∙ e in cc)
same stop p (token e f) q = absurd (let k = sym p ∙ e in cc)
same (gap e f) p stop q = absurd (let k = sym q ∙ e in cc)
same {at} {a} {b} {cs} {r} {s} {ts} {us} (gap {n = n} e f) p (gap {n = m} g h) q =
    let R : ℕ → Type 0 = λ k. Reads (at + byte_len (take k cs)) (drop k cs) us b s in
    same f p (subst R (sym (same-gap (piece cs) n m e g)) h) q
same (gap e f) p (token g h) q = absurd (let k = sym e ∙ g in cc)
same (token e f) p stop q = absurd (let k = sym q ∙ e in cc)
same (token e f) p (gap g h) q = absurd (let k = sym e ∙ g in cc)
same {at} {a} {b} {cs} {r} {s} {ts} {us} (token {n = n} {tokens = ts'} {kind = k} e f) p (token {n = m} {tokens = us'} {kind = l} g h) q =
    let R : ℕ → Type 0 = λ k. Reads (at + byte_len (take k cs)) (drop k cs) us' b s in
    let n-is : n ≡ m = same-length (piece cs) k l n m e g in
    let rest = same f p (subst R (sym n-is) h) q in
    record {
      tokens =
          ap (λ x. record { kind = k; start = at; end = at + byte_len (take n cs) } ∷ x) rest.tokens
          ∙ ap (λ x. record { kind = k; start = at; end = at + byte_len (take x cs) } ∷ us') n-is
          ∙ ap (λ x. record { kind = x; start = at; end = at + byte_len (take m cs) } ∷ us') (same-kind (piece cs) k l n m e g);
      end = rest.end;
      rest = rest.rest;
    }

-- UTF-8 has no first byte that begins no character
not-both : (bytes : List ℕ) (offset : ℕ) → IsValidUpTo bytes offset → IsUtf8 bytes → ⊥
not-both bytes offset v u = let e = utf8_valid_len-IsValidUpTo bytes offset v in let f = utf8_valid_len-IsUtf8 bytes u in let g = v.short in omega (arith, sym e ∙ f, g)

bad-or-tokens : (bytes : List ℕ) (offset : ℕ) (found : List Token) → IsBadToken bytes offset → AreTokens bytes found → ⊥
bad-or-tokens bytes offset found b t = b.stops.more (same b.stops.front b.stops.bad t.whole refl).rest

one_answer : (bytes : List ℕ) (x y : Answer) → Gives bytes x → Gives bytes y → x ≡ y
one_answer bytes x y (too_long h) (too_long k) = refl
one_answer bytes x y (too_long h) (not_utf8 o k v) = absurd (omega (arith, h, k))
one_answer bytes x y (too_long h) (bad_token o k b) = absurd (omega (arith, h, k))
one_answer bytes x y (too_long h) (tokens ts k t) = absurd (omega (arith, h, k))
one_answer bytes x y (not_utf8 o h v) (too_long k) = absurd (omega (arith, h, k))
one_answer bytes x y (not_utf8 o h v) (not_utf8 o' k w) = ap (λ n. Err (failure.NotUtf8 n)) (sym (utf8_valid_len-IsValidUpTo bytes o v) ∙ utf8_valid_len-IsValidUpTo bytes o' w)
one_answer bytes x y (not_utf8 o h v) (bad_token o' k b) = absurd (not-both bytes o v b.utf8)
one_answer bytes x y (not_utf8 o h v) (tokens ts k t) = absurd (not-both bytes o v t.utf8)
one_answer bytes x y (bad_token o h b) (too_long k) = absurd (omega (arith, h, k))
one_answer bytes x y (bad_token o h b) (not_utf8 o' k v) = absurd (not-both bytes o' v b.utf8)
one_answer bytes x y (bad_token o h b) (bad_token o' k c) = ap (λ n. Err (failure.BadToken n)) (same b.stops.front b.stops.bad c.stops.front c.stops.bad).end
one_answer bytes x y (bad_token o h b) (tokens ts k t) = absurd (bad-or-tokens bytes o ts b t)
one_answer bytes x y (tokens ts h t) (too_long k) = absurd (omega (arith, h, k))
one_answer bytes x y (tokens ts h t) (not_utf8 o k v) = absurd (not-both bytes o v t.utf8)
one_answer bytes x y (tokens ts h t) (bad_token o k b) = absurd (bad-or-tokens bytes o ts b t)
one_answer bytes x y (tokens ts h t) (tokens us k u) = ap (λ ts. read (parsed bytes ts)) (same t.whole refl u.whole refl).tokens

fuel-or : Command → Option Command → Command
fuel-or c (Some d) = d
fuel-or c None = c

pub same-command : (o : Option Command) (c d : Command) → o ≡ Some c → o ≡ Some d → c ≡ d
unfolding fuel-or
same-command o c d e f = ap (fuel-or c) (sym e ∙ f)

-- no words ask for both
pub not-both-asked : (words : List (List ℕ)) (c d : Command) → asked words ≡ Some c → verify_asked words ≡ Some d → ⊥
not-both-asked [] c d e f = cc
not-both-asked (mode ∷ words) c d e f = go (bytes_eq mode (codes "compile")) refl (bytes_eq mode (codes "verify")) refl e f
  where
    go : (a : Bool) → bytes_eq mode (codes "compile") ≡ a → (b : Bool) → bytes_eq mode (codes "verify") ≡ b → (if a then flags words else None) ≡ Some c → (if b then flags words else None) ≡ Some d → ⊥
    go true h true g e f =
        let one = ap (length {A = ℕ}) ((bytes_eq-Decides mode (codes "compile")).0 h) in
        let other = ap (length {A = ℕ}) ((bytes_eq-Decides mode (codes "verify")).0 g) in omega (arith, one, other)
    go true h false g e f = cc
    go false h b g e f = cc

-- words that ask for `work` begin with it
work-first : (words : List (List ℕ)) (w : Work) → work_asked words ≡ Some w → (rest : List (List ℕ)) × (words ≡ codes "work" ∷ rest)
work-first [] w e = cc
work-first (mode ∷ []) w e = cc
work-first (mode ∷ count ∷ []) w e = go (bytes_eq mode (codes "work")) refl e
  where
    go : (a : Bool) → bytes_eq mode (codes "work") ≡ a → (if a then work_of (count_of count) (Some default_fuel) else None) ≡ Some w → (rest : List (List ℕ)) × (mode ∷ count ∷ [] ≡ codes "work" ∷ rest)
    go true h e = (count ∷ [], ap (λ m. m ∷ count ∷ []) ((bytes_eq-Decides mode (codes "work")).0 h))
    go false h e = cc
work-first (mode ∷ count ∷ flag ∷ []) w e = cc
work-first (mode ∷ count ∷ flag ∷ fuel ∷ []) w e = go (bytes_eq mode (codes "work")) refl (is_fuel flag) e
  where
    go : (a : Bool) → bytes_eq mode (codes "work") ≡ a → (b : Bool) → (if a && b then work_of (count_of count) (fuel_of fuel) else None) ≡ Some w
        → (rest : List (List ℕ)) × (mode ∷ count ∷ flag ∷ fuel ∷ [] ≡ codes "work" ∷ rest)
    go true h b e = (count ∷ flag ∷ fuel ∷ [], ap (λ m. m ∷ count ∷ flag ∷ fuel ∷ []) ((bytes_eq-Decides mode (codes "work")).0 h))
    go false h b e = cc
work-first (mode ∷ count ∷ flag ∷ fuel ∷ more ∷ words) w e = cc

-- no words ask for `work` and for something else
pub work-no-compile : (words : List (List ℕ)) (w : Work) → work_asked words ≡ Some w → asked words ≡ None
work-no-compile words w e = ap asked (work-first words w e).1

pub work-no-verify : (words : List (List ℕ)) (w : Work) → work_asked words ≡ Some w → verify_asked words ≡ None
work-no-verify words w e = ap verify_asked (work-first words w e).1

work-or : Work → Option Work → Work
work-or w (Some v) = v
work-or w None = w

same-work : (o : Option Work) (w v : Work) → o ≡ Some w → o ≡ Some v → w ≡ v
unfolding work-or
same-work o w v e f = ap (work-or w) (sym e ∙ f)

pub one_output : HasOneOutput
one_output words bytes a b (refused_words e g i) (refused_words f h j) = refl
one_output words bytes a b (refused_words e n o) (compiles c x f g) = absurd (let k = sym e ∙ f in cc)
one_output words bytes a b (compiles c x e g) (refused_words f n o) = absurd (let k = sym e ∙ f in cc)
one_output words bytes a b (refused_words e n o) (works w x f g) = absurd (let k = sym o ∙ f in cc)
one_output words bytes a b (works w x e g) (refused_words f n o) = absurd (let k = sym o ∙ e in cc)
one_output words bytes a b (compiles c x e g) (works w y f h) = absurd (let k = sym (work-no-compile words w f) ∙ e in cc)
one_output words bytes a b (works w y f h) (compiles c x e g) = absurd (let k = sym (work-no-compile words w f) ∙ e in cc)
one_output words bytes a b (verifies c e) (works w y f h) = absurd (let k = sym (work-no-verify words w f) ∙ e in cc)
one_output words bytes a b (works w y f h) (verifies c e) = absurd (let k = sym (work-no-verify words w f) ∙ e in cc)
one_output words bytes a b (works w x e g) (works v y f h) =
    let s : w ≡ v = same-work (work_asked words) w v e f in
    ap (work_output w) (one_answer (work_text w.count) x y g (subst (λ z. Gives (work_text z.count) y) (sym s) h)) ∙ ap (λ z. work_output z y) s
one_output words bytes a b (compiles c x e g) (compiles d y f h) =
    ap (λ z. compiled c.k (text_block c z)) (one_answer bytes x y g h) ∙ ap (λ z. compiled z.k (text_block z y)) (same-command (asked words) c d e f)
one_output words bytes a b (refused_words e n o) (verifies c f) = absurd (let k = sym n ∙ f in cc)
one_output words bytes a b (verifies c e) (refused_words f n o) = absurd (let k = sym n ∙ e in cc)
one_output words bytes a b (compiles c x e g) (verifies d f) = absurd (not-both-asked words c d e f)
one_output words bytes a b (verifies c e) (compiles d y f h) = absurd (not-both-asked words d c f e)
one_output words bytes a b (verifies c e) (verifies d f) =
    ap (λ z. compiled z.k (file_block z (limited bytes))) (same-command (verify_asked words) c d e f)
