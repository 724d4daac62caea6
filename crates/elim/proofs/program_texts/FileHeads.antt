-- The head lines of a core file.
use Rattle.std.proofs.Common.{◌≡◌, ℕ, ◌+◌, ◌≤◌, Bool, true, false, List, [], ◌∷◌, length, Result, Ok, Err, cond, refl, subst, arith}
use Rattle.std.specs.Prelude.{◌==◌, if◌then◌else◌}
use Rattle.std.proofs.lemmas.Bool.{eqb-true, false≢true}
use Rattle.core_text.specs.Heads.{head, head_of, head_stop, has_head, shared}
use Rattle.core_text.specs.declared.stop.CoreTextStop.{CoreTextStop}
use Rattle.core_text.specs.declared.stop.CoreTextStop.TheVariants.{NotCoreText}

shared-within : (xs ys : List ℕ) → shared xs ys ≤ length xs
shared-within [] ys = omega arith
shared-within (x ∷ xs) [] = omega arith
shared-within (x ∷ xs) (y ∷ ys) = go (x == y) (shared-within xs ys)
  where
    go : (b : Bool) → shared xs ys ≤ length xs → (if b then 1 + shared xs ys else 0) ≤ length (x ∷ xs)
    go true le = omega (arith, le)
    go false le = omega arith

-- a head that is read ends within the file, and has axiom K only where that is allowed
pub record IsHead (k has_k : Bool) (from : ℕ) (text : List ℕ) : Type 0 where
  pub within : from ≤ length text
  pub allowed : has_k ≡ true → k ≡ true

headed : (k has_k : Bool) (text : List ℕ) → has_head has_k text ≡ true → (has_k ≡ true → k ≡ true) → IsHead k has_k (length (head has_k)) text
headed k has_k text h allowed =
    let whole : shared text (head has_k) ≡ length (head has_k) = eqb-true (shared text (head has_k)) (length (head has_k)) h in
    let le = shared-within text (head has_k) in
    record { within = subst (λ n. n ≤ length text) whole le; allowed = allowed }

-- the head that is read, by whether each of the two is there
abbrev head_by : Bool → List ℕ → Bool → Bool → Result (Bool × ℕ) CoreTextStop
head_by k text plain with_k =
    if plain then Ok (false, length (head false))
    else (if cond k with_k false then Ok (true, length (head true)) else Err (NotCoreText (head_stop k text)))

pub is-head : (k has_k : Bool) (from : ℕ) (text : List ℕ) → head_of k text ≡ Ok (has_k, from) → IsHead k has_k from text
is-head k has_k from text is = go (has_head false text) refl (has_head true text) refl is
  where
    same : (a : Bool) (n : ℕ) → IsHead k a n text → ◌≡◌ {A = Result (Bool × ℕ) CoreTextStop} (Ok (a, n)) (Ok (has_k, from)) → IsHead k has_k from text
    same a n h e = let pair : (a, n) ≡ (has_k, from) = pair-is e in subst (λ p. IsHead k p.0 p.1 text) pair h
      where
        pair-is : {x y : Bool × ℕ} → ◌≡◌ {A = Result (Bool × ℕ) CoreTextStop} (Ok x) (Ok y) → x ≡ y
        pair-is eq = cc

    with-k : (a : Bool) → k ≡ a → has_head true text ≡ true → ◌≡◌ {A = Result (Bool × ℕ) CoreTextStop} (if cond a true false then Ok (true, length (head true)) else Err (NotCoreText (head_stop k text))) (Ok (has_k, from)) → IsHead k has_k from text
    with-k true ek h e = same true (length (head true)) (headed k true text h (λ t. ek)) e
    with-k false ek h e = absurd (cc)

    refused : (a : Bool) → ◌≡◌ {A = Result (Bool × ℕ) CoreTextStop} (if cond a false false then Ok (true, length (head true)) else Err (NotCoreText (head_stop k text))) (Ok (has_k, from)) → IsHead k has_k from text
    refused true e = absurd (cc)
    refused false e = absurd (cc)

    go : (b : Bool) → has_head false text ≡ b → (c : Bool) → has_head true text ≡ c → head_by k text b c ≡ Ok (has_k, from) → IsHead k has_k from text
    go true h c g e = same false (length (head false)) (headed k false text h (λ f. absurd (false≢true f))) e
    go false h true g e = with-k k refl g e
    go false h false g e = refused k e
