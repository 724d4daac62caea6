-- Tests of names, and how a set of owned bytes shows them.
use Rattle.std.proofs.Common.{◌≡◌, ℕ, Bool, true, false, List, [], ◌∷◌, map, ◌||◌, bytes_eq, Vec, refl, ap, sym, ◌∙◌, true≢false}
use Rattle.std.proofs.lemmas.Slice.Eq.{bytes_eq-Decides}
use Rattle.std.specs.List.{list_any}
use Rattle.std.specs.declared.alloc.Global.{Global}

-- a test by the bytes of keys is one by names
pub any_shown : (name : List ℕ) (keys : List (Vec ℕ Global)) → list_any (λ key. bytes_eq name key.items) keys ≡ list_any (bytes_eq name) (map (λ key. key.items) keys)
any_shown name [] = refl
any_shown name (key ∷ keys) = ap (λ b. bytes_eq name key.items || b) (any_shown name keys)

-- names are equal in both orders
pub bytes_eq-swap : (xs ys : List ℕ) → bytes_eq xs ys ≡ bytes_eq ys xs
bytes_eq-swap xs ys = go (bytes_eq xs ys) (bytes_eq ys xs) refl refl
  where
    go : (b c : Bool) → bytes_eq xs ys ≡ b → bytes_eq ys xs ≡ c → b ≡ c
    go true true e f = refl
    go false false e f = refl
    go true false e f = absurd (true≢false (sym ((bytes_eq-Decides ys xs).1 (sym ((bytes_eq-Decides xs ys).0 e))) ∙ f))
    go false true e f = absurd (true≢false (sym ((bytes_eq-Decides xs ys).1 (sym ((bytes_eq-Decides ys xs).0 f))) ∙ e))
