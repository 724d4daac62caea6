-- How the map of last places changes with a binder more.
use Rattle.std.proofs.Common.{◌≡◌, ℕ, suc, ◌+◌, ◌-◌, ◌≤◌, ◌<◌, Bool, true, false, cond, List, [], ◌∷◌, ◌++◌, length, reverse, Option, Some, None, option_map, Result, Ok, bytes_eq, Vec, refl, ap, ap₂, sym, ◌∙◌, true≢false, arith}
use Rattle.std.proofs.lemmas.List.{length-reverse}
use Rattle.std.proofs.lemmas.Slice.Eq.{bytes_eq-Decides}
use Rattle.std.specs.declared.alloc.Global.{Global}
use Rattle.indexmap.specs.IndexMap.{insert_entry}
use Rattle.std.proofs.lemmas.Option.{none-some}
use Rattle.theory.proofs.Lists.{some_is}
use Rattle.resolve.specs.declared.stop.ResolveStop.{ResolveStop}
use Rattle.resolve.specs.Names.{Scope, has_name, variable_of}
use Rattle.resolve.specs.Nearest.{last_of}
use Rattle.core_sig.proofs.NamesShown.{bytes_eq-swap}

abbrev Places : Type 0
Places = List (Vec ℕ Global × ℕ)

-- a name that is written at a place is there, and the others are where they were
pub last-insert : (name : List ℕ) (places : Places) (key : Vec ℕ Global) (at : ℕ)
    → last_of name (insert_entry (λ p q. bytes_eq p.items q.items) places key at) ≡ cond (bytes_eq name key.items) (Some at) (last_of name places)
last-insert name [] key at = refl
last-insert name (p ∷ places) key at = go (last-insert name places key at) (bytes_eq key.items p.0.items) refl
  where
    same : (b : Bool) (found : Option ℕ) → cond b (Some at) found ≡ cond b (Some at) (cond b (Some p.1) found)
    same true found = refl
    same false found = refl

    apart : (b c : Bool) (found : Option ℕ) → (b ≡ true → c ≡ true → ⊥) → cond c (Some p.1) (cond b (Some at) found) ≡ cond b (Some at) (cond c (Some p.1) found)
    apart true true found never = absurd (never refl refl)
    apart true false found never = refl
    apart false true found never = refl
    apart false false found never = refl

    both : bytes_eq key.items p.0.items ≡ false → bytes_eq name key.items ≡ true → bytes_eq name p.0.items ≡ true → ⊥
    both e k q = true≢false (sym ((bytes_eq-Decides key.items p.0.items).1 (sym ((bytes_eq-Decides name key.items).0 k) ∙ (bytes_eq-Decides name p.0.items).0 q)) ∙ e)

    go : last_of name (insert_entry (λ p q. bytes_eq p.items q.items) places key at) ≡ cond (bytes_eq name key.items) (Some at) (last_of name places) → (b : Bool) → bytes_eq key.items p.0.items ≡ b
        → last_of name (cond b ((p.0, at) ∷ places) (p ∷ insert_entry (λ p q. bytes_eq p.items q.items) places key at)) ≡ cond (bytes_eq name key.items) (Some at) (last_of name (p ∷ places))
    go behind true e =
        let same_key = (bytes_eq-Decides key.items p.0.items).0 e in
        same (bytes_eq name p.0.items) (last_of name places)
        ∙ ap (λ k. cond (bytes_eq name k) (Some at) (last_of name (p ∷ places))) (sym same_key)
    go behind false e =
        ap (cond (bytes_eq name p.0.items) (Some p.1)) behind
        ∙ apart (bytes_eq name key.items) (bytes_eq name p.0.items) (last_of name places) (both e)

-- the place of a variable, counted from the outermost of n binders
abbrev pub from_outermost : ℕ → Option ℕ → Option ℕ
from_outermost n found = option_map (λ k. n - (k + 1)) found

-- a variable is one of the binders
pub variable-within : (name : List ℕ) (scope : Scope) (n : ℕ) → variable_of name scope ≡ Some n → n < length scope
variable-within name [] n is = absurd (none-some n is)
variable-within name (x ∷ scope) n is = go (has_name name x) (variable_of name scope) (variable-within name scope) is
  where
    go : (b : Bool) (found : Option ℕ) → ((k : ℕ) → found ≡ Some k → k < length scope) → cond b (Some 0) (option_map (λ k. k + 1) found) ≡ Some n → n < suc (length scope)
    go true found inside e = let z = some_is e in omega arith
    go false (Some k) inside e = let z = some_is e in let h = inside k refl in omega arith
    go false None inside e = absurd (none-some n e)

-- the last place of a name gives the number of its variable
pub nearest-found : (name : List ℕ) (names : List (Option (List ℕ))) (at : Option ℕ) → at ≡ from_outermost (length names) (variable_of name (reverse names))
    → variable_of name (reverse names) ≡ option_map (λ k. length names - 1 - k) at
nearest-found name names at is = go (variable_of name (reverse names)) refl ∙ sym (ap (option_map (λ k. length names - 1 - k)) is)
  where
    go : (found : Option ℕ) → variable_of name (reverse names) ≡ found → found ≡ option_map (λ k. length names - 1 - k) (from_outermost (length names) found)
    go (Some n) e = let h = variable-within name (reverse names) n e in let l = length-reverse names in ap Some (omega arith)
    go None e = refl

-- the last place of a name after an insertion, with the test in the other order
pub last-insert-swap : (name : List ℕ) (places : Places) (key : Vec ℕ Global) (at : ℕ) (text : List ℕ) → key.items ≡ text
    → last_of name (insert_entry (λ p q. bytes_eq p.items q.items) places key at) ≡ cond (bytes_eq text name) (Some at) (last_of name places)
last-insert-swap name places key at text is =
    last-insert name places key at
    ∙ (ap (λ b. cond b (Some at) (last_of name places)) (bytes_eq-swap name key.items)
    ∙ ap (λ k. cond (bytes_eq k name) (Some at) (last_of name places)) is)

-- a place is one of the binders
pub nearest-within : (name : List ℕ) (names : List (Option (List ℕ))) (at : ℕ) → Some at ≡ from_outermost (length names) (variable_of name (reverse names))
    → (1 ≤ length names) × (at ≤ length names - 1)
nearest-within name names at is = go (variable_of name (reverse names)) refl is
  where
    go : (found : Option ℕ) → variable_of name (reverse names) ≡ found → Some at ≡ from_outermost (length names) found → (1 ≤ length names) × (at ≤ length names - 1)
    go (Some n) e is = let h = variable-within name (reverse names) n e in let l = length-reverse names in let a = some_is is in (omega arith, omega arith)
    go None e is = absurd (none-some at (sym is))

-- a variable among the nearest binders
pub variable-near : (name : List ℕ) (near far : Scope) (n : ℕ) → variable_of name near ≡ Some n → variable_of name (near ++ far) ≡ Some n
variable-near name [] far n is = absurd (none-some n is)
variable-near name (x ∷ near) far n is = go (has_name name x) (variable_of name near) (variable-near name near far) is
  where
    go : (b : Bool) (found : Option ℕ) → ((k : ℕ) → found ≡ Some k → variable_of name (near ++ far) ≡ Some k)
        → cond b (Some 0) (option_map (λ k. k + 1) found) ≡ Some n → cond b (Some 0) (option_map (λ k. k + 1) (variable_of name (near ++ far))) ≡ Some n
    go true found inside e = e
    go false (Some k) inside e = ap (option_map (λ k. k + 1)) (inside k refl) ∙ e
    go false None inside e = absurd (none-some n e)

-- a variable after them
pub variable-far : (name : List ℕ) (near far : Scope) → variable_of name near ≡ None → variable_of name (near ++ far) ≡ option_map (λ n. n + length near) (variable_of name far)
variable-far name [] far is = zeroed (variable_of name far)
  where
    zeroed : (found : Option ℕ) → found ≡ option_map (λ n. n + 0) found
    zeroed (Some n) = ap Some (omega arith)
    zeroed None = refl
variable-far name (x ∷ near) far is = go (has_name name x) (variable_of name near) (variable-far name near far) is
  where
    more : (found : Option ℕ) → option_map (λ k. k + 1) (option_map (λ n. n + length near) found) ≡ option_map (λ n. n + suc (length near)) found
    more (Some n) = ap Some (omega arith)
    more None = refl

    go : (b : Bool) (found : Option ℕ) → (found ≡ None → variable_of name (near ++ far) ≡ option_map (λ n. n + length near) (variable_of name far))
        → cond b (Some 0) (option_map (λ k. k + 1) found) ≡ None
        → cond b (Some 0) (option_map (λ k. k + 1) (variable_of name (near ++ far))) ≡ option_map (λ n. n + suc (length near)) (variable_of name far)
    go true found inside e = absurd (none-some 0 (sym e))
    go false (Some k) inside e = absurd (none-some (k + 1) (sym e))
    go false None inside e = ap (option_map (λ k. k + 1)) (inside refl) ∙ more (variable_of name far)

-- a name that is found after them, counted from the nearest
pub far_found : (name : List ℕ) (near far : Scope) (found : Option ℕ) (n : ℕ) → variable_of name near ≡ None → ◌≡◌ {A = Result (Option ℕ) ResolveStop} (Ok found) (Ok (variable_of name far)) → n ≡ length near
    → option_map (λ k. k + n) found ≡ variable_of name (near ++ far)
far_found name near far found n none is count =
    let same : found ≡ variable_of name far = cc in
    ap₂ (λ o m. option_map (λ k. k + m) o) same count ∙ sym (variable-far name near far none)
