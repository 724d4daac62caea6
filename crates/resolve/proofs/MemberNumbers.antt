-- Numbers of names where those of members are known.
use Rattle.std.proofs.Common.{◌≡◌, ℕ, suc, ◌+◌, ◌-◌, ◌<◌, Bool, true, false, cond, List, [], ◌∷◌, ◌++◌, map, length, reverse, Option, Some, None, option_map, bytes_eq, refl, ap, sym, ◌∙◌, subst, arith}
use Rattle.std.proofs.lemmas.List.{map-append}
use mathlib.Core.List.{reverse-cons}
use Rattle.theory.specs.Terms.{Term, Const}
use Rattle.theory.specs.Signatures.{Signature}
use Rattle.theory.specs.SignatureScopes.{IsConstantNumber}
use Rattle.resolve.specs.MemberNumbers.{MemberNumbers, number_of}
use Rattle.resolve.specs.Names.{Known, Scope, scope_of, variable_of, with_name, with_constants}
use Rattle.resolve.proofs.KnownNames.{IsKnown, with_resolved}
use Rattle.resolve.proofs.Nearest.{variable-near, variable-far, variable-within}
use Rattle.resolve.proofs.ScopedFamilies.{length_scope}

-- the constant with a number, where there is one
abbrev constant_or : Option ℕ → Option Term → Option Term
constant_or (Some c) rest = Some (Const c)
constant_or None rest = rest

scope-cons : (x : List ℕ) (names : List (List ℕ)) → scope_of (x ∷ names) ≡ scope_of names ++ Some x ∷ []
scope-cons x names = ap (map Some) (reverse-cons x names) ∙ map-append Some (reverse names) (x ∷ [])

-- the number, counted from n on
abbrev counted : (n count : ℕ) → Option ℕ → Option ℕ
counted n count found = option_map (λ v. n + (count - (v + 1))) found

constants-known : (n : ℕ) (names : List (List ℕ)) (known : Known) (name : List ℕ) → with_constants n names known name ≡ constant_or (counted n (length names) (variable_of name (scope_of names))) (known name)
constants-known n [] known name = refl
constants-known n (x ∷ names) known name =
    constants-known (n + 1) names (with_name x (Const n) known) name
    ∙ (go (variable_of name near) refl ∙ ap (λ scope. constant_or (counted n (suc (length names)) (variable_of name scope)) (known name)) (sym (scope-cons x names)))
  where
    near : Scope
    near = scope_of names

    whole : Scope
    whole = near ++ Some x ∷ []

    last : (b : Bool) → cond b (Some (Const n)) (known name) ≡ constant_or (counted n (suc (length names)) (option_map (λ v. v + length near) (cond b (Some 0) None))) (known name)
    last true = let count = length_scope names in ap (λ c. Some (Const c)) (omega arith)
    last false = refl

    go : (found : Option ℕ) → variable_of name near ≡ found
        → constant_or (counted (n + 1) (length names) found) (with_name x (Const n) known name) ≡ constant_or (counted n (suc (length names)) (variable_of name whole)) (known name)
    go (Some v) is =
        let low = variable-within name near v is in
        let count = length_scope names in
        let number : n + 1 + (length names - (v + 1)) ≡ n + (suc (length names) - (v + 1)) = omega arith in
        ap (λ c. Some (Const c)) number ∙ ap (λ o. constant_or (counted n (suc (length names)) o) (known name)) (sym (variable-near name near (Some x ∷ []) v is))
    go None is =
        last (bytes_eq x name) ∙ ap (λ o. constant_or (counted n (suc (length names)) o) (known name)) (sym (variable-far name near (Some x ∷ []) is))

-- a member's name stands for its number
pub member-found : (m : MemberNumbers) (known : Known) (name : List ℕ) (c : ℕ) → Some c ≡ number_of m name → Some (Const c) ≡ with_constants m.first m.names known name
member-found m known name c is = ap (λ o. constant_or o (known name)) is ∙ sym (constants-known m.first m.names known name)

-- and each other name for what it stands for otherwise
pub other-found : (m : MemberNumbers) (known : Known) (name : List ℕ) (found : Option Term) → None ≡ number_of m name → found ≡ known name → found ≡ with_constants m.first m.names known name
other-found m known name found none is =
    is ∙ (ap (λ o. constant_or o (known name)) none ∙ sym (constants-known m.first m.names known name))

-- a name that is found is among the names
pub number-within : (names : List (List ℕ)) (name : List ℕ) (v : ℕ) → Some v ≡ variable_of name (scope_of names) → v < length names
number-within names name v is = let low = variable-within name (scope_of names) v (sym is) in let count = length_scope names in omega arith

-- constants of the signature are known
pub constants_resolved : (T : Signature) (n : ℕ) (names : List (List ℕ)) (known : Known) → IsKnown T known → ((k : ℕ) → k < length names → IsConstantNumber T (n + k)) → IsKnown T (with_constants n names known)
constants_resolved T n [] known is there = is
constants_resolved T n (x ∷ names) known is there =
    let first : n + 0 ≡ n = omega arith in
    let next : (k : ℕ) → n + suc k ≡ n + 1 + k = λ k. omega arith in
    constants_resolved T (n + 1) names (with_name x (Const n) known)
    (with_resolved T x (Const n) known (record { scoped = record { variables = omega arith; entries = subst (IsConstantNumber T) first (there 0 (omega arith)) }; low = omega arith }) is)
    (λ k lt. subst (IsConstantNumber T) (next k) (there (suc k) (omega arith)))
