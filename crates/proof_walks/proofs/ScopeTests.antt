-- The tests answer true exactly where terms, telescopes and places are scoped.
use Rattle.std.proofs.Common.{◌≡◌, ◌≤◌, ◌↔◌, ℕ, ◌+◌, nat_le, Bool, true, false, ◌&&◌, IsTrue, List, [], ◌∷◌, length, refl, arith}
use Rattle.std.proofs.lemmas.Bool.Decides.{nat_tests}
use Rattle.std.proofs.lemmas.List.Elements.{All-nil, All-cons}
use Rattle.std.specs.List.{All}
use Rattle.std.proofs.lemmas.Bool.{and_parts}
use Rattle.theory.specs.Terms.{Term, free_of}
use Rattle.theory.specs.Telescopes.{Telescope}
use Rattle.theory.specs.Signatures.{Signature}
use Rattle.theory.specs.SignatureScopes.{IsScoped, IsScopedTelescope}
use Rattle.core_sig.specs.ScopeTests.{has_entries}
use Rattle.core_sig.proofs.ScopeTests.{entries-tell, entries-told}
use Rattle.tree_translation.proofs.SeenOrders.{same-test}
use Rattle.clause_reports.specs.ProofWalks.{Place}
use Rattle.proof_walks.specs.PlaceScopes.{IsScopedPlace, is_scoped, is_scoped_telescope, are_scoped, is_scoped_over, is_scoped_place}

pub term-tells : (S : Signature) (n : ℕ) (t : Term) → is_scoped S n t ≡ true → IsScoped S n t
term-tells S n t h =
    let p = and_parts (nat_le (free_of t) n) (has_entries S t) h in
    record { variables = grind (arith, nat_tests); entries = entries-tell S t p.1 }

pub term-told : (S : Signature) (n : ℕ) (t : Term) → IsScoped S n t → is_scoped S n t ≡ true
term-told S n t h = go (nat_le (free_of t) n) refl
  where
    go : (b : Bool) → nat_le (free_of t) n ≡ b → (b && has_entries S t) ≡ true
    go true e = entries-told S t h.entries
    go false e = absurd (let le : free_of t ≤ n = h.variables in grind (arith, nat_tests))

pub test-is : (S : Signature) (n : ℕ) (t : Term) (result : Bool) → (IsTrue result ↔ IsScoped S n t) → result ≡ is_scoped S n t
test-is S n t result h = same-test result (is_scoped S n t) (λ yes. term-told S n t (h.0 yes)) (λ yes. h.1 (term-tells S n t yes))

telescope-tells : (S : Signature) (n : ℕ) (tele : Telescope) → is_scoped_telescope S n tele ≡ true → IsScopedTelescope S n tele
telescope-tells S n [] h = tt
telescope-tells S n (a ∷ tele) h =
    let p = and_parts (is_scoped S n a) (is_scoped_telescope S (n + 1) tele) h in
    (term-tells S n a p.0, telescope-tells S (n + 1) tele p.1)

terms-tell : (S : Signature) (n : ℕ) (ts : List Term) → are_scoped S n ts ≡ true → All (IsScoped S n) ts
terms-tell S n [] h = All-nil (IsScoped S n)
terms-tell S n (t ∷ ts) h =
    let p = and_parts (is_scoped S n t) (are_scoped S n ts) h in
    All-cons (IsScoped S n) t ts (term-tells S n t p.0) (terms-tell S n ts p.1)

pub place-tells : (S : Signature) (p : Place) → is_scoped_place S p ≡ true → IsScopedPlace S p
place-tells S p h =
    let n = length p.context in
    let context = and_parts (is_scoped_telescope S 0 p.context) (is_scoped_over S n p) h in
    let type = and_parts (is_scoped S n p.type) (is_scoped S n p.left && (is_scoped S n p.right && (are_scoped S n p.terms && are_scoped S n p.values))) context.1 in
    let left = and_parts (is_scoped S n p.left) (is_scoped S n p.right && (are_scoped S n p.terms && are_scoped S n p.values)) type.1 in
    let right = and_parts (is_scoped S n p.right) (are_scoped S n p.terms && are_scoped S n p.values) left.1 in
    let terms = and_parts (are_scoped S n p.terms) (are_scoped S n p.values) right.1 in
    record {
      context = telescope-tells S 0 p.context context.0;
      type = term-tells S n p.type type.0;
      left = term-tells S n p.left left.0;
      right = term-tells S n p.right right.0;
      terms = terms-tell S n p.terms terms.0;
      values = terms-tell S n p.values terms.1;
    }
