-- The types of variables, sorts and symbols, as they are found and made in a store.
use Rattle.std.proofs.Common.{◌≡◌, ℕ, ◌+◌, ◌<◌, ◌≤◌, Bool, true, false, cond, nat_lt, Option, Some, None, Result, Ok, Err, slice_get, refl, sym, ap, ◌∙◌, arith}
use Rattle.std.proofs.lemmas.Bool.Decides.{nat_tests}
use Rattle.theory.specs.Terms as tree
use Rattle.theory.specs.Terms.{Term, lift, height, top}
use Rattle.theory.specs.Telescopes.{Context}
use Rattle.theory.specs.Signatures.{Signature}
use Rattle.theory.proofs.Heights.{height-lift}
use Rattle.core_terms.specs.Answers.{Gives, is_low}
use Rattle.core_terms.specs.Bounds.{most_free}
use Rattle.core_terms.specs.Verdicts.{Reason, LevelTooHigh}
use Rattle.core_terms.specs.Verdicts.Verdict.{Yes}
use Rattle.core_terms.specs.declared.stop.Stop.{Stop}
use Rattle.core_terms.specs.declared.stop.Stop.TheVariants.{Memory, Deep, PoolFull}
use Rattle.term_pool.specs.Held.{Held, AddsParts, IsFullFor}
use Rattle.term_pool.specs.Nodes.{says}
use Rattle.term_pool.specs.Parts.{IsPart}
use Rattle.term_pool.specs.declared.node.Node.{Node}
use Rattle.term_pool.specs.declared.node.Node.TheVariants.{Var, Sort, Pi, Lam, App, Let, Const, Fam, Con, Elim, AxiomK}
use Rattle.store_reduce.specs.Additions.{AddsOnly, IsFullOf}
use Rattle.store_reduce.proofs.Adding.{adds-parts, lacks-parts}
use Rattle.kernel_check.specs.Asked.{IsLeafPart}
use Rattle.kernel_check.specs.Checking.{typed as of_type, denied, variable_type, universe_type, given_type, leaf_type}
use Rattle.kernel_check.specs.Scopes.{CanCheckIn, scope_in}
use Rattle.kernel_check.specs.Symbols.{symbol_type}
use Rattle.kernel_check.specs.TypeIds.{IsTypeId}
use Rattle.kernel_check.specs.declared.scope.Scope.{Scope}
use Rattle.kernel_check.specs.declared.type_id.TypeId.TheVariants.{Of, TooHigh}
use Rattle.kernel_check.proofs.Scoped.{declared-scoped}
use Rattle.kernel_check.proofs.TypedAnswers.{typed-low, typed-high}

-- a call that takes memory alone never answers that there is no room
pub gives-room : {I A B : Type 0} (f : A → B) (r : Result A Stop) (meant : Result B Stop) (P : Term → Type 0) (held : Held I) → Gives f r meant
    → (meant ≡ Err PoolFull → ⊥) → IsFullOf P held r
gives-room f (Ok a) meant P held h never = tt
gives-room f (Err e) meant P held h never = λ full. absurd (never (sym (h (λ memory. distinct (sym full ∙ memory))) ∙ ap Err full))
  where
    distinct : PoolFull ≡ Memory → ⊥
    distinct same = absurd (grind arith)

pub denied-room : (G : Context) (reason : Reason) → denied G reason ≡ Err PoolFull → ⊥
denied-room G reason same = absurd (grind arith)

typed-room : (t : Term) → of_type t ≡ Err PoolFull → ⊥
typed-room t = by_case (is_low t) refl
  where
    by_case : (b : Bool) → is_low t ≡ b → of_type t ≡ Err PoolFull → ⊥
    by_case true low same = absurd (grind (arith, low, same))
    by_case false high same = absurd (grind (arith, high, same))

pub given-room : (G : Context) (o : Option Term) → given_type G o ≡ Err PoolFull → ⊥
given-room G (Some t) = typed-room t
given-room G None = denied-room G _

-- no room for a part of a tree that is meant
pub full-parts : {I A : Type 0} (P : Term → Type 0) (meant : Term) (held : Held I) (r : Result A Stop) → ((x : Term) → IsPart x meant → P x)
    → IsFullFor held r meant → IsFullOf P held r
full-parts P meant held (Ok a) parts h = tt
full-parts P meant held (Err e) parts h = λ full. lacks-parts P meant held parts (h full)

pub variable-high : (G : Context) (n : ℕ) (o : Option Term) (a : Term) → o ≡ Some a → 2000 < height a → Err Deep ≡ variable_type G n o
variable-high G n o a found high = sym (ap (variable_type G n) found ∙ typed-high (lift a (n + 1) 0) (omega (arith, height-lift a (n + 1) 0)))

-- a sort below Type top has a type, and Type top has none
module _ (G : Context) (i : ℕ) where
  pub universe-below : i < top → universe_type G i ≡ of_type (tree.Sort (i + 1))
  universe-below below =
      let test : nat_lt i top ≡ true = grind (arith, nat_tests) in
      ap (λ (b : Bool). cond b (of_type (tree.Sort (i + 1))) (denied G LevelTooHigh)) test

  pub universe-at-top : top ≤ i → universe_type G i ≡ denied G LevelTooHigh
  universe-at-top above =
      let test : nat_lt i top ≡ false = grind (arith, nat_tests) in
      ap (λ (b : Bool). cond b (of_type (tree.Sort (i + 1))) (denied G LevelTooHigh)) test

module _ (G : Context) (n : ℕ) (a : Term) (found : slice_get G n ≡ Some a) where
  variable-part : (x : Term) → IsPart x (lift a (n + 1) 0) → IsLeafPart G (tree.Var n) x
  variable-part x part = (a, (found, part))

  pub variable-adds : {I : Type 0} (old new : Held I) → AddsParts old new (lift a (n + 1) 0) → AddsOnly (IsLeafPart G (tree.Var n)) old new
  variable-adds old new h = adds-parts (IsLeafPart G (tree.Var n)) (lift a (n + 1) 0) old new variable-part h

  pub variable-full : {I A : Type 0} (held : Held I) (r : Result A Stop) → IsFullFor held r (lift a (n + 1) 0) → IsFullOf (IsLeafPart G (tree.Var n)) held r
  variable-full held r h = full-parts (IsLeafPart G (tree.Var n)) (lift a (n + 1) 0) held r variable-part h

module _ {I : Type 0} (G : Context) (i : ℕ) where
  pub sort-adds : (old new : Held I) → AddsParts old new (tree.Sort (i + 1)) → AddsOnly (IsLeafPart G (tree.Sort i)) old new
  sort-adds old new h = adds-parts (IsLeafPart G (tree.Sort i)) (tree.Sort (i + 1)) old new (λ x part. part) h

  pub sort-full : {A : Type 0} (held : Held I) (r : Result A Stop) → IsFullFor held r (tree.Sort (i + 1)) → IsFullOf (IsLeafPart G (tree.Sort i)) held r
  sort-full held r h = full-parts (IsLeafPart G (tree.Sort i)) (tree.Sort (i + 1)) held r (λ x part. part) h

-- the type of a symbol, by its id
module _ {I : Type 0} (held : Held I) (G : Context) (o : Option Term) where
  pub given-of : (id : I) → IsTypeId held (Of id) o → height (held.tree id) ≤ 2000 → Ok (Yes (held.tree id)) ≡ given_type G o
  given-of id h low = sym (ap (given_type G) h.1 ∙ typed-low (held.tree id) low)

  pub given-high : IsTypeId held TooHigh o → Err Deep ≡ given_type G o
  given-high h = sym (ap (given_type G) h.1.0 ∙ typed-high h.0 h.1.1)

module _ {I : Type 0} where
  -- a variable of a scoped term is lifted within the bound on variables
  pub variable-few : (held : Held I) (S : Signature) (scope : Scope I) (n : ℕ) → CanCheckIn held S 0 scope (tree.Var n) → (a : Term)
      → slice_get (scope_in held.tree scope) n ≡ Some a → tree.free_of a + (n + 1) ≤ most_free
  variable-few held S scope n h a e =
      let found = declared-scoped S (scope_in held.tree scope) n a h.context e in
      let free = found.2.variables in
      let sum = found.1 in
      omega (arith, h.few)

  -- a node that is no variable and no sort has the type of a symbol
  pub leaf-symbol : (at : I → Term) (S : Signature) (G : Context) (leaf : Node I) → ((n : ℕ) → leaf ≡ Var n → ⊥) → ((i : ℕ) → leaf ≡ Sort i → ⊥)
      → leaf_type S G (says at leaf) ≡ given_type G (symbol_type S (says at leaf))
  leaf-symbol at S G (Var n) no_variable no_sort = absurd (no_variable n refl)
  leaf-symbol at S G (Sort i) no_variable no_sort = absurd (no_sort i refl)
  leaf-symbol at S G (Pi a b) no_variable no_sort = refl
  leaf-symbol at S G (Lam a b) no_variable no_sort = refl
  leaf-symbol at S G (App f a) no_variable no_sort = refl
  leaf-symbol at S G (Let a t b) no_variable no_sort = refl
  leaf-symbol at S G (Const n) no_variable no_sort = refl
  leaf-symbol at S G (Fam n) no_variable no_sort = refl
  leaf-symbol at S G (Con n k) no_variable no_sort = refl
  leaf-symbol at S G (Elim n m) no_variable no_sort = refl
  leaf-symbol at S G (AxiomK i m) no_variable no_sort = refl
