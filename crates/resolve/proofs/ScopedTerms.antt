-- Resolved terms are scoped over the names around them.
use Rattle.std.proofs.Common.{◌≡◌, ℕ, suc, ◌+◌, ◌<◌, ◌≤◌, Bool, true, false, nat_le, List, [], ◌∷◌, length, Option, Some, None, option_map, Ok, Err, IfOk, IfSome, refl, arith}
use Rattle.std.specs.Prelude.{if◌then◌else◌}
use Rattle.std.proofs.lemmas.Bool.Decides.{nat_tests}
use Rattle.theory.specs.Terms as tree
use Rattle.theory.specs.Terms.{Term}
use Rattle.theory.specs.Signatures.{Signature}
use Rattle.theory.specs.SignatureScopes.{IsScoped}
use Rattle.surface_syntax.specs.Trees as surf
use Rattle.surface_syntax.specs.declared.tree.Word.{Word}
use Rattle.resolve.specs.declared.stop.ResolveStop.TheVariants.{Deep}
use Rattle.core_terms.proofs.Answers.{and_then-has}
use Rattle.resolve.specs.Names.{Known, Scope, has_name, name_of, variable_of, named_term}
use Rattle.resolve.specs.Resolving.{Answer, low, binding, group, resolve, telescope, applied}
use Rattle.resolve.specs.Scoping.{IsResolved}
use Rattle.resolve.proofs.KnownNames.{IsKnown}

low_resolved : (T : Signature) (n : ℕ) (t : Term) → IsScoped T n t → IfOk (low t) (IsResolved T n)
low_resolved T n t scoped = go (nat_le (tree.height t) 2000) (λ e. grind (arith, nat_tests))
  where
    go : (b : Bool) → (b ≡ true → tree.height t ≤ 2000) → IfOk (if b then Ok t else Err Deep) (IsResolved T n)
    go true h = record { scoped = scoped; low = h refl }
    go false h = tt

-- a former of two parts, the second under a binder, keeps terms scoped
abbrev Binds : Signature → (Term → Term → Term) → Type 0
Binds T make = (n : ℕ) (a b : Term) → IsScoped T n a → IsScoped T (suc n) b → IsScoped T n (make a b)

pi_binds : (T : Signature) → Binds T tree.Pi
pi_binds T n a b x y = record { variables = omega (arith, x.variables, y.variables); entries = (x.entries, y.entries) }

lam_binds : (T : Signature) → Binds T tree.Lam
lam_binds T n a b x y = record { variables = omega (arith, x.variables, y.variables); entries = (x.entries, y.entries) }

binding_resolved : (T : Signature) (make : Term → Term → Term) → Binds T make → (n : ℕ) (first second : Answer) → IfOk first (IsResolved T n) → IfOk second (IsResolved T (suc n))
    → IfOk (binding make first second) (IsResolved T n)
binding_resolved T make binds n first second p q =
    and_then-has (IsResolved T n) (IsResolved T n) first _ p (λ a x.
    and_then-has (IsResolved T (suc n)) (IsResolved T n) second _ q (λ b y. low_resolved T n (make a b) (binds n a b x.scoped y.scoped)))

-- an answer under the names of any scope is scoped and low there
abbrev Owes : Signature → (Scope → Answer) → Type 0
Owes T answer = (scope : Scope) → IfOk (answer scope) (IsResolved T (length scope))

group_resolved : (T : Signature) (make : Term → Term → Term) → Binds T make → (names : List (Option Word)) (type inner : Scope → Answer) → Owes T type → Owes T inner
    → Owes T (group make names type inner)
group_resolved T make binds [] type inner p q scope = q scope
group_resolved T make binds (x ∷ names) type inner p q scope =
    binding_resolved T make binds (length scope) (type scope) (group make names type inner (name_of x ∷ scope)) (p scope)
    (group_resolved T make binds names type inner p q (name_of x ∷ scope))

found_within : (name : List ℕ) (scope : Scope) → IfSome (variable_of name scope) (λ n. n < length scope)
found_within name [] = tt
found_within name (x ∷ scope) = go (has_name name x) (variable_of name scope) (found_within name scope)
  where
    go : (b : Bool) (o : Option ℕ) → IfSome o (λ n. n < length scope) → IfSome (if b then Some 0 else option_map (λ n. n + 1) o) (λ n. n < length (x ∷ scope))
    go true o h = omega arith
    go false (Some n) h = omega (arith, h)
    go false None h = tt

named_resolved : (T : Signature) (bound : ℕ) (x : Word) (o : Option ℕ) (k : Option Term) → IfSome o (λ n. n < bound) → IfSome k (IsResolved T 0) → IfOk (named_term x o k) (IsResolved T bound)
named_resolved T bound x (Some n) k h known = record { scoped = record { variables = omega (arith, h); entries = tt }; low = omega arith }
named_resolved T bound x None (Some t) h known =
    record { scoped = record { variables = omega (arith, known.scoped.variables); entries = known.scoped.entries }; low = known.low }
named_resolved T bound x None None h known = tt

mutual
  pub term_resolved : (T : Signature) (known : Known) → IsKnown T known → (t : surf.Surf) → Owes T (resolve known t)
  term_resolved T known k (surf.Lam binders body) scope = telescope_resolved T known k tree.Lam (lam_binds T) binders (resolve known body) (term_resolved T known k body) scope
  term_resolved T known k (surf.Pi binders body) scope = telescope_resolved T known k tree.Pi (pi_binds T) binders (resolve known body) (term_resolved T known k body) scope
  term_resolved T known k (surf.Arrow a b) scope =
      binding_resolved T tree.Pi (pi_binds T) (length scope) (resolve known a scope) (resolve known b (None ∷ scope)) (term_resolved T known k a scope) (term_resolved T known k b (None ∷ scope))
  term_resolved T known k (surf.App f args) scope =
      and_then-has (IsResolved T (length scope)) (IsResolved T (length scope)) (resolve known f scope) _ (term_resolved T known k f scope)
      (λ f h. applied_resolved T known k args scope f h)
  term_resolved T known k (surf.Let x a t b) scope =
      let n : ℕ = length scope in
      and_then-has (IsResolved T n) (IsResolved T n) (resolve known a scope) _ (term_resolved T known k a scope) (λ a p.
      and_then-has (IsResolved T n) (IsResolved T n) (resolve known t scope) _ (term_resolved T known k t scope) (λ t q.
      and_then-has (IsResolved T (suc n)) (IsResolved T n) (resolve known b (Some x.text ∷ scope)) _ (term_resolved T known k b (Some x.text ∷ scope)) (λ b r.
      low_resolved T n (tree.Let a t b) (record {
        variables = omega (arith, p.scoped.variables, q.scoped.variables, r.scoped.variables);
        entries = (p.scoped.entries, q.scoped.entries, r.scoped.entries);
      }))))
  term_resolved T known k (surf.Sort i) scope = record { scoped = record { variables = omega arith; entries = tt }; low = omega arith }
  term_resolved T known k (surf.Named x) scope =
      named_resolved T (length scope) x (variable_of x.text scope) (known x.text) (found_within x.text scope) (k x.text)

  telescope_resolved : (T : Signature) (known : Known) → IsKnown T known → (make : Term → Term → Term) → Binds T make → (binders : surf.Binders) (inner : Scope → Answer) → Owes T inner
      → Owes T (telescope known make binders inner)
  telescope_resolved T known k make binds surf.no_binder inner h scope = h scope
  telescope_resolved T known k make binds (surf.bind (surf.Group names type) binders) inner h scope =
      group_resolved T make binds names (resolve known type) (telescope known make binders inner) (term_resolved T known k type)
      (telescope_resolved T known k make binds binders inner h) scope

  applied_resolved : (T : Signature) (known : Known) → IsKnown T known → (args : surf.Surfs) (scope : Scope) (f : Term) → IsResolved T (length scope) f
      → IfOk (applied known args scope f) (IsResolved T (length scope))
  applied_resolved T known k surf.nil scope f h = h
  applied_resolved T known k (surf.cons a args) scope f h =
      let n : ℕ = length scope in
      and_then-has (IsResolved T n) (IsResolved T n) (resolve known a scope) _ (term_resolved T known k a scope) (λ a p.
      and_then-has (IsResolved T n) (IsResolved T n) (low (tree.App f a)) _
      (low_resolved T n (tree.App f a) (record { variables = omega (arith, h.scoped.variables, p.scoped.variables); entries = (h.scoped.entries, p.scoped.entries) }))
      (λ f q. applied_resolved T known k args scope f q))
