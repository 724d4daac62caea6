-- Resolved functions are scoped, and their clauses have as many patterns as the arity says.
use Rattle.std.proofs.Common.{◌≡◌, ℕ, ◌+◌, ◌≤◌, nat_le, Bool, true, false, List, [], ◌∷◌, length, Option, Some, None, Result, Ok, Err, IfOk, bytes_eq, refl, ◌∙◌, subst, arith}
use Rattle.std.specs.Prelude.{if◌then◌else◌}
use Rattle.std.proofs.lemmas.Bool.Decides.{nat_tests}
use Rattle.theory.specs.Terms.{Term, Const}
use Rattle.theory.specs.Signatures.{Signature, IsPrefix}
use Rattle.theory.specs.SignatureScopes.{IsConstantNumber}
use Rattle.core_terms.specs.Clauses as core
use Rattle.surface_syntax.specs.Trees as surf
use Rattle.surface_syntax.specs.declared.tree.Word.{Word}
use Rattle.resolve.specs.declared.stop.ResolveStop.{ResolveStop}
use Rattle.resolve.specs.declared.stop.ResolveStop.TheVariants.{UnknownName, WrongArity}
use Rattle.resolve.specs.Names.{Known, Scope, scope_of, known_in, with_name}
use Rattle.resolve.specs.Resolving.{resolve}
use Rattle.resolve.specs.Families.{declared}
use Rattle.resolve.specs.Patterns as pattern
use Rattle.resolve.specs.Functions.{is_allowed, clause_head, clause, right_side, clauses, product_count, arity_of, allowed_by, function}
use Rattle.resolve.specs.Scoping.{IsResolved, IsClause, IsRight, AreClauses, ArePatterns, binds_all, count, IsResolvedFunction}
use Rattle.resolve.proofs.KnownNames.{IsKnown, known_resolved, with_resolved}
use Rattle.core_terms.proofs.Answers.{and_then-has}
use Rattle.resolve.proofs.ScopedTerms.{term_resolved}
use Rattle.resolve.proofs.ScopedFamilies.{length_scope, any, itself}
use Rattle.resolve.proofs.ScopedPatterns.{Stands, patterns_resolved}

count_pats : (pats : List surf.Pat) → pattern.count (surf.pats pats) ≡ length pats
count_pats [] = refl
count_pats (p ∷ pats) = omega (arith, count_pats pats)

-- every number that is allowed is n
abbrev Allows : Option ℕ → ℕ → Type 0
Allows allowed n = (k : ℕ) → is_allowed allowed k ≡ true → k ≡ n

allows_one : (n : ℕ) → Allows (Some n) n
allows_one n k is = grind (arith, nat_tests)

head_allowed : (own : List ℕ) (allowed : Option ℕ) (n k : ℕ) (x : Word) → Allows allowed n → IfOk (clause_head own allowed k x) (λ m. (m ≡ k) × (k ≡ n))
head_allowed own allowed n k x allows = own_name (bytes_eq own x.text)
  where
    number : (b : Bool) → (b ≡ true → k ≡ n) → IfOk (if b then Ok k else Err (WrongArity x.start x.text)) (λ m. (m ≡ k) × (k ≡ n))
    number true e = (refl, e refl)
    number false e = tt

    own_name : (b : Bool) → IfOk (if b then (if is_allowed allowed k then Ok k else Err (WrongArity x.start x.text)) else Err (UnknownName x.start x.text)) (λ m. (m ≡ k) × (k ≡ n))
    own_name true = number (is_allowed allowed k) (allows k)
    own_name false = tt

-- the facts of a clause, where its variables are counted by N
abbrev Facts : Signature → ℕ → core.Clause → ℕ → Type 0
Facts T n (core.Is qs m r) N = (count qs ≡ n) × (binds_all qs ≡ m) × ArePatterns T N qs × IsRight T n N r

mutual
  pub clause_resolved : (S T : Signature) → IsPrefix S T → (known : Known) → IsKnown T known → (own : List ℕ) (allowed : Option ℕ) (n : ℕ) → Allows allowed n → (w : surf.Clause)
      → IfOk (clause S known own allowed w) (IsClause T n)
  clause_resolved S T e known k own allowed n allows (surf.Is x pats right) =
      let vars : List (List ℕ) = pattern.bound_all S (surf.pats pats) in
      and_then-has (λ m. (m ≡ length pats) × (length pats ≡ n)) (IsClause T n) (clause_head own allowed (length pats) x) _ (head_allowed own allowed n (length pats) x allows) (λ m h.
      and_then-has (Stands S T (length (scope_of vars)) (surf.pats pats)) (IsClause T n) (pattern.patterns S known (scope_of vars) [] (surf.pats pats)) _
      (patterns_resolved S T e known k (scope_of vars) [] (surf.pats pats)) (λ qs s.
      and_then-has (IsRight T m (length (scope_of vars))) (IsClause T n) (right_side S known own (scope_of vars) m right) _
      (right_resolved S T e known k own (scope_of vars) m right) (λ r t.
      let facts : Facts T n (core.Is qs (length vars) r) (length (scope_of vars)) =
      (s.many ∙ (count_pats pats ∙ h.1), s.variables, s.patterns, subst (λ m. IsRight T m (length (scope_of vars)) r) (h.0 ∙ h.1) t) in
      subst (Facts T n (core.Is qs (length vars) r)) (length_scope vars) facts)))

  pub right_resolved : (S T : Signature) → IsPrefix S T → (known : Known) → IsKnown T known → (own : List ℕ) (scope : Scope) (n : ℕ) (right : surf.Right)
      → IfOk (right_side S known own scope n right) (IsRight T n (length scope))
  right_resolved S T e known k own scope n (surf.Side t) =
      and_then-has (IsResolved T (length scope)) (IsRight T n (length scope)) (resolve known t scope) _ (term_resolved T known k t scope) (λ t h. h)
  right_resolved S T e known k own scope n (surf.With t ws) =
      and_then-has (IsResolved T (length scope)) (IsRight T n (length scope)) (resolve known t scope) _ (term_resolved T known k t scope) (λ t h.
      and_then-has (AreClauses T (n + 1)) (IsRight T n (length scope)) (clauses S known own (Some (n + 1)) ws) _ (clauses_resolved S T e known k own (Some (n + 1)) (n + 1) (allows_one (n + 1)) ws) (λ cs hs. (h, hs)))
  right_resolved S T e known k own scope n surf.Absurd = tt

  pub clauses_resolved : (S T : Signature) → IsPrefix S T → (known : Known) → IsKnown T known → (own : List ℕ) (allowed : Option ℕ) (n : ℕ) → Allows allowed n → (ws : surf.Clauses)
      → IfOk (clauses S known own allowed ws) (AreClauses T n)
  clauses_resolved S T e known k own allowed n allows surf.no_clause = tt
  clauses_resolved S T e known k own allowed n allows (surf.also w ws) =
      and_then-has (IsClause T n) (AreClauses T n) (clause S known own allowed w) _ (clause_resolved S T e known k own allowed n allows w) (λ c h.
      and_then-has (AreClauses T n) (AreClauses T n) (clauses S known own allowed ws) _ (clauses_resolved S T e known k own allowed n allows ws) (λ cs hs. (h, hs)))

-- no clause passes where no number of patterns is right
none_passes : (S : Signature) (known : Known) (own : List ℕ) (w : surf.Clause) → IfOk (clause S known own None w) (λ c. ⊥)
none_passes S known own (surf.Is x pats right) =
    let vars : List (List ℕ) = pattern.bound_all S (surf.pats pats) in
    and_then-has (λ m. ⊥) (λ c. ⊥) (clause_head own None (length pats) x) _ (go (bytes_eq own x.text)) (λ m h. absurd h)
  where
    go : (b : Bool) → IfOk (if b then Err (WrongArity x.start x.text) else Err (UnknownName x.start x.text)) (λ (m : ℕ). ⊥)
    go true = tt
    go false = tt

always : {A : Type 0} (P : Type 0) (r : Result A ResolveStop) → P → IfOk r (λ a. P)
always P (Ok a) p = p
always P (Err e) p = tt

-- the arity of clauses that pass is at most the number of products
arity_fits : (S : Signature) (known : Known) (own : List ℕ) (type : Term) (ws : surf.Clauses)
    → IfOk (clauses S known own (allowed_by type (arity_of type ws)) ws) (λ cs. arity_of type ws ≤ product_count type)
arity_fits S known own type surf.no_clause = always (product_count type ≤ product_count type) (clauses S known own (allowed_by type (product_count type)) surf.no_clause) (omega arith)
arity_fits S known own type (surf.also (surf.Is x pats right) ws) = go (nat_le (length pats) (product_count type)) (λ e. grind (arith, nat_tests))
  where
    go : (b : Bool) → (b ≡ true → length pats ≤ product_count type)
        → IfOk (clauses S known own (if b then Some (length pats) else None) (surf.also (surf.Is x pats right) ws)) (λ cs. length pats ≤ product_count type)
    go true h = always (length pats ≤ product_count type) (clauses S known own (Some (length pats)) (surf.also (surf.Is x pats right) ws)) (h refl)
    go false h =
        and_then-has (λ c. ⊥) (λ cs. length pats ≤ product_count type) (clause S known own None (surf.Is x pats right)) _ (none_passes S known own (surf.Is x pats right)) (λ c h. absurd h)

allows_arity : (type : Term) (arity : ℕ) → Allows (allowed_by type arity) arity
allows_arity type arity k is = go (nat_le arity (product_count type)) is
  where
    go : (b : Bool) → is_allowed (if b then Some arity else None) k ≡ true → k ≡ arity
    go true e = allows_one arity k e
    go false e = cc

both : {A : Type 0} (P Q : A → Type 0) (r : Result A ResolveStop) → IfOk r P → IfOk r Q → IfOk r (λ a. P a × Q a)
both P Q (Ok a) p q = (p, q)
both P Q (Err e) p q = tt

pub function_resolved : (S T : Signature) → IsPrefix S T → IsConstantNumber T (length S.entries) → (x : Word) (ty : surf.Surf) (ws : surf.Clauses)
    → IfOk (function S x ty ws) (IsResolvedFunction S T)
function_resolved S T p at x ty ws =
    and_then-has (λ own. Unit {0}) (IsResolvedFunction S T) (declared S [] x) _ (any (declared S [] x)) (λ own _.
    and_then-has (IsResolved S 0) (IsResolvedFunction S T) (resolve (known_in S) ty []) _ (term_resolved S (known_in S) (known_resolved S S (itself S)) ty []) (λ type h.
    let known : Known = with_name own (Const (length S.entries)) (known_in S) in
    let arity : ℕ = arity_of type ws in
    and_then-has (λ cs. AreClauses T arity cs × (arity ≤ product_count type)) (IsResolvedFunction S T) (clauses S known own (allowed_by type arity) ws) _
    (both (AreClauses T arity) (λ cs. arity ≤ product_count type) (clauses S known own (allowed_by type arity) ws)
    (clauses_resolved S T p known (with_resolved T own (Const (length S.entries)) (known_in S) own_resolved (known_resolved S T p)) own (allowed_by type arity) arity (allows_arity type arity) ws)
    (arity_fits S known own type ws)) (λ cs q.
    record { type = h; arity = q.1; clauses = q.0 })))
  where
    own_resolved : IsResolved T 0 (Const (length S.entries))
    own_resolved = record { scoped = record { variables = omega arith; entries = at }; low = omega arith }
