-- Resolved families are scoped.
use Rattle.std.proofs.Common.{◌≡◌, ℕ, suc, ◌+◌, ◌≤◌, List, [], ◌∷◌, ◌++◌, reverse, length, Some, Result, Ok, Err, IfOk, refl, ap, sym, ◌∙◌, subst, arith}
use Rattle.std.specs.List.{All}
use Rattle.std.proofs.lemmas.List.{append-nil, length-append, length-map, length-reverse}
use Rattle.std.proofs.lemmas.List.Elements.{All-cons, All-nil}
use Rattle.theory.specs.Terms.{Term, Fam, height}
use Rattle.theory.specs.Signatures.{Signature, IsPrefix}
use Rattle.theory.specs.SignatureScopes.{IsScopedTelescope, IsFamilyNumber}
use Rattle.surface_syntax.specs.Trees as surf
use Rattle.surface_syntax.specs.declared.tree.Word.{Word}
use Rattle.resolve.specs.declared.stop.ResolveStop.{ResolveStop}
use Rattle.resolve.specs.Names.{Known, Scope, scope_of, known_in, with_name}
use Rattle.resolve.specs.Resolving.{resolve}
use Rattle.resolve.specs.Families.{declared, names_of, parameters, constructors, family}
use Rattle.resolve.specs.Scoping.{IsResolved, IsResolvedFamily}
use Rattle.resolve.proofs.KnownNames.{IsKnown, known_resolved, with_resolved}
use Rattle.core_terms.proofs.Answers.{and_then-has}
use Rattle.resolve.proofs.ScopedTerms.{term_resolved}

pub length_scope : (names : List (List ℕ)) → length (scope_of names) ≡ length names
length_scope names = length-map (reverse names) (λ x. Some x) ∙ length-reverse names

-- types of parameters after n variables
pub record AreParameters (S : Signature) (n : ℕ) (count : ℕ) (types : List Term) : Type 0 where
  pub scoped : IsScopedTelescope S n types
  pub low : All (λ t. height t ≤ 2000) types
  pub many : length types ≡ count

pub any : {A : Type 0} (r : Result A ResolveStop) → IfOk r (λ a. Unit {0})
any (Ok a) = tt
any (Err e) = tt

pub parameters_resolved : (S : Signature) (known : Known) → IsKnown S known → (before : List (List ℕ)) (params : List surf.Typed)
    → IfOk (parameters known before params) (AreParameters S (length before) (length params))
parameters_resolved S known k before [] = record { scoped = tt; low = All-nil (λ t. height t ≤ 2000); many = refl }
parameters_resolved S known k before (p ∷ params) =
    and_then-has (IsResolved S (length before)) (AreParameters S (length before) (length (p ∷ params))) (resolve known p.ty (scope_of before)) _
    (subst (λ n. IfOk (resolve known p.ty (scope_of before)) (IsResolved S n)) (length_scope before) (term_resolved S known k p.ty (scope_of before)))
    (λ type x.
    and_then-has (AreParameters S (length before + 1) (length params)) (AreParameters S (length before) (length (p ∷ params))) (parameters known (before ++ p.name.text ∷ []) params) _
    (subst (λ n. IfOk (parameters known (before ++ p.name.text ∷ []) params) (AreParameters S n (length params))) (length-append before (p.name.text ∷ [])) (parameters_resolved S known k (before ++ p.name.text ∷ []) params))
    (λ types y. record {
      scoped = (x.scoped, y.scoped);
      low = All-cons (λ t. height t ≤ 2000) type types x.low y.low;
      many = ap (λ n. suc n) y.many;
    }))

pub constructors_resolved : (S T : Signature) (known : Known) → IsKnown T known → (scope : Scope) (before : List (List ℕ)) (cons : List surf.Typed)
    → IfOk (constructors S known scope before cons) (All (λ c. IsResolved T (length scope) c.type))
constructors_resolved S T known k scope before [] = All-nil (λ c. IsResolved T (length scope) c.type)
constructors_resolved S T known k scope before (c ∷ cons) =
    and_then-has (λ name. Unit {0}) (All (λ c. IsResolved T (length scope) c.type)) (declared S before c.name) _ (any (declared S before c.name)) (λ name _.
    and_then-has (IsResolved T (length scope)) (All (λ c. IsResolved T (length scope) c.type)) (resolve known c.ty scope) _ (term_resolved T known k c.ty scope) (λ type x.
    and_then-has (All (λ c. IsResolved T (length scope) c.type)) (All (λ c. IsResolved T (length scope) c.type)) (constructors S known scope (before ++ name ∷ []) cons) _
    (constructors_resolved S T known k scope (before ++ name ∷ []) cons)
    (λ rest y. All-cons (λ c. IsResolved T (length scope) c.type) (record { name = name; type = type }) rest x y)))

pub itself : (S : Signature) → IsPrefix S S
itself S = record { more = []; entries = sym (append-nil S.entries); has_k = refl }

pub family_resolved : (S T : Signature) → IsPrefix S T → IsFamilyNumber T (length S.entries) → (x : Word) (params : List surf.Typed) (ty : surf.Surf) (cons : List surf.Typed)
    → IfOk (family S x params ty cons) (IsResolvedFamily S T)
family_resolved S T p at x params ty cons =
    and_then-has (λ own. Unit {0}) (IsResolvedFamily S T) (declared S [] x) _ (any (declared S [] x)) (λ own _.
    and_then-has (AreParameters S 0 (length params)) (IsResolvedFamily S T) (parameters (known_in S) [] params) _ (parameters_resolved S (known_in S) (known_resolved S S (itself S)) [] params) (λ types y.
    and_then-has (IsResolved S (length params)) (IsResolvedFamily S T) (resolve (known_in S) ty (scope_of (names_of params))) _
    (subst (λ n. IfOk (resolve (known_in S) ty (scope_of (names_of params))) (IsResolved S n)) many (term_resolved S (known_in S) (known_resolved S S (itself S)) ty (scope_of (names_of params)))) (λ type z.
    and_then-has (All (λ c. IsResolved T (length params) c.type)) (IsResolvedFamily S T) (constructors S (with_name own (Fam (length S.entries)) (known_in S)) (scope_of (names_of params)) (own ∷ []) cons) _
    (subst (λ n. IfOk (constructors S (with_name own (Fam (length S.entries)) (known_in S)) (scope_of (names_of params)) (own ∷ []) cons) (All (λ c. IsResolved T n c.type))) many
    (constructors_resolved S T (with_name own (Fam (length S.entries)) (known_in S)) (with_resolved T own (Fam (length S.entries)) (known_in S) own_resolved (known_resolved S T p)) (scope_of (names_of params)) (own ∷ []) cons)) (λ list w.
    record {
      parameters = y.scoped;
      low = y.low;
      type = subst (λ n. IsResolved S n type) (sym y.many) z;
      constructors = subst (λ n. All (λ c. IsResolved T n c.type) list) (sym y.many) w;
    }))))
  where
    many : length (scope_of (names_of params)) ≡ length params
    many = length_scope (names_of params) ∙ length-map params (λ q. q.name.text)

    own_resolved : IsResolved T 0 (Fam (length S.entries))
    own_resolved = record { scoped = record { variables = omega arith; entries = at }; low = omega arith }
