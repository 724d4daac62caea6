-- The resolution of names.
use Rattle.std.proofs.Common.{ℕ, ◌+◌, Option, Some, None, List, [], ◌∷◌, ◌++◌, length}
use Rattle.theory.specs.Terms as tree
use Rattle.theory.specs.Signatures.{Signature}
use Rattle.surface_syntax.specs.Trees as surf
use Rattle.surface_syntax.specs.declared.tree.Word.{Word}
use Rattle.resolve.specs.Families.{declared, names_of, parameters, constructors, family}
use Rattle.resolve.specs.Functions.{clause_head, clause, clauses, right_side, arity_of, allowed_by, function}
use Rattle.resolve.specs.Mutual.{declared_all, first_declared, known_with_members, member, member_names, members, mutual_family, names_of_all}
use Rattle.resolve.specs.Names.{Known, Scope, scope_of, name_of, known_in, with_name, variable_of, named_term}
use Rattle.resolve.specs.Patterns.{Constructor, bound, bound_all, constructor, count, head, pattern, patterns, variable}
use Rattle.resolve.specs.Resolving.{Answer, low, binding, group, resolve, telescope, applied}
use Rattle.elim.specs.memory_laws.Foreseen.{IsForeseenName}
use Rattle.elim.proofs.memory_laws.Runs.{Only, ok, no, and-then, if-else}

-- ---- terms

low-term : (t : tree.Term) → Only IsForeseenName (low t)
low-term t = if-else _ ok (no tt)

bind : (make : tree.Term → tree.Term → tree.Term) {first second : Answer} → Only IsForeseenName first → Only IsForeseenName second
    → Only IsForeseenName (binding make first second)
bind make h k = and-then h (λ a. and-then k (λ b. low-term (make a b)))

-- an answer under each scope
abbrev Scoped : (Scope → Answer) → Type 0
Scoped answer = (scope : Scope) → Only IsForeseenName (answer scope)

grouped : (make : tree.Term → tree.Term → tree.Term) (names : List (Option Word)) {type inner : Scope → Answer} → Scoped type → Scoped inner
    → Scoped (group make names type inner)
grouped make [] h k scope = k scope
grouped make (x ∷ names) h k scope = bind make (h scope) (grouped make names h k (name_of x ∷ scope))

a-name : (x : Word) (n : Option ℕ) (known : Option tree.Term) → Only IsForeseenName (named_term x n known)
a-name x (Some n) known = ok
a-name x None (Some t) = ok
a-name x None None = no tt

mutual
  term : (known : Known) (t : surf.Surf) → Scoped (resolve known t)
  term known (surf.Lam binders body) scope = bound-by known tree.Lam binders (term known body) scope
  term known (surf.Pi binders body) scope = bound-by known tree.Pi binders (term known body) scope
  term known (surf.Arrow a b) scope = bind tree.Pi (term known a scope) (term known b (None ∷ scope))
  term known (surf.App f args) scope = and-then (term known f scope) (λ f. arguments known args scope f)
  term known (surf.Let x a t b) scope =
      and-then (term known a scope) (λ a. and-then (term known t scope) (λ t.
      and-then (term known b (Some x.text ∷ scope)) (λ b. low-term (tree.Let a t b))))
  term known (surf.Sort i) scope = ok
  term known (surf.Named x) scope = a-name x (variable_of x.text scope) (known x.text)

  bound-by : (known : Known) (make : tree.Term → tree.Term → tree.Term) (binders : surf.Binders) {inner : Scope → Answer} → Scoped inner
      → Scoped (telescope known make binders inner)
  bound-by known make surf.no_binder h scope = h scope
  bound-by known make (surf.bind (surf.Group names type) binders) h scope =
      grouped make names (term known type) (bound-by known make binders h) scope

  arguments : (known : Known) (args : surf.Surfs) (scope : Scope) (f : tree.Term) → Only IsForeseenName (applied known args scope f)
  arguments known surf.nil scope f = ok
  arguments known (surf.cons a args) scope f =
      and-then (term known a scope) (λ a. and-then (low-term (tree.App f a)) (λ f. arguments known args scope f))

pub resolved : (known : Known) (t : surf.Surf) → Scoped (resolve known t)
resolved known t scope = term known t scope

-- ---- families

pub new-name : (S : Signature) (before : List (List ℕ)) (x : Word) → Only IsForeseenName (declared S before x)
new-name S before x = if-else _ (no tt) ok

types : (known : Known) (before : List (List ℕ)) (params : List surf.Typed) → Only IsForeseenName (parameters known before params)
types known before [] = ok
types known before (p ∷ params) =
    and-then (term known p.ty (scope_of before)) (λ type. and-then (types known (before ++ p.name.text ∷ []) params) (λ types. ok))

all-constructors : (S : Signature) (known : Known) (scope : Scope) (before : List (List ℕ)) (cons : List surf.Typed)
    → Only IsForeseenName (constructors S known scope before cons)
all-constructors S known scope before [] = ok
all-constructors S known scope before (c ∷ cons) =
    and-then (new-name S before c.name) (λ name.
    and-then (term known c.ty scope) (λ type.
    and-then (all-constructors S known scope (before ++ name ∷ []) cons) (λ rest. ok)))

pub a-family : (S : Signature) (x : Word) (params : List surf.Typed) (ty : surf.Surf) (cons : List surf.Typed)
    → Only IsForeseenName (family S x params ty cons)
a-family S x params ty cons =
    and-then (new-name S [] x) (λ own.
    and-then (types (known_in S) [] params) (λ types.
    and-then (term (known_in S) ty (scope_of (names_of params))) (λ type.
    and-then
    (all-constructors S (with_name own (tree.Fam (length S.entries)) (known_in S)) (scope_of (names_of params)) (own ∷ []) cons) (λ list. ok))))

-- ---- families that refer to each other

a-member : (S : Signature) (known : Known) (scope : Scope) (before : List (List ℕ)) (m : surf.Member) → Only IsForeseenName (member S known scope before m)
a-member S known scope before m =
    and-then (new-name S before m.name) (λ name.
    and-then (term (known_in S) m.ty scope) (λ type.
    and-then (all-constructors S known scope (before ++ name ∷ []) m.cons) (λ list. ok)))

all-members : (S : Signature) (known : Known) (scope : Scope) (before : List (List ℕ)) (list : List surf.Member)
    → Only IsForeseenName (members S known scope before list)
all-members S known scope before [] = ok
all-members S known scope before (m ∷ list) =
    and-then (a-member S known scope before m) (λ raw. and-then (all-members S known scope (before ++ member_names m) list) (λ rest. ok))

all-names : (S : Signature) (before : List (List ℕ)) (words : List Word) → Only IsForeseenName (declared_all S before words)
all-names S before [] = ok
all-names S before (x ∷ words) = and-then (new-name S before x) (λ name. and-then (all-names S (before ++ name ∷ []) words) (λ rest. ok))

first-name : (S : Signature) (list : List surf.Member) → Only IsForeseenName (first_declared S list)
first-name S [] = ok
first-name S (m ∷ list) = and-then (new-name S [] m.name) (λ name. ok)

pub mutual-families : (S : Signature) (params : List surf.Typed) (list : List surf.Member) (family tag : Word) (tags : List Word)
    → Only IsForeseenName (mutual_family S params list family tag tags)
mutual-families S params list family tag tags =
    let before = names_of_all list in
    and-then (first-name S list) (λ first.
    and-then (types (known_in S) [] params) (λ types.
    and-then (all-members S (known_with_members S list) (scope_of (names_of params)) [] list) (λ raws.
    and-then (new-name S before family) (λ own.
    and-then (new-name S (before ++ own ∷ []) tag) (λ kind.
    and-then (all-names S ((before ++ own ∷ []) ++ kind ∷ []) tags) (λ words. ok))))))

-- ---- patterns and clauses

a-head : (n : ℕ) (before : List (List ℕ)) (x : Word) (found : Option Constructor) → Only IsForeseenName (head n before x found)
a-head n before x (Some c) = if-else _ ok (no tt)
a-head n before x None = if-else _ (if-else _ (no tt) ok) (no tt)

mutual
  a-pattern : (S : Signature) (known : Known) (scope : Scope) (before : List (List ℕ)) (p : surf.Pat)
      → Only IsForeseenName (pattern S known scope before p)
  a-pattern S known scope before (surf.Name x) = and-then (a-head 0 before x (constructor S x.text)) (λ c. ok)
  a-pattern S known scope before surf.Wild = ok
  a-pattern S known scope before (surf.Dot t) = and-then (term known t scope) (λ t. ok)
  a-pattern S known scope before surf.Void = ok
  a-pattern S known scope before (surf.Con x args) =
      and-then (a-head (count args) before x (constructor S x.text)) (λ c.
      and-then (all-patterns S known scope (before ++ variable (count args) x (constructor S x.text)) args) (λ args. ok))

  all-patterns : (S : Signature) (known : Known) (scope : Scope) (before : List (List ℕ)) (ps : surf.Pats)
      → Only IsForeseenName (patterns S known scope before ps)
  all-patterns S known scope before surf.no_pat = ok
  all-patterns S known scope before (surf.arg p ps) =
      and-then (a-pattern S known scope before p) (λ q. and-then (all-patterns S known scope (before ++ bound S p) ps) (λ qs. ok))

head-of : (own : List ℕ) (allowed : Option ℕ) (n : ℕ) (x : Word) → Only IsForeseenName (clause_head own allowed n x)
head-of own allowed n x = if-else _ (if-else _ ok (no tt)) (no tt)

mutual
  a-clause : (S : Signature) (known : Known) (own : List ℕ) (allowed : Option ℕ) (c : surf.Clause) → Only IsForeseenName (clause S known own allowed c)
  a-clause S known own allowed (surf.Is x pats right) =
      and-then (head-of own allowed (length pats) x) (λ n.
      and-then (all-patterns S known (scope_of (bound_all S (surf.pats pats))) [] (surf.pats pats)) (λ qs.
      and-then (a-right S known own (scope_of (bound_all S (surf.pats pats))) n right) (λ r. ok)))

  a-right : (S : Signature) (known : Known) (own : List ℕ) (scope : Scope) (n : ℕ) (right : surf.Right)
      → Only IsForeseenName (right_side S known own scope n right)
  a-right S known own scope n (surf.Side t) = and-then (term known t scope) (λ t. ok)
  a-right S known own scope n (surf.With t cs) =
      and-then (term known t scope) (λ t. and-then (all-clauses S known own (Some (n + 1)) cs) (λ cs. ok))
  a-right S known own scope n surf.Absurd = ok

  all-clauses : (S : Signature) (known : Known) (own : List ℕ) (allowed : Option ℕ) (cs : surf.Clauses)
      → Only IsForeseenName (clauses S known own allowed cs)
  all-clauses S known own allowed surf.no_clause = ok
  all-clauses S known own allowed (surf.also c cs) =
      and-then (a-clause S known own allowed c) (λ c. and-then (all-clauses S known own allowed cs) (λ cs. ok))

pub a-function : (S : Signature) (x : Word) (ty : surf.Surf) (cs : surf.Clauses) → Only IsForeseenName (function S x ty cs)
a-function S x ty cs =
    and-then (new-name S [] x) (λ own.
    and-then (term (known_in S) ty []) (λ type.
    and-then (all-clauses S (with_name own (tree.Const (length S.entries)) (known_in S)) own (allowed_by type (arity_of type cs)) cs) (λ list. ok)))
