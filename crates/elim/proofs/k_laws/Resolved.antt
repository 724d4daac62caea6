-- Resolved terms hold no K: no name resolves to it.
use Rattle.std.proofs.Common.{ℕ, ◌+◌, Bool, true, false, List, [], ◌∷◌, length, Option, Some, None, option_map, IfSome, bytes_eq, slice_get}
use Rattle.std.specs.Prelude.{if◌then◌else◌}
use Rattle.theory.specs.Terms as tree
use Rattle.theory.specs.Terms.{Term}
use Rattle.theory.specs.Signatures as signature
use Rattle.theory.specs.Signatures.{Entry, Signature}
use Rattle.theory.specs.AxiomKLaws.{LacksAxiomK}
use Rattle.core_sig.specs.Names.{find}
use Rattle.core_sig.specs.declared.entry.Found.{Found}
use Rattle.core_sig.specs.declared.entry.Found.TheVariants as found
use Rattle.core_terms.specs.Clauses as core
use Rattle.surface_syntax.specs.Trees as surf
use Rattle.surface_syntax.specs.declared.tree.Word.{Word}
use Rattle.resolve.specs.Families.{declared}
use Rattle.resolve.specs.Functions.{Function, allowed_by, arity_of, clause, clause_head, clauses, function, right_side}
use Rattle.resolve.specs.Names.{Known, Scope, entry_symbol, known_in, name_of, named_term, scope_of, symbol, variable_of, with_name}
use Rattle.resolve.specs.Patterns.{bound_all, patterns}
use Rattle.resolve.specs.Resolving.{Answer, applied, binding, group, low, resolve, telescope}
use Rattle.elim.proofs.k_laws.Runs.{Gives, Any, any, ok, no, and-then, if-else}

-- ---- names

abbrev KnownLacks : Known → Type 0
KnownLacks known = (name : List ℕ) → IfSome (known name) LacksAxiomK

entry-lacks : (n : ℕ) (o : Option Entry) → LacksAxiomK (entry_symbol n o)
entry-lacks n (Some (signature.FamilyOf f)) = tt
entry-lacks n (Some (signature.EliminatorAt g m)) = tt
entry-lacks n (Some (signature.AxiomKAt i m)) = tt
entry-lacks n (Some (signature.Definition name type body)) = tt
entry-lacks n None = tt

symbol-lacks : (S : Signature) (f : Found) → LacksAxiomK (symbol S f)
symbol-lacks S (found.Entry n) = entry-lacks n (slice_get S.entries n)
symbol-lacks S (found.Con f c) = tt

names-lack : (S : Signature) → KnownLacks (known_in S)
names-lack S name = by (find S name)
  where
    by : (o : Option Found) → IfSome (option_map (symbol S) o) LacksAxiomK
    by (Some f) = symbol-lacks S f
    by None = tt

one-more : (own : List ℕ) (t : Term) (known : Known) → LacksAxiomK t → KnownLacks known → KnownLacks (with_name own t known)
one-more own t known h k name = by (bytes_eq own name)
  where
    by : (test : Bool) → IfSome (if test then Some t else known name) LacksAxiomK
    by true = h
    by false = k name

-- ---- terms

abbrev Owes : (Scope → Answer) → Type 0
Owes answer = (scope : Scope) → Gives LacksAxiomK (answer scope)

-- a term of two parts has no K, where the parts have none
abbrev Makes : (Term → Term → Term) → Type 0
Makes make = (a b : Term) → LacksAxiomK a → LacksAxiomK b → LacksAxiomK (make a b)

is-low : (t : Term) → LacksAxiomK t → Gives LacksAxiomK (low t)
is-low t h = if-else _ (ok h) no

of-two : (make : Term → Term → Term) → Makes make → {one other : Answer} → Gives LacksAxiomK one → Gives LacksAxiomK other
    → Gives LacksAxiomK (binding make one other)
of-two make m h k = and-then h (λ a p. and-then k (λ b q. is-low (make a b) (m a b p q)))

groups : (make : Term → Term → Term) → Makes make → (names : List (Option Word)) {type inner : Scope → Answer} → Owes type → Owes inner
    → Owes (group make names type inner)
groups make m [] h k scope = k scope
groups make m (x ∷ names) h k scope = of-two make m (h scope) (groups make m names h k (name_of x ∷ scope))

named : (x : Word) (o : Option ℕ) (t : Option Term) → IfSome t LacksAxiomK → Gives LacksAxiomK (named_term x o t)
named x (Some n) t h = ok tt
named x None (Some t) h = ok h
named x None None h = no

mutual
  pub term : (known : Known) → KnownLacks known → (t : surf.Surf) → Owes (resolve known t)
  term known k (surf.Lam binders body) scope = telescopes known k tree.Lam (λ a b p q. (p, q)) binders (term known k body) scope
  term known k (surf.Pi binders body) scope = telescopes known k tree.Pi (λ a b p q. (p, q)) binders (term known k body) scope
  term known k (surf.Arrow a b) scope = of-two tree.Pi (λ a b p q. (p, q)) (term known k a scope) (term known k b (None ∷ scope))
  term known k (surf.App f args) scope = and-then (term known k f scope) (λ f h. applies known k args scope f h)
  term known k (surf.Let x a t b) scope =
      and-then (term known k a scope) (λ a p.
      and-then (term known k t scope) (λ t q.
      and-then (term known k b (Some x.text ∷ scope)) (λ b r. is-low (tree.Let a t b) (p, q, r))))
  term known k (surf.Sort i) scope = ok tt
  term known k (surf.Named x) scope = named x (variable_of x.text scope) (known x.text) (k x.text)

  telescopes : (known : Known) → KnownLacks known → (make : Term → Term → Term) → Makes make → (binders : surf.Binders) {inner : Scope → Answer} → Owes inner
      → Owes (telescope known make binders inner)
  telescopes known k make m surf.no_binder h scope = h scope
  telescopes known k make m (surf.bind (surf.Group names type) binders) h scope =
      groups make m names (term known k type) (telescopes known k make m binders h) scope

  applies : (known : Known) → KnownLacks known → (args : surf.Surfs) (scope : Scope) (f : Term) → LacksAxiomK f → Gives LacksAxiomK (applied known args scope f)
  applies known k surf.nil scope f h = ok h
  applies known k (surf.cons a args) scope f h =
      and-then (term known k a scope) (λ u p. and-then (is-low (tree.App f u) (h, p)) (λ g q. applies known k args scope g q))

-- ---- clauses

abbrev mutual
  -- the scrutinees
  pub ClauseLacks : core.Clause → Type 0
  ClauseLacks (core.Is pats binds right) = RightLacks right

  pub RightLacks : core.Right → Type 0
  RightLacks (core.Side t) = Unit {0}
  RightLacks (core.With t inner) = LacksAxiomK t × ClausesLack inner
  RightLacks core.Absurd = Unit {0}

  pub ClausesLack : core.Clauses → Type 0
  ClausesLack core.nil = Unit {0}
  ClausesLack (core.cons c clauses) = ClauseLacks c × ClausesLack clauses

mutual
  one-clause : (S : Signature) (known : Known) → KnownLacks known → (own : List ℕ) (allowed : Option ℕ) (w : surf.Clause)
      → Gives ClauseLacks (clause S known own allowed w)
  one-clause S known k own allowed (surf.Is x pats right) =
      let variables = bound_all S (surf.pats pats) in
      and-then {P = Any} (any (clause_head own allowed (length pats) x)) (λ n p.
      and-then {P = Any} (any (patterns S known (scope_of variables) [] (surf.pats pats))) (λ qs q.
      and-then (right-part S known k own (scope_of variables) n right) (λ r h. ok h)))

  right-part : (S : Signature) (known : Known) → KnownLacks known → (own : List ℕ) (scope : Scope) (n : ℕ) (r : surf.Right)
      → Gives RightLacks (right_side S known own scope n r)
  right-part S known k own scope n (surf.Side t) = and-then (term known k t scope) (λ u h. ok tt)
  right-part S known k own scope n (surf.With t ws) =
      and-then (term known k t scope) (λ u h. and-then (all-clauses S known k own (Some (n + 1)) ws) (λ cs l. ok (h, l)))
  right-part S known k own scope n surf.Absurd = ok tt

  all-clauses : (S : Signature) (known : Known) → KnownLacks known → (own : List ℕ) (allowed : Option ℕ) (ws : surf.Clauses)
      → Gives ClausesLack (clauses S known own allowed ws)
  all-clauses S known k own allowed surf.no_clause = ok tt
  all-clauses S known k own allowed (surf.also w ws) =
      and-then (one-clause S known k own allowed w) (λ c h. and-then (all-clauses S known k own allowed ws) (λ cs l. ok (h, l)))

-- the type of a function, and the scrutinees of its clauses
pub record FunctionLacks (f : Function) : Type 0 where
  pub type : LacksAxiomK f.type
  pub clauses : ClausesLack f.clauses

pub function-lacks : (S : Signature) (x : Word) (ty : surf.Surf) (cs : surf.Clauses) → Gives FunctionLacks (function S x ty cs)
function-lacks S x ty cs =
    and-then {P = Any} (any (declared S [] x)) (λ own p.
    and-then (term (known_in S) (names-lack S) ty []) (λ type h.
    let arity = arity_of type cs in
    and-then
    (all-clauses S (with_name own (tree.Const (length S.entries)) (known_in S)) (one-more own (tree.Const (length S.entries)) (known_in S) tt (names-lack S)) own
    (allowed_by type arity) cs) (λ list l. ok (record { type = h; clauses = l }))))
