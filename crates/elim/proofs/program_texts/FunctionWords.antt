-- The reason why a function's names are refused holds no line feed, where the function's words hold none.
use Rattle.std.proofs.Common.{◌≡◌, ℕ, ◌+◌, ◌==◌, Bool, true, false, List, [], ◌++◌, length, Option, Some, None, Ok, Err}
use Rattle.std.specs.Prelude.{if◌then◌else◌, bytes_eq}
use Rattle.std.specs.List.{list_any}
use Rattle.theory.specs.Terms as tree
use Rattle.theory.specs.Signatures.{Signature}
use Rattle.core_text.specs.Lines.{is_in_line}
use Rattle.surface_syntax.specs.Trees as surf
use Rattle.surface_syntax.specs.declared.tree.Word.{Word}
use Rattle.resolve.specs.Families.{declared}
use Rattle.resolve.specs.Functions.{clause_head, is_allowed, clause, right_side, clauses, Function, arity_of, allowed_by, function}
use Rattle.resolve.specs.Names.{Known, Scope, known_in, with_name, scope_of}
use Rattle.resolve.specs.Patterns.{Constructor, constructor, variable, count, bound, bound_all, head, pattern, patterns}
use Rattle.resolve.specs.Resolving.{resolve}
use Rattle.resolve.specs.declared.stop.ResolveStop.TheVariants.{UnknownName, WrongArity, NotLinear}
use Rattle.elim.proofs.program_texts.GrammarInLine.{WordIn, UsesInLine, PatInLine, PatsInLine, RightInLine, ClauseInLine, ClausesInLine}
use Rattle.elim.proofs.program_texts.SessionInLine.{Refuses, Resolves, next, after, further, resolve-in, named-word}

-- ---- patterns

head-in : (n : ℕ) (before : List (List ℕ)) (x : Word) (c : Option Constructor) → WordIn x → Refuses (head n before x c)
head-in n before x (Some c) h = by (n == c.arguments)
  where
    by : (b : Bool) → Refuses {A = Option Constructor} (if b then Ok (Some c) else Err (WrongArity x.start x.text))
    by true = tt
    by false = h
head-in n before x None h = by (n == 0) (list_any (bytes_eq x.text) before)
  where
    by : (b c : Bool) → Refuses {A = Option Constructor} (if b then (if c then Err (NotLinear x.start x.text) else Ok None) else Err (UnknownName x.start x.text))
    by true true = h
    by true false = tt
    by false c = h

mutual
  pattern-in : (S : Signature) (known : Known) (scope : Scope) (before : List (List ℕ)) (p : surf.Pat) → PatInLine p → Refuses (pattern S known scope before p)
  pattern-in S known scope before (surf.Name x) h = next (head 0 before x (constructor S x.text)) _ (head-in 0 before x (constructor S x.text) h) (λ c. tt)
  pattern-in S known scope before surf.Wild h = tt
  pattern-in S known scope before (surf.Dot t) h = next (resolve known t scope) _ (resolve-in known t scope h) (λ u. tt)
  pattern-in S known scope before surf.Void h = tt
  pattern-in S known scope before (surf.Con x args) h =
      next (head (count args) before x (constructor S x.text)) _ (head-in (count args) before x (constructor S x.text) h.0) (λ c.
      next (patterns S known scope (before ++ variable (count args) x (constructor S x.text)) args) _
      (patterns-in S known scope (before ++ variable (count args) x (constructor S x.text)) args h.1) (λ qs. tt))

  patterns-in : (S : Signature) (known : Known) (scope : Scope) (before : List (List ℕ)) (ps : surf.Pats) → PatsInLine ps → Refuses (patterns S known scope before ps)
  patterns-in S known scope before surf.no_pat h = tt
  patterns-in S known scope before (surf.arg p ps) h =
      next (pattern S known scope before p) _ (pattern-in S known scope before p h.0) (λ q.
      next (patterns S known scope (before ++ bound S p) ps) _ (patterns-in S known scope (before ++ bound S p) ps h.1) (λ qs. tt))

-- ---- clauses

clause_head-in : (own : List ℕ) (allowed : Option ℕ) (n : ℕ) (x : Word) → WordIn x → Refuses (clause_head own allowed n x)
clause_head-in own allowed n x h = by (bytes_eq own x.text) (is_allowed allowed n)
  where
    by : (b c : Bool) → Refuses {A = ℕ} (if b then (if c then Ok n else Err (WrongArity x.start x.text)) else Err (UnknownName x.start x.text))
    by true true = tt
    by true false = h
    by false c = h

mutual
  clause-in : (S : Signature) (known : Known) (own : List ℕ) (allowed : Option ℕ) (c : surf.Clause) → ClauseInLine c → Refuses (clause S known own allowed c)
  clause-in S known own allowed (surf.Is x pats right) h =
      let variables = bound_all S (surf.pats pats) in
      next (clause_head own allowed (length pats) x) _ (clause_head-in own allowed (length pats) x h.0) (λ n.
      next (patterns S known (scope_of variables) [] (surf.pats pats)) _ (patterns-in S known (scope_of variables) [] (surf.pats pats) h.1) (λ qs.
      next (right_side S known own (scope_of variables) n right) _ (right-in S known own (scope_of variables) n right h.2) (λ r. tt)))

  right-in : (S : Signature) (known : Known) (own : List ℕ) (scope : Scope) (n : ℕ) (right : surf.Right) → RightInLine right → Refuses (right_side S known own scope n right)
  right-in S known own scope n (surf.Side t) h = next (resolve known t scope) _ (resolve-in known t scope h) (λ u. tt)
  right-in S known own scope n (surf.With t cs) h =
      next (resolve known t scope) _ (resolve-in known t scope h.0) (λ u.
      next (clauses S known own (Some (n + 1)) cs) _ (clauses-in S known own (Some (n + 1)) cs h.1) (λ list. tt))
  right-in S known own scope n surf.Absurd h = tt

  clauses-in : (S : Signature) (known : Known) (own : List ℕ) (allowed : Option ℕ) (cs : surf.Clauses) → ClausesInLine cs → Refuses (clauses S known own allowed cs)
  clauses-in S known own allowed surf.no_clause h = tt
  clauses-in S known own allowed (surf.also c cs) h =
      next (clause S known own allowed c) _ (clause-in S known own allowed c h.0) (λ d.
      next (clauses S known own allowed cs) _ (clauses-in S known own allowed cs h.1) (λ list. tt))

-- ---- functions

abbrev pub NameIn : Function → Type 0
NameIn f = is_in_line f.name ≡ true

-- a function that is resolved has a name in line
pub function-in : (S : Signature) (x : Word) (ty : surf.Surf) (cs : surf.Clauses) → WordIn x → UsesInLine ty → ClausesInLine cs → Resolves NameIn (function S x ty cs)
function-in S x ty cs hx ht hc =
    further (λ name. is_in_line name ≡ true) NameIn (declared S [] x) _ (named-word S [] x hx) (λ own n.
    after NameIn (resolve (known_in S) ty []) _ (resolve-in (known_in S) ty [] ht) (λ type.
    let known = with_name own (tree.Const (length S.entries)) (known_in S) in
    after NameIn (clauses S known own (allowed_by type (arity_of type cs)) cs) _ (clauses-in S known own (allowed_by type (arity_of type cs)) cs hc) (λ list. n)))
