-- The functions by clauses that written functions stand for, or the first refusal in source order.
use Rattle.std.specs.Prelude.{ℕ, ◌+◌, ◌==◌, nat_le, Bool, false, if◌then◌else◌, List, [], length, Option, Some, None, Result, Ok, Err, bytes_eq}
use Rattle.theory.specs.Terms as tree
use Rattle.theory.specs.Signatures.{Signature}
use Rattle.core_terms.specs.Clauses as core
use Rattle.surface_syntax.specs.Trees as surf
use Rattle.surface_syntax.specs.declared.tree.Word.{Word}
use Rattle.resolve.specs.declared.stop.ResolveStop.{ResolveStop}
use Rattle.resolve.specs.declared.stop.ResolveStop.TheVariants.{Memory, UnknownName, WrongArity}
use Rattle.core_terms.specs.Answers.{and_then}
use Rattle.resolve.specs.Names.{Known, Scope, scope_of, known_in, with_name}
use Rattle.resolve.specs.Resolving.{resolve}
use Rattle.resolve.specs.Families.{declared}
use Rattle.resolve.specs.Patterns.{bound_all, patterns}

-- whether a clause may have n patterns; `None` where no number is right
abbrev pub is_allowed : Option ℕ → ℕ → Bool
is_allowed (Some wanted) n = n == wanted
is_allowed None n = false

-- the head of a clause with n patterns: the function's name, and the number that is allowed
abbrev pub clause_head : List ℕ → Option ℕ → ℕ → Word → Result ℕ ResolveStop
clause_head own allowed n x =
    if bytes_eq own x.text then (if is_allowed allowed n then Ok n else Err (WrongArity x.start x.text))
    else Err (UnknownName x.start x.text)

-- Clauses of the function with the name `own`, which is known in their terms.
abbrev mutual
  pub clause : Signature → Known → List ℕ → Option ℕ → surf.Clause → Result core.Clause ResolveStop
  clause S known own allowed (surf.Is x pats right) =
      let variables = bound_all S (surf.pats pats) in
      and_then (clause_head own allowed (length pats) x) (λ n.
      and_then (patterns S known (scope_of variables) [] (surf.pats pats)) (λ qs.
      and_then (right_side S known own (scope_of variables) n right) (λ r. Ok (core.Is qs (length variables) r))))

  -- The right side after n patterns. The clauses of a `with` have one pattern more, and variables of their own.
  pub right_side : Signature → Known → List ℕ → Scope → ℕ → surf.Right → Result core.Right ResolveStop
  right_side S known own scope n (surf.Side t) = and_then (resolve known t scope) (λ t. Ok (core.Side t))
  right_side S known own scope n (surf.With t cs) =
      and_then (resolve known t scope) (λ t. and_then (clauses S known own (Some (n + 1)) cs) (λ cs. Ok (core.With t cs)))
  right_side S known own scope n surf.Absurd = Ok core.Absurd

  pub clauses : Signature → Known → List ℕ → Option ℕ → surf.Clauses → Result core.Clauses ResolveStop
  clauses S known own allowed surf.no_clause = Ok core.nil
  clauses S known own allowed (surf.also c cs) =
      and_then (clause S known own allowed c) (λ c. and_then (clauses S known own allowed cs) (λ cs. Ok (core.cons c cs)))

-- a function by clauses, whose terms name it by the number of the next entry
pub record Function : Type 0 where
  pub name : List ℕ
  pub type : tree.Term
  pub arity : ℕ
  pub clauses : core.Clauses

-- how many products a type begins with
abbrev pub product_count : tree.Term → ℕ
product_count (tree.Pi a b) = 1 + product_count b
product_count _ = 0

-- the number of patterns of the first clause, or without clauses that of the products of the type
abbrev pub arity_of : tree.Term → surf.Clauses → ℕ
arity_of type surf.no_clause = product_count type
arity_of type (surf.also (surf.Is x pats right) cs) = length pats

-- the number of patterns of each clause, where it is at most that of the products of the type
abbrev pub allowed_by : tree.Term → ℕ → Option ℕ
allowed_by type arity = if nat_le arity (product_count type) then Some arity else None

abbrev pub function : Signature → Word → surf.Surf → surf.Clauses → Result Function ResolveStop
function S x ty cs =
    and_then (declared S [] x) (λ own.
    and_then (resolve (known_in S) ty []) (λ type.
    let arity = arity_of type cs in
    and_then (clauses S (with_name own (tree.Const (length S.entries)) (known_in S)) own (allowed_by type arity) cs) (λ list.
    Ok (record { name = own; type = type; arity = arity; clauses = list }))))

abbrev pub IsFun : surf.Decl → Type 0
IsFun (surf.Fun name ty cs) = Unit {0}
IsFun _ = ⊥

-- the function that is declared; no other declaration is asked for
abbrev pub resolve_fun : Signature → surf.Decl → Result Function ResolveStop
resolve_fun S (surf.Fun name ty cs) = function S name ty cs
resolve_fun S _ = Err Memory
