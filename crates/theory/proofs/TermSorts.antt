-- A term with a derivation has sorts below top, and so has the type of a symbol.
use Rattle.std.proofs.Common.{List}
use Rattle.theory.specs.Terms.{Term, SortsBelow, top}
use Rattle.theory.specs.Terms.Term.{Var}
use Rattle.theory.specs.Substitutions.{extend}
use Rattle.theory.specs.Signatures.{Signature, TypeOf}
use Rattle.theory.specs.Signatures.TypeOf.{constant, family, constructor, eliminator, axiom_k}
use Rattle.theory.specs.Typing.{Has}
use Rattle.theory.specs.Typing.Has.{variable, sort, product, function, application, local, symbol, below, below_sort}
use Rattle.theory.specs.SortLaws.{SortsOfDerivation, SortsOfSymbolType}
use Rattle.theory.proofs.SortInstances.{sorts_before_inst}

sorts_of_symbol : {S : Signature} {t a : Term} → TypeOf S t a → SortsBelow top t
sorts_of_symbol (constant n at) = tt
sorts_of_symbol (family n at) = tt
sorts_of_symbol (constructor n number at c) = tt
sorts_of_symbol (eliminator n m at f e) = tt
sorts_of_symbol (axiom_k i m at e) = tt

-- a term with a derivation has sorts below top only
pub sorts_of_term : {S : Signature} {G : List Term} {t a : Term} → Has S G t a → SortsBelow top t
sorts_of_term (variable n context at) = tt
sorts_of_term (sort i context limit) = limit
sorts_of_term (product i j da db) = (sorts_of_term da, sorts_of_term db)
sorts_of_term (function i j da db dc) = (sorts_of_term da, sorts_of_term db)
sorts_of_term (application df du) = (sorts_of_term df, sorts_of_term du)
sorts_of_term (local {t = t} {b = b} i da dt db) =
    (sorts_of_term da, sorts_of_term dt, sorts_before_inst (extend Var t) b top (sorts_of_term db))
sorts_of_term (symbol context type) = sorts_of_symbol type
sorts_of_term (below i dt le db) = sorts_of_term dt
sorts_of_term (below_sort i dt le) = sorts_of_term dt

-- this as a law
pub sorts_of_derivation : SortsOfDerivation
sorts_of_derivation S G t a h = sorts_of_term h

-- a symbol's type has a sort, and so a derivation
pub sorts_of_symbol_type : SortsOfSymbolType
sorts_of_symbol_type S typed t a h = sorts_of_term (typed.types h).1
