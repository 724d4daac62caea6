-- The meanings of the code's constructors and functions.
use Rattle.core_terms.specs.Meanings.{tree_of}
use Rattle.core_terms.specs.PatternMeanings.{clauses_of}
use Rattle.resolve.specs.declared.constructors.Constructor.{Constructor}
use Rattle.resolve.specs.declared.fun_core.FunCore.{FunCore}
use Rattle.resolve.specs.Patterns as pattern
use Rattle.resolve.specs.Functions as function

abbrev pub constructor_of : Constructor → pattern.Constructor
constructor_of c = record { family = c.family; number = c.number; arguments = c.arguments }

abbrev pub fun_of : FunCore → function.Function
fun_of f = record { name = f.name; type = tree_of f.ty; arity = f.arity; clauses = clauses_of f.clauses }
