-- The meanings of the answers of the parser's parts.
use Rattle.std.specs.Prelude.{◌≡◌, Result, Ok, Err, option_map}
use Rattle.surface_syntax.specs.Machine as machine
use Rattle.surface_syntax.specs.TreeMeanings.{decl_of}
use Rattle.surface_syntax.specs.StateMeanings.{state_of}
use Rattle.surface_syntax.specs.declared.tree.Word.{Word}
use Rattle.surface_syntax.specs.declared.lexeme.Lexeme.{Lexeme}
use Rattle.surface_syntax.specs.declared.lexeme.Lexeme.TheVariants as x
use Rattle.surface_syntax.specs.declared.state.Step.{Step}
use Rattle.surface_syntax.specs.declared.state.Step.TheVariants.{Goes, Ends}
use Rattle.surface_syntax.specs.declared.halt.Halt.{Halt}
use Rattle.surface_syntax.specs.declared.halt.Halt.TheVariants.{Stuck, Over, Memory}

-- the meaning of a step
abbrev pub outcome_of : Step → machine.Outcome
outcome_of (Goes o s) = machine.Goes (option_map decl_of o) (state_of s)
outcome_of (Ends o) = machine.Ends (option_map decl_of o)

-- a step is the one that is meant, unless memory runs out
abbrev pub Follows : Result Step Halt → machine.Outcome → Type 0
Follows (Ok s) meant = outcome_of s ≡ meant
Follows (Err Stuck) meant = machine.Stuck ≡ meant
Follows (Err (Over n)) meant = machine.Over n ≡ meant
Follows (Err Memory) meant = Unit {0}

-- a value stands for the one that is meant, unless memory runs out
abbrev pub Makes : {A B : Type 0} → (A → B) → Result A Halt → B → Type 0
Makes f (Ok a) meant = f a ≡ meant
Makes f (Err e) meant = e ≡ Memory

-- the name, where one is due
abbrev pub name_due : Lexeme → Result Word Halt
name_due (x.Plain w) = Ok w
name_due _ = Err Stuck

-- whether the lexeme is the one that is due
abbrev pub colon_due : Lexeme → Result (Unit {0}) Halt
colon_due x.Colon = Ok tt
colon_due _ = Err Stuck

abbrev pub close_due : Lexeme → Result (Unit {0}) Halt
close_due x.Close = Ok tt
close_due _ = Err Stuck

abbrev pub equals_due : Lexeme → Result (Unit {0}) Halt
equals_due x.Equals = Ok tt
equals_due _ = Err Stuck

abbrev pub open_brace_due : Lexeme → Result (Unit {0}) Halt
open_brace_due x.OpenBrace = Ok tt
open_brace_due _ = Err Stuck

abbrev pub in_due : Lexeme → Result (Unit {0}) Halt
in_due x.In = Ok tt
in_due _ = Err Stuck
