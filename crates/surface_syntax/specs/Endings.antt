-- Where a term ends: with the terms around it of which it is the last part, or at its own end.
use Rattle.std.specs.Prelude.{◌≡◌, ◌<◌, ℕ, ◌+◌, Result, Ok, Err, option_map}
use Rattle.surface_syntax.specs.Trees as tree
use Rattle.surface_syntax.specs.Machine as machine
use Rattle.surface_syntax.specs.TreeMeanings.{surf_of}
use Rattle.surface_syntax.specs.StateMeanings.{spine_of, telescope_of, headed_of, clauses_in_of, pats_in_of, part_of, term_in_of}
use Rattle.surface_syntax.specs.declared.endings.Ending.{Ending}
use Rattle.surface_syntax.specs.declared.endings.Ending.TheVariants as ending
use Rattle.surface_syntax.specs.declared.endings.Outward.{Outward}
use Rattle.surface_syntax.specs.declared.endings.Outward.TheVariants.{Further, Here}
use Rattle.surface_syntax.specs.declared.lexeme.Lexeme.{Lexeme}
use Rattle.surface_syntax.specs.declared.halt.Halt.{Halt}
use Rattle.surface_syntax.specs.declared.halt.Halt.TheVariants.{Memory}

abbrev pub ending_of : Ending → machine.Term_in
ending_of (ending.Whole p) = machine.Whole (part_of p)
ending_of (ending.Parens d s k) = machine.Parens d (option_map spine_of s) (term_in_of k.value)
ending_of (ending.Domain b ns k) = machine.Domain (telescope_of b) ns (term_in_of k.value)
ending_of (ending.LetType d w k) = machine.LetType d w (term_in_of k.value)
ending_of (ending.LetValue d w a k) = machine.LetValue d w (surf_of a) (term_in_of k.value)
ending_of (ending.Dot d void k) = machine.Dot d void (pats_in_of k.value)
ending_of (ending.Side h k) = machine.Side (headed_of h) (clauses_in_of k.value)
ending_of (ending.Scrutinee h k) = machine.Scrutinee (headed_of h) (clauses_in_of k.value)

-- how many terms end where this one ends
abbrev pub outside : machine.Term_in → ℕ
outside (machine.Codomain a k) = outside k + 1
outside (machine.Body b k) = outside k + 1
outside (machine.LetBody w a v k) = outside k + 1
outside _ = 0

-- a term around this one ends as this one does, or this one is the last part of no other
abbrev pub Leads : Result Outward Halt → tree.Surf → machine.Term_in → Type 0
Leads (Ok (Further t k)) u c = (outside (term_in_of k) < outside c) × ((x : Lexeme) → machine.term_end (surf_of t) (term_in_of k) x ≡ machine.term_end u c x)
Leads (Ok (Here t e)) u c = (surf_of t ≡ u) × (ending_of e ≡ c)
Leads (Err e) u c = e ≡ Memory
