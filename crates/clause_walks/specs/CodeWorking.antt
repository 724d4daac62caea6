-- Working, as the code does it: after pairs that are made.
use Rattle.std.specs.Prelude.{Bool, true, false, Result, Ok, Err, List}
use Rattle.theory.specs.Terms.{Term}
use Rattle.core_terms.specs.Answers.{Spent, and_next}
use Rattle.core_terms.specs.declared.stop.Stop.{Stop}
use Rattle.core_terms.specs.declared.stop.Stop.TheVariants.{Deep}
use Rattle.kernel_reduce.specs.Reduction.{answered}
use Rattle.case_trees.specs.Pairs.{Pair, Pairs}
use Rattle.case_trees.specs.Working as spec
use Rattle.clause_walks.specs.Meanings.{put_before}
use Rattle.clause_walks.specs.declared.working.Rooms.{Rooms}
use Rattle.clause_walks.specs.declared.working.Rooms.TheVariants.{Columns, Arguments}

-- how high a term may be
abbrev pub rooms_of : Rooms → spec.Rooms
rooms_of Columns = spec.of_columns
rooms_of (Arguments room) = spec.of_arguments room

-- a term that has room, or Deep
abbrev pub if_room : Bool → Term → Result Term Stop
if_room true w = Ok w
if_room false w = Err Deep

-- pairs after those that are made
abbrev pub onto : (made : List Pair) → Spent Pairs → Spent Pairs
onto made spent = and_next spent (λ pairs left. answered (Ok (put_before made pairs)) left)
