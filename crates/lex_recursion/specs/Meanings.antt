-- The meanings of the code's values.
use Rattle.std.specs.Prelude.{map}
use Rattle.core_terms.specs.Meanings.{tree_of}
use Rattle.tree_translation.specs.structural_rec.Meanings.{admission_of}
use Rattle.lex_recursion.specs.Pairs.{Pair}
use Rattle.lex_recursion.specs.PairChoices as choices
use Rattle.lex_recursion.specs.declared.choice.FailingPair.{FailingPair}
use Rattle.lex_recursion.specs.declared.choice.PairChoice.{PairChoice}
use Rattle.lex_recursion.specs.declared.choice.PairChoice.TheVariants.{At, Failing}
use Rattle.lex_recursion.specs.declared.fitting.PairPlace.{PairPlace}

abbrev pub failing_of : FailingPair → choices.FailingPair
failing_of f = record { first = f.first; second = f.second; clause = f.clause; call = tree_of f.call }

abbrev pub choice_of : PairChoice → choices.PairChoice
choice_of (At j k) = choices.At j k
choice_of (Failing rows) = choices.Failing (map failing_of rows)

-- the pair in a place where calls are looked at
abbrev pub pair_of : PairPlace → Pair
pair_of p = record { first = p.first; outer = admission_of p.outer.now; second = p.second; inner = admission_of p.inner.now }
