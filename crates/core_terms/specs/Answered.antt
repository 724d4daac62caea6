-- Terms that are made of answers.
use Rattle.std.specs.Prelude.{Result, Ok, Err}
use Rattle.theory.specs.Terms.{Term}
use Rattle.core_terms.specs.Answers.{and_then}
use Rattle.core_terms.specs.Meanings.{tree_of}
use Rattle.core_terms.specs.declared.term.Term as code
use Rattle.core_terms.specs.declared.stop.Stop.{Stop}

-- an answer in code as one on trees
abbrev pub shown : Result code.Term Stop → Result Term Stop
shown (Ok t) = Ok (tree_of t)
shown (Err e) = Err e

-- a term made of two answers, or the first refusal among them
abbrev pub of_two : (Term → Term → Term) → Result Term Stop → Result Term Stop → Result Term Stop
of_two make first second = and_then first (λ a. and_then second (λ b. Ok (make a b)))

-- a term made of three answers, or the first refusal among them
abbrev pub of_three : (Term → Term → Term → Term) → Result Term Stop → Result Term Stop → Result Term Stop → Result Term Stop
of_three make first second third = and_then first (λ a. and_then second (λ b. and_then third (λ c. Ok (make a b c))))
