-- A term as it is shown: reduced at its head, with constants left as they are.
use Rattle.std.specs.Prelude.{ℕ, false}
use Rattle.theory.specs.Terms.{Term}
use Rattle.theory.specs.Signatures.{Signature}
use Rattle.core_terms.specs.Answers.{Spent}
use Rattle.kernel_reduce.specs.Reduction.{whnf_of}

-- the head form without delta
abbrev pub tidy_of : Signature → ℕ → Term → Spent Term
tidy_of S left t = whnf_of S false left t
