-- The standings that the code makes after a solution and after a deletion.
use Rattle.std.proofs.Common.{◌≡◌, ℕ, List, ◌++◌, length, None}
use Rattle.theory.specs.Terms.{Term}
use Rattle.theory.specs.Signatures.{reflexivity}
use Rattle.core_terms.specs.Meanings.{tree_of}
use Rattle.unification.specs.Rules.{level_of}
use Rattle.unification.specs.Solving.{deleted_state}
use Rattle.unification.specs.States.{State}
use Rattle.problems.specs.declared.moving.Solution.{Solution}
use Rattle.tree_translation.specs.Standings.{Standing}
use Rattle.run_terms.specs.CodeReplays.{moved_after_first, solved_by, solved_with}
use Rattle.run_terms.specs.declared.moving.Sides.TheVariants.{Same}

pub solved-by-is : (s : Standing) (x : ℕ) (A u : Term) (kept moved : List ℕ) (solution : Solution) (count : ℕ)
    → solution.size ≡ length s.state.context → solution.level ≡ level_of (length s.state.context) x
    → solution.order.now ≡ kept ++ moved → tree_of solution.by.now ≡ u → count ≡ length moved
    → solved_with s solution A kept count ≡ solved_by s x A u kept moved
solved-by-is s x A u kept moved solution count es el eo eu ec = rw (es, el, eo, eu, ec)

pub deleted-is : (s : State) (i n : ℕ) (A u here proof : Term) → n ≡ length s.context → here ≡ u → proof ≡ reflexivity i A u
    → moved_after_first s None Same n n here proof ≡ (deleted_state s i A u).equations
deleted-is s i n A u here proof en eu ep = rw (en, eu, ep)
