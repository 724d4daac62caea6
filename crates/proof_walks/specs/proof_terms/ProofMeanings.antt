-- The meanings of places, proofs and equations of the code.
use Rattle.std.specs.Prelude.{List, [], ◌∷◌, map}
use Rattle.core_terms.specs.Meanings.{tree_of, tele_of}
use Rattle.core_terms.specs.TreeMeanings.{steps_of}
use Rattle.clause_reports.specs.Equations as equations
use Rattle.clause_reports.specs.ProofWalks as pure
use Rattle.proof_walks.specs.declared.proof_terms.candidates.Goal.{Goal}
use Rattle.proof_walks.specs.declared.proof_terms.proof.Place.{Place}
use Rattle.proof_walks.specs.declared.proof_terms.proof.Proof.{Proof}
use Rattle.proof_walks.specs.declared.proof_terms.proof.Proof.TheOpen as opened
use Rattle.proof_walks.specs.declared.proof_terms.proof.Proof.TheFolds.{fold-Proof}

abbrev pub place_of : Place → pure.Place
place_of p = record {
  context = tele_of p.ctx;
  type = tree_of p.ty;
  left = tree_of p.left;
  right = tree_of p.right;
  terms = tele_of p.terms;
  values = tele_of p.values;
}

-- the proofs of a list
abbrev pub proofs : List pure.Proof → pure.Proofs
proofs [] = pure.nil
proofs (proof ∷ others) = pure.cons proof (proofs others)

-- a proof, once those after its split are given
abbrev pub proof_step : opened.Proof-F pure.Proof → pure.Proof
proof_step (opened.Ends clause place) = pure.Ends clause (place_of place)
proof_step (opened.Splits place x ty runs after) = pure.Splits (place_of place) x (tree_of ty) (map steps_of runs) (proofs after)

abbrev pub proof_of : Proof → pure.Proof
proof_of = fold-Proof pure.Proof proof_step

abbrev pub proofs_of : List Proof → pure.Proofs
proofs_of list = proofs (map proof_of list)

abbrev pub goal_of : Goal → equations.Equation
goal_of e = record { context = tele_of e.ctx.now; type = tree_of e.ty.now; left = tree_of e.left.now; right = tree_of e.right.now }
