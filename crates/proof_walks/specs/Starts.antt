-- Where the walk of a clause starts as the code finds it: Deep where recursion is looked for in a telescope that is too high, and where a
-- term at the first place is not scoped.
use Rattle.std.specs.Prelude.{ℕ, zero, suc, cond, Option, List, length, Result, Ok, Err}
use Rattle.theory.specs.Terms.{Term}
use Rattle.theory.specs.Signatures.{Signature}
use Rattle.core_terms.specs.Answers.{and_next, and_then}
use Rattle.core_terms.specs.CaseTrees.{Tree, Walk}
use Rattle.core_terms.specs.declared.stop.Stop.{Stop}
use Rattle.core_terms.specs.declared.stop.Stop.TheVariants.{Deep}
use Rattle.tree_translation.specs.Plans.{Plan, own_part}
use Rattle.tree_translation.specs.Recursion.{Recursion, order_of, terms_at}
use Rattle.leaf_terms.specs.RecursionMade.{recursion_made}
use Rattle.clause_reports.specs.Equations.{Equation}
use Rattle.clause_reports.specs.ProofWalks.{Place, Proof, walk_tree}
use Rattle.clause_reports.specs.Stops.{Reporting, answers, or_halts}
use Rattle.proof_walks.specs.PlaceScopes.{is_scoped_place}

-- the terms of the function's columns in the order of recursion
abbrev pub values_in_order : Plan → List Term → Option Recursion → List Term
values_in_order plan terms r = terms_at (order_of (length (own_part plan).tele) r) terms

abbrev pub values_made : Signature → Plan → (k : ℕ) → Walk → Result (List Term) Stop
values_made S plan zero w = and_then (recursion_made S plan) (λ r. Ok (values_in_order plan w.terms r))
values_made S plan (suc k) w = Ok w.subst

-- the place of an equation, with the terms of the clause and of the variables from which the tree starts
abbrev pub place_at : Equation → (terms values : List Term) → Place
place_at e terms values = record {
  context = e.context;
  type = e.type;
  left = e.left;
  right = e.right;
  terms = terms;
  values = values;
}

abbrev pub scoped_place : Signature → Place → Result Place Stop
scoped_place S p = cond (is_scoped_place S p) (Ok p) (Err Deep)

abbrev pub start_made : Signature → Plan → (k : ℕ) → Walk → Equation → Result Place Stop
start_made S plan k w e = and_then (values_made S plan k w) (λ values. scoped_place S (place_at e w.terms values))

abbrev pub walk_made : Signature → Plan → (k : ℕ) → Walk → Equation → Tree → ℕ → Reporting Proof
walk_made S plan k w e t left =
    and_next (answers (or_halts (start_made S plan k w e)) left) (λ p rest. walk_tree S t p rest)
