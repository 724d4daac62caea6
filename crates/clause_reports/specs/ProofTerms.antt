-- The term of a walk: a split is the term of a split node, and a leaf is reflexivity.
use Rattle.std.specs.Prelude.{ℕ, ◌+◌, List, [], ◌∷◌, ◌++◌, length, Result, codes, decimal}
use Rattle.theory.specs.Terms.{Term}
use Rattle.theory.specs.Telescopes.{functions}
use Rattle.theory.specs.Signatures.{Signature, equation, reflexivity}
use Rattle.core_terms.specs.declared.stop.Stop.{Stop}
use Rattle.core_sig.specs.Drafts.{Draft}
use Rattle.tree_translation.specs.Naming.{Naming, drafted_in_order}
use Rattle.tree_translation.specs.Plans.{Plan}
use Rattle.tree_translation.specs.Splits.{Node, split_node, split_names}
use Rattle.clause_reports.specs.Equations.{Equation, part_at, part_name, closed_type}
use Rattle.clause_reports.specs.ProofWalks.{Place, Proof, Ends, Splits, Proofs, nil, cons}

-- the goal of a place: Eq.L type left right
abbrev pub goal_node : (L : ℕ) → Place → Node
goal_node L p = record { context = p.context; goal = equation L p.type p.left p.right; hidden = [] }

abbrev mutual
  pub proof_term : Signature → Naming → (L : ℕ) → Proof → Term
  proof_term S number L (Ends clause p) = reflexivity L p.type p.left
  proof_term S number L (Splits p x type runs proofs) =
      split_node S number L (goal_node L p) x type runs (proof_terms S number L proofs)

  pub proof_terms : Signature → Naming → (L : ℕ) → Proofs → List Term
  proof_terms S number L nil = []
  proof_terms S number L (cons proof proofs) = proof_term S number L proof ∷ proof_terms S number L proofs

abbrev mutual
  -- the names that it may mention
  pub proof_names : Signature → (L : ℕ) → Proof → List (List ℕ)
  proof_names S L (Ends clause p) = []
  proof_names S L (Splits p x type runs proofs) = split_names S L (goal_node L p) x type runs ++ all_proof_names S L proofs

  pub all_proof_names : Signature → (L : ℕ) → Proofs → List (List ℕ)
  all_proof_names S L nil = []
  all_proof_names S L (cons proof proofs) = proof_names S L proof ++ all_proof_names S L proofs

-- F!cK, for clause K of the part, counted from 1
abbrev pub proof_name : Plan → (k clause : ℕ) → List ℕ
proof_name plan k clause = part_name plan k ++ codes "!c" ++ decimal (clause + 1)

-- The candidate: a definition of the closed equation type by the closed term of the walk.
abbrev pub candidate : Signature → Plan → (k clause : ℕ) → Equation → Proof → Result Draft Stop
candidate S plan k clause e proof =
    let L = (part_at plan k).level in
    drafted_in_order (proof_name plan k clause) (length S.entries) (proof_names S L proof)
    (λ number. closed_type L e)
    (λ number. functions e.context (proof_term S number L proof))
