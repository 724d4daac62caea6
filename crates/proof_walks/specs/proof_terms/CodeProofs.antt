-- The terms and the names of proofs, and candidates, as the code makes them: Deep comes where a split node is Deep, and where the type
-- or the term of the candidate is too high.
use Rattle.std.specs.Prelude.{ℕ, ◌+◌, List, [], ◌∷◌, ◌++◌, length, codes, decimal, Result, Ok}
use Rattle.theory.specs.Terms.{Term}
use Rattle.theory.specs.Telescopes.{functions}
use Rattle.theory.specs.Signatures.{Signature, reflexivity}
use Rattle.core_terms.specs.Answers.{and_then}
use Rattle.core_terms.specs.declared.stop.Stop.{Stop}
use Rattle.core_sig.specs.Drafts.{Draft}
use Rattle.tree_translation.specs.Naming.{Naming, number_in, with_names}
use Rattle.split_terms.specs.CodeSplits.{split_names_made, split_node_made}
use Rattle.leaf_terms.specs.CodeNumbering.{numbered}
use Rattle.clause_reports.specs.Equations.{Equation, closed_type}
use Rattle.clause_reports.specs.ProofTerms.{goal_node}
use Rattle.clause_reports.specs.ProofWalks.{Proof, Ends, Splits, Proofs, nil, cons}

abbrev mutual
  pub proof_made : Signature → Naming → (L : ℕ) → Proof → Result Term Stop
  proof_made S number L (Ends clause p) = Ok (reflexivity L p.type p.left)
  proof_made S number L (Splits p x type runs proofs) =
      and_then (proofs_made S number L proofs []) (split_node_made S number L (goal_node L p) x type runs)

  -- terms, followed by those of proofs
  pub proofs_made : Signature → Naming → (L : ℕ) → Proofs → (made : List Term) → Result (List Term) Stop
  proofs_made S number L nil made = Ok made
  proofs_made S number L (cons proof proofs) made =
      and_then (proof_made S number L proof) (λ t. proofs_made S number L proofs (made ++ t ∷ []))

abbrev mutual
  -- the names that a proof may mention, after those that are there
  pub names_made : Signature → (L : ℕ) → Proof → (names : List (List ℕ)) → Result (List (List ℕ)) Stop
  names_made S L (Ends clause p) names = Ok names
  names_made S L (Splits p x type runs proofs) names =
      and_then (split_names_made S L (goal_node L p) x type runs names) (all_names_made S L proofs)

  pub all_names_made : Signature → (L : ℕ) → Proofs → (names : List (List ℕ)) → Result (List (List ℕ)) Stop
  all_names_made S L nil names = Ok names
  all_names_made S L (cons proof proofs) names = and_then (names_made S L proof names) (all_names_made S L proofs)

-- ---- the candidate

-- each name once
abbrev pub table_made : Signature → (L : ℕ) → Proof → Result (List (List ℕ)) Stop
table_made S L proof = and_then (names_made S L proof []) (λ names. Ok (with_names [] names))

-- the closed term of a proof, with the numbers of these names
abbrev pub body_made : Signature → Naming → (L : ℕ) → Equation → Proof → Result Term Stop
body_made S number L e proof = and_then (proof_made S number L proof) (λ t. Ok (functions e.context t))

abbrev pub candidate_with : Signature → (name : List ℕ) (L : ℕ) → Equation → Proof → (table : List (List ℕ)) → Result Draft Stop
candidate_with S name L e proof table =
    and_then (body_made S (number_in (length S.entries) table) L e proof) (numbered name (length S.entries) table (closed_type L e))

abbrev pub candidate_made : Signature → (name : List ℕ) (L : ℕ) → Equation → Proof → Result Draft Stop
candidate_made S name L e proof = and_then (table_made S L proof) (candidate_with S name L e proof)

-- the name of the candidate of a clause, counted from 1, of the part with a name
abbrev pub name_made : (part : List ℕ) (clause : ℕ) → List ℕ
name_made part clause = part ++ codes "!c" ++ decimal (clause + 1)
