-- The term of a proof, its names and a candidate that the code makes are those of the definitions, where each next standing of a run is the
-- one that is meant.
use Rattle.std.specs.Prelude.{◌≡◌, ℕ, List, ◌++◌, Ok}
use Rattle.theory.specs.Terms.{Term}
use Rattle.theory.specs.Signatures.{Signature}
use Rattle.core_sig.specs.Drafts.{Draft}
use Rattle.tree_translation.specs.Naming.{Naming}
use Rattle.tree_translation.specs.Plans.{Plan}
use Rattle.split_terms.specs.Laws.{StepsAreThese}
use Rattle.clause_reports.specs.Equations.{Equation, part_at, part_name}
use Rattle.clause_reports.specs.ProofTerms.{candidate, proof_names, proof_term}
use Rattle.clause_reports.specs.ProofWalks.{Proof}
use Rattle.proof_walks.specs.proof_terms.CodeProofs.{candidate_made, name_made, names_made, proof_made}

abbrev pub ProofIsTerm : Type 0
ProofIsTerm =
    (S : Signature) → StepsAreThese S → (number : Naming) (L : ℕ) (proof : Proof) (t : Term) → proof_made S number L proof ≡ Ok t →
    t ≡ proof_term S number L proof

abbrev pub ProofNamesAreThese : Type 0
ProofNamesAreThese =
    (S : Signature) → StepsAreThese S → (L : ℕ) (proof : Proof) (names all : List (List ℕ)) → names_made S L proof names ≡ Ok all →
    all ≡ names ++ proof_names S L proof

abbrev pub CandidateIsThis : Type 0
CandidateIsThis =
    (S : Signature) → StepsAreThese S → (plan : Plan) (k clause : ℕ) (e : Equation) (proof : Proof) (d : Draft) →
    candidate_made S (name_made (part_name plan k) clause) (part_at plan k).level e proof ≡ Ok d → candidate S plan k clause e proof ≡ Ok d
