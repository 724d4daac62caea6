-- The term, the names and the candidate that the code makes of a proof are those of the definitions.
use Rattle.std.proofs.Common.{◌≡◌, ℕ, List, [], ◌∷◌, ◌++◌, length, Ok, sym, ap, ◌∙◌, subst as transport, append_assoc}
use Rattle.theory.specs.Terms.{Term}
use Rattle.theory.specs.Telescopes.{functions}
use Rattle.theory.specs.Signatures.{Signature}
use Rattle.core_terms.proofs.Builders.{ok_is}
use Rattle.tele_eq.proofs.Growing.{append-none, snoc-append}
use Rattle.tree_translation.specs.Naming.{Naming, number_in, with_names}
use Rattle.tree_translation.specs.Splits.{split_names, split_node}
use Rattle.run_terms.proofs.MadeTerms.{if-both}
use Rattle.split_terms.specs.CodeSplits.{split_names_made, split_node_made}
use Rattle.split_terms.specs.Laws.{StepsAreThese}
use Rattle.split_terms.proofs.SplitsMade.{node-is, split-names-are}
use Rattle.leaf_terms.specs.CodeNumbering.{numbered}
use Rattle.clause_reports.specs.Equations.{part_at, part_name, closed_type}
use Rattle.clause_reports.specs.ProofTerms.{all_proof_names, goal_node, proof_names, proof_term, proof_terms}
use Rattle.clause_reports.specs.ProofWalks.{Ends, Splits, Proofs, nil, cons}
use Rattle.proof_walks.specs.proof_terms.CodeProofs.{all_names_made, body_made, candidate_with, name_made, names_made, proof_made, proofs_made, table_made}
use Rattle.proof_walks.specs.proof_terms.Laws.{CandidateIsThis, ProofIsTerm, ProofNamesAreThese}

mutual
  pub proof-is : ProofIsTerm
  proof-is S these number L (Ends clause p) t e = sym (ok_is e)
  proof-is S these number L (Splits p x type runs proofs) t e =
      let both = if-both (proofs_made S number L proofs []) (split_node_made S number L (goal_node L p) x type runs) t e in
      node-is S these number L (goal_node L p) x type runs both.0 t both.2
      ∙ ap (split_node S number L (goal_node L p) x type runs) (proofs-are S these number L proofs [] both.0 both.1)

  proofs-are : (S : Signature) → StepsAreThese S → (number : Naming) (L : ℕ) (proofs : Proofs) (made all : List Term)
      → proofs_made S number L proofs made ≡ Ok all → all ≡ made ++ proof_terms S number L proofs
  proofs-are S these number L nil made all e = sym (ok_is e) ∙ sym (append-none made)
  proofs-are S these number L (cons proof proofs) made all e =
      let both = if-both (proof_made S number L proof) (λ t. proofs_made S number L proofs (made ++ t ∷ [])) all e in
      proofs-are S these number L proofs (made ++ both.0 ∷ []) all both.2
      ∙ (ap (λ t. (made ++ t ∷ []) ++ proof_terms S number L proofs) (proof-is S these number L proof both.0 both.1)
      ∙ snoc-append made (proof_term S number L proof) (proof_terms S number L proofs))

mutual
  pub proof-names-are : ProofNamesAreThese
  proof-names-are S these L (Ends clause p) names all e = sym (ok_is e) ∙ sym (append-none names)
  proof-names-are S these L (Splits p x type runs proofs) names all e =
      let both = if-both (split_names_made S L (goal_node L p) x type runs names) (all_names_made S L proofs) all e in
      all-names-are S these L proofs both.0 all both.2
      ∙ (ap (λ before. before ++ all_proof_names S L proofs) (split-names-are S these L (goal_node L p) x type runs names both.0 both.1)
      ∙ append_assoc names (split_names S L (goal_node L p) x type runs) (all_proof_names S L proofs))

  all-names-are : (S : Signature) → StepsAreThese S → (L : ℕ) (proofs : Proofs) (names all : List (List ℕ)) → all_names_made S L proofs names ≡ Ok all
      → all ≡ names ++ all_proof_names S L proofs
  all-names-are S these L nil names all e = sym (ok_is e) ∙ sym (append-none names)
  all-names-are S these L (cons proof proofs) names all e =
      let both = if-both (names_made S L proof names) (all_names_made S L proofs) all e in
      all-names-are S these L proofs both.0 all both.2
      ∙ (ap (λ before. before ++ all_proof_names S L proofs) (proof-names-are S these L proof names both.0 both.1)
      ∙ append_assoc names (proof_names S L proof) (all_proof_names S L proofs))

pub candidate-is : CandidateIsThis
candidate-is S these plan k clause e proof d h =
    let L = (part_at plan k).level in
    let base = length S.entries in
    let name = name_made (part_name plan k) clause in
    let first = if-both (table_made S L proof) (candidate_with S name L e proof) d h in
    let names = if-both (names_made S L proof []) (λ names. Ok (with_names [] names)) first.0 first.1 in
    let table = with_names [] (proof_names S L proof) in
    let number = number_in base table in
    let same = sym (ok_is names.2) ∙ ap (with_names []) (proof-names-are S these L proof [] names.0 names.1) in
    let second = if-both (body_made S number L e proof) (numbered name base table (closed_type L e)) d
    (transport (λ table. candidate_with S name L e proof table ≡ Ok d) same first.2) in
    let third = if-both (proof_made S number L proof) (λ t. Ok (functions e.context t)) second.0 second.1 in
    ap (numbered name base table (closed_type L e))
    (sym (ap (functions e.context) (proof-is S these number L proof third.0 third.1)) ∙ ok_is third.2)
    ∙ second.2
