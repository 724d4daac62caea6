-- The term of a split node that the code makes by itself is exact.
use Rattle.std.proofs.Common.{◌≡◌, ◌≤◌, ℕ, Bool, true, false, cond, List, [], Result, Ok, Err, refl, sym, ap, ◌∙◌}
use Rattle.theory.specs.Terms.{Term, height}
use Rattle.theory.specs.Signatures.{Signature}
use Rattle.core_terms.specs.Answers.{and_then, bounded, is_low}
use Rattle.core_terms.specs.CaseTrees.{Step}
use Rattle.core_terms.specs.declared.stop.Stop.{Stop}
use Rattle.core_terms.specs.declared.stop.Stop.TheVariants.{Deep}
use Rattle.core_terms.proofs.Answers.{low-is}
use Rattle.tree_translation.specs.Naming.{number_in, with_names}
use Rattle.tree_translation.specs.Splits.{Node, split_names, split_node}
use Rattle.split_terms.specs.CodeSplits.{split_named, split_names_made, split_node_made, split_term_made}
use Rattle.exact_laws.specs.run_laws.SplitLaws.{IsRunSplit, SplitTermIsExact}
use Rattle.exact_laws.proofs.run_laws.AnsweredSplits.{split-answers, split_names-answer}
use Rattle.exact_laws.proofs.run_laws.MadeSplits.{split-only_deep, split_made-is_node, split_names-are_these, split_names-only_deep}

-- names with a term
abbrev Pair : Type 0
Pair = List (List ℕ) × Term

-- a term with the names that are there then
abbrev beside : List (List ℕ) → Result Term Stop → Result Pair Stop
beside all r = and_then r (λ t. Ok (all, t))

high-bounded : (t u : Term) → t ≡ u → is_low u ≡ false → bounded t ≡ Err Deep
high-bounded t u e high =
    ap (λ x. bounded x) e ∙ ap (λ b. cond {A = Result Term Stop} b (Ok u) (Err Deep)) high

-- where the term is too high, it is Deep, whatever comes first
high-named : (r : Result Term Stop) (u : Term) → ((e : Stop) → r ≡ Err e → e ≡ Deep) → ((t : Term) → r ≡ Ok t → t ≡ u) → is_low u ≡ false
    → and_then r bounded ≡ Err Deep
high-named (Ok t) u deep same high = high-bounded t u (same t refl) high
high-named (Err e) u deep same high = ap (λ x. Err x) (deep e refl)

high-names : (r : Result (List (List ℕ)) Stop) (go : List (List ℕ) → Result Pair Stop) → ((e : Stop) → r ≡ Err e → e ≡ Deep)
    → ((all : List (List ℕ)) → r ≡ Ok all → go all ≡ Err Deep) → and_then r go ≡ Err Deep
high-names (Ok all) go deep next = next all refl
high-names (Err e) go deep next = ap (λ x. Err x) (deep e refl)

exact-by : (S : Signature) (base : ℕ) (L : ℕ) (node : Node) (x : ℕ) (type : Term) (runs : List (List Step)) (ends : List Term) (names : List (List ℕ))
    → IsRunSplit S node x type runs → (b : Bool)
    → is_low (split_node S (number_in base (with_names names (split_names S L node x type runs))) L node x type runs ends) ≡ b
    → split_term_made S base L node x type runs ends names
    ≡ beside (with_names names (split_names S L node x type runs))
    (bounded (split_node S (number_in base (with_names names (split_names S L node x type runs))) L node x type runs ends))
exact-by S base L node x type runs ends names is true low =
    let all = with_names names (split_names S L node x type runs) in
    let number = number_in base all in
    let t = split_node S number L node x type runs ends in
    let le : height t ≤ 2000 = low-is t low in
    let after : Result (List (List ℕ)) Stop → Result Pair Stop = λ r.
    and_then r (λ added. beside (with_names names added) (split_named S base L node x type runs ends (with_names names added))) in
    ap after (split_names-answer S number L node x type runs ends [] is le)
    ∙ ap (λ (r : Result Term Stop). beside all (and_then r bounded)) (split-answers S number L node x type runs ends is le)
exact-by S base L node x type runs ends names is false high =
    let all = with_names names (split_names S L node x type runs) in
    let number = number_in base all in
    let t = split_node S number L node x type runs ends in
    high-names (split_names_made S L node x type runs []) _ (λ e. split_names-only_deep S L node x type runs [] e) (λ added made.
    let same : with_names names added ≡ all = ap (with_names names) (split_names-are_these S L node x type runs [] added made) in
    ap (λ all. beside all (split_named S base L node x type runs ends all)) same
    ∙ ap (beside all)
    (high-named (split_node_made S number L node x type runs ends) t (λ e. split-only_deep S number L node x type runs ends e)
    (λ u. split_made-is_node S number L node x type runs ends u) high))
    ∙ sym (ap (beside all) (high-bounded t t refl high))

pub split_term-is_exact : SplitTermIsExact
split_term-is_exact S base L node x type runs ends names is =
    exact-by S base L node x type runs ends names is
    (is_low (split_node S (number_in base (with_names names (split_names S L node x type runs))) L node x type runs ends)) refl
