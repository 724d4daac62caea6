-- The trees of a function, which are split over the signature with the function, are made over the signature itself.
use Rattle.std.proofs.Common.{◌≡◌, ℕ, zero, suc, ◌≤◌, None, option_and_then, List, [], ◌∷◌, ◌++◌, slice_get, Ok, refl, sym, ap, ◌∙◌, subst as transport}
use Rattle.theory.specs.Terms.{height}
use Rattle.theory.specs.Signatures.{Entry, Signature}
use Rattle.kernel_reduce.specs.Entries.{family_in}
use Rattle.tree_translation.specs.Conditions.{with_function}
use Rattle.tree_translation.specs.Plans.{Plan}
use Rattle.exact_laws.specs.translation_laws.Laws.{FunctionTreeAnswers, FunctionTreeNamesAnswer, with_function_at}
use Rattle.exact_laws.proofs.translation_laws.AnsweredTreeNames.{tree_names-answer}
use Rattle.exact_laws.proofs.translation_laws.AnsweredTrees.{tree-answers}
use Rattle.exact_laws.proofs.translation_laws.SameCode.{tree-made-same, tree-names-made-same}
use Rattle.exact_laws.proofs.translation_laws.SameFamilies.{HaveSame, tree-names-same, tree-same}

-- one entry more that is no family
same-more : (es : List Entry) (e : Entry) (n : ℕ) → family_in e ≡ None
    → option_and_then family_in (slice_get es n) ≡ option_and_then family_in (slice_get (es ++ e ∷ []) n)
same-more [] e zero h = sym h
same-more [] e (suc n) h = refl
same-more (x ∷ es) e zero h = refl
same-more (x ∷ es) e (suc n) h = same-more es e n h

pub function-same : (S : Signature) (plan : Plan) → HaveSame S (with_function S plan)
function-same S plan n = same-more S.entries _ n refl

pub function_tree-answers : FunctionTreeAnswers
function_tree-answers w p t node is leaves low =
    let S = w.signature in
    let T = with_function S w.plan in
    let same = function-same S w.plan in
    let e = tree-same S T same w t node in
    tree-made-same S T same w t node
    ∙ (tree-answers (with_function_at w) p t node is leaves (transport (λ u. height u ≤ 2000) e low)
    ∙ ap (λ u. Ok u) (sym e))

pub function_tree_names-answer : FunctionTreeNamesAnswer
function_tree_names-answer w p t node names is low =
    let S = w.signature in
    let T = with_function S w.plan in
    let L = w.part.level in
    let same = function-same S w.plan in
    tree-names-made-same S T same L t node names
    ∙ (tree_names-answer (with_function_at w) p t node names is (transport (λ u. height u ≤ 2000) (tree-same S T same w t node) low)
    ∙ ap (λ own. Ok (names ++ own)) (sym (tree-names-same S T same L t node)))
