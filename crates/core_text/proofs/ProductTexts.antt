-- The text of products by its parts.
use Rattle.std.proofs.Common.{◌≡◌, ℕ, zero, suc, ◌+◌, List, [], ◌∷◌, ◌++◌, map, length, append_assoc, add-one, refl, sym, ap, ◌∙◌}
use Rattle.std.specs.Prelude.{codes, decimal}
use Rattle.std.proofs.lemmas.List.{append-nil}
use Rattle.theory.specs.Terms.{Term, Sort}
use Rattle.theory.specs.Signatures.{Signature}
use Rattle.theory.specs.Telescopes.{products}
use Rattle.core_terms.specs.Meanings.{tree_of}
use Rattle.core_sig.specs.Meanings.{family_of}
use Rattle.core_sig.specs.declared.family.Arg.{Arg}
use Rattle.core_sig.specs.declared.family.Family.{Family}
use Rattle.core_sig.proofs.Arguments.{index_types-of}
use Rattle.core_text.specs.RawEntries.{type_shown}
use Rattle.core_text.specs.ProductParts.{opened, closed}
use Rattle.core_text.specs.TermText.{term_text}

closed-suc : (n : ℕ) → closed (suc n) ≡ closed n ++ codes ")"
closed-suc zero = refl
closed-suc (suc n) = ap (λ r. codes ")" ++ r) (closed-suc n)

-- one parenthesis more
pub closed_more : (n : ℕ) → closed (n + 1) ≡ closed n ++ codes ")"
closed_more n = ap closed (add-one n) ∙ closed-suc n

regroup : (p t m o e c q d : List ℕ) → c ++ q ≡ d → p ++ t ++ m ++ (o ++ e ++ c) ++ q ≡ p ++ t ++ m ++ o ++ e ++ d
regroup p t m o e c q d same = simp append_assoc (ap (λ r. p ++ (t ++ (m ++ (o ++ (e ++ r))))) same)

pub text_products : (S : Signature) (args : List Arg) (end : Term) → term_text S (products (map (λ a. tree_of a.ty) args) end) ≡ opened S (map (λ a. tree_of a.ty) args) ++ term_text S end ++ closed (length args)
text_products S [] end = sym (append-nil (term_text S end))
text_products S (a ∷ args) end =
    ap (λ r. codes "(" ++ term_text S (tree_of a.ty) ++ codes " -> " ++ r ++ codes ")") (text_products S args end)
    ∙ regroup (codes "(") (term_text S (tree_of a.ty)) (codes " -> ") (opened S (map (λ a. tree_of a.ty) args)) (term_text S end) (closed (length args)) (codes ")") (closed (suc (length args))) (sym (closed-suc (length args)))

pub text_type_shown : (S : Signature) (f : Family) → term_text S (type_shown (family_of f)) ≡ opened S (map (λ a. tree_of a.ty) f.indices) ++ codes "Type " ++ decimal f.level ++ closed (length f.indices)
text_type_shown S f =
    ap (λ tele. term_text S (products tele (Sort f.level))) (index_types-of f) ∙ text_products S f.indices (Sort f.level) ∙ simp append_assoc
