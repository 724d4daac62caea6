-- The type that a constructor is shown with, by the terms of the code.
use Rattle.std.proofs.Common.{◌≡◌, ℕ, ◌+◌, ◌<◌, List, ◌∷◌, ◌++◌, map, length, get_or, drop, append_assoc, add-one, sym, ap, ap₂, ◌∙◌}
use Rattle.std.specs.Prelude.{codes}
use Rattle.std.proofs.Math.Seq.{drop-cons}
use Rattle.std.proofs.lemmas.List.{length-map}
use Rattle.theory.specs.Terms.{Var, Fam}
use Rattle.theory.specs.Telescopes.{products, applied, variables, weaken_by}
use Rattle.theory.specs.Signatures.{Signature}
use Rattle.theory.specs.Families.{argument_types, family_head}
use Rattle.core_terms.specs.Meanings.{tree_of, tele_of}
use Rattle.core_sig.specs.Kinds.{HaveKinds}
use Rattle.core_sig.specs.Meanings.{argument_of, constructor_of, family_of}
use Rattle.core_sig.specs.declared.family.Constructor.{Constructor}
use Rattle.core_sig.specs.declared.family.Family.{Family}
use Rattle.core_sig.proofs.Arguments.{argument_types-of}
use Rattle.core_sig.proofs.ConstructorTypes.{ren-applied}
use Rattle.core_text.specs.EntryText.{constructors_text}
use Rattle.core_text.specs.RawEntries.{constructor_line, constructor_type_shown}
use Rattle.core_text.specs.Records.{type_of_constructor as shown}
use Rattle.core_text.specs.TermText.{term_text}

pub shown-is : (n : ℕ) (f : Family) (con : Constructor) → HaveKinds n (family_of f) 0 con.args → constructor_type_shown n (family_of f) (constructor_of (length f.params) con) ≡ shown n (length f.params) con
shown-is n f con kinds =
    ap₂ products
    (ap (λ p. argument_types Var (family_head n (family_of f)) (map (argument_of p) con.args)) (sym counted) ∙ argument_types-of n (family_of f) con.args kinds)
    (ap (λ h. applied h (tele_of con.targets))
    (ren-applied (λ k. k + length (map (argument_of (length f.params)) con.args)) (Fam n) (variables (length (tele_of f.params)))
    ∙ ap₂ (λ k p. applied (Fam n) (map (weaken_by k) (variables p))) (length-map con.args (argument_of (length f.params))) counted))
  where
    counted : length (tele_of f.params) ≡ length f.params
    counted = length-map f.params tree_of

-- one constructor less to write
pub constructors_less : (S : Signature) (n : ℕ) (f : Family) (before out whole : List ℕ) (cons : List Constructor) (at : ℕ) (con : Constructor) → HaveKinds n (family_of f) 0 con.args → at < length cons → con ≡ get_or cons at con → out ++ constructors_text S before (map (constructor_line n (family_of f)) (map (constructor_of (length f.params)) (drop at cons))) ≡ whole → out ++ before ++ con.name ++ codes " : " ++ term_text S (shown n (length f.params) con) ++ constructors_text S (codes " ; ") (map (constructor_line n (family_of f)) (map (constructor_of (length f.params)) (drop (at + 1) cons))) ≡ whole
constructors_less S n f before out whole cons at con kinds lt is left =
    simp append_assoc
    (ap (λ t. out ++ (before ++ (con.name ++ (codes " : " ++ (term_text S t ++ rest))))) (sym (shown-is n f con kinds))
    ∙ (simp append_assoc at (sym (ap (λ cs. out ++ constructors_text S before (map (constructor_line n (family_of f)) (map (constructor_of (length f.params)) cs))) dropped)) ∙ left))
  where
    rest : List ℕ
    rest = constructors_text S (codes " ; ") (map (constructor_line n (family_of f)) (map (constructor_of (length f.params)) (drop (at + 1) cons)))

    dropped : drop at cons ≡ con ∷ drop (at + 1) cons
    dropped = drop-cons cons at con lt ∙ ap₂ ◌∷◌ (sym is) (ap (λ k. drop k cons) (sym (add-one at)))
