-- Where no term is shared, a block is the line of version 1.
use Rattle.std.proofs.Common.{◌≡◌, ℕ, Bool, true, false, List, [], ◌∷◌, ◌++◌, map, cond, Option, None, refl, ap, ap₂, ◌∙◌}
use Rattle.std.specs.Prelude.{codes}
use Rattle.theory.specs.Terms.{Term}
use Rattle.theory.specs.Terms.Term.{Var, Sort, Pi, Lam, App, Let, Const, Fam, Con, Elim, AxiomK}
use Rattle.theory.specs.Telescopes.{Telescope}
use Rattle.theory.specs.Signatures.{Signature, Entry, FamilyOf, EliminatorAt, AxiomKAt, Definition}
use Rattle.core_sig.specs.Raw.{RawConstructor}
use Rattle.core_text.specs.EntryText.{parameters_text, constructors_text, entry_text}
use Rattle.core_text.specs.RawEntries.{constructor_line, entry_shown, type_shown}
use Rattle.core_text.specs.TermReading.{is_application}
use Rattle.core_text.specs.TermText.{enclosed, spelled, term_text}
use Rattle.shared_text.specs.BlockLaws.{BlocksMayBeLines}
use Rattle.shared_text.specs.BlockText.{block_with, constructors_by, head_number, in_full, numbered, parameters_by, shared_text, text_by}

neither : (b : Bool) → cond {A = Option ℕ} b None None ≡ None
neither true = refl
neither false = refl

head-none : (f : Term) → head_number [] f ≡ None
head-none f = neither (is_application f)

-- a text with no numbers is that of version 1
as-spelled : (S : Signature) (is_function : Bool) (t : Term) → in_full S [] is_function t ≡ spelled S is_function t
as-spelled S f (Pi a b) = ap₂ (λ x y. codes "(" ++ x ++ codes " -> " ++ y ++ codes ")") (as-spelled S false a) (as-spelled S false b)
as-spelled S f (Lam a b) = ap₂ (λ x y. codes "(\\" ++ x ++ codes " . " ++ y ++ codes ")") (as-spelled S false a) (as-spelled S false b)
as-spelled S is_function (App f a) =
    ap (λ o. enclosed is_function (numbered o (in_full S [] true f) ++ codes " " ++ in_full S [] false a)) (head-none f)
    ∙ ap₂ (λ x y. enclosed is_function (x ++ codes " " ++ y)) (as-spelled S true f) (as-spelled S false a)
as-spelled S f (Let a t b) =
    ap (λ x. codes "(let " ++ x ++ codes " = " ++ in_full S [] false t ++ codes " . " ++ in_full S [] false b ++ codes ")") (as-spelled S false a)
    ∙ ap₂ (λ y z. codes "(let " ++ term_text S a ++ codes " = " ++ y ++ codes " . " ++ z ++ codes ")") (as-spelled S false t) (as-spelled S false b)
as-spelled S f (Var n) = refl
as-spelled S f (Sort i) = refl
as-spelled S f (Const n) = refl
as-spelled S f (Fam n) = refl
as-spelled S f (Con n c) = refl
as-spelled S f (Elim n m) = refl
as-spelled S f (AxiomK i m) = refl

module _ (S : Signature) where
  abbrev text : Term → List ℕ
  text t = shared_text S [] t

  parameters : (tele : Telescope) → parameters_by text tele ≡ parameters_text S tele
  parameters [] = refl
  parameters (a ∷ tele) = ap₂ (λ x y. codes " (" ++ x ++ codes ")" ++ y) (as-spelled S false a) (parameters tele)

  constructors : (before : List ℕ) (cs : List RawConstructor) → constructors_by text before cs ≡ constructors_text S before cs
  constructors before [] = refl
  constructors before (c ∷ cs) =
      ap₂ (λ x y. before ++ c.name ++ codes " : " ++ x ++ y) (as-spelled S false c.type) (constructors (codes " ; ") cs)

  line : (n : ℕ) (e : Entry) → text_by text S (entry_shown n e) ≡ entry_text S n e
  line n (FamilyOf f) =
      let cs = map (constructor_line n f) f.constructors in
      ap₂ (λ x y. codes "data " ++ f.name ++ x ++ codes " : " ++ y ++ codes " {" ++ constructors_by text (codes " ") cs ++ codes " }") (parameters f.parameters) (as-spelled S false (type_shown f))
      ∙ ap (λ z. codes "data " ++ f.name ++ parameters_text S f.parameters ++ codes " : " ++ term_text S (type_shown f) ++ codes " {" ++ z ++ codes " }") (constructors (codes " ") cs)
  line n (EliminatorAt g m) = refl
  line n (AxiomKAt i m) = refl
  line n (Definition name type body) =
      ap₂ (λ x y. codes "def " ++ name ++ codes " : " ++ x ++ codes " = " ++ y) (as-spelled S false type) (as-spelled S false body)

pub blocks_may_be_lines : BlocksMayBeLines
blocks_may_be_lines S n e none =
    ap (λ ts. block_with S ts (entry_shown n e)) none ∙ ap (λ text. text ++ codes "\n") (line S n e)
