-- The text of an application by its head and its arguments.
use Rattle.std.proofs.Common.{◌≡◌, ℕ, zero, suc, ◌+◌, ◌<◌, List, [], ◌∷◌, ◌++◌, map, length, append_assoc, true, false, refl, sym, ap, ◌∙◌, arith}
use Rattle.std.specs.Prelude.{codes, decimal}
use Rattle.std.proofs.lemmas.List.{append-nil, length-map}
use Rattle.theory.specs.Terms.{Term, App, Fam}
use Rattle.theory.specs.Signatures.{Signature}
use Rattle.theory.specs.Telescopes.{applied, variables, weaken_by}
use Rattle.core_terms.specs.declared.term.Term as code
use Rattle.core_terms.specs.Meanings.{tree_of, tele_of}
use Rattle.core_text.specs.SymbolNames.{name_at}
use Rattle.core_text.specs.TermReading.{is_application}
use Rattle.core_text.specs.TermText.{spelled, term_text, spaced}

-- a term that is no application has its text wherever it is
pub spelled-alone : (S : Signature) (t : Term) → is_application t ≡ false → spelled S true t ≡ term_text S t
spelled-alone S (App f a) e = absurd (cc)
spelled-alone S t e = refl

pub spelled-applied : (S : Signature) (head : Term) (ts : List Term) → spelled S true (applied head ts) ≡ spelled S true head ++ spaced S ts
spelled-applied S head [] = sym (append-nil (spelled S true head))
spelled-applied S head (t ∷ ts) = spelled-applied S (App head t) ts ∙ simp append_assoc

applied-append : (head : Term) (xs ys : List Term) → applied (applied head xs) ys ≡ applied head (xs ++ ys)
applied-append head [] ys = refl
applied-append head (x ∷ xs) ys = applied-append (App head x) xs ys

spaced-append : (S : Signature) (xs ys : List Term) → spaced S (xs ++ ys) ≡ spaced S xs ++ spaced S ys
spaced-append S [] ys = refl
spaced-append S (x ∷ xs) ys = ap (λ r. codes " " ++ term_text S x ++ r) (spaced-append S xs ys) ∙ simp append_assoc

text-applied : (S : Signature) (head t : Term) (ts : List Term) → term_text S (applied head (t ∷ ts)) ≡ codes "(" ++ spelled S true (applied head (t ∷ ts)) ++ codes ")"
text-applied S head t [] = refl
text-applied S head t (u ∷ ts) = text-applied S (App head t) u ts

joined : (p n x y q : List ℕ) → p ++ (n ++ (x ++ y)) ++ q ≡ p ++ n ++ x ++ y ++ q
joined p n x y q = simp append_assoc

text-split : (S : Signature) (n : ℕ) (t : Term) (xs ys ts : List Term) → t ∷ ts ≡ xs ++ ys → term_text S (applied (applied (Fam n) xs) ys) ≡ codes "(" ++ name_at S n ++ spaced S xs ++ spaced S ys ++ codes ")"
text-split S n t xs ys ts is =
    ap (term_text S) (applied-append (Fam n) xs ys ∙ ap (applied (Fam n)) (sym is))
    ∙ (text-applied S (Fam n) t ts
    ∙ (ap (λ r. codes "(" ++ r ++ codes ")") (spelled-applied S (Fam n) (t ∷ ts) ∙ ap (λ r. name_at S n ++ r) (ap (spaced S) is ∙ spaced-append S xs ys))
    ∙ joined (codes "(") (name_at S n) (spaced S xs) (spaced S ys) (codes ")")))

-- a family at some arguments
text-head : (S : Signature) (n : ℕ) (xs ys : List Term) → 0 < length xs + length ys → term_text S (applied (applied (Fam n) xs) ys) ≡ codes "(" ++ name_at S n ++ spaced S xs ++ spaced S ys ++ codes ")"
text-head S n (x ∷ xs) ys some = text-split S n x (x ∷ xs) ys (xs ++ ys) refl
text-head S n [] (y ∷ ys) some = text-split S n y [] (y ∷ ys) ys refl
text-head S n [] [] some = absurd (omega arith)

length-variables : (p : ℕ) → length (variables p) ≡ p
length-variables zero = refl
length-variables (suc p) = ap suc (length-variables p)

-- a family at p parameters and some targets
pub text_target : (S : Signature) (n from p : ℕ) (targets : List code.Term) → 0 < p + length targets → term_text S (applied (applied (Fam n) (map (weaken_by from) (variables p))) (tele_of targets)) ≡ codes "(" ++ name_at S n ++ spaced S (map (weaken_by from) (variables p)) ++ spaced S (tele_of targets) ++ codes ")"
text_target S n from p targets some =
    text-head S n (map (weaken_by from) (variables p)) (tele_of targets)
    (omega (arith, length-map (variables p) (weaken_by from), length-variables p, length-map targets tree_of))

-- one variable less to write
pub variables_less : (S : Signature) (out whole : List ℕ) (from at less : ℕ) → at ≡ suc less → out ++ spaced S (map (weaken_by from) (variables at)) ≡ whole → out ++ codes " %" ++ decimal (less + from) ++ spaced S (map (weaken_by from) (variables less)) ≡ whole
variables_less S out whole from at less is before =
    simp append_assoc (ap (λ k. out ++ spaced S (map (weaken_by from) (variables k))) (sym is) ∙ before)
