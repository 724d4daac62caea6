-- An argument of a family without indices is direct exactly where its type is the family at its parameters.
use Rattle.std.proofs.Common.{◌≡◌, ℕ, suc, ◌+◌, Bool, true, false, ◌||◌, ◌==◌, List, [], ◌∷◌, length, map, refl, ap, ◌∙◌, sym, arith}
use Rattle.std.proofs.lemmas.Bool.{false≢true}
use Rattle.std.proofs.lemmas.Bool.Decides.{nat_tests}
use Rattle.theory.specs.Terms.{Term}
use Rattle.theory.specs.Terms.Term.{Var, Pi, App, Fam}
use Rattle.theory.specs.Substitutions.{inst}
use Rattle.theory.specs.Telescopes.{applied, variables, weaken_by}
use Rattle.theory.specs.Families.{Plain, Recursive, Family, family_head, mentions}
use Rattle.theory.proofs.Instances.{inst-var}
use Rattle.core_sig.proofs.ConstructorTypes.{ren-applied}
use Rattle.generators.specs.acyclic_gen.DirectLaws.{DirectAtTheFamily}

abbrev is_product : Term → Bool
is_product (Pi a b) = true
is_product _ = false

no-product : (head : Term) (spine : List Term) → is_product head ≡ false → is_product (applied head spine) ≡ false
no-product head [] e = e
no-product head (a ∷ spine) e = no-product (App head a) spine refl

mentioned : (n : ℕ) (head : Term) (spine : List Term) → mentions n head ≡ true → mentions n (applied head spine) ≡ true
mentioned n head [] e = e
mentioned n head (a ∷ spine) e = mentioned n (App head a) spine (ap (λ b. b || mentions n a) e)

head-is : (n at : ℕ) (f : Family) → weaken_by at (family_head n f) ≡ applied (Fam n) (map (weaken_by at) (variables (length f.parameters)))
head-is n at f = ren-applied (λ k. k + at) (Fam n) (variables (length f.parameters))

family-mentioned : (n at : ℕ) (f : Family) → mentions n (weaken_by at (family_head n f)) ≡ true
family-mentioned n at f =
    let itself : mentions n (Fam n) ≡ true = grind (arith, nat_tests) in
    ap (mentions n) (head-is n at f) ∙ mentioned n (Fam n) (map (weaken_by at) (variables (length f.parameters))) itself

family-no_product : (n at : ℕ) (f : Family) → is_product (weaken_by at (family_head n f)) ≡ false
family-no_product n at f = ap is_product (head-is n at f) ∙ no-product (Fam n) (map (weaken_by at) (variables (length f.parameters))) refl

pub direct-arguments : DirectAtTheFamily
direct-arguments n f at (Plain type level) lacks none = (
  λ direct. absurd (false≢true direct),
  λ same. absurd (false≢true (sym lacks ∙ (ap (mentions n) (sym (inst-var type)) ∙ (ap (mentions n) same ∙ family-mentioned n at f)))),
)
direct-arguments n f at (Recursive [] targets level) lacks none =
    (λ direct. ap (λ ts. applied (weaken_by at (family_head n f)) (map (inst Var) ts)) none, λ same. refl)
direct-arguments n f at (Recursive (a ∷ inner) targets level) lacks none =
    let some_inside : (suc (length inner) == 0) ≡ false = grind (arith, nat_tests) in
    (λ direct. absurd (false≢true (sym some_inside ∙ direct)), λ same. absurd (false≢true (sym (family-no_product n at f) ∙ ap is_product (sym same))))
