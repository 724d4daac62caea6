-- The code lowers a term under its binders as the renaming does.
use Rattle.std.proofs.Common.{◌≡◌, ℕ, zero, suc, ◌+◌, ◌-◌, ◌<◌, nat_lt, cond, List, [], ◌∷◌, ◌++◌, map, take, length, get_or, refl, sym, ap, ap₂, ◌∙◌, arith}
use Rattle.std.proofs.lemmas.Bool.Decides.{nat_tests}
use Rattle.std.proofs.lemmas.List.{map-append}
use Rattle.theory.specs.Terms.{Term, Var, Sort, Pi, Lam, App, Let, Const, Fam, Con, Elim, AxiomK}
use Rattle.theory.specs.Substitutions.{up, ren}
use Rattle.theory.proofs.Instances.{ren-same}
use Rattle.core_terms.specs.Meanings.{tree_of, tele_of}
use Rattle.core_terms.specs.declared.term.Term as code
use Rattle.core_terms.proofs.Lists.{take-more}
use Rattle.unification.specs.Groups.{lowered}
use Rattle.problems.specs.CodeLowering.{lowered_under}

abbrev lower : (k under n : ℕ) → ℕ
lower k under n = cond (nat_lt n under) n (n - under - k + under)

up-lower : (k under n : ℕ) → up (lower k under) n ≡ lower k (under + 1) n
up-lower k under zero = grind (arith, nat_tests)
up-lower k under (suc n) = grind (arith, nat_tests)

under-lower : (k under : ℕ) (t : Term) → ren (lower k under) t ≡ lowered_under k under t
under-lower k under (Var n) = refl
under-lower k under (Sort i) = refl
under-lower k under (Pi a b) = ap₂ Pi (under-lower k under a) (ren-same b (up-lower k under) ∙ under-lower k (under + 1) b)
under-lower k under (Lam a b) = ap₂ Lam (under-lower k under a) (ren-same b (up-lower k under) ∙ under-lower k (under + 1) b)
under-lower k under (App f a) = ap₂ App (under-lower k under f) (under-lower k under a)
under-lower k under (Let a t b) =
    ap₂ (λ x y. Let x y (ren (up (lower k under)) b)) (under-lower k under a) (under-lower k under t)
    ∙ ap (Let (lowered_under k under a) (lowered_under k under t)) (ren-same b (up-lower k under) ∙ under-lower k (under + 1) b)
under-lower k under (Const c) = refl
under-lower k under (Fam f) = refl
under-lower k under (Con f c) = refl
under-lower k under (Elim f m) = refl
under-lower k under (AxiomK i m) = refl

lower-none : (k n : ℕ) → n - k ≡ lower k 0 n
lower-none k n = grind (arith, nat_tests)

pub lowered-is : (k : ℕ) (t : Term) → lowered k t ≡ lowered_under k 0 t
lowered-is k t = ren-same t (lower-none k) ∙ under-lower k 0 t

-- one term more is lowered
pub lowered-more : (k at : ℕ) (terms made more : List code.Term) (t low : code.Term) → at < length terms → t ≡ get_or terms at t → tele_of made ≡ map (lowered k) (tele_of (take at terms))
    → tree_of low ≡ lowered_under k 0 (tree_of t) → more ≡ made ++ low ∷ [] → tele_of more ≡ map (lowered k) (tele_of (take (at + 1) terms))
lowered-more k at terms made more t low lt is so_far here pushed =
    ap tele_of pushed
    ∙ (map-append tree_of made (low ∷ [])
    ∙ (ap₂ (λ xs x. xs ++ x ∷ []) so_far (here ∙ sym (lowered-is k (tree_of t)))
    ∙ (sym (map-append (lowered k) (tele_of (take at terms)) (tree_of t ∷ []))
    ∙ ap (map (lowered k)) (sym (ap tele_of (take-more terms at t lt is) ∙ map-append tree_of (take at terms) (t ∷ []))))))
