-- Lists that are made with a bound are the lists themselves.
use Rattle.std.proofs.Common.{◌≡◌, ℕ, zero, suc, ◌+◌, nat_le, ◌&&◌, Bool, true, false, cond, List, ◌∷◌, ◌++◌, length, take, Result, Ok, Err, refl, sym, ap, ap₂, ◌∙◌}
use Rattle.theory.specs.Terms.{Term, App, Const}
use Rattle.theory.specs.Telescopes.{applied}
use Rattle.core_terms.specs.Answers.{and_then, are_low}
use Rattle.core_terms.specs.declared.stop.Stop.{Stop}
use Rattle.core_terms.specs.declared.stop.Stop.TheVariants.{Deep}
use Rattle.core_terms.proofs.Builders.{ok_is}
use Rattle.tele_eq.specs.Items.{Item}
use Rattle.tele_eq.specs.TelescopicEquality.{equations, reflexivities}
use Rattle.unification.specs.Heights.{are_low_items}
use Rattle.unification.specs.Records.{family_items}
use Rattle.tree_translation.specs.Comparisons.{Comparison, group_equations, left_member, right_member}
use Rattle.tree_translation.specs.ConfusionTerms.{compared_equations}
use Rattle.tree_translation.specs.Naming.{Naming, noconf_name}
use Rattle.tree_translation.specs.Standings.{Standing, all_here, further_equations, inside, placed_telescope}
use Rattle.run_terms.specs.CodeConfusions.{before_group, compared_made, conflict_motive, conflict_with, group_with, inject_with, injection_motive, member_equations}
use Rattle.run_terms.specs.Laws.{ConflictIsTerm, InjectIsTerm}
use Rattle.run_terms.specs.Made.{equations_made, reflexivities_made}

-- an answer that is tested first
pub if-low : {A : Type 0} (b : Bool) (a x : A) → ◌≡◌ {A = Result A Stop} (cond b (Ok a) (Err Deep)) (Ok x) → x ≡ a
if-low true a x e = sym (ok_is e)
if-low false a x e = absurd (cc)

-- an answer after another one
pub if-both : {A B : Type 0} (r : Result A Stop) (go : A → Result B Stop) (x : B) → and_then r go ≡ Ok x → (a : A) × (r ≡ Ok a) × (go a ≡ Ok x)
if-both (Ok a) go x e = (a, refl, e)
if-both (Err z) go x e = absurd (cc)

pub made-equations : (X : List Item) (us vs types : List Term) → equations_made X us vs ≡ Ok types → types ≡ equations X us vs
made-equations X us vs types e =
    if-low (nat_le (length X) 1000 && (are_low_items X && (are_low us && are_low vs))) (equations X us vs) types e

pub made-reflexivities : (X : List Item) (us refls : List Term) → reflexivities_made X us ≡ Ok refls → refls ≡ reflexivities X us
made-reflexivities X us refls e = if-low (nat_le (length X) 1000 && (are_low_items X && are_low us)) (reflexivities X us) refls e

pub made-compared : (s : Standing) (c : Comparison) (types : List Term) → compared_made s c ≡ Ok types → types ≡ compared_equations s c
made-compared s c types e =
    let both = if-both (member_equations c) (λ types. Ok (placed_telescope s.variables (inside s) types)) types e in
    sym (ok_is both.2)
    ∙ ap (placed_telescope s.variables (inside s))
    (made-equations (family_items c.n c.family c.parameters) (left_member c) (right_member c) both.0 both.1)

pub made-group : (s : Standing) (c : Comparison) (k : ℕ) (before : List Term) → before_group c k ≡ Ok before → group_with s before k ≡ group_equations s c k
made-group s c zero before e =
    ap (λ ts. group_with s ts 0)
    (made-reflexivities (take (length c.family.indices) (family_items c.n c.family c.parameters)) c.indices before e)
made-group s c (suc k) before e = ap (λ ts. group_with s ts (suc k)) (sym (ok_is e))

-- the term of an injectivity from the equations that are compared and those of the group
abbrev inject-parts : Naming → (L : ℕ) → Standing → (k : ℕ) → Comparison → (N : Term) → (types group : List Term) → Term
inject-parts number L s k c N types group =
    applied (applied (Const (number (noconf_name c.family c.left.number L)))
    (all_here s c.parameters ++ (all_here s c.left.arguments ++ (all_here s (right_member c) ++ group))))
    (injection_motive s (k + 1) types ∷ N ∷ further_equations s (k + 1))

abbrev conflict-parts : Naming → (L : ℕ) → Standing → (k : ℕ) → Comparison → (types group : List Term) → Term
conflict-parts number L s k c types group =
    App (applied (Const (number (noconf_name c.family c.left.number L)))
    (all_here s c.parameters ++ (all_here s c.left.arguments ++ (all_here s (right_member c) ++ group))))
    (conflict_motive s types)

pub inject-is : InjectIsTerm
inject-is number L s k c N t e =
    let first = if-both (compared_made s c) (λ types. and_then (before_group c k) (λ before. Ok (inject_with number L s k c types before N))) t e in
    let second = if-both (before_group c k) (λ before. Ok (inject_with number L s k c first.0 before N)) t first.2 in
    sym (ok_is second.2) ∙ ap₂ (inject-parts number L s k c N) (made-compared s c first.0 first.1) (made-group s c k second.0 second.1)

pub conflict-is : ConflictIsTerm
conflict-is number L s k c t e =
    let first = if-both (compared_made s c) (λ types. and_then (before_group c k) (λ before. Ok (conflict_with number L s k c types before))) t e in
    let second = if-both (before_group c k) (λ before. Ok (conflict_with number L s k c first.0 before)) t first.2 in
    sym (ok_is second.2) ∙ ap₂ (conflict-parts number L s k c) (made-compared s c first.0 first.1) (made-group s c k second.0 second.1)
