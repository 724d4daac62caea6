-- An induction unfolds to the eliminator of the packed family.
use Rattle.std.proofs.Common.{◌≡◌, ℕ, zero, suc, ◌+◌, ◌-◌, ◌<◌, ◌≤◌, List, [], ◌∷◌, ◌++◌, map, length, get_or, refl, ap, ap₂, sym, ◌∙◌, subst, append_assoc, arith}
use Rattle.std.proofs.lemmas.List.{length-append}
use Rattle.theory.specs.Terms.{Term}
use Rattle.theory.specs.Terms.Term.{Var, Sort, Pi, Lam, App, Const, Fam, Con, Elim}
use Rattle.theory.specs.Substitutions.{inst, ups, weaken, fill}
use Rattle.theory.specs.Telescopes.{applied}
use Rattle.theory.specs.Eliminators.{no_variable}
use Rattle.theory.proofs.Congruence.{converts-trans}
use Rattle.theory.proofs.Instantiation.{inst-applied}
use Rattle.core_terms.specs.Levels.{variable, run}
use Rattle.core_terms.proofs.Builders.{applied-push}
use Rattle.core_terms.proofs.Placing.{variable-weaken}
use Rattle.core_sig.specs.Shapes.{ConstructorShape, Shape}
use Rattle.case_below_gen.proofs.Filling.{variable-filled}
use Rattle.case_below_gen.proofs.Functions.{converts-from, binds-functions, constant-unfolds}
use Rattle.case_below_gen.proofs.Functions.Binds.{none, one}
use Rattle.mutual_pack.specs.declared.packed_family.PackedFamily.{PackedFamily}
use Rattle.mutual_pack.specs.InductionLaws.{InductionUnfolds}
use Rattle.mutual_pack.specs.Inductions.{packed_numbers, number_of, member_type, packed_at, motive_types, method_types, induction_telescope, induction_size, selection_motive, selected_motive, eliminated}
use Rattle.mutual_pack.proofs.Runs.{length-run}
use Rattle.mutual_pack.proofs.TooHigh.{length-motives}

-- ---- variables of the same levels at another depth

-- s puts for each variable with a level below n the variable with this level at another depth
abbrev pub Relevels : (s : ℕ → Term) (n from to : ℕ) → Type 0
Relevels s n from to = (l : ℕ) → l < n → inst s (variable from l) ≡ variable to l

relevel-up : (s : ℕ → Term) (n from to : ℕ) → n ≤ from → n ≤ to → Relevels s n from to → Relevels (ups s) n (from + 1) (to + 1)
relevel-up s n from to before behind at l lt =
    let place : from + 1 - (l + 1) ≡ suc (from - (l + 1)) = omega arith in
    ap (ups s) place ∙ (ap weaken (at l lt) ∙ variable-weaken to l (omega arith))

newest : (s : ℕ → Term) (from to : ℕ) → inst (ups s) (variable (from + 1) from) ≡ variable (to + 1) to
newest s from to =
    let place : from + 1 - (from + 1) ≡ 0 = omega arith in
    ap (ups s) place ∙ ap Var (omega arith)

second : (s : ℕ → Term) (from to : ℕ) → inst (ups (ups s)) (variable (from + 2) from) ≡ variable (to + 2) to
second s from to =
    let place : from + 2 - (from + 1) ≡ suc 0 = omega arith in
    ap (ups (ups s)) place ∙ ap Var (omega arith)

first : (s : ℕ → Term) (from to : ℕ) → inst (ups (ups s)) (variable (from + 2) (from + 1)) ≡ variable (to + 2) (to + 1)
first s from to =
    let place : from + 2 - (from + 1 + 1) ≡ 0 = omega arith in
    ap (ups (ups s)) place ∙ ap Var (omega arith)

relevel-two : (s : ℕ → Term) (n from to : ℕ) → n ≤ from → n ≤ to → Relevels s n from to → Relevels (ups (ups s)) n (from + 2) (to + 2)
relevel-two s n from to before behind at =
    let here : from + 1 + 1 ≡ from + 2 = omega arith in
    let there : to + 1 + 1 ≡ to + 2 = omega arith in
    subst (λ a. Relevels (ups (ups s)) n a (to + 2)) here
    (subst (λ b. Relevels (ups (ups s)) n (from + 1 + 1) b) there
    (relevel-up (ups s) n (from + 1) (to + 1) (omega arith) (omega arith) (relevel-up s n from to before behind at)))

run-relevel : (s : ℕ → Term) (n from to start count : ℕ) → start + count ≤ n → Relevels s n from to → map (inst s) (run from start count) ≡ run to start count
run-relevel s n from to start zero low at = refl
run-relevel s n from to start (suc count) low at =
    ap₂ ◌∷◌ (at start (omega arith)) (run-relevel s n from to (start + 1) count (omega arith) at)

symbol-relevel : (s : ℕ → Term) (n from to start count : ℕ) (head : Term) → start + count ≤ n → Relevels s n from to → inst s (applied head (run from start count)) ≡ applied (inst s head) (run to start count)
symbol-relevel s n from to start count head low at =
    inst-applied s head (run from start count) ∙ ap (applied (inst s head)) (run-relevel s n from to start count low at)

-- ---- the motive

packed-relevel : (q : PackedFamily) (s : ℕ → Term) (n from to : ℕ) → q.params ≤ n → n ≤ from → n ≤ to → Relevels s n from to → inst (ups s) (packed_at q from (from + 1)) ≡ packed_at q to (to + 1)
packed-relevel q s n from to params before behind at =
    inst-applied (ups s) (applied (Fam (number_of q)) (run (from + 1) 0 q.params)) (run (from + 1) from 1)
    ∙ ap₂ applied
    (symbol-relevel (ups s) n (from + 1) (to + 1) 0 q.params (Fam (number_of q)) (omega (arith, params)) (relevel-up s n from to before behind at))
    (ap (λ v. v ∷ []) (newest s from to))

selection-relevel : (q : PackedFamily) (s : ℕ → Term) (n from to : ℕ) → q.params ≤ n → n ≤ from → n ≤ to → Relevels s n from to → inst s (selection_motive q from) ≡ selection_motive q to
selection-relevel q s n from to params before behind at =
    ap (λ a. Lam (Fam q.tag) (Pi a (Sort q.level))) (packed-relevel q s n from to params before behind at)

selected-relevel : (q : PackedFamily) (analysis : ℕ) (s : ℕ → Term) (n from to : ℕ) → q.params + q.members ≤ n → n ≤ from → n ≤ to → Relevels s n from to
    → inst s (selected_motive q analysis from) ≡ selected_motive q analysis to
selected-relevel q analysis s n from to members before behind at =
    let two = relevel-two s n from to before behind at in
    let p = ups (ups s) in
    let head = App (Const analysis) (selection_motive q (from + 2)) in
    let selection = selection-relevel q p n (from + 2) (to + 2) (omega arith) (omega arith) (omega arith) two in
    let spine : inst p (applied head (run (from + 2) q.params q.members)) ≡ applied (App (Const analysis) (selection_motive q (to + 2))) (run (to + 2) q.params q.members) =
    symbol-relevel p n (from + 2) (to + 2) q.params q.members head members two ∙ ap (λ m. applied (App (Const analysis) m) (run (to + 2) q.params q.members)) selection in
    ap₂ (λ a b. Lam (Fam q.tag) (Lam a b)) (packed-relevel q s n from to (omega arith) before behind at)
    (ap₂ App (ap₂ App spine (second s from to)) (first s from to))

pub eliminated-relevel : (q : PackedFamily) (analysis : ℕ) (s : ℕ → Term) (from to : ℕ) → induction_size q ≤ from → induction_size q ≤ to → Relevels s (induction_size q) from to
    → inst s (eliminated q analysis from) ≡ eliminated q analysis to
eliminated-relevel q analysis s from to before behind at =
    let n = induction_size q in
    let head = applied (Elim (number_of q) q.level) (run from 0 q.params) in
    symbol-relevel s n from to (q.params + q.members) q.constructors (App head (selected_motive q analysis from)) (omega arith) at
    ∙ ap (λ h. applied h (run to (q.params + q.members) q.constructors))
    (ap₂ App (symbol-relevel s n from to 0 q.params (Elim (number_of q) q.level) (omega arith) at) (selected-relevel q analysis s n from to (omega arith) before behind at))

-- ---- the telescope

length-methods : (q : PackedFamily) (owners : List ℕ) (number depth : ℕ) (cs : List ConstructorShape) → length (method_types q owners number depth cs) ≡ length cs
length-methods q owners number depth [] = refl
length-methods q owners number depth (c ∷ cs) = ap suc (length-methods q owners (number + 1) (depth + 1) cs)

pub length-telescope : (q : PackedFamily) (owners : List ℕ) (f : Shape) → q.params ≡ length f.parameters → q.constructors ≡ length f.constructors → length (induction_telescope q owners f) ≡ induction_size q
length-telescope q owners f params constructors =
    let motives = motive_types q 0 q.params q.members in
    let methods = method_types q owners 0 (q.params + q.members) f.constructors in
    let outer = length-append f.parameters (motives ++ methods) in
    let inner = length-append motives methods in
    let some = length-motives q 0 q.params q.members in
    let others = length-methods q owners 0 (q.params + q.members) f.constructors in
    omega arith

-- ---- the law

-- a run at one of its levels
pub run-at : (depth start count l : ℕ) → l < count → run depth start count ≡ run depth start l ++ variable depth (start + l) ∷ run depth (start + l + 1) (count - (l + 1))
run-at depth start zero l lt = absurd (omega arith)
run-at depth start (suc count) zero lt =
    let here : start ≡ start + 0 = omega arith in
    let rest : count ≡ suc count - (0 + 1) = omega arith in
    ap₂ (λ a b. variable depth a ∷ run depth (a + 1) b) here rest
run-at depth start (suc count) (suc l) lt =
    let here : start + 1 + l ≡ start + suc l = omega arith in
    let rest : count - (l + 1) ≡ suc count - (suc l + 1) = omega arith in
    ap (λ vs. variable depth start ∷ vs)
    (run-at depth (start + 1) count l (omega arith)
    ∙ ap₂ (λ a b. run depth (start + 1) l ++ variable depth a ∷ run depth (a + 1) b) here rest)

-- the variables of a run, and one term more
filled : (depth n : ℕ) (x : Term) → Relevels (fill no_variable (run depth 0 n ++ x ∷ [])) n (n + 1) depth
filled depth n x l lt =
    let xs = run depth 0 l in
    let ys = run depth (0 + l + 1) (n - (l + 1)) in
    let u = variable depth (0 + l) in
    let args = run depth 0 n ++ x ∷ [] in
    let count : length args ≡ n + 1 = length-append (run depth 0 n) (x ∷ []) ∙ (let c = length-run depth 0 n in omega arith) in
    let split : args ≡ xs ++ u ∷ (ys ++ x ∷ []) = ap (λ vs. vs ++ x ∷ []) (run-at depth 0 n l lt) ∙ append_assoc xs (u ∷ ys) (x ∷ []) in
    variable-filled no_variable args xs u (ys ++ x ∷ []) (n + 1) l split (sym count) (sym (length-run depth 0 l)) ∙ ap (variable depth) (omega arith)

pub induction-unfolds : InductionUnfolds
induction-unfolds S packed f analysis inductions has k depth x low deep =
    let q = packed_numbers packed f in
    let n = induction_size q in
    let args = run depth 0 n ++ x ∷ [] in
    let s = fill no_variable args in
    let body = App (App (eliminated q analysis (n + 1)) (Con q.tag k)) (variable (n + 1) n) in
    let whole = Lam (member_type q k n) body in
    let tele = induction_telescope q packed.owners f in
    let counted = length-telescope q packed.owners f refl refl in
    let count : length args ≡ n + 1 = length-append (run depth 0 n) (x ∷ []) ∙ (let c = length-run depth 0 n in omega arith) in
    let last : inst s (variable (n + 1) n) ≡ x =
    variable-filled no_variable args (run depth 0 n) x [] (n + 1) n refl (sym count) (sym (length-run depth 0 n)) in
    converts-trans
    (converts-from (sym (applied-push (Const (get_or inductions k 0)) (run depth 0 n) x)))
    (converts-trans
    (constant-unfolds has.bodies (has.entries k low) (binds-functions tele 1 (n + 1) whole body (omega (arith, counted)) (one (member_type q k n) none)) (omega arith) args count)
    (converts-from (ap₂ (λ e y. App (App e (Con q.tag k)) y) (eliminated-relevel q analysis s (n + 1) depth (omega arith) deep (filled depth n x)) last)))
