-- The eliminator of `D!direct` lacks the variable that it is applied to: two instantiations that agree at all other levels give
-- one term.
use Rattle.std.proofs.Common.{◌≡◌, ◌⊎◌, ℕ, zero, suc, ◌+◌, ◌-◌, ◌<◌, ◌≤◌, ◌==◌, Bool, true, false, nat_lt, nat_le, cond, if◌then◌else◌, List, [], ◌∷◌, ◌++◌, map, length, All, refl, ap, ap₂, sym, ◌∙◌, subst, inl, inr, arith}
use Rattle.std.proofs.lemmas.Bool.Decides.{nat_tests}
use Rattle.std.proofs.lemmas.List.Elements.{All-head, All-tail}
use Rattle.theory.specs.Terms.{Term, height, free_of}
use Rattle.theory.specs.Terms.Term.{Var, Sort, Pi, Lam, App, Let, Fam, Elim}
use Rattle.theory.specs.Substitutions.{inst, ups, weaken, fill}
use Rattle.theory.specs.Telescopes.{applied}
use Rattle.theory.specs.Eliminators.{no_variable}
use Rattle.theory.proofs.Instances.{ap₃}
use Rattle.theory.proofs.Instantiation.{inst-applied}
use Rattle.core_terms.specs.Levels.{variable, level_at, place_under, place, over, run}
use Rattle.core_terms.specs.declared.levels.Binder.TheVariants.{Function}
use Rattle.core_sig.specs.Shapes.{ArgumentShape, ConstructorShape, types_of, by_kind, recursive_count}
use Rattle.core_sig.specs.declared.family.ArgKind.{ArgKind}
use Rattle.core_sig.specs.declared.family.ArgKind.TheVariants.{Plain, Recursive}
use Rattle.case_below_gen.specs.Components.{pair_of}
use Rattle.case_below_gen.specs.CourseEntries.{applied_to_methods}
use Rattle.case_below_gen.specs.CourseLaws.{HasFewInner, AreRegular, IsRegularConstructor}
use Rattle.case_below_gen.proofs.Filling.{fill-append}
use Rattle.generators.specs.acyclic_gen.Claims.{eliminator, hypothesis_from, hypothesis, hypotheses_over}
use Rattle.generators.specs.acyclic_gen.DirectEntries.{parts_type, direct_method}
use Rattle.generators.specs.acyclic_gen.Statements.{is_direct, directs}
use Rattle.generators.specs.declared.acyclic_gen.carrier.Carrier.{Carrier}
use Rattle.generators.specs.declared.acyclic_gen.claims.Claim.TheVariants.{Direct as Parts}
use Rattle.generators.specs.declared.acyclic_gen.direct_arguments.Direct.{Direct}

-- ---- instantiations that agree at all levels but L

-- a level below the depth other than L
abbrev pub IsOther : (L depth l : ℕ) → Type 0
IsOther L depth l = (l < L) ⊎ ((L < l) × (l < depth))

abbrev pub AlikeBut : (L depth : ℕ) (s q : ℕ → Term) → Type 0
AlikeBut L depth s q = (l : ℕ) → IsOther L depth l → inst s (variable depth l) ≡ inst q (variable depth l)

other-more : (L d e l : ℕ) → d ≤ e → IsOther L d l → IsOther L e l
other-more L d e l le (inl low) = inl low
other-more L d e l le (inr (high, low)) = inr (high, omega arith)

up-same : (s q : ℕ → Term) (k j : ℕ) → k ≡ suc j → s j ≡ q j → ups s k ≡ ups q k
up-same s q k j is same = ap (ups s) is ∙ (ap weaken same ∙ sym (ap (ups q) is))

alike-up : (L depth : ℕ) (s q : ℕ → Term) → L < depth → AlikeBut L depth s q → AlikeBut L (depth + 1) (ups s) (ups q)
alike-up L depth s q lt alike l (inl low) = up-same s q (depth + 1 - (l + 1)) (depth - (l + 1)) (omega arith) (alike l (inl low))
alike-up L depth s q lt alike l (inr (high, low)) = go (nat_lt l depth) refl
  where
    go : (b : Bool) → nat_lt l depth ≡ b → ups s (depth + 1 - (l + 1)) ≡ ups q (depth + 1 - (l + 1))
    go true t =
        let inside : l < depth = grind (arith, nat_tests) in
        up-same s q (depth + 1 - (l + 1)) (depth - (l + 1)) (omega arith) (alike l (inr (high, inside)))
    go false t =
        let nearest : depth + 1 - (l + 1) ≡ 0 = grind (arith, nat_tests) in
        ap (ups s) nearest ∙ sym (ap (ups q) nearest)

-- the substitutions also agree at an equal depth
alike-at : (L d e : ℕ) (s q : ℕ → Term) → d ≡ e → AlikeBut L d s q → AlikeBut L e s q
alike-at L d e s q is alike = subst (λ k. AlikeBut L k s q) is alike

alike-run : (L depth start count : ℕ) (s q : ℕ → Term) → AlikeBut L depth s q → start + count ≤ L → map (inst s) (run depth start count) ≡ map (inst q) (run depth start count)
alike-run L depth start zero s q alike le = refl
alike-run L depth start (suc count) s q alike le =
    ap₂ ◌∷◌ (alike start (inl (omega arith))) (alike-run L depth (start + 1) count s q alike (omega arith))

-- ---- terms of a record

abbrev Avoids : (L size depth : ℕ) → List (ℕ × ℕ) → Type 0
Avoids L size depth runs = (l : ℕ) → l < size → IsOther L depth (level_at runs l)

under-alike : (L size depth under : ℕ) (runs : List (ℕ × ℕ)) (s q : ℕ → Term) (t : Term) → L < depth → Avoids L size depth runs → AlikeBut L (depth + under) s q → free_of t ≤ size + under
    → inst s (place_under runs size depth under t) ≡ inst q (place_under runs size depth under t)
under-alike L size depth under runs s q (Var n) lt avoids alike free = go (nat_lt n under) refl
  where
    go : (b : Bool) → nat_lt n under ≡ b → s (cond b n (depth + under - (level_at runs (size - (n - under + 1)) + 1))) ≡ q (cond b n (depth + under - (level_at runs (size - (n - under + 1)) + 1)))
    go true t =
        let low : n < under = grind (arith, nat_tests) in
        let own : n ≡ depth + under - (depth + under - (n + 1) + 1) = omega arith in
        ap s own ∙ (alike (depth + under - (n + 1)) (inr (omega arith, omega arith)) ∙ sym (ap q own))
    go false t =
        let inside : size - (n - under + 1) < size = grind (arith, nat_tests) in
        alike (level_at runs (size - (n - under + 1))) (other-more L depth (depth + under) (level_at runs (size - (n - under + 1))) (omega arith) (avoids (size - (n - under + 1)) inside))
under-alike L size depth under runs s q (Pi a b) lt avoids alike free =
    ap₂ Pi (under-alike L size depth under runs s q a lt avoids alike (omega arith))
    (under-alike L size depth (under + 1) runs (ups s) (ups q) b lt avoids (alike-at L (depth + under + 1) (depth + (under + 1)) (ups s) (ups q) (omega arith) (alike-up L (depth + under) s q (omega arith) alike)) (omega arith))
under-alike L size depth under runs s q (Lam a b) lt avoids alike free =
    ap₂ Lam (under-alike L size depth under runs s q a lt avoids alike (omega arith))
    (under-alike L size depth (under + 1) runs (ups s) (ups q) b lt avoids (alike-at L (depth + under + 1) (depth + (under + 1)) (ups s) (ups q) (omega arith) (alike-up L (depth + under) s q (omega arith) alike)) (omega arith))
under-alike L size depth under runs s q (App f a) lt avoids alike free =
    ap₂ App (under-alike L size depth under runs s q f lt avoids alike (omega arith)) (under-alike L size depth under runs s q a lt avoids alike (omega arith))
under-alike L size depth under runs s q (Let a t b) lt avoids alike free =
    ap₃ Let (under-alike L size depth under runs s q a lt avoids alike (omega arith)) (under-alike L size depth under runs s q t lt avoids alike (omega arith))
    (under-alike L size depth (under + 1) runs (ups s) (ups q) b lt avoids (alike-at L (depth + under + 1) (depth + (under + 1)) (ups s) (ups q) (omega arith) (alike-up L (depth + under) s q (omega arith) alike)) (omega arith))
under-alike L size depth under runs s q _ lt avoids alike free = refl

place-alike : (L size depth : ℕ) (runs : List (ℕ × ℕ)) (s q : ℕ → Term) (t : Term) → L < depth → Avoids L size depth runs → AlikeBut L depth s q → free_of t ≤ size → height t ≤ 2000
    → inst s (place runs size depth t) ≡ inst q (place runs size depth t)
place-alike L size depth runs s q t lt avoids alike free low =
    let test : nat_le (height t) 2000 ≡ true = grind (arith, nat_tests) in
    ap (λ b. inst s (if b then place_under runs size depth 0 t else t)) test
    ∙ (under-alike L size depth 0 runs s q t lt avoids (alike-at L depth (depth + 0) s q (omega arith) alike) (omega arith)
    ∙ sym (ap (λ b. inst q (if b then place_under runs size depth 0 t else t)) test))

avoids-two : (L p first count size depth : ℕ) → p ≤ L → L < first → size ≤ p + count → first + (size - p) ≤ depth → Avoids L size depth ((0, p) ∷ (first, count) ∷ [])
avoids-two L p first count size depth low high le far l less = go (nat_le p l) refl
  where
    go : (b : Bool) → nat_le p l ≡ b → IsOther L depth (level_at ((0, p) ∷ (first, count) ∷ []) l)
    go true t = inr (grind (arith, nat_tests), grind (arith, nat_tests))
    go false t = inl (grind (arith, nat_tests))

avoids-three : (L p first at start count size depth : ℕ) → p ≤ L → L < first → L < start → first + at ≤ depth → size ≤ p + at + count → start + (size - (p + at)) ≤ depth → Avoids L size depth ((0, p) ∷ (first, at) ∷ (start, count) ∷ [])
avoids-three L p first at start count size depth low high behind inside le far l less = go (nat_le p l) (nat_le (p + at) l) refl refl
  where
    go : (b c : Bool) → nat_le p l ≡ b → nat_le (p + at) l ≡ c → IsOther L depth (level_at ((0, p) ∷ (first, at) ∷ (start, count) ∷ []) l)
    go true true x y = inr (grind (arith, nat_tests), grind (arith, nat_tests))
    go true false x y = inr (grind (arith, nat_tests), grind (arith, nat_tests))
    go false c x y = inl (grind (arith, nat_tests))

-- ---- methods

over-alike : (L p first count size at depth : ℕ) (arguments : List ArgumentShape) (end : Term) (s q : ℕ → Term) → p ≤ L → L < first → size ≡ p + at → depth ≡ first + at → at + length arguments ≤ count → AreRegular p at arguments → AlikeBut L depth s q
    → ((s q : ℕ → Term) → AlikeBut L (depth + length arguments) s q → inst s end ≡ inst q end)
    → inst s (over Function ((0, p) ∷ (first, count) ∷ []) size depth (types_of arguments) end) ≡ inst q (over Function ((0, p) ∷ (first, count) ∷ []) size depth (types_of arguments) end)
over-alike L p first count size at depth [] end s q low high is here le fit alike rest = rest s q (alike-at L depth (depth + 0) s q (omega arith) alike)
over-alike L p first count size at depth (a ∷ arguments) end s q low high is here le fit alike rest =
    ap₂ Lam
    (place-alike L size depth ((0, p) ∷ (first, count) ∷ []) s q a.type (omega arith) (avoids-two L p first count size depth low high (omega arith) (omega arith)) alike (omega (arith, fit.0)) fit.1)
    (over-alike L p first count (size + 1) (at + 1) (depth + 1) arguments end (ups s) (ups q) low high (omega arith) (omega arith) (omega arith) fit.3 (alike-up L depth s q (omega arith) alike)
    (λ s q more. rest s q (alike-at L (depth + 1 + length arguments) (depth + length (a ∷ arguments)) s q (omega arith) more)))

from-alike : (L first at start count size depth more : ℕ) (c : Carrier) (r : ℕ) (t : Term) (s q : ℕ → Term) → c.params ≤ L → L < first → L < start → first + at ≤ start → start ≤ depth → size ≡ c.params + at + (depth - start) → depth + more ≡ start + count → free_of t ≤ size → height t ≤ 2000 → AlikeBut L depth s q
    → inst s (hypothesis_from Parts c ((0, c.params) ∷ (first, at) ∷ (start, count) ∷ []) size depth r start more t) ≡ inst q (hypothesis_from Parts c ((0, c.params) ∷ (first, at) ∷ (start, count) ∷ []) size depth r start more t)
from-alike L first at start count size depth (suc more) c r (Pi a b) s q low high behind inside le is counted free fit alike =
    ap₂ Pi
    (place-alike L size depth ((0, c.params) ∷ (first, at) ∷ (start, count) ∷ []) s q a (omega arith) (avoids-three L c.params first at start count size depth low high behind (omega arith) (omega arith) (omega arith)) alike (omega arith) (omega arith))
    (from-alike L first at start count (size + 1) (depth + 1) more c r b (ups s) (ups q) low high behind inside (omega arith) (omega arith) (omega arith) (omega arith) (omega arith) (alike-up L depth s q (omega arith) alike))
from-alike L first at start count size depth zero c r t s q low high behind inside le is counted free fit alike = refl
from-alike L first at start count size depth (suc more) c r t s q low high behind inside le is counted free fit alike = refl

hypothesis-alike : (L first at depth count : ℕ) (c : Carrier) (t : Term) (s q : ℕ → Term) → c.params ≤ L → L < first → first + at ≤ depth → free_of t ≤ c.params + at → height t ≤ 2000 → count ≤ 2000 → AlikeBut L depth s q
    → inst s (hypothesis Parts c first at depth count t) ≡ inst q (hypothesis Parts c first at depth count t)
hypothesis-alike L first at depth count c t s q low high inside free fit few alike =
    let test : nat_le count 2000 ≡ true = grind (arith, nat_tests) in
    let whole : Term = hypothesis_from Parts c ((0, c.params) ∷ (first, at) ∷ (depth, count) ∷ []) (c.params + at) depth (first + at) depth count t in
    ap (λ b. inst s (if b then whole else t)) test
    ∙ (from-alike L first at depth count (c.params + at) depth count c (first + at) t s q low high (omega arith) inside (omega arith) (omega arith) (omega arith) free fit alike
    ∙ sym (ap (λ b. inst q (if b then whole else t)) test))

hypotheses-alike : (L first at depth : ℕ) (c : Carrier) (arguments : List ArgumentShape) (end : Term) (s q : ℕ → Term) → c.params ≤ L → L < first → first + at + length arguments ≤ depth → AreRegular c.params at arguments → AlikeBut L depth s q
    → ((s q : ℕ → Term) → AlikeBut L (depth + recursive_count arguments) s q → inst s end ≡ inst q end)
    → inst s (hypotheses_over Parts c first at depth arguments end) ≡ inst q (hypotheses_over Parts c first at depth arguments end)
hypotheses-alike L first at depth c [] end s q low high inside fit alike rest = rest s q (alike-at L depth (depth + 0) s q (omega arith) alike)
hypotheses-alike L first at depth c (a ∷ arguments) end s q low high inside fit alike rest =
    go a.kind fit.2 rest (λ here s q le more others. hypotheses-alike L first (at + 1) here c arguments end s q low high le fit.3 more others)
  where
    go : (kind : ArgKind) → HasFewInner kind → ((s q : ℕ → Term) → AlikeBut L (depth + by_kind kind (recursive_count arguments) (λ count. recursive_count arguments + 1)) s q → inst s end ≡ inst q end)
        → ((here : ℕ) (s q : ℕ → Term) → first + (at + 1) + length arguments ≤ here → AlikeBut L here s q → ((s q : ℕ → Term) → AlikeBut L (here + recursive_count arguments) s q → inst s end ≡ inst q end)
        → inst s (hypotheses_over Parts c first (at + 1) here arguments end) ≡ inst q (hypotheses_over Parts c first (at + 1) here arguments end))
        → inst s (by_kind kind (hypotheses_over Parts c first (at + 1) depth arguments end) (λ count. Lam (hypothesis Parts c first at depth count a.type) (hypotheses_over Parts c first (at + 1) (depth + 1) arguments end)))
        ≡ inst q (by_kind kind (hypotheses_over Parts c first (at + 1) depth arguments end) (λ count. Lam (hypothesis Parts c first at depth count a.type) (hypotheses_over Parts c first (at + 1) (depth + 1) arguments end)))
    go Plain few rest others = others depth s q (omega arith) alike rest
    go (Recursive count) few rest others =
        ap₂ Lam (hypothesis-alike L first at depth count c a.type s q low high (omega arith) fit.0 fit.1 few alike)
        (others (depth + 1) (ups s) (ups q) (omega arith) (alike-up L depth s q (omega arith) alike)
        (λ s q more. rest s q (alike-at L (depth + 1 + recursive_count arguments) (depth + (recursive_count arguments + 1)) s q (omega arith) more)))

-- the types of pairs
parts-alike : (L depth argument hypothesis : ℕ) (c : Carrier) (arguments : List ArgumentShape) (s q : ℕ → Term) → c.params < L → L < argument → L < hypothesis → argument + length arguments ≤ depth → hypothesis + recursive_count arguments ≤ depth → AlikeBut L depth s q
    → inst s (parts_type c depth (directs argument hypothesis arguments)) ≡ inst q (parts_type c depth (directs argument hypothesis arguments))
parts-alike L depth argument hypothesis c [] s q low high behind inside room alike = refl
parts-alike L depth argument hypothesis c (a ∷ arguments) s q low high behind inside room alike =
    go a.kind room (λ next far le. parts-alike L depth (argument + 1) next c arguments s q low (omega arith) far (omega arith) le alike)
  where
    others : ℕ → List Direct
    others next = directs (argument + 1) next arguments

    here : Direct
    here = record { argument = argument; hypothesis = hypothesis }

    chosen : (b : Bool) (ds : List Direct) → hypothesis < depth → inst s (parts_type c depth ds) ≡ inst q (parts_type c depth ds)
        → inst s (parts_type c depth (cond b (here ∷ ds) ds)) ≡ inst q (parts_type c depth (cond b (here ∷ ds) ds))
    chosen true ds lt same =
        let motive = alike c.params (inl low) in
        let one = alike argument (inr (high, omega arith)) in
        let its = alike hypothesis (inr (behind, lt)) in
        ap₂ (pair_of c.level) (ap₂ (pair_of c.level) (ap₂ App motive one) its) same
    chosen false ds lt same = same

    go : (kind : ArgKind) → hypothesis + by_kind kind (recursive_count arguments) (λ count. recursive_count arguments + 1) ≤ depth
        → ((next : ℕ) → L < next → next + recursive_count arguments ≤ depth → inst s (parts_type c depth (others next)) ≡ inst q (parts_type c depth (others next)))
        → inst s (parts_type c depth (cond (is_direct kind) (here ∷ others (by_kind kind hypothesis (λ count. hypothesis + 1))) (others (by_kind kind hypothesis (λ count. hypothesis + 1)))))
        ≡ inst q (parts_type c depth (cond (is_direct kind) (here ∷ others (by_kind kind hypothesis (λ count. hypothesis + 1))) (others (by_kind kind hypothesis (λ count. hypothesis + 1)))))
    go Plain room rest = rest hypothesis behind room
    go (Recursive count) room rest = chosen (count == 0) (others (hypothesis + 1)) (omega arith) (rest (hypothesis + 1) (omega arith) (omega arith))

method-alike : (L depth : ℕ) (c : Carrier) (con : ConstructorShape) (s q : ℕ → Term) → c.params < L → L < depth → IsRegularConstructor c.params con → AlikeBut L depth s q → inst s (direct_method c depth con) ≡ inst q (direct_method c depth con)
method-alike L depth c con s q low high fit alike =
    over-alike L c.params depth count c.params 0 depth con.arguments (hypotheses_over Parts c depth 0 inside con.arguments end) s q (omega arith) high (omega arith) (omega arith) (omega arith) fit.arguments alike
    (λ s q more. hypotheses-alike L depth 0 inside c con.arguments end s q (omega arith) high (omega arith) fit.arguments more
    (λ s q most. parts-alike L (inside + recursive_count con.arguments) depth inside c con.arguments s q low high (omega arith) (omega arith) (omega arith) most))
  where
    count : ℕ
    count = length con.arguments

    inside : ℕ
    inside = depth + count

    end : Term
    end = parts_type c (inside + recursive_count con.arguments) (directs depth inside con.arguments)

methods-alike : (L depth number : ℕ) (c : Carrier) (head : Term) (cons : List ConstructorShape) (s q : ℕ → Term) → c.params < L → L < depth → All (IsRegularConstructor c.params) cons → AlikeBut L depth s q → inst s head ≡ inst q head
    → inst s (applied_to_methods (λ i con. direct_method c depth con) number head cons) ≡ inst q (applied_to_methods (λ i con. direct_method c depth con) number head cons)
methods-alike L depth number c head [] s q low high fit alike same = same
methods-alike L depth number c head (con ∷ cons) s q low high fit alike same =
    methods-alike L depth (number + 1) c (App head (direct_method c depth con)) cons s q low high (All-tail (IsRegularConstructor c.params) con cons fit) alike
    (ap₂ App same (method-alike L depth c con s q low high (All-head (IsRegularConstructor c.params) con cons fit) alike))

spine-alike : (L depth p : ℕ) (head : Term) (s q : ℕ → Term) → p ≤ L → AlikeBut L depth s q → inst s head ≡ inst q head → inst s (applied head (run depth 0 p)) ≡ inst q (applied head (run depth 0 p))
spine-alike L depth p head s q low alike same =
    inst-applied s head (run depth 0 p) ∙ (ap₂ applied same (alike-run L depth 0 p s q alike (omega arith)) ∙ sym (inst-applied q head (run depth 0 p)))

eliminator-alike : (L depth : ℕ) (c : Carrier) (s q : ℕ → Term) → c.params ≤ L → AlikeBut L depth s q → inst s (eliminator Parts c depth) ≡ inst q (eliminator Parts c depth)
eliminator-alike L depth c s q low alike =
    ap₂ (λ h d. App h (Lam d (Sort c.level))) (spine-alike L depth c.params (Elim c.family (c.level + 1)) s q low alike refl) (spine-alike L depth c.params (Fam c.family) s q low alike refl)

-- ---- the eliminator

-- the eliminator of `D!direct` with its motive and its methods
abbrev pub direct_recursor : (c : Carrier) → List ConstructorShape → Term
direct_recursor c cons =
    applied_to_methods (λ i con. direct_method c (c.params + 2) con) 0 (eliminator Parts c (c.params + 2)) cons

last-alike : (p : ℕ) (xs : List Term) (y z : Term) → AlikeBut (p + 1) (p + 2) (fill no_variable (xs ++ y ∷ [])) (fill no_variable (xs ++ z ∷ []))
last-alike p xs y z l (inl low) =
    let further : p + 2 - (l + 1) ≡ suc (p - l) = omega arith in
    ap (fill no_variable (xs ++ y ∷ [])) further
    ∙ (fill-append no_variable xs (y ∷ []) (suc (p - l))
    ∙ (sym (fill-append no_variable xs (z ∷ []) (suc (p - l))) ∙ sym (ap (fill no_variable (xs ++ z ∷ [])) further)))
last-alike p xs y z l (inr (high, low)) = absurd (omega arith)

pub recursor-alike : (c : Carrier) (cons : List ConstructorShape) (xs : List Term) (y z : Term) → All (IsRegularConstructor c.params) cons
    → inst (fill no_variable (xs ++ y ∷ [])) (direct_recursor c cons) ≡ inst (fill no_variable (xs ++ z ∷ [])) (direct_recursor c cons)
recursor-alike c cons xs y z fit =
    let alike = last-alike c.params xs y z in
    methods-alike (c.params + 1) (c.params + 2) 0 c (eliminator Parts c (c.params + 2)) cons (fill no_variable (xs ++ y ∷ [])) (fill no_variable (xs ++ z ∷ [])) (omega arith) (omega arith) fit alike
    (eliminator-alike (c.params + 1) (c.params + 2) c (fill no_variable (xs ++ y ∷ [])) (fill no_variable (xs ++ z ∷ [])) (omega arith) alike)
