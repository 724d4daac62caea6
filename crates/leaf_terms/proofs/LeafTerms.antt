-- The term that the code makes of a right side is the one that is meant, or Deep: and then only where that is too high, or some argument
-- was not made.
use Rattle.std.proofs.Common.{◌≡◌, ℕ, ◌+◌, ◌-◌, ◌<◌, ◌≤◌, ◌==◌, nat_lt, Bool, true, false, ◌&&◌, if◌then◌else◌, cond, Option, Some, None, List, [], ◌∷◌, ◌++◌, drop, get_or, zero, suc, Result, Ok, Err, inl, inr, refl, ap, sym, ◌∙◌, subst as transport, arith}
use Rattle.std.proofs.lemmas.Bool.{true≢false}
use Rattle.std.proofs.lemmas.Bool.Decides.{nat_tests}
use Rattle.theory.specs.Terms.{Term, Var, Sort, Pi, Lam, App, Let, Const, Fam, Con, Elim, AxiomK, height}
use Rattle.theory.specs.Telescopes.{applied}
use Rattle.core_terms.specs.Answers.{and_then, bounded, is_low}
use Rattle.core_terms.specs.declared.stop.Stop.{Stop}
use Rattle.core_terms.specs.declared.stop.Stop.TheVariants.{Deep}
use Rattle.core_terms.proofs.Answers.{Splits, and_then-splits, low-is}
use Rattle.core_terms.proofs.Placing.{Alike, alike-bounded, bounded-high}
use Rattle.core_sig.specs.FamilyShapes.{family_shape}
use Rattle.case_below_gen.specs.PartTests.{has_part}
use Rattle.case_below_gen.specs.Paths.{path_of, path_to, some_bounded}
use Rattle.tele_eq.specs.Items.{term_at}
use Rattle.unification.specs.Injecting.{lifted}
use Rattle.tree_translation.specs.Naming.{Naming, helper_name}
use Rattle.tree_translation.specs.Hidden.{visible}
use Rattle.tree_translation.specs.Plans.{Plan, Part}
use Rattle.tree_translation.specs.Recursion.{NamedRecursion, Recursion, remaining_positions, terms_at}
use Rattle.tree_translation.specs.RightSides as sides
use Rattle.tree_translation.specs.RightSides.{BelowValue, Place, applied_path, belows_behind, belows_under, descent_at, leaf_term, place_with, with_calls}
use Rattle.tree_translation.specs.Standings.{all_placed}
use Rattle.leaf_terms.specs.CodeRightSides.{applied_made, both_made, call_by_path, call_found, call_made, calls_made, constant_made, found_by, found_for, found_part, leaf_made, let_made, low_or_deep, only_high, or_tower, or_towers, part_made, side_with}
use Rattle.leaf_terms.specs.Laws.{LeafIsDeep, LeafIsTerm}
use Rattle.leaf_terms.proofs.PartHeights.{path-part}
use Rattle.leaf_terms.proofs.SeenAlike.{EachAlike, IsLike, height-applied, like-applied, like-itself, like-lam, like-let, like-pi, part-seen}
use Rattle.leaf_terms.proofs.TowerHeights.{tower-high}

abbrev IsDeep : Stop → Type 0
IsDeep e = e ≡ Deep

-- the term that is made for t is like it; there is none only where t is too high
abbrev pub Stands : Option Term → Term → Type 0
Stands None t = 2000 < height t
Stands (Some s) t = IsLike s t

-- the answer stands for the term, or is Deep
abbrev pub Means : Result (Option Term) Stop → Term → Type 0
Means r t = Splits (λ o. Stands o t) (λ e. e ≡ Deep) r

-- ---- lists

pub data EachStands : List (Option Term) → List Term → Type 0 where
  none : EachStands [] []
  more : {o : Option Term} {t : Term} {os : List (Option Term)} {ts : List Term} → Stands o t → EachStands os ts → EachStands (o ∷ os) (t ∷ ts)

tower-alike : (o : Option Term) (t : Term) → Stands o t → Alike (or_tower o) t
tower-alike None t h = inr (tower-high, h)
tower-alike (Some s) t h = h.alike

towers-alike : (os : List (Option Term)) (ts : List Term) → EachStands os ts → EachAlike (or_towers os) ts
towers-alike _ _ EachStands.none = EachAlike.none
towers-alike (o ∷ os) (t ∷ ts) (EachStands.more h all) = EachAlike.more (tower-alike o t h) (towers-alike os ts all)

get-stands : (os : List (Option Term)) (ts : List Term) (i : ℕ) → EachStands os ts → Stands (get_or os i (Some (Sort 0))) (get_or ts i (Sort 0))
get-stands _ _ i EachStands.none = like-itself (Sort 0)
get-stands (o ∷ os) (t ∷ ts) zero (EachStands.more h all) = h
get-stands (o ∷ os) (t ∷ ts) (suc i) (EachStands.more h all) = get-stands os ts i all

at-alike : (ss ts : List Term) (i : ℕ) → EachAlike ss ts → Alike (term_at ss i) (term_at ts i)
at-alike _ _ i EachAlike.none = inl refl
at-alike (s ∷ ss) (t ∷ ts) zero (EachAlike.more h all) = h
at-alike (s ∷ ss) (t ∷ ts) (suc i) (EachAlike.more h all) = at-alike ss ts i all

each-at : (positions : List ℕ) (ss ts : List Term) → EachAlike ss ts → EachAlike (terms_at positions ss) (terms_at positions ts)
each-at [] ss ts all = EachAlike.none
each-at (p ∷ positions) ss ts all = EachAlike.more (at-alike ss ts p all) (each-at positions ss ts all)

drop-alike : (k : ℕ) (ss ts : List Term) → EachAlike ss ts → EachAlike (drop k ss) (drop k ts)
drop-alike zero ss ts all = all
drop-alike (suc k) _ _ EachAlike.none = EachAlike.none
drop-alike (suc k) (s ∷ ss) (t ∷ ts) (EachAlike.more h all) = drop-alike k ss ts all

append-alike : (ss ts us vs : List Term) → EachAlike ss ts → EachAlike us vs → EachAlike (ss ++ us) (ts ++ vs)
append-alike _ _ us vs EachAlike.none rest = rest
append-alike (s ∷ ss) (t ∷ ts) us vs (EachAlike.more h all) rest = EachAlike.more h (append-alike ss ts us vs all rest)

itself-alike : (ts : List Term) → EachAlike ts ts
itself-alike [] = EachAlike.none
itself-alike (t ∷ ts) = EachAlike.more (inl refl) (itself-alike ts)

-- ---- paths

high-is : (t : Term) → is_low t ≡ false → 2000 < height t
high-is t e = grind (arith, nat_tests)

higher : (h : Term) (us : List Term) → 2000 < height h → 2000 < height (applied h us)
higher h us high = let rest = height-applied h us in omega arith

then-means : (go : Option Term → Result (Option Term) Stop) (meant goal : Term) (r : Result (Option Term) Stop) → Means r meant
    → ((o : Option Term) → Stands o meant → Means (go o) goal) → Means (and_then r go) goal
then-means go meant goal r m k = and_then-splits (λ o. Stands o meant) (λ o. Stands o goal) IsDeep r go m k

cond-means : (b : Bool) (r s : Result (Option Term) Stop) (t u : Term) → Means r t → Means s u → Means (cond b r s) (cond b t u)
cond-means true r s t u m n = m
cond-means false r s t u m n = n

high-too : (s t : Term) → Alike s t → 2000 < height s → 2000 < height t
high-too s t (inl e) high = transport (λ u. 2000 < height u) e high
high-too s t (inr (h, h')) high = h'

-- paths at the arguments of a call
path-applied : (plan : Plan) (r : Recursion) (os : List (Option Term)) (ts : List Term) → EachStands os ts → (s t : Term) → IsLike s t
    → IsLike (applied_path plan r (or_towers os) s) (applied_path plan r ts t)
path-applied plan r os ts all s t like =
    like-applied s t (terms_at (remaining_positions plan.arity r) (or_towers os) ++ drop plan.arity (or_towers os)) (terms_at (remaining_positions plan.arity r) ts ++ drop plan.arity ts) like
    (append-alike (terms_at (remaining_positions plan.arity r) (or_towers os)) (terms_at (remaining_positions plan.arity r) ts) (drop plan.arity (or_towers os)) (drop plan.arity ts)
    (each-at (remaining_positions plan.arity r) (or_towers os) ts (towers-alike os ts all)) (drop-alike plan.arity (or_towers os) ts (towers-alike os ts all)))

path-high : (plan : Plan) (r : Recursion) (ts : List Term) (path : Term) → 2000 < height path → 2000 < height (applied_path plan r ts path)
path-high plan r ts path high = higher path (terms_at (remaining_positions plan.arity r) ts ++ drop plan.arity ts) high

module _ (plan : Plan) (r : Recursion) (os : List (Option Term)) (ts : List Term) (all : EachStands os ts) (other : Result (Option Term) Stop) (rest : Term) (others : Means other rest) where
  -- the call by a path where it is made, or the other one
  path-test : (b w low : Bool) (made path : Term) → w ≡ true → (low ≡ true → made ≡ path) → (low ≡ false → b ≡ true → 2000 < height path)
      → Means (call_found plan r os other (found_by (if b then (if w && low then some_bounded made else Err Deep) else Ok None))) (cond b (applied_path plan r ts path) rest)
  path-test false w low made path e same high = others
  path-test true true true made path e same high = by (is_low made) refl
    where
      by : (c : Bool) → is_low made ≡ c
          → Means (call_found plan r os other (found_by (and_then (if c then Ok made else Err Deep) (λ u. Ok (Some u))))) (applied_path plan r ts path)
      by true c = path-applied plan r os ts all made path (transport (IsLike made) (same refl) (like-itself made))
      by false c = path-high plan r ts path (transport (λ t. 2000 < height t) (same refl) (high-is made c))
  path-test true true false made path e same high = path-high plan r ts path (high refl refl)
  path-test true false low made path e same high = absurd (true≢false (sym e))

  -- where the argument is too high, so are the call by the path to it, and the other one
  only-means : (b : Bool) (path : Term) (o : Option Term) → (b ≡ true → 2000 < height path) → Stands o rest → Means (only_high o) (cond b (applied_path plan r ts path) rest)
  only-means b path o high stands = by o stands
    where
      both : (c : Bool) → (c ≡ true → 2000 < height path) → 2000 < height rest → 2000 < height (cond c (applied_path plan r ts path) rest)
      both true h k = path-high plan r ts path (h refl)
      both false h k = k

      test : (s : Term) → IsLike s rest → (c : Bool) → is_low s ≡ c → Means (cond c (Err Deep) (Ok None)) (cond b (applied_path plan r ts path) rest)
      test s like true e = refl
      test s like false e = both b high (high-too s rest like.alike (high-is s e))

      by : (o : Option Term) → Stands o rest → Means (only_high o) (cond b (applied_path plan r ts path) rest)
      by None h = both b high h
      by (Some s) h = test s h (is_low s) refl

  module _ (number : Naming) (terms : List Term) (b : BelowValue) (t : Term) where
    abbrev Whole : Term
    Whole = term_at terms b.recursion.position

    abbrev Meant : Term
    Meant = cond (has_part b.recursion.admission.number (family_shape b.recursion.admission.number b.recursion.family) t Whole) (applied_path plan r ts (path_of (descent_at number plan b t) Whole b.value)) rest

    longer : (n m : ℕ) → 2000 < n → n ≤ m → 2000 < m
    longer n m h k = omega arith

    part-means : (s : Term) → IsLike s t
        → Means (and_then (found_for (descent_at number plan b s) Whole b.value) (call_found plan r os other)) Meant
    part-means s like = by (is_low Whole) refl
      where
        same : Alike s t → height s ≤ 2000 → s ≡ t
        same (inl e) low = e
        same (inr (high, high')) low = absurd (omega arith)

        tests : height Whole ≤ 2000
            → has_part b.recursion.admission.number (family_shape b.recursion.admission.number b.recursion.family) s Whole
            ≡ has_part b.recursion.admission.number (family_shape b.recursion.admission.number b.recursion.family) t Whole
        tests low = part-seen b.recursion.admission.number (family_shape b.recursion.admission.number b.recursion.family) s t like.seen Whole low

        by : (w : Bool) → is_low Whole ≡ w
            → Means (and_then (cond w (Ok (found_by (path_to (descent_at number plan b s) Whole b.value))) (Err Deep)) (call_found plan r os other)) Meant
        by false e = refl
        by true e =
            transport
            (λ c. Means (call_found plan r os other (found_by (path_to (descent_at number plan b s) Whole b.value))) (cond c (applied_path plan r ts (path_of (descent_at number plan b t) Whole b.value)) rest))
            (tests (low-is Whole e))
            (path-test (has_part b.recursion.admission.number (family_shape b.recursion.admission.number b.recursion.family) s Whole) (is_low Whole) (is_low s)
            (path_of (descent_at number plan b s) Whole b.value) (path_of (descent_at number plan b t) Whole b.value) e
            (λ low. ap (λ u. path_of (descent_at number plan b u) Whole b.value) (same like.alike (low-is s low)))
            (λ high there.
            longer (height t) (height (path_of (descent_at number plan b t) Whole b.value)) (high-too s t like.alike (high-is s high))
            (path-part (descent_at number plan b t) Whole b.value (sym (tests (low-is Whole e)) ∙ there))))

    found-means : (o : Option Term) → Stands o t → Means (and_then (found_part number plan terms b o) (call_found plan r os other)) Meant
    found-means None high =
        then-means only_high rest Meant other others
        (λ o stands.
        only-means (has_part b.recursion.admission.number (family_shape b.recursion.admission.number b.recursion.family) t Whole) (path_of (descent_at number plan b t) Whole b.value) o
        (λ there. longer (height t) (height (path_of (descent_at number plan b t) Whole b.value)) high (path-part (descent_at number plan b t) Whole b.value there)) stands)
    found-means (Some s) like = part-means s like

-- ---- calls

call-means : (number : Naming) (plan : Plan) (terms : List Term) (first : BelowValue) (os : List (Option Term)) (ts : List Term) (belows : List BelowValue) → EachStands os ts
    → Means (call_by_path number plan terms first os belows) (sides.call_by_path number plan terms first ts belows)
call-means number plan terms first os ts [] all = path-applied plan first.recursion os ts all first.value first.value (like-itself first.value)
call-means number plan terms first os ts (b ∷ belows) all =
    found-means plan b.recursion os ts all (call_by_path number plan terms first os belows) (sides.call_by_path number plan terms first ts belows)
    (call-means number plan terms first os ts belows all) number terms b (term_at ts b.recursion.position)
    (get_or os b.recursion.position (Some (Sort 0))) (get-stands os ts b.recursion.position all)

in-means : (number : Naming) (plan : Plan) (terms : List Term) (os : List (Option Term)) (ts : List Term) (belows : List BelowValue) → EachStands os ts
    → Means (call_made number plan terms os belows) (sides.call_in number plan terms ts belows)
in-means number plan terms os ts [] all = like-itself (Sort 0)
in-means number plan terms os ts (b ∷ belows) all = call-means number plan terms b os ts (b ∷ belows) all

head-means : (h : Term) (os : List (Option Term)) (ts : List Term) → EachStands os ts → Means (Ok (Some (applied h (or_towers os)))) (applied h ts)
head-means h os ts all = like-applied h h (or_towers os) ts (like-itself h) (towers-alike os ts all)

helper-means : (number : Naming) (plan : Plan) (l : Place) (under k : ℕ) (os : List (Option Term)) (ts : List Term) → EachStands os ts
    → Means (Ok (Some (sides.helper_call number plan l under k (or_towers os)))) (sides.helper_call number plan l under k ts)
helper-means number plan l under k os ts all =
    like-applied (Const (number (helper_name plan.name k))) (Const (number (helper_name plan.name k))) (or_towers os ++ belows_behind under l.belows) (ts ++ belows_behind under l.belows)
    (like-itself (Const (number (helper_name plan.name k))))
    (append-alike (or_towers os) ts (belows_behind under l.belows) (belows_behind under l.belows) (towers-alike os ts all) (itself-alike (belows_behind under l.belows)))

constant-means : (number : Naming) (plan : Plan) (l : Place) (under c : ℕ) (os : List (Option Term)) (ts : List Term) → EachStands os ts
    → Means (constant_made number plan l under c os) (sides.constant_at number plan l under c ts)
constant-means number plan l under c os ts all =
    let here : Result (Option Term) Stop = Ok (Some (applied (Const c) (or_towers os))) in
    let helper : Result (Option Term) Stop = Ok (Some (sides.helper_call number plan l under (c - plan.base) (or_towers os))) in
    cond-means (nat_lt c plan.base) here (cond (c == plan.base) (call_made number plan (lifted under l.terms) os (belows_under under l.belows)) helper)
    (applied (Const c) ts) (cond (c == plan.base) (sides.call_in number plan (lifted under l.terms) ts (belows_under under l.belows)) (sides.helper_call number plan l under (c - plan.base) ts))
    (head-means (Const c) os ts all)
    (cond-means (c == plan.base) (call_made number plan (lifted under l.terms) os (belows_under under l.belows)) helper (sides.call_in number plan (lifted under l.terms) ts (belows_under under l.belows))
    (sides.helper_call number plan l under (c - plan.base) ts) (in-means number plan (lifted under l.terms) os ts (belows_under under l.belows) all)
    (helper-means number plan l under (c - plan.base) os ts all))

-- ---- terms of parts

-- a part is equal or both are too high
abbrev PartMeans : Result Term Stop → Term → Type 0
PartMeans r t = Splits (λ s. Alike s t) IsDeep r

part-made : (r : Result (Option Term) Stop) (t : Term) → Means r t → PartMeans (part_made r) t
part-made r t m = and_then-splits (λ o. Stands o t) (λ s. Alike s t) IsDeep r (λ o. Ok (or_tower o)) m (λ o h. tower-alike o t h)

both-mean : (form : Term → Term → Term) (r s : Result Term Stop) (a b : Term) → PartMeans r a → PartMeans s b
    → ((u v : Term) → Alike u a → Alike v b → IsLike (form u v) (form a b)) → Splits (λ h. IsLike h (form a b)) IsDeep (both_made form r s)
both-mean form r s a b m n k =
    and_then-splits (λ u. Alike u a) (λ h. IsLike h (form a b)) IsDeep r (λ u. and_then s (λ v. Ok (form u v))) m (λ u h.
    and_then-splits (λ v. Alike v b) (λ h. IsLike h (form a b)) IsDeep s (λ v. Ok (form u v)) n (λ v l. k u v h l))

let-means : (r s q : Result Term Stop) (a t b : Term) → PartMeans r a → PartMeans s t → PartMeans q b → Splits (λ h. IsLike h (Let a t b)) IsDeep (let_made r s q)
let-means r s q a t b m n k =
    and_then-splits (λ u. Alike u a) (λ h. IsLike h (Let a t b)) IsDeep r (λ u. both_made (Let u) s q) m (λ u h.
    and_then-splits (λ v. Alike v t) (λ h. IsLike h (Let a t b)) IsDeep s (λ v. and_then q (λ x. Ok (Let u v x))) n (λ v l.
    and_then-splits (λ x. Alike x b) (λ h. IsLike h (Let a t b)) IsDeep q (λ x. Ok (Let u v x)) k (λ x z. like-let u a v t x b h l z)))

applied-means : (os : List (Option Term)) (ts : List Term) (r : Result Term Stop) (h : Term) → EachStands os ts → Splits (λ s. IsLike s h) IsDeep r → Means (applied_made os r) (applied h ts)
applied-means os ts r h all m =
    and_then-splits (λ s. IsLike s h) (λ o. Stands o (applied h ts)) IsDeep r (λ s. Ok (Some (applied s (or_towers os)))) m
    (λ s like. like-applied s h (or_towers os) ts like (towers-alike os ts all))

pub calls-mean : (number : Naming) (plan : Plan) (l : Place) (under : ℕ) (os : List (Option Term)) (ts : List Term) (t : Term) → EachStands os ts
    → Means (calls_made number plan l under os t) (with_calls number plan l under ts t)
calls-mean number plan l under os ts (App f a) all =
    then-means (λ u. calls_made number plan l under (u ∷ os) f) (with_calls number plan l under [] a) (with_calls number plan l under (with_calls number plan l under [] a ∷ ts) f)
    (calls_made number plan l under [] a) (calls-mean number plan l under [] [] a EachStands.none)
    (λ u h. calls-mean number plan l under (u ∷ os) (with_calls number plan l under [] a ∷ ts) f (EachStands.more h all))
calls-mean number plan l under os ts (Const c) all = constant-means number plan l under c os ts all
calls-mean number plan l under os ts (Pi a b) all =
    applied-means os ts _ _ all
    (both-mean Pi _ _ (with_calls number plan l under [] a) (with_calls number plan l (under + 1) [] b)
    (part-made _ _ (calls-mean number plan l under [] [] a EachStands.none)) (part-made _ _ (calls-mean number plan l (under + 1) [] [] b EachStands.none))
    (λ u v h k. like-pi u (with_calls number plan l under [] a) v (with_calls number plan l (under + 1) [] b) h k))
calls-mean number plan l under os ts (Lam a b) all =
    applied-means os ts _ _ all
    (both-mean Lam _ _ (with_calls number plan l under [] a) (with_calls number plan l (under + 1) [] b)
    (part-made _ _ (calls-mean number plan l under [] [] a EachStands.none)) (part-made _ _ (calls-mean number plan l (under + 1) [] [] b EachStands.none))
    (λ u v h k. like-lam u (with_calls number plan l under [] a) v (with_calls number plan l (under + 1) [] b) h k))
calls-mean number plan l under os ts (Let a t b) all =
    applied-means os ts _ _ all
    (let-means _ _ _ (with_calls number plan l under [] a) (with_calls number plan l under [] t) (with_calls number plan l (under + 1) [] b)
    (part-made _ _ (calls-mean number plan l under [] [] a EachStands.none)) (part-made _ _ (calls-mean number plan l under [] [] t EachStands.none))
    (part-made _ _ (calls-mean number plan l (under + 1) [] [] b EachStands.none)))
calls-mean number plan l under os ts (Var n) all = head-means (Var n) os ts all
calls-mean number plan l under os ts (Sort i) all = head-means (Sort i) os ts all
calls-mean number plan l under os ts (Fam n) all = head-means (Fam n) os ts all
calls-mean number plan l under os ts (Con n c) all = head-means (Con n c) os ts all
calls-mean number plan l under os ts (Elim n m) all = head-means (Elim n m) os ts all
calls-mean number plan l under os ts (AxiomK i m) all = head-means (AxiomK i m) os ts all

-- ---- leaves

-- a term that is made is answered unless it is too high
bounded-is : (o : Option Term) (t : Term) → Stands o t → low_or_deep o ≡ bounded t
bounded-is None t h = sym (bounded-high t h)
bounded-is (Some s) t h = alike-bounded s t h.alike

-- a term with its calls, where they are made: it is what is meant, unless that is too high
pub calls-bounded : (number : Naming) (plan : Plan) (l : Place) (t : Term) (o : Option Term) → calls_made number plan l 0 [] t ≡ Ok o
    → and_then (calls_made number plan l 0 [] t) low_or_deep ≡ bounded (with_calls number plan l 0 [] t)
calls-bounded number plan l t o e =
    ap (λ (r : Result (Option Term) Stop). and_then r low_or_deep) e
    ∙ bounded-is o (with_calls number plan l 0 [] t)
    (transport (λ r. Means r (with_calls number plan l 0 [] t)) e (calls-mean number plan l 0 [] [] t EachStands.none))

-- the answer is the term, or Deep
abbrev LeafMeans : Result Term Stop → Term → Type 0
LeafMeans r t = Splits (λ u. u ≡ t) IsDeep r

bounded-means : (t : Term) → LeafMeans (bounded t) t
bounded-means t = by (is_low t)
  where
    by : (b : Bool) → LeafMeans (if b then Ok t else Err Deep) t
    by true = refl
    by false = refl

means-ok : (r : Result Term Stop) (t u : Term) → LeafMeans r t → r ≡ Ok u → u ≡ t
means-ok r t u m e = transport (λ q. LeafMeans q t) e m

means-deep : (r : Result Term Stop) (t : Term) (e : Stop) → LeafMeans r t → r ≡ Err e → e ≡ Deep
means-deep r t z m e = transport (λ q. LeafMeans q t) e m

leaf-means : (number : Naming) (plan : Plan) (recursions : List NamedRecursion) (part : Part) (order : List ℕ) (n : ℕ) (hidden : List ℕ) (clause : ℕ)
    (substitution terms binds : List Term)
    → LeafMeans (leaf_made number plan recursions part order n hidden clause substitution terms binds)
    (leaf_term number plan recursions part order n hidden clause substitution terms binds)
leaf-means number plan recursions part order n hidden clause substitution terms binds =
    let place = place_with number n hidden recursions (all_placed (visible n hidden) n terms) in
    let side = side_with plan part order (visible n hidden) n clause substitution terms binds in
    let meant = with_calls number plan place 0 [] side in
    and_then-splits (λ o. Stands o meant) (λ u. u ≡ meant) IsDeep (calls_made number plan place 0 [] side) low_or_deep
    (calls-mean number plan place 0 [] [] side EachStands.none)
    (λ o h. transport (λ r. LeafMeans r meant) (sym (bounded-is o meant h)) (bounded-means meant))

pub leaf-is-term : LeafIsTerm
leaf-is-term number plan recursions part order n hidden clause substitution terms binds t e =
    means-ok (leaf_made number plan recursions part order n hidden clause substitution terms binds)
    (leaf_term number plan recursions part order n hidden clause substitution terms binds) t
    (leaf-means number plan recursions part order n hidden clause substitution terms binds) e

pub leaf-is-deep : LeafIsDeep
leaf-is-deep number plan recursions part order n hidden clause substitution terms binds z e =
    means-deep (leaf_made number plan recursions part order n hidden clause substitution terms binds)
    (leaf_term number plan recursions part order n hidden clause substitution terms binds) z
    (leaf-means number plan recursions part order n hidden clause substitution terms binds) e
