-- Telescopes and terms that a family's record brings at parameters, as code makes them.
use Rattle.std.proofs.Common.{◌≡◌, ℕ, zero, suc, ◌+◌, Bool, true, false, ◌&&◌, cond, List, [], ◌∷◌, ◌++◌, length, map, refl, ap, ap₂, sym, ◌∙◌, Result, Ok, Err, arith}
use Rattle.std.proofs.lemmas.List.{length-map}
use Rattle.std.proofs.lemmas.Simd.{map-map}
use mathlib.Core.Path.{fun_ext}
use Rattle.theory.specs.Terms.{Term, App, Fam, Con, free_of, lift}
use Rattle.theory.specs.Substitutions.{inst, ups, extend, fill, ren}
use Rattle.theory.specs.Telescopes.{Telescope, applied, variables, weaken_by, inst_telescope}
use Rattle.theory.specs.Eliminators.{no_variable}
use Rattle.theory.specs.Families as pure
use Rattle.theory.specs.Families.{argument_types, family_head, level_of}
use Rattle.theory.proofs.Instances.{ren-same}
use Rattle.theory.proofs.Instantiation.{inst-applied}
use Rattle.theory.proofs.Renaming.{ren-closed}
use Rattle.theory.proofs.Shifts.{lift-is_ren, lift_var-above}
use Rattle.core_terms.specs.Answers.{is_low, are_low, bounded_terms, bounded, and_then}
use Rattle.core_terms.specs.Meanings.{tree_of, tele_of}
use Rattle.core_terms.specs.declared.term.Term as code
use Rattle.core_terms.specs.declared.stop.Stop.{Stop}
use Rattle.core_terms.specs.declared.stop.Stop.TheVariants.{Deep}
use Rattle.core_sig.specs.Kinds.{HaveKinds}
use Rattle.core_sig.specs.Meanings.{argument_with, argument_of, constructor_of, family_of}
use Rattle.core_sig.specs.Shapes.{argument_shape}
use Rattle.core_sig.specs.declared.family.ArgKind.{ArgKind}
use Rattle.core_sig.specs.declared.family.ArgKind.TheVariants.{Plain, Recursive}
use Rattle.core_sig.specs.declared.family.Arg.{Arg}
use Rattle.core_sig.specs.declared.family.Family.{Family}
use Rattle.core_sig.specs.declared.family.Constructor.{Constructor}
use Rattle.core_sig.proofs.Arguments.{argument_types-inst, index_types-of}
use Rattle.core_sig.proofs.EntryInstances.{ren-id}
use Rattle.unification.specs.Injecting.{lifted}
use Rattle.tele_eq.specs.Items.{Item}
use Rattle.unification.specs.Records.{items_at, argument_items, family_items, constructor_terms}
use Rattle.unification.specs.Heights.{bounded_items, are_low_items}

-- ---- types with their levels

low-at : (tele : Telescope) (levels : List ℕ) → length levels ≡ length tele → are_low_items (items_at tele levels) ≡ are_low tele
low-at [] [] e = refl
low-at [] (i ∷ levels) e = absurd (omega arith)
low-at (a ∷ tele) [] e = absurd (omega arith)
low-at (a ∷ tele) (i ∷ levels) e = ap (λ b. is_low a && b) (low-at tele levels (omega arith))

bounded-step : (b : Bool) (tele : Telescope) (levels : List ℕ)
    → cond {A = Result (List Item) Stop} b (Ok (items_at tele levels)) (Err Deep) ≡ and_then (cond {A = Result (List Term) Stop} b (Ok tele) (Err Deep)) (λ types. Ok (items_at types levels))
bounded-step true tele levels = refl
bounded-step false tele levels = refl

-- the items are Deep where the types are
pub bounded-at : (tele : Telescope) (levels : List ℕ) → length levels ≡ length tele
    → bounded_items (items_at tele levels) ≡ and_then (bounded_terms tele) (λ types. Ok (items_at types levels))
bounded-at tele levels e =
    ap (λ b. cond {A = Result (List Item) Stop} b (Ok (items_at tele levels)) (Err Deep)) (low-at tele levels e) ∙ bounded-step (are_low tele) tele levels

length-inst : (s : ℕ → Term) (tele : Telescope) → length (inst_telescope s tele) ≡ length tele
length-inst s [] = refl
length-inst s (a ∷ tele) = ap suc (length-inst (ups s) tele)

pub bounded-arguments : (s : ℕ → Term) (args : List Arg)
    → bounded_items (items_at (inst_telescope s (map (λ a. tree_of a.ty) args)) (map (λ a. a.level) args))
    ≡ and_then (bounded_terms (inst_telescope s (map (λ a. tree_of a.ty) args))) (λ types. Ok (items_at types (map (λ a. a.level) args)))
bounded-arguments s args =
    bounded-at (inst_telescope s (map (λ a. tree_of a.ty) args)) (map (λ a. a.level) args)
    (length-map args (λ a. a.level) ∙ sym (length-inst s (map (λ a. tree_of a.ty) args) ∙ length-map args (λ a. tree_of a.ty)))

-- one more type
pub items-more : (tele : Telescope) (levels : List ℕ) (a : Term) (i : ℕ) → length levels ≡ length tele
    → items_at (tele ++ a ∷ []) (levels ++ i ∷ []) ≡ items_at tele levels ++ record { type = a; level = i } ∷ []
items-more [] [] a i e = refl
items-more [] (l ∷ levels) a i e = absurd (omega arith)
items-more (t ∷ tele) [] a i e = absurd (omega arith)
items-more (t ∷ tele) (l ∷ levels) a i e = ap (λ X. record { type = t; level = l } ∷ X) (items-more tele levels a i (omega arith))

-- ---- arguments

level-of_argument : (p : ℕ) (t : Term) (level : ℕ) (kind : ArgKind) → level_of (argument_with p t level kind) ≡ level
level-of_argument p t level Plain = refl
level-of_argument p t level (Recursive n) = refl

levels-of_arguments : (p : ℕ) (args : List Arg) → map level_of (map (argument_of p) args) ≡ map (λ a. a.level) args
levels-of_arguments p [] = refl
levels-of_arguments p (a ∷ args) = ap₂ ◌∷◌ (level-of_argument p (tree_of a.ty) a.level a.kind) (levels-of_arguments p args)

fill-past : (s : ℕ → Term) (us : List Term) (v : ℕ) → fill s us (v + length us) ≡ s v
fill-past s [] v = let e : v + 0 ≡ v = omega arith in ap s e
fill-past s (u ∷ us) v =
    let e : v + suc (length us) ≡ suc v + length us = omega arith in
    ap (fill (extend s u) us) e ∙ fill-past (extend s u) us (suc v)

-- the variables of a record are its parameters
filled : (s : ℕ → Term) (us : List Term) → map (inst (fill s us)) (variables (length us)) ≡ us
filled s [] = refl
filled s (u ∷ us) =
    let e : length us ≡ 0 + length us = omega arith in
    ap₂ ◌∷◌ (ap (fill (extend s u) us) e ∙ fill-past (extend s u) us 0) (filled (extend s u) us)

-- a family at its parameters, where these are put
head-at : (n : ℕ) (f : pure.Family) (ps : List Term) → length f.parameters ≡ length ps
    → inst (fill no_variable ps) (weaken_by 0 (family_head n f)) ≡ applied (Fam n) ps
head-at n f ps e =
    ap (inst (fill no_variable ps)) (ren-id (λ k. k + 0) (family_head n f) (λ k. omega arith))
    ∙ (inst-applied (fill no_variable ps) (Fam n) (variables (length f.parameters))
    ∙ ap (applied (Fam n)) (ap (λ k. map (inst (fill no_variable ps)) (variables k)) e ∙ filled no_variable ps))

-- the arguments of a constructor are those of the types that the code has
pub argument-items-of : (n : ℕ) (f : pure.Family) (ps : List Term) (p : ℕ) (con : Constructor) → length ps ≡ p → HaveKinds n f 0 con.args → length f.parameters ≡ p
    → argument_items n ps (constructor_of p con)
    ≡ items_at (inst_telescope (fill no_variable ps) (map (λ a. tree_of a.ty) con.args)) (map (λ a. a.level) con.args)
argument-items-of n f ps p con ep kinds e =
    ap₂ items_at
    (ap₂ (λ h k. argument_types (fill no_variable ps) h (map (argument_of k) con.args)) (sym (head-at n f ps (e ∙ sym ep))) (sym e)
    ∙ (argument_types-inst n f 0 (fill no_variable ps) con.args kinds
    ∙ ap (inst_telescope (fill no_variable ps)) (map-map (λ x. x.type) argument_shape con.args)))
    (levels-of_arguments p con.args)

-- ---- the family at its indices, and a constructor at its arguments

ren-applied : (r : ℕ → ℕ) (head : Term) (spine : List Term) → ren r (applied head spine) ≡ applied (ren r head) (map (ren r) spine)
ren-applied r head [] = refl
ren-applied r head (a ∷ spine) = ren-applied r (App head a) spine

weaken-is_lift : (k : ℕ) (t : Term) → weaken_by k t ≡ lift t k 0
weaken-is_lift k t = sym (lift-is_ren t k 0 ∙ ren-same t (λ m. lift_var-above m k 0 (omega arith)))

map-weaken : (k : ℕ) (ts : List Term) → map (weaken_by k) ts ≡ lifted k ts
map-weaken k [] = refl
map-weaken k (t ∷ ts) = ap₂ ◌∷◌ (weaken-is_lift k t) (map-weaken k ts)

-- a closed head at parameters that are further in
pub nearest-is : (head : Term) (ps : List Term) (count : ℕ) → free_of head ≡ 0
    → applied (weaken_by count (applied head ps)) (variables count) ≡ applied (applied head (lifted count ps)) (variables count)
nearest-is head ps count closed =
    ap (λ h. applied h (variables count))
    (ren-applied (λ n. n + count) head ps ∙ ap₂ applied (ren-closed (λ n. n + count) head closed) (map-weaken count ps))

fill-both : (s : ℕ → Term) (us vs : List Term) → fill s (us ++ vs) ≡ fill (fill s us) vs
fill-both s [] vs = ap (λ q. fill q vs) (fun_ext (λ n. refl))
fill-both s (u ∷ us) vs = fill-both (extend s u) us vs

extend-ren : (r : ℕ → ℕ) (s : ℕ → Term) (u : Term) (n : ℕ) → extend (λ m. ren r (s m)) (ren r u) n ≡ ren r (extend s u n)
extend-ren r s u zero = refl
extend-ren r s u (suc n) = refl

fill-ren : (r : ℕ → ℕ) (s : ℕ → Term) (us : List Term) (n : ℕ) → fill (λ m. ren r (s m)) (map (ren r) us) n ≡ ren r (fill s us n)
fill-ren r s [] n = refl
fill-ren r s (u ∷ us) n =
    ap (λ q. fill q (map (ren r) us) n) (fun_ext (extend-ren r s u)) ∙ fill-ren r (extend s u) us n

-- the terms for the variables of a constructor's targets
pub values-are : (ps : List Term) (count : ℕ)
    → fill no_variable (lifted count ps ++ variables count) ≡ fill (λ v. weaken_by count (fill no_variable ps v)) (variables count)
values-are ps count =
    fill-both no_variable (lifted count ps) (variables count)
    ∙ ap (λ q. fill q (variables count))
    (ap (λ us. fill no_variable us) (sym (map-weaken count ps)) ∙ fun_ext (fill-ren (λ n. n + count) no_variable ps))

-- ---- one term more is Deep where it or the others are

bounded-more-step : (b c : Bool) (X : List Item) (a : Term) (i : ℕ) (d : Bool) → d ≡ (b && c)
    → cond {A = Result (List Item) Stop} d (Ok (X ++ record { type = a; level = i } ∷ [])) (Err Deep)
    ≡ and_then (cond {A = Result (List Item) Stop} b (Ok X) (Err Deep))
    (λ Y. and_then (cond {A = Result Term Stop} c (Ok a) (Err Deep)) (λ t. Ok (Y ++ record { type = t; level = i } ∷ [])))
bounded-more-step true true X a i d e = rw e
bounded-more-step true false X a i d e = rw e
bounded-more-step false c X a i d e = rw e

and-assoc : (a b c : Bool) → ((a && b) && c) ≡ (a && (b && c))
and-assoc true b c = refl
and-assoc false b c = refl

and-true : (b : Bool) → (b && true) ≡ b
and-true true = refl
and-true false = refl

low-more : (X : List Item) (a : Term) (i : ℕ) → are_low_items (X ++ record { type = a; level = i } ∷ []) ≡ (are_low_items X && is_low a)
low-more [] a i = and-true (is_low a)
low-more (x ∷ X) a i = ap (λ b. is_low x.type && b) (low-more X a i) ∙ sym (and-assoc (is_low x.type) (are_low_items X) (is_low a))

pub bounded-item_more : (X : List Item) (a : Term) (i : ℕ)
    → bounded_items (X ++ record { type = a; level = i } ∷ [])
    ≡ and_then (bounded_items X) (λ Y. and_then (bounded a) (λ t. Ok (Y ++ record { type = t; level = i } ∷ [])))
bounded-item_more X a i = bounded-more-step (are_low_items X) (is_low a) X a i (are_low_items (X ++ record { type = a; level = i } ∷ [])) (low-more X a i)

terms-more : (ts : List Term) (a : Term) → are_low (ts ++ a ∷ []) ≡ (are_low ts && is_low a)
terms-more [] a = and-true (is_low a)
terms-more (t ∷ ts) a = ap (λ b. is_low t && b) (terms-more ts a) ∙ sym (and-assoc (is_low t) (are_low ts) (is_low a))

bounded-terms-step : (b c : Bool) (ts : List Term) (a : Term) (d : Bool) → d ≡ (b && c)
    → cond {A = Result (List Term) Stop} d (Ok (ts ++ a ∷ [])) (Err Deep)
    ≡ and_then (cond {A = Result (List Term) Stop} b (Ok ts) (Err Deep))
    (λ us. and_then (cond {A = Result Term Stop} c (Ok a) (Err Deep)) (λ t. Ok (us ++ t ∷ [])))
bounded-terms-step true true ts a d e = rw e
bounded-terms-step true false ts a d e = rw e
bounded-terms-step false c ts a d e = rw e

pub bounded-term_more : (ts : List Term) (a : Term)
    → bounded_terms (ts ++ a ∷ []) ≡ and_then (bounded_terms ts) (λ us. and_then (bounded a) (λ t. Ok (us ++ t ∷ [])))
bounded-term_more ts a = bounded-terms-step (are_low ts) (is_low a) ts a (are_low (ts ++ a ∷ [])) (terms-more ts a)

-- the items of a family's record, bounded
pub family-items-of : (n : ℕ) (f : Family) (ps : List Term)
    → bounded_items (family_items n (family_of f) ps)
    ≡ and_then (bounded_items (items_at (inst_telescope (fill no_variable ps) (map (λ a. tree_of a.ty) f.indices)) (map (λ a. a.level) f.indices)))
    (λ X. and_then (bounded (applied (weaken_by (length f.indices) (applied (Fam n) ps)) (variables (length f.indices))))
    (λ t. Ok (X ++ record { type = t; level = f.level } ∷ [])))
family-items-of n f ps =
    let s = fill no_variable ps in
    let types = inst_telescope s (map (λ a. tree_of a.ty) f.indices) in
    let levels = map (λ (a : Arg). a.level) f.indices in
    let whole : ℕ → Term = λ k. applied (weaken_by k (applied (Fam n) ps)) (variables k) in
    ap bounded_items
    (ap₂ (λ tele more. items_at (inst_telescope s tele ++ whole (length {A = Term × ℕ} (map (λ (i : Arg). (tree_of i.ty, i.level)) f.indices)) ∷ []) (more ++ f.level ∷ []))
    (index_types-of f) (map-map (λ (i : Term × ℕ). i.1) (λ (a : Arg). (tree_of a.ty, a.level)) f.indices)
    ∙ (ap (λ k. items_at (types ++ whole k ∷ []) (levels ++ f.level ∷ [])) (length-map {B = Term × ℕ} f.indices (λ (i : Arg). (tree_of i.ty, i.level)))
    ∙ items-more types levels (whole (length f.indices)) f.level
    (length-map f.indices (λ a. a.level) ∙ sym (length-inst s (map (λ a. tree_of a.ty) f.indices) ∙ length-map f.indices (λ a. tree_of a.ty)))))
    ∙ bounded-item_more (items_at types levels) (whole (length f.indices)) f.level

-- the terms of a constructor's record, bounded
pub constructor-terms-of : (n number : ℕ) (ps : List Term) (p : ℕ) (con : Constructor)
    → bounded_terms (constructor_terms n number ps (constructor_of p con))
    ≡ and_then (bounded_terms (map (inst (fill no_variable (lifted (length con.args) ps ++ variables (length con.args)))) (tele_of con.targets)))
    (λ ts. and_then (bounded (applied (weaken_by (length con.args) (applied (Con n number) ps)) (variables (length con.args)))) (λ t. Ok (ts ++ t ∷ [])))
constructor-terms-of n number ps p con =
    let made : ℕ → List Term = λ k. map (inst (fill (λ v. weaken_by k (fill no_variable ps v)) (variables k))) (tele_of con.targets) in
    let whole : ℕ → Term = λ k. applied (weaken_by k (applied (Con n number) ps)) (variables k) in
    ap (λ k. bounded_terms (made k ++ whole k ∷ [])) (length-map con.args (argument_of p))
    ∙ (ap (λ q. bounded_terms (map (inst q) (tele_of con.targets) ++ whole (length con.args) ∷ [])) (sym (values-are ps (length con.args)))
    ∙ bounded-term_more (map (inst (fill no_variable (lifted (length con.args) ps ++ variables (length con.args)))) (tele_of con.targets)) (whole (length con.args)))

pub map-snoc : {A B : Type 0} (f : A → B) (xs : List A) (x : A) → map f (xs ++ x ∷ []) ≡ map f xs ++ f x ∷ []
map-snoc f [] x = refl
map-snoc f (y ∷ xs) x = ap (λ zs. f y ∷ zs) (map-snoc f xs x)

pub ruleset record_laws = (bounded-arguments, family-items-of, constructor-terms-of, map-snoc)

-- a bounded list of terms is the list itself
pub bounded-is : (ts us : List Term) → Ok us ≡ bounded_terms ts → us ≡ ts
bounded-is ts us e = go (are_low ts) e
  where
    go : (b : Bool) → ◌≡◌ {A = Result (List Term) Stop} (Ok us) (cond b (Ok ts) (Err Deep)) → us ≡ ts
    go true e = cc
    go false e = absurd (cc)

-- there is a type for each argument
pub typed-length : (s : ℕ → Term) (types : Telescope) (made : List code.Term) (args : List Arg) → types ≡ map (λ a. tree_of a.ty) args
    → Ok (tele_of made) ≡ bounded_terms (inst_telescope s types) → length made ≡ length args
typed-length s types made args e is =
    sym (length-map made tree_of)
    ∙ (ap length (bounded-is (inst_telescope s types) (tele_of made) is) ∙ (length-inst s types ∙ (ap length e ∙ length-map args (λ a. tree_of a.ty))))
