-- The line of a well-formed family shows a record.
use Rattle.std.proofs.Common.{◌≡◌, ◌==◌, ℕ, zero, suc, ◌+◌, ◌<◌, Bool, true, false, ◌&&◌, List, [], ◌∷◌, length, map, All, Some, None, refl, sym, ap, ap₂, subst, subst₂, ◌∙◌, arith, nat_lt}
use Rattle.std.specs.Prelude.{if◌then◌else◌}
use Rattle.std.specs.List.{list_all}
use Rattle.std.specs.Option.{is_some}
use Rattle.std.proofs.lemmas.Bool.{eq-eqb, lt-ltb}
use Rattle.std.proofs.lemmas.List.Elements.{All-head, All-tail}
use Rattle.theory.specs.Families.{Constructor, Family, index_types, family_head, constructor_telescope}
use Rattle.theory.specs.Substitutions.{ren}
use Rattle.theory.specs.Telescopes.{Telescope, products, applied, variables, weaken_by}
use Rattle.theory.specs.Terms.{Term, Var, Sort, Pi, Lam, App, Let, Const, Fam, Con, Elim, AxiomK, top}
use Rattle.theory.proofs.Scopes.{length-argument_types}
use Rattle.core_sig.specs.KindTests.{is_at_parameters}
use Rattle.core_sig.specs.Raw.{RawConstructor}
use Rattle.core_sig.proofs.ConstructorTypes.{ren-applied}
use Rattle.core_terms.specs.Telescopes.{domains_of}
use Rattle.core_text.specs.RawEntries.{end_level, is_at_targets, ends_in_family, shows_record, family_shown, type_shown, constructor_type_shown, constructor_line}

-- ---- the type

domains-long : (tele : Telescope) (level : ℕ) → length (domains_of (products tele (Sort level))) ≡ length tele
domains-long [] level = refl
domains-long (a ∷ tele) level = ap (λ n. suc n) (domains-long tele level)

indices-long : (indices : List (Term × ℕ)) → length (map (λ i. i.0) indices) ≡ length indices
indices-long [] = refl
indices-long (i ∷ indices) = ap (λ n. suc n) (indices-long indices)

level-shown : (tele : Telescope) (level : ℕ) → level < top → is_some (end_level (products tele (Sort level))) ≡ true
level-shown [] level lt = ap (λ b. is_some (if b then Some level else None)) (lt-ltb level top lt)
level-shown (a ∷ tele) level lt = level-shown tele level lt

-- ---- the family at its parameters

both : (a b : Bool) → a ≡ true → b ≡ true → (a && b) ≡ true
both true b e f = f
both false b e f = e

-- a head with q variables, and then p more
at-variables : (n m p q : ℕ) (h : Term) → is_at_parameters n q (m + p) h ≡ true → is_at_parameters n (p + q) m (applied h (map (ren (λ k. k + m)) (variables p))) ≡ true
at-variables n m zero q h e =
    subst₂ (λ j k. is_at_parameters n j k h ≡ true) (let s : q ≡ 0 + q = omega arith in s) (let s : m + 0 ≡ m = omega arith in s) e
at-variables n m (suc p) q h e =
    let next : is_at_parameters n (suc q) (m + p) (App h (Var (p + m))) ≡ true =
    both ((p + m) == (m + p)) (is_at_parameters n q (m + p + 1) h) (eq-eqb (p + m) (m + p) (omega arith)) (subst (λ k. is_at_parameters n q k h ≡ true) (let s : m + suc p ≡ m + p + 1 = omega arith in s) e) in
    subst (λ k. is_at_parameters n k m (applied (App h (Var (p + m))) (map (ren (λ k. k + m)) (variables p))) ≡ true) (let s : p + suc q ≡ suc p + q = omega arith in s)
    (at-variables n m p (suc q) (App h (Var (p + m))) next)

head-shown : (n m : ℕ) (f : Family) → is_at_parameters n (length f.parameters) m (weaken_by m (family_head n f)) ≡ true
head-shown n m f =
    let p = length f.parameters in
    ap (is_at_parameters n p m) (ren-applied (λ k. k + m) (Fam n) (variables p))
    ∙ subst (λ k. is_at_parameters n k m (applied (Fam n) (map (ren (λ k. k + m)) (variables p))) ≡ true) (let s : p + 0 ≡ p = omega arith in s)
    (at-variables n m p 0 (Fam n) (eq-eqb n n refl))

-- ---- targets

targets-shown : (n p at j : ℕ) (h : Term) (ts : List Term) → is_at_targets n p (length ts + j) at (applied h ts) ≡ is_at_targets n p j at h
targets-shown n p at j h [] = ap (λ k. is_at_targets n p k at h) (let s : 0 + j ≡ j = omega arith in s)
targets-shown n p at j h (t ∷ ts) =
    ap (λ k. is_at_targets n p k at (applied (App h t) ts)) (let s : suc (length ts) + j ≡ length ts + suc j = omega arith in s) ∙ targets-shown n p at (suc j) (App h t) ts

-- a term at its end is looked at for what it is
ended-in : (n p i at : ℕ) (t : Term) → is_at_targets n p i at t ≡ true → ends_in_family n p i at t ≡ true
ended-in n zero zero at (Pi a b) e = cc
ended-in n (suc p) zero at (Pi a b) e = cc
ended-in n p (suc i) at (Pi a b) e = cc
ended-in n p i at (Var k) e = e
ended-in n p i at (Sort k) e = e
ended-in n p i at (Lam a b) e = e
ended-in n p i at (App f a) e = e
ended-in n p i at (Let a t b) e = e
ended-in n p i at (Const k) e = e
ended-in n p i at (Fam k) e = e
ended-in n p i at (Con k c) e = e
ended-in n p i at (Elim k m) e = e
ended-in n p i at (AxiomK k m) e = e

over-products : (n p i at : ℕ) (tele : Telescope) (end : Term) → ends_in_family n p i (at + length tele) end ≡ true → ends_in_family n p i at (products tele end) ≡ true
over-products n p i at [] end e = subst (λ k. ends_in_family n p i k end ≡ true) (let s : at + 0 ≡ at = omega arith in s) e
over-products n p i at (a ∷ tele) end e =
    over-products n p i (at + 1) tele end (subst (λ k. ends_in_family n p i k end ≡ true) (let s : at + suc (length tele) ≡ at + 1 + length tele = omega arith in s) e)

constructor-shown : (n : ℕ) (f : Family) (c : Constructor) → length c.targets ≡ length f.indices → ends_in_family n (length f.parameters) (length f.indices) 0 (constructor_type_shown n f c) ≡ true
constructor-shown n f c targets =
    let long = length-argument_types Var (family_head n f) c.arguments in
    let m = length c.arguments in
    let p = length f.parameters in
    let head = weaken_by m (family_head n f) in
    let at-end : is_at_targets n p (length f.indices) m (applied head c.targets) ≡ true =
    ap (λ k. is_at_targets n p k m (applied head c.targets)) (sym targets ∙ (let s : length c.targets ≡ length c.targets + 0 = omega arith in s))
    ∙ targets-shown n p m 0 head c.targets ∙ head-shown n m f in
    over-products n p (length f.indices) 0 (constructor_telescope n f c) (applied head c.targets)
    (subst (λ k. ends_in_family n p (length f.indices) k (applied head c.targets) ≡ true) (sym long ∙ (let s : length (constructor_telescope n f c) ≡ 0 + length (constructor_telescope n f c) = omega arith in s))
    (ended-in n p (length f.indices) m (applied head c.targets) at-end))

all-shown : (n : ℕ) (f : Family) (cs : List Constructor) → All (λ (c : Constructor). length c.targets ≡ length f.indices) cs
    → list_all (λ (c : RawConstructor). ends_in_family n (length f.parameters) (length f.indices) 0 c.type) (map (constructor_line n f) cs) ≡ true
all-shown n f [] h = refl
all-shown n f (c ∷ cs) h =
    both (ends_in_family n (length f.parameters) (length f.indices) 0 (constructor_type_shown n f c)) _
    (constructor-shown n f c (All-head (λ (c : Constructor). length c.targets ≡ length f.indices) c cs h))
    (all-shown n f cs (All-tail (λ (c : Constructor). length c.targets ≡ length f.indices) c cs h))

pub record-shown : (n : ℕ) (f : Family) → f.level < top → All (λ (c : Constructor). length c.targets ≡ length f.indices) f.constructors → shows_record n (family_shown n f) ≡ true
record-shown n f lt targets =
    let many : length (domains_of (type_shown f)) ≡ length f.indices = domains-long (index_types f) f.level ∙ indices-long f.indices in
    both (is_some (end_level (type_shown f))) _ (level-shown (index_types f) f.level lt)
    (ap (λ k. list_all (λ (c : RawConstructor). ends_in_family n (length f.parameters) k 0 c.type) (map (constructor_line n f) f.constructors)) many ∙ all-shown n f f.constructors targets)
