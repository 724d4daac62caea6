-- Instantiation of the types that families bring along.
use Rattle.std.proofs.Common.{◌≡◌, ℕ, zero, suc, ◌+◌, ◌<◌, Bool, true, false, nat_lt, List, [], ◌∷◌, map, length, refl, ap, ap₂, sym, ◌∙◌, arith}
use mathlib.Core.Path.{fun_ext}
use Rattle.std.proofs.lemmas.Bool.Decides.{nat_tests}
use Rattle.theory.specs.Terms.{Term}
use Rattle.theory.specs.Terms.Term.{Var, Pi, App}
use Rattle.theory.specs.Substitutions.{ren, inst, ups, weaken, extend, fill}
use Rattle.theory.specs.Telescopes.{Telescope, products, applied, arrows, variables, weaken_by, inst_telescope}
use Rattle.theory.specs.Families.{Argument, Plain, Recursive, Constructor, recursive_type, argument_type, argument_types}
use Rattle.theory.specs.Eliminators.{hypothesis_type, hypothesis_types, method_type}
use Rattle.theory.proofs.Instances.{inst-inst, inst-ren, inst-same, ren-inst, ren-ren, ren-same, ren-is_inst, inst-var, ups-ups}
use Rattle.theory.proofs.Instantiation.{inst-weaken, inst-applied, inst-arrows, inst-products, inst-fill, map-inst-inst, ups_by, inst-extend}
use Rattle.theory.proofs.Scopes.{length-argument_types}

-- instantiations one after the other, in a telescope and after a binder more
pub inst_telescope-inst : (q s : ℕ → Term) (tele : Telescope) → inst_telescope q (inst_telescope s tele) ≡ inst_telescope (λ v. inst q (s v)) tele
inst_telescope-inst q s [] = refl
inst_telescope-inst q s (a ∷ tele) =
    ap₂ ◌∷◌ (inst-inst q s a) (inst_telescope-inst (ups q) (ups s) tele ∙ ap (λ p. inst_telescope p tele) (fun_ext (ups-ups q s)))

pub map-inst-weaken : (q : ℕ → Term) (ts : List Term) → map (inst (ups q)) (map weaken ts) ≡ map weaken (map (inst q) ts)
map-inst-weaken q [] = refl
map-inst-weaken q (t ∷ ts) = ap₂ ◌∷◌ (inst-weaken q t) (map-inst-weaken q ts)

-- an instantiation passes the type of a recursive argument
pub inst-recursive_type : (q s : ℕ → Term) (head : Term) (inner : Telescope) (targets : List Term)
    → inst q (recursive_type s head inner targets) ≡ recursive_type (λ n. inst q (s n)) (inst q head) inner targets
inst-recursive_type q s head [] targets =
    inst-applied q head (map (inst s) targets) ∙ ap (applied (inst q head)) (map-inst-inst q s targets)
inst-recursive_type q s head (a ∷ inner) targets =
    ap₂ Pi (inst-inst q s a)
    (inst-recursive_type (ups q) (ups s) (weaken head) inner targets
    ∙ ap₂ (λ p h. recursive_type p h inner targets) (fun_ext (ups-ups q s)) (inst-weaken q head))

-- of any argument
pub inst-argument_type : (q s : ℕ → Term) (head : Term) (a : Argument)
    → inst q (argument_type s head a) ≡ argument_type (λ n. inst q (s n)) (inst q head) a
inst-argument_type q s head (Plain type level) = inst-inst q s type
inst-argument_type q s head (Recursive inner targets level) = inst-recursive_type q s head inner targets

-- and their telescope
pub inst-argument_types : (q s : ℕ → Term) (head : Term) (arguments : List Argument)
    → inst_telescope q (argument_types s head arguments) ≡ argument_types (λ n. inst q (s n)) (inst q head) arguments
inst-argument_types q s head [] = refl
inst-argument_types q s head (a ∷ arguments) =
    ap₂ ◌∷◌ (inst-argument_type q s head a)
    (inst-argument_types (ups q) (ups s) (weaken head) arguments
    ∙ ap₂ (λ p h. argument_types p h arguments) (fun_ext (ups-ups q s)) (inst-weaken q head))

-- the type of a hypothesis
pub inst-hypothesis_type : (q s : ℕ → Term) (P r : Term) (inner : Telescope) (targets : List Term)
    → inst q (hypothesis_type s P r inner targets) ≡ hypothesis_type (λ n. inst q (s n)) (inst q P) (inst q r) inner targets
inst-hypothesis_type q s P r [] targets =
    ap (λ x. App x (inst q r)) (inst-applied q P (map (inst s) targets) ∙ ap (applied (inst q P)) (map-inst-inst q s targets))
inst-hypothesis_type q s P r (a ∷ inner) targets =
    ap₂ Pi (inst-inst q s a)
    (inst-hypothesis_type (ups q) (ups s) (weaken P) (App (weaken r) (Var 0)) inner targets
    ∙ ap₃-hypothesis_type (fun_ext (ups-ups q s)) (inst-weaken q P) (inst-weaken q r) inner targets)
  where
    ap₃-hypothesis_type : {p p' : ℕ → Term} {e e' t t' : Term} → p ≡ p' → e ≡ e' → t ≡ t' → (rest : Telescope) (ts : List Term)
        → hypothesis_type p e (App t (Var 0)) rest ts ≡ hypothesis_type p' e' (App t' (Var 0)) rest ts
    ap₃-hypothesis_type same_p same_e same_t rest ts = cc

-- and those of all hypotheses
pub inst-hypothesis_types : (q s : ℕ → Term) (P : Term) (arguments : List Argument) (us : List Term)
    → map (inst q) (hypothesis_types s P arguments us) ≡ hypothesis_types (λ n. inst q (s n)) (inst q P) arguments (map (inst q) us)
inst-hypothesis_types q s P [] us = refl
inst-hypothesis_types q s P (Plain type level ∷ arguments) [] = refl
inst-hypothesis_types q s P (Recursive inner targets level ∷ arguments) [] = refl
inst-hypothesis_types q s P (Plain type level ∷ arguments) (u ∷ us) =
    inst-hypothesis_types q (extend s u) P arguments us
    ∙ ap (λ p. hypothesis_types p (inst q P) arguments (map (inst q) us)) (fun_ext (inst-extend q s u))
inst-hypothesis_types q s P (Recursive inner targets level ∷ arguments) (u ∷ us) =
    ap₂ ◌∷◌ (inst-hypothesis_type q s P u inner targets)
    (inst-hypothesis_types q (extend s u) P arguments us
    ∙ ap (λ p. hypothesis_types p (inst q P) arguments (map (inst q) us)) (fun_ext (inst-extend q s u)))

-- a renaming by which each variable stays
pub ren-id : (r : ℕ → ℕ) (t : Term) → ((n : ℕ) → r n ≡ n) → ren r t ≡ t
ren-id r t stays = ren-is_inst r t ∙ (inst-same t (λ n. ap Var (stays n)) ∙ inst-var t)

-- an instantiation under k binders, at a variable after them
ups_by-at : (k : ℕ) (q : ℕ → Term) (n : ℕ) → ups_by k q (n + k) ≡ weaken_by k (q n)
ups_by-at zero q n = ap q (omega arith) ∙ sym (ren-id (λ m. m + 0) (q n) (λ m. omega arith))
ups_by-at (suc k) q n =
    ap (ups_by k (ups q)) (omega arith)
    ∙ (ups_by-at k (ups q) (suc n) ∙ (ren-ren (λ m. m + k) suc (q n) ∙ ren-same (q n) (λ m. omega arith)))

-- and at one of theirs
ups_by-fixes : (k : ℕ) (q : ℕ → Term) (n : ℕ) → n < k → ups_by k q n ≡ Var n
ups_by-fixes zero q n lt = absurd (omega arith)
ups_by-fixes (suc k) q n lt = by (nat_lt n k) refl (ups_by-fixes k (ups q) n)
  where
    by : (b : Bool) → nat_lt n k ≡ b → (n < k → ups_by k (ups q) n ≡ Var n) → ups_by k (ups q) n ≡ Var n
    by true e rest = rest (grind (arith, nat_tests))
    by false e rest =
        let last : n ≡ 0 + k = grind (arith, nat_tests) in
        ap (ups_by k (ups q)) last ∙ (ups_by-at k (ups q) 0 ∙ ap Var (sym last))

-- an instantiation under k binders passes a weakening by k
pub inst-weaken_by : (k : ℕ) (q : ℕ → Term) (t : Term) → inst (ups_by k q) (weaken_by k t) ≡ weaken_by k (inst q t)
inst-weaken_by k q t =
    inst-ren (ups_by k q) (λ n. n + k) t ∙ (inst-same t (ups_by-at k q) ∙ sym (ren-inst (λ n. n + k) q t))

-- an instantiation that puts each of the nearest k variables for itself leaves them
pub inst-fixed : (k : ℕ) (s : ℕ → Term) → ((n : ℕ) → n < k → s n ≡ Var n) → map (inst s) (variables k) ≡ variables k
inst-fixed zero s fixes = refl
inst-fixed (suc k) s fixes = ap₂ ◌∷◌ (fixes k (omega arith)) (inst-fixed k s (λ n lt. fixes n (omega arith)))

-- as one under k binders does
pub inst-variables : (k : ℕ) (q : ℕ → Term) → map (inst (ups_by k q)) (variables k) ≡ variables k
inst-variables k q = inst-fixed k (ups_by k q) (ups_by-fixes k q)

-- the type of a method
pub inst-method_type : (q s : ℕ → Term) (head con P : Term) (c : Constructor)
    → inst q (method_type s head con P c) ≡ method_type (λ n. inst q (s n)) (inst q head) (inst q con) (inst q P) c
inst-method_type q s head con P c =
    inst-products q (argument_types s head c.arguments) _
    ∙ ap₂ products (inst-argument_types q s head c.arguments)
    (ap (λ j. inst (ups_by j q) (arrows hypotheses conclusion)) (length-argument_types s head c.arguments)
    ∙ (inst-arrows Q hypotheses conclusion ∙ ap₂ arrows same_hypotheses same_conclusion))
  where
    k : ℕ
    k = length c.arguments

    Q : ℕ → Term
    Q = ups_by k q

    inside : ℕ → Term
    inside n = weaken_by k (s n)

    hypotheses : List Term
    hypotheses = hypothesis_types inside (weaken_by k P) c.arguments (variables k)

    conclusion : Term
    conclusion = App (applied (weaken_by k P) (map (inst (fill inside (variables k))) c.targets)) (applied (weaken_by k con) (variables k))

    same_inside : ◌≡◌ {A = ℕ → Term} (λ n. inst Q (inside n)) (λ n. weaken_by k (inst q (s n)))
    same_inside = fun_ext (λ n. inst-weaken_by k q (s n))

    ap₃-hypothesis_types : {p p' : ℕ → Term} {e e' : Term} {us us' : List Term} → p ≡ p' → e ≡ e' → us ≡ us'
        → hypothesis_types p e c.arguments us ≡ hypothesis_types p' e' c.arguments us'
    ap₃-hypothesis_types same_p same_e same_us = cc

    same_hypotheses : map (inst Q) hypotheses ≡ hypothesis_types (λ n. weaken_by k (inst q (s n))) (weaken_by k (inst q P)) c.arguments (variables k)
    same_hypotheses =
        inst-hypothesis_types Q inside (weaken_by k P) c.arguments (variables k)
        ∙ ap₃-hypothesis_types same_inside (inst-weaken_by k q P) (inst-variables k q)

    same_targets : map (inst Q) (map (inst (fill inside (variables k))) c.targets) ≡ map (inst (fill (λ n. weaken_by k (inst q (s n))) (variables k))) c.targets
    same_targets =
        map-inst-inst Q (fill inside (variables k)) c.targets
        ∙ ap (λ p. map (inst p) c.targets) (fun_ext (inst-fill Q inside (variables k)) ∙ ap₂ fill same_inside (inst-variables k q))

    same_conclusion : inst Q conclusion ≡ App (applied (weaken_by k (inst q P)) (map (inst (fill (λ n. weaken_by k (inst q (s n))) (variables k))) c.targets)) (applied (weaken_by k (inst q con)) (variables k))
    same_conclusion =
        ap₂ App
        (inst-applied Q (weaken_by k P) (map (inst (fill inside (variables k))) c.targets) ∙ ap₂ applied (inst-weaken_by k q P) same_targets)
        (inst-applied Q (weaken_by k con) (variables k) ∙ ap₂ applied (inst-weaken_by k q con) (inst-variables k q))
