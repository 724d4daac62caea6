-- Instantiation of scoped terms, of substitutions, of spines and of the right side of iota.
use Rattle.std.proofs.Common.{◌≡◌, ℕ, zero, suc, ◌+◌, ◌<◌, ◌≤◌, List, [], ◌∷◌, ◌++◌, map, length, refl, ap, ap₂, sym, ◌∙◌, arith}
use Rattle.std.proofs.lemmas.List.{map-append}
use mathlib.Core.Path.{fun_ext}
use Rattle.theory.specs.Terms.{Term, free_of, IsClosed}
use Rattle.theory.specs.Terms.Term.{Var, Pi, Lam, App, Let, Elim}
use Rattle.theory.specs.Substitutions.{inst, ups, weaken, extend, put, fill}
use Rattle.theory.specs.Telescopes.{Telescope, products, applied, arrows, inst_telescope}
use Rattle.theory.specs.Families.{Argument, Plain, Recursive}
use Rattle.theory.specs.Eliminators.{hypothesis, hypotheses, iota_right, no_variable}
use Rattle.theory.proofs.Instances.{ap₃, inst-same, inst-var, inst-ren, ren-inst, inst-inst, ups-ups}

ups-fixes : (s : ℕ → Term) (n : ℕ) → ((i : ℕ) → i < n → s i ≡ Var i) → (i : ℕ) → i < n + 1 → ups s i ≡ Var i
ups-fixes s n fixes zero lt = refl
ups-fixes s n fixes (suc i) lt = ap weaken (fixes i (omega arith))

-- an instantiation that puts each free variable for itself changes nothing
pub inst-scoped : (s : ℕ → Term) (t : Term) (n : ℕ) → ((i : ℕ) → i < n → s i ≡ Var i) → free_of t ≤ n → inst s t ≡ t
inst-scoped s (Var i) n fixes h = fixes i (omega arith)
inst-scoped s (Pi a b) n fixes h =
    ap₂ Pi (inst-scoped s a n fixes (omega arith)) (inst-scoped (ups s) b (n + 1) (ups-fixes s n fixes) (omega arith))
inst-scoped s (Lam a b) n fixes h =
    ap₂ Lam (inst-scoped s a n fixes (omega arith)) (inst-scoped (ups s) b (n + 1) (ups-fixes s n fixes) (omega arith))
inst-scoped s (App f a) n fixes h =
    ap₂ App (inst-scoped s f n fixes (omega arith)) (inst-scoped s a n fixes (omega arith))
inst-scoped s (Let a t b) n fixes h =
    ap₃ Let (inst-scoped s a n fixes (omega arith)) (inst-scoped s t n fixes (omega arith))
    (inst-scoped (ups s) b (n + 1) (ups-fixes s n fixes) (omega arith))
inst-scoped s _ n fixes h = refl

-- a closed term is not changed by an instantiation
pub inst-closed : (s : ℕ → Term) (t : Term) → IsClosed t → inst s t ≡ t
inst-closed s t closed = inst-scoped s t 0 (λ i lt. absurd (omega arith)) (omega arith)

-- an instantiation under a binder passes weakening
pub inst-weaken : (s : ℕ → Term) (t : Term) → inst (ups s) (weaken t) ≡ weaken (inst s t)
inst-weaken s t = inst-ren (ups s) suc t ∙ sym (ren-inst suc s t)

extend-ups : (s : ℕ → Term) (u : Term) (n : ℕ) → inst (extend Var u) (ups s n) ≡ extend s u n
extend-ups s u zero = refl
extend-ups s u (suc n) = inst-ren (extend Var u) suc (s n) ∙ inst-var (s n)

-- a term for the nearest variable after an instantiation under a binder
pub put-ups : (s : ℕ → Term) (b u : Term) → put u (inst (ups s) b) ≡ inst (extend s u) b
put-ups s b u = inst-inst (extend Var u) (ups s) b ∙ inst-same b (extend-ups s u)

-- an instantiation passes one term more
pub inst-extend : (p s : ℕ → Term) (u : Term) (n : ℕ) → inst p (extend s u n) ≡ extend (λ m. inst p (s m)) (inst p u) n
inst-extend p s u zero = refl
inst-extend p s u (suc n) = refl

-- an instantiation passes a term put for the nearest variable
pub inst-put : (s : ℕ → Term) (b u : Term) → inst s (put u b) ≡ put (inst s u) (inst (ups s) b)
inst-put s b u = inst-inst s (extend Var u) b ∙ (inst-same b (inst-extend s Var u) ∙ sym (put-ups s b (inst s u)))

-- an instantiation passes a spine
pub inst-applied : (s : ℕ → Term) (head : Term) (spine : List Term)
    → inst s (applied head spine) ≡ applied (inst s head) (map (inst s) spine)
inst-applied s head [] = refl
inst-applied s head (a ∷ spine) = inst-applied s (App head a) spine

-- an instantiation passes arrows
pub inst-arrows : (s : ℕ → Term) (types : List Term) (b : Term)
    → inst s (arrows types b) ≡ arrows (map (inst s) types) (inst s b)
inst-arrows s [] b = refl
inst-arrows s (a ∷ types) b =
    ap (Pi (inst s a)) (inst-weaken s (arrows types b) ∙ ap weaken (inst-arrows s types b))

-- an instantiation under k binders
abbrev pub ups_by : ℕ → (ℕ → Term) → ℕ → Term
ups_by zero s = s
ups_by (suc k) s = ups_by k (ups s)

-- an instantiation passes products
pub inst-products : (s : ℕ → Term) (tele : Telescope) (body : Term)
    → inst s (products tele body) ≡ products (inst_telescope s tele) (inst (ups_by (length tele) s) body)
inst-products s [] body = refl
inst-products s (a ∷ tele) body = ap (Pi (inst s a)) (inst-products (ups s) tele body)

-- an instantiation after another, in each term of a list
pub map-inst-inst : (p s : ℕ → Term) (ts : List Term) → map (inst p) (map (inst s) ts) ≡ map (inst (λ n. inst p (s n))) ts
map-inst-inst p s [] = refl
map-inst-inst p s (t ∷ ts) = ap₂ ◌∷◌ (inst-inst p s t) (map-inst-inst p s ts)

-- an instantiation passes the terms that are put for variables
pub inst-fill : (p s : ℕ → Term) (us : List Term) (n : ℕ)
    → inst p (fill s us n) ≡ fill (λ m. inst p (s m)) (map (inst p) us) n
inst-fill p s [] n = refl
inst-fill p s (u ∷ us) n =
    inst-fill p (extend s u) us n ∙ ap (λ q. fill q (map (inst p) us) n) (fun_ext (inst-extend p s u))

inst-hypothesis : (p s : ℕ → Term) (recursor r : Term) (inner : Telescope) (targets : List Term)
    → inst p (hypothesis s recursor r inner targets) ≡ hypothesis (λ n. inst p (s n)) (inst p recursor) (inst p r) inner targets
inst-hypothesis p s recursor r [] targets =
    ap (λ x. App x (inst p r))
    (inst-applied p recursor (map (inst s) targets) ∙ ap (applied (inst p recursor)) (map-inst-inst p s targets))
inst-hypothesis p s recursor r (a ∷ inner) targets =
    ap₂ Lam (inst-inst p s a)
    (inst-hypothesis (ups p) (ups s) (weaken recursor) (App (weaken r) (Var 0)) inner targets
    ∙ ap₃-hypothesis (fun_ext (ups-ups p s)) (inst-weaken p recursor) (inst-weaken p r) inner targets)
  where
    ap₃-hypothesis : {q q' : ℕ → Term} {e e' t t' : Term} → q ≡ q' → e ≡ e' → t ≡ t' → (rest : Telescope) (ts : List Term)
        → hypothesis q e (App t (Var 0)) rest ts ≡ hypothesis q' e' (App t' (Var 0)) rest ts
    ap₃-hypothesis same_q same_e same_t rest ts = cc

-- an instantiation passes the hypotheses
pub inst-hypotheses : (p s : ℕ → Term) (recursor : Term) (arguments : List Argument) (us : List Term)
    → map (inst p) (hypotheses s recursor arguments us) ≡ hypotheses (λ n. inst p (s n)) (inst p recursor) arguments (map (inst p) us)
inst-hypotheses p s recursor [] us = refl
inst-hypotheses p s recursor (Plain type level ∷ arguments) [] = refl
inst-hypotheses p s recursor (Recursive inner targets level ∷ arguments) [] = refl
inst-hypotheses p s recursor (Plain type level ∷ arguments) (u ∷ us) =
    inst-hypotheses p (extend s u) recursor arguments us
    ∙ ap (λ q. hypotheses q (inst p recursor) arguments (map (inst p) us)) (fun_ext (inst-extend p s u))
inst-hypotheses p s recursor (Recursive inner targets level ∷ arguments) (u ∷ us) =
    ap₂ ◌∷◌ (inst-hypothesis p s recursor u inner targets)
    (inst-hypotheses p (extend s u) recursor arguments us
    ∙ ap (λ q. hypotheses q (inst p recursor) arguments (map (inst p) us)) (fun_ext (inst-extend p s u)))

-- an instantiation passes the right side of iota
pub inst-iota_right : (p : ℕ → Term) (n m : ℕ) (ps : List Term) (P : Term) (ms : List Term) (arguments : List Argument) (method : Term) (us : List Term)
    → inst p (iota_right n m ps P ms arguments method us) ≡ iota_right n m (map (inst p) ps) (inst p P) (map (inst p) ms) arguments (inst p method) (map (inst p) us)
inst-iota_right p n m ps P ms arguments method us =
    inst-applied p method (us ++ hypotheses (fill no_variable ps) recursor arguments us)
    ∙ ap (applied (inst p method))
    (map-append (inst p) us (hypotheses (fill no_variable ps) recursor arguments us)
    ∙ ap (λ hs. map (inst p) us ++ hs)
    (inst-hypotheses p (fill no_variable ps) recursor arguments us
    ∙ ap₂ (λ q e. hypotheses q e arguments (map (inst p) us)) (fun_ext (inst-fill p no_variable ps))
    (inst-applied p (Elim n m) (ps ++ P ∷ ms) ∙ ap (applied (Elim n m)) (map-append (inst p) ps (P ∷ ms)))))
  where
    recursor : Term
    recursor = applied (Elim n m) (ps ++ P ∷ ms)
