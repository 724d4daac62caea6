-- Renaming and instantiation of all variables at once: the four compositions.
use Rattle.std.proofs.Common.{◌≡◌, ℕ, zero, suc, refl, ap, ap₂, sym, ◌∙◌}
use mathlib.Core.Path.{fun_ext}
use Rattle.theory.specs.Terms.{Term}
use Rattle.theory.specs.Substitutions.{ren, up, inst, ups}
use Rattle.theory.specs.Terms.Term.{Var, Pi, Lam, App, Let}

-- a path in each argument of a three-place constructor
pub ap₃ : {x x' y y' z z' : Term} → (f : Term → Term → Term → Term) → x ≡ x' → y ≡ y' → z ≡ z' → f x y z ≡ f x' y' z'
ap₃ f p q r = cc

-- renamings that agree at every variable agree at every term
pub ren-same : {r q : ℕ → ℕ} (t : Term) → ((n : ℕ) → r n ≡ q n) → ren r t ≡ ren q t
ren-same t same = ap (λ k. ren k t) (fun_ext same)

-- and so do instantiations
pub inst-same : {s p : ℕ → Term} (t : Term) → ((n : ℕ) → s n ≡ p n) → inst s t ≡ inst p t
inst-same t same = ap (λ k. inst k t) (fun_ext same)

up-up : (r q : ℕ → ℕ) (n : ℕ) → up r (up q n) ≡ up (λ m. r (q m)) n
up-up r q zero = refl
up-up r q (suc n) = refl

-- two renamings in turn are one
pub ren-ren : (r q : ℕ → ℕ) (t : Term) → ren r (ren q t) ≡ ren (λ n. r (q n)) t
ren-ren r q (Pi a b) = ap₂ Pi (ren-ren r q a) (ren-ren (up r) (up q) b ∙ ren-same b (up-up r q))
ren-ren r q (Lam a b) = ap₂ Lam (ren-ren r q a) (ren-ren (up r) (up q) b ∙ ren-same b (up-up r q))
ren-ren r q (App f a) = ap₂ App (ren-ren r q f) (ren-ren r q a)
ren-ren r q (Let a t b) =
    ap₃ Let (ren-ren r q a) (ren-ren r q t) (ren-ren (up r) (up q) b ∙ ren-same b (up-up r q))
ren-ren r q _ = refl

ups-up : (s : ℕ → Term) (r : ℕ → ℕ) (n : ℕ) → ups s (up r n) ≡ ups (λ m. s (r m)) n
ups-up s r zero = refl
ups-up s r (suc n) = refl

-- an instantiation after a renaming is one instantiation
pub inst-ren : (s : ℕ → Term) (r : ℕ → ℕ) (t : Term) → inst s (ren r t) ≡ inst (λ n. s (r n)) t
inst-ren s r (Pi a b) = ap₂ Pi (inst-ren s r a) (inst-ren (ups s) (up r) b ∙ inst-same b (ups-up s r))
inst-ren s r (Lam a b) = ap₂ Lam (inst-ren s r a) (inst-ren (ups s) (up r) b ∙ inst-same b (ups-up s r))
inst-ren s r (App f a) = ap₂ App (inst-ren s r f) (inst-ren s r a)
inst-ren s r (Let a t b) =
    ap₃ Let (inst-ren s r a) (inst-ren s r t) (inst-ren (ups s) (up r) b ∙ inst-same b (ups-up s r))
inst-ren s r _ = refl

up-ups : (r : ℕ → ℕ) (s : ℕ → Term) (n : ℕ) → ren (up r) (ups s n) ≡ ups (λ m. ren r (s m)) n
up-ups r s zero = refl
up-ups r s (suc n) = ren-ren (up r) suc (s n) ∙ sym (ren-ren suc r (s n))

-- a renaming after an instantiation is one instantiation
pub ren-inst : (r : ℕ → ℕ) (s : ℕ → Term) (t : Term) → ren r (inst s t) ≡ inst (λ n. ren r (s n)) t
ren-inst r s (Pi a b) = ap₂ Pi (ren-inst r s a) (ren-inst (up r) (ups s) b ∙ inst-same b (up-ups r s))
ren-inst r s (Lam a b) = ap₂ Lam (ren-inst r s a) (ren-inst (up r) (ups s) b ∙ inst-same b (up-ups r s))
ren-inst r s (App f a) = ap₂ App (ren-inst r s f) (ren-inst r s a)
ren-inst r s (Let a t b) =
    ap₃ Let (ren-inst r s a) (ren-inst r s t) (ren-inst (up r) (ups s) b ∙ inst-same b (up-ups r s))
ren-inst r s (Var n) = refl
ren-inst r s _ = refl

-- two instantiations in turn, under a binder
pub ups-ups : (p s : ℕ → Term) (n : ℕ) → inst (ups p) (ups s n) ≡ ups (λ m. inst p (s m)) n
ups-ups p s zero = refl
ups-ups p s (suc n) = inst-ren (ups p) suc (s n) ∙ sym (ren-inst suc p (s n))

-- two instantiations in turn are one
pub inst-inst : (p s : ℕ → Term) (t : Term) → inst p (inst s t) ≡ inst (λ n. inst p (s n)) t
inst-inst p s (Pi a b) = ap₂ Pi (inst-inst p s a) (inst-inst (ups p) (ups s) b ∙ inst-same b (ups-ups p s))
inst-inst p s (Lam a b) = ap₂ Lam (inst-inst p s a) (inst-inst (ups p) (ups s) b ∙ inst-same b (ups-ups p s))
inst-inst p s (App f a) = ap₂ App (inst-inst p s f) (inst-inst p s a)
inst-inst p s (Let a t b) =
    ap₃ Let (inst-inst p s a) (inst-inst p s t) (inst-inst (ups p) (ups s) b ∙ inst-same b (ups-ups p s))
inst-inst p s _ = refl

-- each variable for itself, under a binder
pub ups-var : (n : ℕ) → ups Var n ≡ Var n
ups-var zero = refl
ups-var (suc n) = refl

-- putting each variable for itself changes nothing
pub inst-var : (t : Term) → inst Var t ≡ t
inst-var (Pi a b) = ap₂ Pi (inst-var a) (inst-same b ups-var ∙ inst-var b)
inst-var (Lam a b) = ap₂ Lam (inst-var a) (inst-same b ups-var ∙ inst-var b)
inst-var (App f a) = ap₂ App (inst-var f) (inst-var a)
inst-var (Let a t b) = ap₃ Let (inst-var a) (inst-var t) (inst-same b ups-var ∙ inst-var b)
inst-var _ = refl

-- a renaming is an instantiation by variables
pub ren-is_inst : (r : ℕ → ℕ) (t : Term) → ren r t ≡ inst (λ n. Var (r n)) t
ren-is_inst r t = sym (ap (ren r) (inst-var t)) ∙ ren-inst r Var t
