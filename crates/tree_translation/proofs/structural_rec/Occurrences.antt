-- There is a call exactly where the constant occurs in the term.
use Rattle.std.proofs.Common.{◌≡◌, ℕ, ◌+◌, Bool, true, false, ◌||◌, ◌==◌, cond, List, [], ◌∷◌, ◌++◌, suc, length, refl, ap, ap₂, arith}
use Rattle.std.specs.Prelude.{◌↔◌}
use Rattle.std.proofs.lemmas.Bool.{or_parts, or_from}
use Rattle.theory.specs.Terms.{Term, Pi, Lam, App, Let, Const}
use Rattle.tree_translation.specs.structural_rec.Calls.{Call, has_constant, calls_in, calls}

-- nothing in front of something is nothing
no-front : {A : Type 0} (xs ys : List A) → xs ++ ys ≡ [] → (xs ≡ []) × (ys ≡ [])
no-front [] ys e = (refl, e)
no-front (x ∷ xs) ys e = absurd (let long : suc (length (xs ++ ys)) ≡ 0 = ap length e in omega arith)

both-none : {A : Type 0} (xs ys : List A) → xs ≡ [] → ys ≡ [] → xs ++ ys ≡ []
both-none xs ys e d = ap₂ (λ x y. x ++ y) e d

none-called : (own under : ℕ) (whole t : Term) → has_constant own t ≡ false → calls_in own under whole t ≡ []
none-called own under whole (Pi a b) h =
    let parts = or_parts (has_constant own a) (has_constant own b) h in
    both-none (calls_in own under a a) (calls_in own (under + 1) b b) (none-called own under a a parts.0) (none-called own (under + 1) b b parts.1)
none-called own under whole (Lam a b) h =
    let parts = or_parts (has_constant own a) (has_constant own b) h in
    both-none (calls_in own under a a) (calls_in own (under + 1) b b) (none-called own under a a parts.0) (none-called own (under + 1) b b parts.1)
none-called own under whole (App f a) h =
    let parts = or_parts (has_constant own f) (has_constant own a) h in
    both-none (calls_in own under whole f) (calls_in own under a a) (none-called own under whole f parts.0) (none-called own under a a parts.1)
none-called own under whole (Let a t b) h =
    let parts = or_parts (has_constant own a) (has_constant own t || has_constant own b) h in
    let others = or_parts (has_constant own t) (has_constant own b) parts.1 in
    both-none (calls_in own under a a) (calls_in own under t t ++ calls_in own (under + 1) b b) (none-called own under a a parts.0)
    (both-none (calls_in own under t t) (calls_in own (under + 1) b b) (none-called own under t t others.0) (none-called own (under + 1) b b others.1))
none-called own under whole (Const c) h = ap (λ b. cond {A = List Call} b (record { under = under; term = whole } ∷ []) []) h
none-called own under whole _ h = refl

none-there : (own under : ℕ) (whole t : Term) → calls_in own under whole t ≡ [] → has_constant own t ≡ false
none-there own under whole (Pi a b) e =
    let parts = no-front (calls_in own under a a) (calls_in own (under + 1) b b) e in
    or_from (has_constant own a) (has_constant own b) (none-there own under a a parts.0) (none-there own (under + 1) b b parts.1)
none-there own under whole (Lam a b) e =
    let parts = no-front (calls_in own under a a) (calls_in own (under + 1) b b) e in
    or_from (has_constant own a) (has_constant own b) (none-there own under a a parts.0) (none-there own (under + 1) b b parts.1)
none-there own under whole (App f a) e =
    let parts = no-front (calls_in own under whole f) (calls_in own under a a) e in
    or_from (has_constant own f) (has_constant own a) (none-there own under whole f parts.0) (none-there own under a a parts.1)
none-there own under whole (Let a t b) e =
    let parts = no-front (calls_in own under a a) (calls_in own under t t ++ calls_in own (under + 1) b b) e in
    let others = no-front (calls_in own under t t) (calls_in own (under + 1) b b) parts.1 in
    or_from (has_constant own a) (has_constant own t || has_constant own b) (none-there own under a a parts.0)
    (or_from (has_constant own t) (has_constant own b) (none-there own under t t others.0) (none-there own (under + 1) b b others.1))
none-there own under whole (Const c) e = by (c == own) e
  where
    by : (b : Bool) → cond {A = List Call} b (record { under = under; term = whole } ∷ []) [] ≡ [] → b ≡ false
    by true e = absurd (let long : 1 ≡ 0 = ap length e in omega arith)
    by false e = refl
none-there own under whole _ e = refl

pub called : (own : ℕ) (t : Term) → (has_constant own t ≡ false) ↔ (calls own t ≡ [])
called own t = (none-called own 0 t t, none-there own 0 t t)
