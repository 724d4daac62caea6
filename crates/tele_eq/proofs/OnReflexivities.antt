-- A telescopic J along reflexivities converts to its base, one eliminator after the other.
use Rattle.std.proofs.Common.{◌≡◌, ℕ, zero, suc, ◌+◌, ◌-◌, ◌*◌, ◌⊎◌, inl, inr, List, [], ◌∷◌, length, refl, ap, sym, ◌∙◌, subst, arith}
use Rattle.std.specs.List.{All}
use Rattle.std.proofs.lemmas.List.Elements.{All-head, All-tail}
use Rattle.theory.specs.Terms.{Term}
use Rattle.theory.specs.Terms.Term.{Var, Lam, App, Elim}
use Rattle.theory.specs.Substitutions.{inst, ups, extend, put}
use Rattle.theory.specs.Signatures.{Signature, HasIdentity, equality, reflexivity}
use Rattle.theory.specs.PreludeFamilies.{equality_family}
use Rattle.theory.specs.Conversion.{Converts}
use Rattle.theory.specs.Conversion.Contracts.{beta, iota}
use Rattle.theory.specs.Conversion.Step.{here}
use Rattle.theory.specs.Conversion.Converts.{same, forwards}
use Rattle.theory.proofs.Congruence.{converts-trans, converts-app}
use Rattle.theory.proofs.Instances.{inst-same, inst-ren, inst-var, inst-inst}
use Rattle.core_terms.specs.Levels.{variable}
use Rattle.core_terms.specs.declared.levels.Binder.TheVariants.{Function}
use Rattle.tele_eq.specs.Items.{Item, level_at}
use Rattle.tele_eq.specs.Environments.{Environment, inside}
use Rattle.tele_eq.specs.TelescopicEquality.{Lefts, Goal, type_with, equation, reflexive, equations_over, applied_to_pairs, telescopic_j}
use Rattle.tele_eq.proofs.Carrying.{Carries, AreDepths, Agrees, IsCarried, IsFrom, inst-none, carried-reflexive, where-same, where-other}
use Rattle.tele_eq.proofs.CarriedTerms.{AreLeftsCarried, IsGoalCarried, IsBaseCarried, carried-telescopic_j, every}

-- terms that are equal convert
pub converts-same : {S : Signature} {t u : Term} → t ≡ u → Converts S t u
converts-same {S} {t} e = subst (Converts S t) e same

-- Eq.i!elim.m A a P d b (refl.i B c) converts to d
elimination-of_reflexivity : (S : Signature) (i m : ℕ) → HasIdentity S i → (A a P d b B c : Term)
    → Converts S (App (App (App (App (App (App (Elim (equality i) m) A) a) P) d) b) (reflexivity i B c)) d
elimination-of_reflexivity S i m has A a P d b B c =
    forwards (here (iota (equality i) m 0 (equality_family i) _ (A ∷ a ∷ []) P (d ∷ []) (b ∷ []) (B ∷ c ∷ []) [] has.entry refl
    (record { parameters = refl; methods = refl; indices = refl; constructor_parameters = refl; arguments = refl }) refl)) same

put-behind : (s : ℕ → Term) (v t : Term) → put v (inst (ups s) t) ≡ inst (extend s v) t
put-behind s v t = inst-inst (extend Var v) (ups s) t ∙ inst-same t each
  where
    each : (n : ℕ) → inst (extend Var v) (ups s n) ≡ extend s v n
    each zero = refl
    each (suc n) = inst-ren (extend Var v) suc (s n) ∙ inst-var (s n)

beta-behind : (S : Signature) (s : ℕ → Term) (a b v : Term) → Converts S (App (inst s (Lam a b)) v) (inst (extend s v) b)
beta-behind S s a b v = converts-trans (forwards (here beta) same) (converts-same (put-behind s v b))

two-betas : (S : Signature) (s : ℕ → Term) (a b t v w : Term)
    → Converts S (App (App (inst s (Lam a (Lam b t))) v) w) (inst (extend (extend s v) w) t)
two-betas S s a b t v w =
    converts-trans (converts-app (beta-behind S s a (Lam b t) v) same) (beta-behind S (extend s v) b t w)

-- ---- functions applied to terms for variables and equations

converts-pairs : {S : Signature} {head head' : Term} → Converts S head head' → (positions : List ℕ) (z e : Environment) (depth : ℕ)
    → Converts S (applied_to_pairs head positions z e depth) (applied_to_pairs head' positions z e depth)
converts-pairs h [] z e depth = h
converts-pairs h (t ∷ positions) z e depth = converts-pairs (converts-app (converts-app h same) same) positions z e depth

-- the terms for the variable and the equation at each of the positions, put for the nearest variables
abbrev behind : (s : ℕ → Term) (positions : List ℕ) (z e : Environment) (depth : ℕ) → ℕ → Term
behind s [] z e depth = s
behind s (t ∷ positions) z e depth = behind (extend (extend s (z depth t)) (e depth t)) positions z e depth

behind-past : (s : ℕ → Term) (positions : List ℕ) (z e : Environment) (depth n i : ℕ) → i ≡ n + 2 * length positions
    → behind s positions z e depth i ≡ s n
behind-past s [] z e depth n i eq = ap s (omega arith)
behind-past s (t ∷ positions) z e depth n i eq =
    behind-past (extend (extend s (z depth t)) (e depth t)) positions z e depth (suc (suc n)) i (omega arith)

functions-applied : (S : Signature) (s : ℕ → Term) (X : List Item) (w : Lefts) (positions : List ℕ) (z e z' e' : Environment)
    (depth depth' : ℕ) (end : Term)
    → Converts S (applied_to_pairs (inst s (equations_over Function X w positions z' e' depth' end)) positions z e depth)
    (inst (behind s positions z e depth) end)
functions-applied S s X w [] z e z' e' depth depth' end = same
functions-applied S s X w (t ∷ positions) z e z' e' depth depth' end =
    converts-trans
    (converts-pairs
    (two-betas S s (type_with X z' depth' t) (equation X w z' e' (depth' + 1) t)
    (equations_over Function X w positions z' e' (depth' + 2) end) (z depth t) (e depth t))
    positions z e depth)
    (functions-applied S (extend (extend s (z depth t)) (e depth t)) X w positions z e z' e' depth (depth' + 2) end)

same_or_other : (p t : ℕ) → (p ≡ t) ⊎ (p ≡ t → ⊥)
same_or_other p t = grind arith

-- the variables at the positions become the terms there
inside-put : (s : ℕ → Term) (positions : List ℕ) (z e u : Environment) (depth l D p : ℕ) → D ≡ l + 2 * length positions
    → inst (behind s positions z e depth) (u D p) ≡ z depth p
    → inst (behind s positions z e depth) (inside positions l u D p) ≡ z depth p
inside-put s [] z e u depth l D p eq h = h
inside-put s (t ∷ positions) z e u depth l D p eq h =
    elim (same_or_other p t) [
      | inl equal ↦
          ap (inst (behind s (t ∷ positions) z e depth)) (where-same p t (variable D l) (inside positions (l + 2) u D p) equal)
          ∙ (behind-past (extend (extend s (z depth t)) (e depth t)) positions z e depth (suc zero) (D - (l + 1)) (omega arith)
          ∙ ap (z depth) (sym equal))
      | inr other ↦
          ap (inst (behind s (t ∷ positions) z e depth)) (where-other p t (variable D l) (inside positions (l + 2) u D p) other)
          ∙ inside-put (extend (extend s (z depth t)) (e depth t)) positions z e u depth (l + 2) D p (omega arith) h
    ]

-- and the equations too
equations-put : (s : ℕ → Term) (positions : List ℕ) (z e u : Environment) (depth l D p : ℕ) → D + 1 ≡ l + 2 * length positions
    → inst (behind s positions z e depth) (u D p) ≡ e depth p
    → inst (behind s positions z e depth) (inside positions l u D p) ≡ e depth p
equations-put s [] z e u depth l D p eq h = h
equations-put s (t ∷ positions) z e u depth l D p eq h =
    elim (same_or_other p t) [
      | inl equal ↦
          ap (inst (behind s (t ∷ positions) z e depth)) (where-same p t (variable D l) (inside positions (l + 2) u D p) equal)
          ∙ (behind-past (extend (extend s (z depth t)) (e depth t)) positions z e depth zero (D - (l + 1)) (omega arith)
          ∙ ap (e depth) (sym equal))
      | inr other ↦
          ap (inst (behind s (t ∷ positions) z e depth)) (where-other p t (variable D l) (inside positions (l + 2) u D p) other)
          ∙ equations-put (extend (extend s (z depth t)) (e depth t)) positions z e u depth (l + 2) D p (omega arith) h
    ]

-- ---- telescopic J

-- the parts of a telescopic J are carried to any depth
pub record IsUniform (u : Environment) (w : Lefts) (C : Goal) (base : ℕ → Term) : Type 0 where
  pub terms : (c : Carries) → IsCarried c u
  pub lefts : (c : Carries) → AreLeftsCarried c w
  pub into : (c : Carries) → IsGoalCarried c C
  pub begins : (c : Carries) → IsBaseCarried c base

-- functions over the rest of the positions, applied to the left terms and the reflexivities: what is inside them, there
rest-put : (X : List Item) (u : Environment) (w : Lefts) (m : ℕ) (C : Goal) (base : ℕ → Term) → IsUniform u w C base
    → (positions : List ℕ) (n : ℕ) → IsFrom n positions → (d : ℕ)
    → inst (behind Var positions u (reflexive X u) d)
    (telescopic_j X u w m C base positions (inside positions d u) (inside positions (d + 1) (reflexive X u)) (d + 2 * length positions))
    ≡ telescopic_j X u w m C base positions u (reflexive X u) d
rest-put X u w m C base uniform positions n from d =
    sym (inst-none after _)
    ∙ carried-telescopic_j c X u (uniform.terms c) w (uniform.lefts c) m C (uniform.into c) base (uniform.begins c) positions n from
    _ _ _ _ 0 (d + 2 * length positions) d (record { old = omega arith; new = omega arith })
    (every (Agrees c (inside positions d u) u 0) variables positions)
    (every (Agrees c (inside positions (d + 1) (reflexive X u)) (reflexive X u) 0) equations positions)
  where
    after : ℕ → Term
    after = behind Var positions u (reflexive X u) d

    c : Carries
    c = record {
      old = d + 2 * length positions;
      new = d;
      terms = behind Var positions u (reflexive X u) d;
      each = λ i. behind-past Var positions u (reflexive X u) d (i + d) (i + (d + 2 * length positions)) (omega arith);
    }

    at : (d1 : ℕ) → d1 ≡ d + 2 * length positions → AreDepths c 0 d1 d
    at d1 e = record { old = omega arith; new = omega arith }

    variables : (p : ℕ) → Agrees c (inside positions d u) u 0 p
    variables p d1 d1' depths =
        let e : d1 ≡ d + 2 * length positions = omega (arith, depths.old) in
        let e' : d ≡ d1' = omega (arith, depths.new) in
        inst-none after (inside positions d u d1 p)
        ∙ (inside-put Var positions u (reflexive X u) u d d d1 p e (sym (inst-none after (u d1 p)) ∙ uniform.terms c 0 p d1 d (at d1 e))
        ∙ ap (λ i. u i p) e')

    equations : (p : ℕ) → Agrees c (inside positions (d + 1) (reflexive X u)) (reflexive X u) 0 p
    equations p d1 d1' depths =
        let e : d1 ≡ d + 2 * length positions = omega (arith, depths.old) in
        let e' : d ≡ d1' = omega (arith, depths.new) in
        inst-none after (inside positions (d + 1) (reflexive X u) d1 p)
        ∙ (equations-put Var positions u (reflexive X u) (reflexive X u) d (d + 1) d1 p (omega arith)
        (sym (inst-none after (reflexive X u d1 p)) ∙ carried-reflexive c X u (uniform.terms c) 0 p d1 d (at d1 e))
        ∙ ap (λ i. reflexive X u i p) e')

converts-to_base : (S : Signature) (X : List Item) (u : Environment) (w : Lefts) (m : ℕ) (C : Goal) (base : ℕ → Term)
    → IsUniform u w C base → (positions : List ℕ) (n : ℕ) → IsFrom n positions
    → All (λ p. HasIdentity S (level_at X p)) positions → (d : ℕ)
    → Converts S (telescopic_j X u w m C base positions u (reflexive X u) d) (base d)
converts-to_base S X u w m C base uniform [] n from has d = same
converts-to_base S X u w m C base uniform (s ∷ positions) n from has d =
    converts-trans
    (converts-pairs (elimination-of_reflexivity S (level_at X s) m (All-head (λ p. HasIdentity S (level_at X p)) s positions has) _ _ _ _ _ _ _) positions u (reflexive X u) d)
    (converts-trans
    (converts-same (ap (λ t. applied_to_pairs t positions u (reflexive X u) d) (sym (inst-var _))))
    (converts-trans
    (functions-applied S Var X w positions u (reflexive X u) _ _ d d _)
    (converts-trans
    (converts-same (rest-put X u w m C base uniform positions (s + 1) from.1 d))
    (converts-to_base S X u w m C base uniform positions (s + 1) from.1 (All-tail (λ p. HasIdentity S (level_at X p)) s positions has) d))))

pairs-same : (head : Term) (positions : List ℕ) (z e e' : Environment) (d : ℕ) → All (λ p. e d p ≡ e' d p) positions
    → applied_to_pairs head positions z e d ≡ applied_to_pairs head positions z e' d
pairs-same head [] z e e' d all = refl
pairs-same head (t ∷ positions) z e e' d all =
    pairs-same (App (App head (z d t)) (e d t)) positions z e e' d (All-tail (λ p. e d p ≡ e' d p) t positions all)
    ∙ ap (λ x. applied_to_pairs (App (App head (z d t)) x) positions z e' d) (All-head (λ p. e d p ≡ e' d p) t positions all)

telescopic_j-same : (X : List Item) (u : Environment) (w : Lefts) (m : ℕ) (C : Goal) (base : ℕ → Term) (positions : List ℕ)
    (z e e' : Environment) (d : ℕ) → All (λ p. e d p ≡ e' d p) positions
    → telescopic_j X u w m C base positions z e d ≡ telescopic_j X u w m C base positions z e' d
telescopic_j-same X u w m C base [] z e e' d all = refl
telescopic_j-same X u w m C base (s ∷ positions) z e e' d all = pairs-same _ (s ∷ positions) z e e' d all

-- a telescopic J along equations that are reflexivities converts to its base
pub converts-base : (S : Signature) (X : List Item) (u : Environment) (w : Lefts) (m : ℕ) (C : Goal) (base : ℕ → Term)
    → IsUniform u w C base → (positions : List ℕ) (n : ℕ) → IsFrom n positions
    → All (λ p. HasIdentity S (level_at X p)) positions → (e : Environment) (d : ℕ)
    → All (λ p. e d p ≡ reflexive X u d p) positions
    → Converts S (telescopic_j X u w m C base positions u e d) (base d)
converts-base S X u w m C base uniform positions n from has e d all =
    converts-trans (converts-same (telescopic_j-same X u w m C base positions u e (reflexive X u) d all))
    (converts-to_base S X u w m C base uniform positions n from has d)
