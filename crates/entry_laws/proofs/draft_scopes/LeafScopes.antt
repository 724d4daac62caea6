-- The leaves of a plan's part have scoped terms.
use Rattle.std.proofs.Common.{◌≡◌, inl, inr, ℕ, zero, suc, ◌+◌, ◌<◌, ◌≤◌, nat_lt, Bool, true, false, cond, Some, List, [], ◌∷◌, ◌++◌, ◌-◌, length, get_or, slice_get, All, refl, sym, subst, ◌∙◌, arith}
use Rattle.std.proofs.lemmas.Bool.Decides.{nat_tests}
use Rattle.std.proofs.lemmas.Option.{slice_get-get_or, get_or_from_slice_get}
use Rattle.theory.specs.Terms.{Term, Var, Sort, Pi, Lam, App, Let, Const, Fam, Con, Elim, AxiomK}
use Rattle.theory.specs.Substitutions.{inst, fill}
use Rattle.theory.specs.Telescopes.{Telescope, applied}
use Rattle.theory.specs.Spines.{head_of}
use Rattle.theory.specs.Eliminators.{no_variable}
use Rattle.theory.specs.Signatures.{Signature}
use Rattle.theory.specs.SignatureScopes.{IsConstantNumber, IsScoped}
use Rattle.theory.proofs.Bounds.{fill-kept}
use Rattle.theory.proofs.ScopedTerms.{scoped_over_more, HasNumbers, scoped-wider, var-scoped}
use Rattle.core_terms.specs.CaseTrees.{Walk}
use Rattle.core_terms.specs.Clauses as clause
use Rattle.core_terms.specs.Patterns as pattern
use Rattle.core_terms.specs.Clauses.{Clause, Is}
use Rattle.core_sig.specs.DraftScopes.{IsDraftNumber, IsDraftTerm}
use Rattle.core_sig.proofs.PlacedDrafts.{draft-pi, draft-lam, draft-app, draft-let}
use Rattle.problems.specs.Conditions.{AreBelow}
use Rattle.case_trees.specs.Scoped.{IsScopedLeaf}
use Rattle.tree_translation.specs.Conditions.{with_function, IsSide}
use Rattle.tree_translation.specs.Hidden.{visible}
use Rattle.tree_translation.specs.Naming.{Naming, helper_name}
use Rattle.tree_translation.specs.Plans.{Plan, Part}
use Rattle.tree_translation.specs.Recursion.{NamedRecursion}
use Rattle.tree_translation.specs.RightSides.{Place, is_helper, no_walk, values_at, belows_in, place_with, leaf_term}
use Rattle.tree_translation.specs.Mappings.{mapping, in_old_order}
use Rattle.tree_translation.specs.Splits.{Node}
use Rattle.tree_translation.specs.Standings.{all_placed, placed}
use Rattle.tree_translation.proofs.SeenTerms.{visible-below}
use Rattle.entry_laws.proofs.OnlyConstants.{Each, each-all, each-append, each-map, each-weaker}
use Rattle.entry_laws.proofs.OnlyEntries.{IsPart}
use Rattle.entry_laws.proofs.TableNames.{all-each}
use Rattle.entry_laws.proofs.entry_scopes.WholeLeaves.{IsOver, over-same, over-inst, scoped-over, mapping-there, order-there, NamedIn, BelowIn, motive-there, PlaceIn, CalledIn, called-entry, called-function, called-helper, calls-there}
use Rattle.entry_laws.proofs.entry_scopes.WholeStandings.{placed-scoped}
use Rattle.entry_laws.proofs.entry_scopes.WholeTrees.{IsTreeNode}
use Rattle.entry_laws.proofs.draft_scopes.FunctionSignatures.{which-constant}

-- ---- sides

-- a term of a draft, whose constants have C
draft-over : {C : ℕ → Type 0} (S T : Signature) (base count n : ℕ) (t : Term) → HasNumbers S T → ((c : ℕ) → IsDraftNumber S base count c → C c) → IsDraftTerm S base count n t
    → IsOver T C n t
draft-over S T base count n (Var v) more each h = IsOver.of_var (omega (arith, h.variables))
draft-over S T base count n (Sort i) more each h = IsOver.of_sort
draft-over S T base count n (Pi a b) more each h =
    let p = draft-pi h in IsOver.of_pi (draft-over S T base count n a more each p.0) (draft-over S T base count (n + 1) b more each p.1)
draft-over S T base count n (Lam a b) more each h =
    let p = draft-lam h in IsOver.of_lam (draft-over S T base count n a more each p.0) (draft-over S T base count (n + 1) b more each p.1)
draft-over S T base count n (App f a) more each h =
    let p = draft-app h in IsOver.of_app (draft-over S T base count n f more each p.0) (draft-over S T base count n a more each p.1)
draft-over S T base count n (Let a t b) more each h =
    let p = draft-let h in
    IsOver.of_let (draft-over S T base count n a more each p.0) (draft-over S T base count n t more each p.1) (draft-over S T base count (n + 1) b more each p.2)
draft-over S T base count n (Const c) more each h = IsOver.of_const (each c h.entries)
draft-over S T base count n (Fam f) more each h = IsOver.of_fam (more.families f h.entries)
draft-over S T base count n (Con f c) more each h = IsOver.of_con (more.constructors f c h.entries)
draft-over S T base count n (Elim f m) more each h = IsOver.of_elim (more.families f h.entries)
draft-over S T base count n (AxiomK i m) more each h = IsOver.of_axiom

over-applied : {T : Signature} {C : ℕ → Type 0} (n : ℕ) (head : Term) (us : List Term) → IsOver T C n head → Each (IsOver T C n) us → IsOver T C n (applied head us)
over-applied n head [] h Each.none = h
over-applied n head (u ∷ us) h (Each.more k all) = over-applied n (App head u) us (IsOver.of_app h k) all

-- a side over some variables
record SideOver (T : Signature) (C : ℕ → Type 0) (side : Term) : Type 0 where
  n : ℕ
  over : IsOver T C n side

module _ (S T : Signature) (more : HasNumbers S T) (number : Naming) (plan : Plan) (base : plan.base ≡ length S.entries) where
  called-draft : (n : ℕ) (l : Place) → PlaceIn T number plan n l → (c : ℕ) → IsDraftNumber S plan.base 1 c → CalledIn T number plan n l c
  called-draft n l h c (inl is) = called-entry T number plan n l c is.0 (more.constants c is.1)
  called-draft n l h c (inr is) = called-function T number plan n l c (let from = is.0 in let to = is.1 in omega arith) h

  all-over : (n : ℕ) (l : Place) (m : ℕ) (ts : List Term) → PlaceIn T number plan n l → All (IsDraftTerm S plan.base 1 m) ts → Each (IsOver T (CalledIn T number plan n l) m) ts
  all-over n l m ts h all =
      each-weaker ts (λ t k. draft-over S T plan.base 1 m t more (called-draft n l h) k) (each-all (IsDraftTerm S plan.base 1 m) ts all)

  side-over : (at : ℕ) (w : Walk) (c : Clause) (side : Term) (n : ℕ) (l : Place) → ((k : ℕ) (helper : Part) → slice_get plan.parts k ≡ Some helper → at < k → IsConstantNumber T (number (helper_name plan.name k)))
      → PlaceIn T number plan n l → IsSide S plan at w c side → SideOver T (CalledIn T number plan n l) side
  side-over at w c side n l helpers h (IsSide.term pats binds _ is) = record { n = binds; over = draft-over S T plan.base 1 binds side more (called-draft n l h) is }
  side-over at w c side n l helpers h (IsSide.scrutinee pats binds k t inner helper arguments there lt count all) = record {
    n = length w.ctx;
    over = over-applied (length w.ctx) (Const (plan.base + k)) arguments (IsOver.of_const (called-helper T number plan n l k (omega arith) (helpers k helper there lt) h))
        (all-over n l (length w.ctx) arguments h all);
  }
  side-over at w c side n l helpers h (IsSide.absurd pats binds) = record { n = 0; over = IsOver.of_sort }

  get_or-past : (xs : List Term) (i : ℕ) (d : Term) → length xs ≤ i → get_or xs i d ≡ d
  get_or-past [] i d le = refl
  get_or-past (x ∷ xs) zero d le = absurd (omega arith)
  get_or-past (x ∷ xs) (suc i) d le = get_or-past xs i d (omega arith)

  part-side : (at : ℕ) (part : Part) (i : ℕ) (n : ℕ) (l : Place) → IsPart S plan at part
      → ((k : ℕ) (helper : Part) → slice_get plan.parts k ≡ Some helper → at < k → IsConstantNumber T (number (helper_name plan.name k))) → PlaceIn T number plan n l
      → SideOver T (CalledIn T number plan n l) (get_or part.sides i (Sort 0))
  part-side at part i n l p helpers h = by (nat_lt i (length part.sides)) refl
    where
      by : (b : Bool) → nat_lt i (length part.sides) ≡ b → SideOver T (CalledIn T number plan n l) (get_or part.sides i (Sort 0))
      by true e =
          let low : i < length part.sides = grind (arith, nat_tests) in
          let c = get_or p.is.clauses i (Is pattern.nil 0 clause.Absurd) in
          let there : slice_get p.is.clauses i ≡ Some c = slice_get-get_or p.is.clauses i (Is pattern.nil 0 clause.Absurd) (omega (arith, p.is.count.0)) in
          let of = p.is.each i c there in
          subst (SideOver T (CalledIn T number plan n l)) (sym (get_or_from_slice_get part.sides i of.side (Sort 0) of.side_there))
          (side-over at of.walk c of.side n l helpers h of.is_side)
      by false e =
          subst (SideOver T (CalledIn T number plan n l)) (sym (get_or-past part.sides i (Sort 0) (grind (arith, nat_tests)))) (record { n = 0; over = IsOver.of_sort })

  -- ---- leaves

  belows-there : (n : ℕ) (hidden : List ℕ) (terms values : List Term) (recursions : List NamedRecursion) → AreBelow n hidden → Each (NamedIn T number plan) recursions
      → Each (IsScoped T n) terms → Each (IsScoped T n) values → Each (BelowIn T number plan n) (belows_in number n hidden terms values recursions)
  belows-there n (p ∷ hidden) terms values (c ∷ recursions) below (Each.more h all) ht hv =
      let low = below.0 in
      let value : IsScoped T n (Var (n - (p + 1))) = var-scoped (omega arith) in
      Each.more
      (record { below = h.below; pairs = h.pairs; shape = h.shape; motive = motive-there T number plan n c terms values h.motive ht hv; value = value })
      (belows-there n hidden terms (values ++ Var (n - (p + 1)) ∷ []) recursions below.1 all ht (each-append values (Var (n - (p + 1)) ∷ []) hv (Each.more value Each.none)))
  belows-there n (p ∷ hidden) terms values [] below all ht hv = Each.none
  belows-there n [] terms values recursions below all ht hv = Each.none

  place-in : (n : ℕ) (hidden : List ℕ) (recursions : List NamedRecursion) (terms : List Term) → AreBelow n hidden → Each (NamedIn T number plan) recursions → Each (IsScoped T n) terms
      → PlaceIn T number plan n (place_with number n hidden recursions terms)
  place-in n hidden recursions terms below hr all = record { terms = all; belows = belows-there n hidden terms [] recursions below hr all Each.none }

  pub leaf-there : (numbers : HasNumbers (with_function S plan) T) (at : ℕ) (part : Part) (recursions : List NamedRecursion) (order : List ℕ) → IsPart S plan at part
      → ((k : ℕ) (helper : Part) → slice_get plan.parts k ≡ Some helper → at < k → IsConstantNumber T (number (helper_name plan.name k))) → Each (NamedIn T number plan) recursions
      → (node : Node) (i : ℕ) (context : Telescope) (goal : Term) (substitution terms binds : List Term) → IsTreeNode T node context
      → IsScopedLeaf (with_function S plan) context goal substitution terms binds
      → IsScoped T (length node.context) (leaf_term number plan recursions part order (length node.context) node.hidden i substitution terms binds)
  leaf-there numbers at part recursions order p helpers hr node i context goal substitution terms binds is leaf =
      let F = with_function S plan in
      let n = length node.context in
      let m = length context in
      let levels = visible n node.hidden in
      let side = get_or part.sides i (Sort 0) in
      let values = values_at plan part order i side substitution terms binds in
      let hs = each-all (IsScoped F m) substitution leaf.substitution in
      let ht = each-all (IsScoped F m) terms leaf.terms in
      let hb = each-all (IsScoped F m) binds leaf.binds in
      let place_terms = all_placed levels n terms in
      let place = place_with number n node.hidden recursions place_terms in
      let there : PlaceIn T number plan n place =
      place-in n node.hidden recursions place_terms is.over.hidden hr (each-weaker place_terms (λ t k. scoped-wider numbers k) (placed-there n node.hidden context terms is.over.is_seen.count ht)) in
      let placed_values = all_placed levels n values in
      let over_values : Each (IsOver T (CalledIn T number plan n place) n) placed_values =
      each-weaker placed_values (λ t k. scoped-over F T n t numbers (called-constant numbers n place there) k)
      (placed-there n node.hidden context values is.over.is_seen.count (chosen m (is_helper plan.base (head_of side)) (get_or part.walks i no_walk) substitution terms binds hs ht hb)) in
      let own = part-side at part i n place p helpers there in
      scoped_over_more T (n + 0) n _ (omega arith)
      (calls-there T number plan n place 0 [] (inst (fill no_variable placed_values) side)
      (over-same n (n + 0) (inst (fill no_variable placed_values) side) (omega arith)
      (over-inst (fill no_variable placed_values) own.n n side
      (λ v lt. fill-kept (IsOver T (CalledIn T number plan n place) n) no_variable placed_values (λ v. IsOver.of_sort) (all-each (IsOver T (CalledIn T number plan n place) n) placed_values over_values) v)
      own.over))
      Each.none)
    where
      chosen : (m : ℕ) (b : Bool) (w : Walk) (substitution terms binds : List Term) → Each (IsScoped (with_function S plan) m) substitution → Each (IsScoped (with_function S plan) m) terms
          → Each (IsScoped (with_function S plan) m) binds
          → Each (IsScoped (with_function S plan) m) (cond b (mapping w (in_old_order order substitution) terms) binds)
      chosen m true w substitution terms binds hs ht hb = mapping-there (with_function S plan) m w (in_old_order order substitution) terms (order-there (with_function S plan) m order substitution hs) ht
      chosen m false w substitution terms binds hs ht hb = hb

      placed-there : (n : ℕ) (hidden : List ℕ) (context : Telescope) (ts : List Term) → length context ≡ length (visible n hidden)
          → Each (IsScoped (with_function S plan) (length context)) ts → Each (IsScoped (with_function S plan) n) (all_placed (visible n hidden) n ts)
      placed-there n hidden context ts same all =
          each-map (placed (visible n hidden) n) ts
          (λ t h. placed-scoped (with_function S plan) (visible n hidden) n t (λ some. let low = visible-below n hidden 0 some in omega arith)
          (subst (λ k. IsScoped (with_function S plan) k t) same h)) all

      called-constant : HasNumbers (with_function S plan) T → (n : ℕ) (l : Place) → PlaceIn T number plan n l → (c : ℕ) → IsConstantNumber (with_function S plan) c → CalledIn T number plan n l c
      called-constant numbers n l h c is = elim (which-constant S plan c is) [
        | inl low ↦ called-entry T number plan n l c (omega (arith, base)) (numbers.constants c is)
        | inr same ↦ called-function T number plan n l c (same ∙ sym base) h
      ]
