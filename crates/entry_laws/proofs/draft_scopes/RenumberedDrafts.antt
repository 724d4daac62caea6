-- A draft that is numbered by first mention is scoped, where its type and its term are.
use Rattle.std.proofs.Common.{◌≡◌, inl, inr, ℕ, zero, suc, ◌+◌, ◌-◌, ◌==◌, ◌||◌, Bool, true, false, cond, List, [], ◌∷◌, ◌++◌, length, take, drop, get_or, Some, refl, sym, ap, subst, ◌∙◌, arith}
use Rattle.std.proofs.lemmas.List.{length-map}
use Rattle.theory.specs.Terms.{Term, Var, Sort, Pi, Lam, App, Let, Const, Fam, Con, Elim, AxiomK, free_of}
use Rattle.theory.specs.Signatures.{Signature}
use Rattle.theory.specs.Telescopes.{Telescope, products, functions}
use Rattle.theory.proofs.ScopedTerms.{sort-scoped, scoped_over_more}
use Rattle.theory.specs.SignatureScopes.{IsConstantNumber, HasEntries, IsScoped, IsScopedTelescope}
use Rattle.core_sig.specs.DraftScopes.{HasDraftEntries, IsDraftTerm}
use Rattle.core_sig.specs.EntryTerms.{EachTerm}
use Rattle.core_sig.specs.Settling.{renumbered}
use Rattle.kernel_reduce.proofs.ScopedTelescopes.{telescope-take}
use Rattle.tele_eq.specs.Levels.{is_among, place_in}
use Rattle.unification.proofs.Cases.{below-or_from, first-of_two, second-of_two}
use Rattle.unification.proofs.Levels.{among-own, place-there}
use Rattle.tree_translation.specs.Plans.{own_part}
use Rattle.tree_translation.specs.Recursion.{first_positions, order_of, ordered_telescope, ordered_term}
use Rattle.tree_translation.specs.Naming.{motive_name, mentions, once, number_in, number_among, with_names}
use Rattle.tree_translation.proofs.Drafting.{in_order-is}
use Rattle.entry_laws.specs.draft_scopes.Laws.{IsNamedOver, DraftScopedInOrder, MotiveScoped}
use Rattle.entry_laws.proofs.OnlyConstants.{Each, each-left, each-right, each-weaker}
use Rattle.entry_laws.proofs.entry_scopes.WholeStandings.{telescope-same, scoped-functions, scoped-products}

-- ---- places

-- each place is found
once-finds : (seen places : List ℕ) → Each (λ i. (is_among i seen || is_among i (once seen places)) ≡ true) places
once-finds seen [] = Each.none
once-finds seen (i ∷ places) = by (is_among i seen) refl (once-finds seen places) (once-finds (i ∷ seen) places)
  where
    or-right : (a : Bool) → (a || true) ≡ true
    or-right true = refl
    or-right false = refl

    turned : (a b c : Bool) → ((a || b) || c) ≡ true → (b || (a || c)) ≡ true
    turned true true c h = refl
    turned true false c h = refl
    turned false true c h = refl
    turned false false c h = h

    by : (b : Bool) → is_among i seen ≡ b → Each (λ j. (is_among j seen || is_among j (once seen places)) ≡ true) places
        → Each (λ j. (is_among j (i ∷ seen) || is_among j (once (i ∷ seen) places)) ≡ true) places
        → Each (λ j. (is_among j seen || is_among j (cond b (once seen places) (i ∷ once (i ∷ seen) places))) ≡ true) (i ∷ places)
    by true e old new = Each.more (ap (λ b. b || is_among i (once seen places)) e) old
    by false e old new =
        Each.more (ap (λ b. is_among i seen || b) (among-own i (once (i ∷ seen) places)) ∙ or-right (is_among i seen))
        (each-weaker places (λ j h. turned (i == j) (is_among j seen) (is_among j (once (i ∷ seen) places)) h) new)

-- ---- terms

free_of-renumbered : (r : ℕ → ℕ) (t : Term) → free_of (renumbered r t) ≡ free_of t
free_of-renumbered r (Pi a b) = omega (arith, free_of-renumbered r a, free_of-renumbered r b)
free_of-renumbered r (Lam a b) = omega (arith, free_of-renumbered r a, free_of-renumbered r b)
free_of-renumbered r (App f a) = omega (arith, free_of-renumbered r f, free_of-renumbered r a)
free_of-renumbered r (Let a t b) = omega (arith, free_of-renumbered r a, free_of-renumbered r t, free_of-renumbered r b)
free_of-renumbered r (Var v) = refl
free_of-renumbered r (Sort i) = refl
free_of-renumbered r (Const c) = refl
free_of-renumbered r (Fam n) = refl
free_of-renumbered r (Con n c) = refl
free_of-renumbered r (Elim n m) = refl
free_of-renumbered r (AxiomK i m) = refl

module _ (S T : Signature) (base : ℕ) (named : IsNamedOver S T base) (places : List ℕ) where
  -- each constant from the base on has a place
  abbrev ArePlaced : List ℕ → Type 0
  ArePlaced found = Each (λ i. is_among i places ≡ true) found

  constant-placed : (c : ℕ) → IsConstantNumber T c → ArePlaced (mentions base (Const c)) → HasDraftEntries S base (length places) (Const (number_among base places c))
  constant-placed c is placed = elim (below-or_from c base) [
    | inl lt ↦ subst (λ n. HasDraftEntries S base (length places) (Const n)) (sym (first-of_two c base c _ lt)) (inl (lt, named.constants c lt is))
    | inr le ↦
        let there : ArePlaced ((c - base) ∷ []) = subst ArePlaced (second-of_two c base [] ((c - base) ∷ []) le) placed in
        let low = (place-there places (c - base) (first there)).0 in
        subst (λ n. HasDraftEntries S base (length places) (Const n)) (sym (second-of_two c base c (base + place_in places (c - base)) le)) (inr (omega arith, omega arith))
  ]
    where
      first : {i : ℕ} {is : List ℕ} → ArePlaced (i ∷ is) → is_among i places ≡ true
      first (Each.more h all) = h

  entries-placed : (t : Term) → HasEntries T t → ArePlaced (mentions base t) → HasDraftEntries S base (length places) (renumbered (number_among base places) t)
  entries-placed (Pi a b) h m = (entries-placed a h.0 (each-left (mentions base a) (mentions base b) m), entries-placed b h.1 (each-right (mentions base a) (mentions base b) m))
  entries-placed (Lam a b) h m = (entries-placed a h.0 (each-left (mentions base a) (mentions base b) m), entries-placed b h.1 (each-right (mentions base a) (mentions base b) m))
  entries-placed (App f a) h m = (entries-placed f h.0 (each-left (mentions base f) (mentions base a) m), entries-placed a h.1 (each-right (mentions base f) (mentions base a) m))
  entries-placed (Let a t b) h m =
      let rest = each-right (mentions base a) (mentions base t ++ mentions base b) m in (
        entries-placed a h.0 (each-left (mentions base a) (mentions base t ++ mentions base b) m),
        entries-placed t h.1 (each-left (mentions base t) (mentions base b) rest),
        entries-placed b h.2 (each-right (mentions base t) (mentions base b) rest),
      )
  entries-placed (Const c) h m = constant-placed c h m
  entries-placed (Fam n) h m = named.families n h
  entries-placed (Con n c) h m = named.constructors n c h
  entries-placed (Elim n m) h placed = named.families n h
  entries-placed (Var v) h m = tt
  entries-placed (Sort i) h m = tt
  entries-placed (AxiomK i m) h placed = tt

  pub term-placed : (n : ℕ) (t : Term) → IsScoped T n t → ArePlaced (mentions base t) → IsDraftTerm S base (length places) n (renumbered (number_among base places) t)
  term-placed n t h placed = record {
    variables = (let low = h.variables in let same = free_of-renumbered (number_among base places) t in omega arith);
    entries = entries-placed t h.entries placed;
  }

-- ---- drafts

pub in_order-scoped : DraftScopedInOrder
in_order-scoped S T name base candidates type term d named e ht hu =
    let table = with_names [] candidates in
    let t = type (number_in base table) in
    let u = term (number_in base table) in
    let found = mentions base t ++ mentions base u in
    let places = once [] found in
    let is = in_order-is name base candidates type term d e in
    let all = once-finds [] found in
    let one = term-placed S T base named places 0 t ht (each-left (mentions base t) (mentions base u) all) in
    let other = term-placed S T base named places 0 u hu (each-right (mentions base t) (mentions base u) all) in
    let many : length d.names ≡ length places = ap length is.same_names ∙ length-map places (λ i. get_or table i []) in (
      is.same_base,
      subst (λ b. EachTerm (IsDraftTerm S b (length d.names)) d.entry) (sym is.same_base)
          (subst (λ k. EachTerm (IsDraftTerm S base k) d.entry) (sym many) (subst (EachTerm (IsDraftTerm S base (length places))) (sym is.entry) (one, other))),
    )

-- ---- the motive

pub telescope-after : (S : Signature) (n k : ℕ) (tele : Telescope) → IsScopedTelescope S n tele → IsScopedTelescope S (n + length (take k tele)) (drop k tele)
telescope-after S n zero tele h = telescope-same S n (n + 0) tele (omega arith) h
telescope-after S n (suc k) [] h = tt
telescope-after S n (suc k) (a ∷ tele) h =
    telescope-same S (n + 1 + length (take k tele)) (n + suc (length (take k tele))) (drop k tele) (omega arith) (telescope-after S (n + 1) k tele h.1)

pub length-split : (k : ℕ) (tele : Telescope) → length (take k tele) + length (drop k tele) ≡ length tele
length-split zero tele = omega arith
length-split (suc k) [] = refl
length-split (suc k) (a ∷ tele) = let e = length-split k tele in omega arith

pub motive_scoped : MotiveScoped
motive_scoped S plan r d ordered e =
    let part = own_part plan in
    let count = length part.tele in
    let order = order_of count (Some r) in
    let tele = ordered_telescope part.tele order in
    let first = length (first_positions r) in
    let goal = ordered_term count order part.goal in
    let total = length-split first tele in
    let front = telescope-take S 0 first tele ordered.telescope in
    let rest = telescope-after S 0 first tele ordered.telescope in
    in_order-scoped S S (motive_name plan.name) plan.base [] (λ number. products (take first tele) (Sort plan.level))
    (λ number. functions (take first tele) (products (drop first tele) goal)) d
    (record { families = λ n is. is; constructors = λ n c is. is; constants = λ c low is. is }) e
    (scoped-products S 0 (take first tele) (Sort plan.level) front (sort-scoped plan.level))
    (scoped-functions S 0 (take first tele) (products (drop first tele) goal) front
    (scoped-products S (0 + length (take first tele)) (drop first tele) goal rest
    (scoped_over_more S (length tele) (0 + length (take first tele) + length (drop first tele)) goal (omega arith) ordered.goal)))
