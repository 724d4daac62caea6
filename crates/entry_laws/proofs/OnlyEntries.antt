-- The type and the term of each entry of a function name entries of the signature and candidates alone.
use Rattle.std.proofs.Common.{◌≡◌, inl, inr, ℕ, zero, suc, ◌+◌, ◌-◌, ◌<◌, ◌≤◌, ◌==◌, nat_lt, Bool, true, false, Option, Some, None, List, [], ◌∷◌, ◌++◌, length, take, drop, get_or, slice_get, All, Ok, refl, sym, ap, subst, ◌∙◌, arith}
use Rattle.std.proofs.lemmas.Bool.Decides.{nat_tests}
use Rattle.std.proofs.lemmas.List.{map-append}
use Rattle.std.proofs.lemmas.Option.{none-some, slice_get_within, slice_get-get_or, get_or_from_slice_get}
use Rattle.theory.specs.Terms.{Term, Sort, Const}
use Rattle.theory.specs.Telescopes.{Telescope, products, functions, applied, variables}
use Rattle.theory.specs.Signatures.{Signature, Definition, FamilyOf, IsEntryAt}
use Rattle.theory.specs.SignatureScopes.{IsConstantNumber}
use Rattle.core_terms.specs.CaseTrees.{Walk}
use Rattle.core_terms.specs.Clauses as clause
use Rattle.core_terms.specs.Patterns as pattern
use Rattle.core_terms.specs.Clauses.{Clause, Is}
use Rattle.core_terms.specs.Levels.{variable}
use Rattle.core_terms.specs.Telescopes.{lift_telescope}
use Rattle.core_sig.specs.Drafts.{Draft}
use Rattle.core_sig.specs.DraftScopes.{IsDraftNumber, IsDraftTerm}
use Rattle.kernel_reduce.specs.Entries.{family_at}
use Rattle.kernel_reduce.proofs.LookUps.{family-found}
use Rattle.kernel_reduce.proofs.StepLaws.{some-next, some-map}
use Rattle.tree_translation.specs.structural_rec.Positions.{admission}
use Rattle.tree_translation.specs.structural_rec.Uses.{Use}
use Rattle.tele_eq.specs.Items.{each_position}
use Rattle.tele_eq.specs.Levels.{place_in}
use Rattle.unification.specs.ScopedStates.{IsReady}
use Rattle.unification.specs.Solving.{reordered}
use Rattle.tree_translation.specs.Naming.{Naming, number_in, with_names, below_name, rec_name, motive_name, step_name, helper_name}
use Rattle.tree_translation.specs.Splits.{Node}
use Rattle.tree_translation.specs.Plans.{Plan, Part, own_part}
use Rattle.tree_translation.specs.Recursion.{NamedRecursion, Recursion, recursion_at, recursion_of, recursions_in, first_positions, order_of, remaining_positions, ordered_telescope, ordered_term, terms_at, parameters_at, motive_at, scrutinee_at, below_type, below_with}
use Rattle.tree_translation.specs.TreeTerms.{tree_names}
use Rattle.tree_translation.specs.RightSides.{Place}
use Rattle.tree_translation.specs.Entries.{helper_count, helper_names, side_names, part_term, term_with, ordered_variables, with_below, motive_entry, step_telescope, step_goal, step_node, step_entry, helper_node, helper_entry, function_by_recursion, function_entry}
use Rattle.tree_translation.specs.Conditions.{IsSide, IsPartOf, IsPlanned}
use Rattle.entry_laws.proofs.OnlyConstants.{Each, each-append, each-left, each-right, each-take, each-drop, HasOnly, only-lift, only-products, only-functions, only-applied, only-variables}
use Rattle.entry_laws.proofs.OnlyEquations.{only-put, only-each_position}
use Rattle.entry_laws.proofs.OnlyFamilies.{CoversConstants, only-draft, only-scoped, only-all_scoped, only-telescope, FamiliesOnly, only-families, if-there}
use Rattle.entry_laws.proofs.OnlyStates.{OptionOnly, NodeOnly, only-new_context}
use Rattle.entry_laws.proofs.OnlyRuns.{NumbersHave}
use Rattle.entry_laws.proofs.OnlyLeaves.{NamedOnly, RecursionOnly, only-named, only-terms_at, only-parameters_at, only-motive_at, only-below_type, PlaceOnly, IsCalled, called-entry, called-function, called-helper, LeafOnly, only-leaf_term}
use Rattle.entry_laws.proofs.OnlyTrees.{only-tree_term}
use Rattle.entry_laws.proofs.SameNames.{blank, blanks, blank-applied, IsLikeNode, tree-names}
use Rattle.entry_laws.proofs.TableNames.{IsInTable, candidates-numbered, HasNames, draft-names}

-- ---- the parts of a plan

-- the entries of the signature are below each limit from the base on
pub covers-more : (S : Signature) (base k : ℕ) → base ≡ length S.entries → CoversConstants (λ c. c < base + k) S
covers-more S base k is c h =
    let low = slice_get_within S.entries c (Definition h.0 h.1 h.2) h.3 in omega (arith, is)

-- ---- sides

pub each_position-at : {X : Type 0} (P : X → Type 0) (f : ℕ → X) (j count k : ℕ) → Each P (each_position f j count) → j ≤ k → k < j + count → P (f k)
each_position-at P f j zero k Each.none low high = absurd (omega arith)
each_position-at P f j (suc count) k (Each.more h all) low high = by (j == k) refl (λ lt. each_position-at P f (j + 1) count k all lt (omega arith))
  where
    by : (b : Bool) → (j == k) ≡ b → (j + 1 ≤ k → P (f k)) → P (f k)
    by true e go = let same : j ≡ k = grind (arith, nat_tests) in subst (λ n. P (f n)) same h
    by false e go = go (grind (arith, nat_tests))

pub count-parts : (plan : Plan) (k : ℕ) (helper : Part) → slice_get plan.parts k ≡ Some helper → 0 < k → k ≤ helper_count plan
count-parts plan k helper at high = by plan.parts at
  where
    by : (parts : List Part) → slice_get parts k ≡ Some helper → k ≤ length (drop 1 parts)
    by [] there = absurd (none-some helper there)
    by (part ∷ parts) there = let low = slice_get_within (part ∷ parts) k helper there in omega arith

-- the helpers that a side of part `at` may call
helper-named : (Q : ℕ → Type 0) (number : Naming) (plan : Plan) (at k : ℕ) (helper : Part) → NumbersHave Q number (helper_names plan at) → slice_get plan.parts k ≡ Some helper
    → at < k → Q (number (helper_name plan.name k))
helper-named Q number plan at k helper named there lt =
    let most = count-parts plan k helper there (omega arith) in
    each_position-at (λ name. Q (number name)) (helper_name plan.name) (at + 1) (helper_count plan - at) k named (omega arith) (omega arith)

draft-called : {Q : ℕ → Type 0} (S : Signature) (number : Naming) (plan : Plan) (l : Place) → plan.base ≡ length S.entries → CoversConstants Q S → PlaceOnly Q number plan l
    → (c : ℕ) → IsDraftNumber S plan.base 1 c → IsCalled Q number plan l c
draft-called S number plan l base covers h c (inl is) = called-entry number plan l c is.0 (covers c is.1)
draft-called S number plan l base covers h c (inr is) = called-function number plan l c (let from = is.0 in let to = is.1 in omega arith) h

draft-sides : {Q : ℕ → Type 0} (S : Signature) (base count n : ℕ) (ts : List Term) → ((c : ℕ) → IsDraftNumber S base count c → Q c) → All (IsDraftTerm S base count n) ts → Each (HasOnly Q) ts
draft-sides S base count n [] each h = Each.none
draft-sides S base count n (t ∷ ts) each h =
    let first : IsDraftTerm S base count n t = h 0 t (omega arith) in
    Each.more (only-draft S base count t each first.entries) (draft-sides S base count n ts each (λ k d within. h (suc k) d (omega arith)))

side-called : {Q : ℕ → Type 0} (S : Signature) (number : Naming) (plan : Plan) (at : ℕ) (w : Walk) (c : Clause) (side : Term) (l : Place) → plan.base ≡ length S.entries
    → CoversConstants Q S → NumbersHave Q number (helper_names plan at) → PlaceOnly Q number plan l → IsSide S plan at w c side → HasOnly (IsCalled Q number plan l) side
side-called S number plan at w c side l base covers named h (IsSide.term pats binds _ is) =
    only-draft S plan.base 1 side (draft-called S number plan l base covers h) is.entries
side-called {Q} S number plan at w c side l base covers named h (IsSide.scrutinee pats binds k t inner helper arguments there lt count all) =
    only-applied (Const (plan.base + k)) arguments
    (HasOnly.of_const (called-helper number plan l k (omega arith) (helper-named Q number plan at k helper named there lt) h))
    (draft-sides S plan.base 1 (length w.ctx) arguments (draft-called S number plan l base covers h) all)
side-called S number plan at w c side l base covers named h (IsSide.absurd pats binds) = HasOnly.of_sort

-- ---- parts

-- a part of a plan, with its uses and its start
pub record IsPart (S : Signature) (plan : Plan) (at : ℕ) (part : Part) : Type 0 where
  pub uses : List Use
  pub context : Telescope
  pub goal : Term
  pub terms : List Term
  pub is : IsPartOf S plan uses at part context goal terms

get_or-past : (xs : List Term) (i : ℕ) (d : Term) → length xs ≤ i → get_or xs i d ≡ d
get_or-past [] i d le = refl
get_or-past (x ∷ xs) zero d le = absurd (omega arith)
get_or-past (x ∷ xs) (suc i) d le = get_or-past xs i d (omega arith)

part-sides : {Q : ℕ → Type 0} (S : Signature) (number : Naming) (plan : Plan) (at : ℕ) (part : Part) (i : ℕ) (l : Place) → IsPart S plan at part → plan.base ≡ length S.entries
    → CoversConstants Q S → NumbersHave Q number (helper_names plan at) → PlaceOnly Q number plan l → HasOnly (IsCalled Q number plan l) (get_or part.sides i (Sort 0))
part-sides {Q} S number plan at part i l p base covers named h = by (nat_lt i (length part.sides)) refl
  where
    by : (b : Bool) → nat_lt i (length part.sides) ≡ b → HasOnly (IsCalled Q number plan l) (get_or part.sides i (Sort 0))
    by true e =
        let low : i < length part.sides = grind (arith, nat_tests) in
        let c = get_or p.is.clauses i (Is pattern.nil 0 clause.Absurd) in
        let there : slice_get p.is.clauses i ≡ Some c = slice_get-get_or p.is.clauses i (Is pattern.nil 0 clause.Absurd) (omega (arith, p.is.count.0)) in
        let of = p.is.each i c there in
        subst (HasOnly (IsCalled Q number plan l)) (sym (get_or_from_slice_get part.sides i of.side (Sort 0) of.side_there))
        (side-called S number plan at of.walk c of.side l base covers named h of.is_side)
    by false e =
        subst (HasOnly (IsCalled Q number plan l)) (sym (get_or-past part.sides i (Sort 0) (grind (arith, nat_tests)))) HasOnly.of_sort

-- ---- recursion

-- the family of a recursion is an entry of the signature
pub recursion-entry : (S : Signature) (plan : Plan) (r : Recursion) → recursion_of S plan ≡ Some r → IsEntryAt S r.admission.number (FamilyOf r.family)
recursion-entry S plan r e =
    if-there (λ r. IsEntryAt S r.admission.number (FamilyOf r.family)) (recursion_of S plan) r
    (some-next (λ r. IsEntryAt S r.admission.number (FamilyOf r.family)) (recursion_at S (own_part plan).tele) plan.position (λ j _.
    some-next (λ r. IsEntryAt S r.admission.number (FamilyOf r.family)) _ (admission S (own_part plan).tele j) (λ a _.
    some-map (λ r. IsEntryAt S r.admission.number (FamilyOf r.family)) _ (family_at S a.number) (λ f found. family-found S a.number f found))))
    e

recursion-only : {Q : ℕ → Type 0} (S : Signature) (number : Naming) (plan : Plan) (r : Recursion) → FamiliesOnly Q S → recursion_of S plan ≡ Some r
    → Q (number (below_name r.family plan.level)) → Q (number (motive_name plan.name)) → RecursionOnly Q number plan r
recursion-only S number plan r families e below motive =
    record { below = below; motive = motive; family = families r.admission.number r.family (recursion-entry S plan r e) }

recursion-there : {Q : ℕ → Type 0} (S : Signature) (number : Naming) (plan : Plan) (o : Option Recursion) (at : ℕ) → FamiliesOnly Q S → recursion_of S plan ≡ o
    → NumbersHave Q number (side_names plan o at) → OptionOnly (RecursionOnly Q number plan) o
recursion-there S number plan None at families e named = tt
recursion-there S number plan (Some r) at families e (Each.more below (Each.more motive all)) = recursion-only S number plan r families e below motive

pub helpers-there : (Q : ℕ → Type 0) (number : Naming) (plan : Plan) (o : Option Recursion) (at : ℕ) → NumbersHave Q number (side_names plan o at)
    → NumbersHave Q number (helper_names plan at)
helpers-there Q number plan None at named = named
helpers-there Q number plan (Some r) at (Each.more below (Each.more motive all)) = all

-- ---- the term of a part

-- at a node whose hidden variables are the below values of recursions
pub only-term_with : {Q : ℕ → Type 0} (S : Signature) (number : Naming) (plan : Plan) (recursions : List NamedRecursion) (at : ℕ) (part : Part) (order : List ℕ) (node : Node)
    → IsReady S → plan.base ≡ length S.entries → IsPart S plan at part → CoversConstants Q S → Each (NamedOnly Q number plan) recursions → NumbersHave Q number (helper_names plan at)
    → NumbersHave Q number (tree_names S part.level part.tree node) → NodeOnly Q node → HasOnly Q (term_with S plan recursions part order node number)
only-term_with {Q} S number plan recursions at part order node ready base p covers named helpers named_tree hn =
    let leaf : LeafOnly Q number plan recursions part = record {
      recursions = named;
      sides = λ i l h. part-sides S number plan at part i l p base covers helpers h;
    } in
    only-tree_term {R = λ c. IsConstantNumber S c} (record { signature = S; number = number; plan = plan; recursions = recursions; part = part; order = order }) part.tree node
    (record {
      families = only-families S ready.scoped covers;
      covers = covers;
      entries = λ c is. is;
      leaves = λ n hidden i substitution terms binds hs ht hb.
          only-leaf_term number plan recursions part order n hidden i substitution terms binds leaf
          (λ c is. let low = slice_get_within S.entries c (Definition is.0 is.1 is.2) is.3 in (omega (arith, base), covers c is)) hs ht hb;
    })
    p.is.tree_scoped named_tree hn

only-part_term : {Q : ℕ → Type 0} (S : Signature) (number : Naming) (plan : Plan) (o : Option Recursion) (at : ℕ) (part : Part) (order : List ℕ) (node : Node)
    → IsPlanned S plan → recursion_of S plan ≡ o → IsPart S plan at part → CoversConstants Q S → NumbersHave Q number (side_names plan o at)
    → NumbersHave Q number (tree_names S part.level part.tree node) → NodeOnly Q node → HasOnly Q (part_term S plan o part order node number)
only-part_term {Q} S number plan o at part order node planned e p covers named named_tree hn =
    only-term_with S number plan (recursions_in plan o) at part order node planned.ready planned.base p covers
    (only-named number plan o (recursion-there S number plan o at (only-families S planned.ready.scoped covers) e named))
    (helpers-there Q number plan o at named) named_tree hn

-- ---- telescopes

pub only-ordered_telescope : {Q : ℕ → Type 0} (tele : Telescope) (order : List ℕ) → Each (HasOnly Q) tele → Each (HasOnly Q) (ordered_telescope tele order)
only-ordered_telescope tele order all = only-new_context tele (reordered order) 0 order all (λ d j. HasOnly.of_var)

pub only-ordered_term : {Q : ℕ → Type 0} (count : ℕ) (order : List ℕ) (t : Term) → HasOnly Q t → HasOnly Q (ordered_term count order t)
only-ordered_term count order t h = only-put (reordered order) count count t (λ d j. HasOnly.of_var) h

only-lift_telescope : {Q : ℕ → Type 0} (tele : Telescope) (by from : ℕ) → Each (HasOnly Q) tele → Each (HasOnly Q) (lift_telescope tele by from)
only-lift_telescope [] by from Each.none = Each.none
only-lift_telescope (a ∷ tele) by from (Each.more h all) = Each.more (only-lift a by from h) (only-lift_telescope tele by (from + 1) all)

pub only-with_below : {Q : ℕ → Type 0} (at : ℕ) (below : Term) (tele : Telescope) → HasOnly Q below → Each (HasOnly Q) tele → Each (HasOnly Q) (with_below at below tele)
only-with_below at below tele h all =
    each-append (take at tele) _ (each-take at tele all) (Each.more h (only-lift_telescope (drop at tele) 1 0 (each-drop at tele all)))

pub only-ordered_variables : {Q : ℕ → Type 0} (order : List ℕ) (depth : ℕ) → Each (HasOnly Q) (ordered_variables order depth)
only-ordered_variables order depth = only-each_position (λ i. variable depth (place_in order i)) 0 (length order) (λ i. HasOnly.of_var)

-- ---- nodes that differ in the below value's type

pub blank-below_with : (number other : Naming) (plan : Plan) (r : Recursion) (one two : Term) (terms : List Term) → blank one ≡ blank two
    → blank (below_with number plan r one terms) ≡ blank (below_with other plan r two terms)
blank-below_with number other plan r one two terms same =
    let parameters = parameters_at (own_part plan).tele r terms in
    let rest = scrutinee_at r terms in
    blank-applied (Const (number (below_name r.family plan.level))) (parameters ++ one ∷ rest)
    ∙ (ap (applied (Const 0))
    (map-append blank parameters (one ∷ rest)
    ∙ (ap (λ motive. blanks parameters ++ motive ∷ blanks rest) same ∙ sym (map-append blank parameters (two ∷ rest))))
    ∙ sym (blank-applied (Const (other (below_name r.family plan.level))) (parameters ++ two ∷ rest)))

pub blank-below_type : (number other : Naming) (plan : Plan) (r : Recursion) (terms : List Term) → blank (below_type number plan r terms) ≡ blank (below_type other plan r terms)
blank-below_type number other plan r terms =
    let fixed = terms_at r.admission.fixed terms in
    blank-below_with number other plan r (motive_at number plan r terms) (motive_at other plan r terms) terms
    (blank-applied (Const (number (motive_name plan.name))) fixed ∙ sym (blank-applied (Const (other (motive_name plan.name))) fixed))

-- one type among others that stay
pub blanks-with_below : (at : ℕ) (below other : Term) (tele : Telescope) → blank below ≡ blank other → blanks (with_below at below tele) ≡ blanks (with_below at other tele)
blanks-with_below at below other tele same =
    map-append blank (take at tele) (below ∷ lift_telescope (drop at tele) 1 0)
    ∙ (ap (λ b. blanks (take at tele) ++ b ∷ blanks (lift_telescope (drop at tele) 1 0)) same
    ∙ sym (map-append blank (take at tele) (other ∷ lift_telescope (drop at tele) 1 0)))

pub step-like : (plan : Plan) (r : Recursion) (number other : Naming) → IsLikeNode (step_node plan r number) (step_node plan r other)
step-like plan r number other =
    let part = own_part plan in
    let order = order_of (length part.tele) (Some r) in
    let tele = ordered_telescope part.tele order in
    let first = length (first_positions r) in
    record {
      context =
          blanks-with_below first (below_type number plan r (ordered_variables order first)) (below_type other plan r (ordered_variables order first)) tele
          (blank-below_type number other plan r (ordered_variables order first));
      hidden = refl;
    }

pub helper-like : (plan : Plan) (o : Option Recursion) (part : Part) (number other : Naming) → IsLikeNode (helper_node plan o part number) (helper_node plan o part other)
helper-like plan None part number other = record { context = refl; hidden = refl }
helper-like plan (Some r) part number other = record {
  context =
      map-append blank part.tele (below_type number plan r part.terms ∷ [])
      ∙ (ap (λ below. blanks part.tele ++ below ∷ []) (blank-below_type number other plan r part.terms) ∙ sym (map-append blank part.tele (below_type other plan r part.terms ∷ [])));
  hidden = refl;
}

-- ---- each entry

-- the candidates of an entry
abbrev pub step_candidates : Signature → Plan → Recursion → List (List ℕ)
step_candidates S plan r =
    side_names plan (Some r) 0 ++ tree_names S (own_part plan).level (own_part plan).tree (step_node plan r (λ name. plan.base))

abbrev pub helper_candidates : Signature → Plan → Option Recursion → (k : ℕ) → Part → List (List ℕ)
helper_candidates S plan o k part = side_names plan o k ++ tree_names S part.level part.tree (helper_node plan o part (λ name. plan.base))

abbrev pub own_node : Plan → Node
own_node plan = record { context = (own_part plan).tele; goal = (own_part plan).goal; hidden = [] }

abbrev pub function_candidates : Signature → Plan → Option Recursion → List (List ℕ)
function_candidates S plan None = side_names plan None 0 ++ tree_names S (own_part plan).level (own_part plan).tree (own_node plan)
function_candidates S plan (Some r) = rec_name r.family plan.level ∷ motive_name plan.name ∷ step_name plan.name ∷ []

-- the function's own part over a signature that is ready, and its written type
pub record IsBased (S : Signature) (plan : Plan) : Type 0 where
  pub ready : IsReady S
  pub base : plan.base ≡ length S.entries
  pub type : plan.type ≡ products (own_part plan).tele (own_part plan).goal
  pub own : IsPart S plan 0 (own_part plan)

pub own-is : (S : Signature) (plan : Plan) → IsPlanned S plan → IsPart S plan 0 (own_part plan)
own-is S plan planned = record { uses = planned.uses; context = _; goal = _; terms = _; is = planned.own }

pub is-based : (S : Signature) (plan : Plan) → IsPlanned S plan → IsBased S plan
is-based S plan planned = record { ready = planned.ready; base = planned.base; type = planned.type; own = own-is S plan planned }

pub helper-is : (S : Signature) (plan : Plan) (k : ℕ) (part : Part) → IsPlanned S plan → slice_get plan.parts (k + 1) ≡ Some part → IsPart S plan (k + 1) part
helper-is S plan k part planned at = record { uses = planned.uses; context = _; goal = _; terms = _; is = planned.helpers k part at }

pub motive-names : (S : Signature) (plan : Plan) (r : Recursion) (d : Draft) → IsBased S plan → motive_entry plan r ≡ Ok d → HasNames [] d
motive-names S plan r d based e =
    let part = own_part plan in
    let count = length part.tele in
    let order = order_of count (Some r) in
    let tele = ordered_telescope part.tele order in
    let first = length (first_positions r) in
    let covers = covers-more S plan.base 0 based.base in
    let all = only-ordered_telescope part.tele order (only-telescope S 0 part.tele covers based.own.is.context_scoped) in
    let goal = only-ordered_term count order part.goal (only-scoped S count part.goal covers based.own.is.goal_scoped) in
    draft-names (motive_name plan.name) plan.base [] (λ number. products (take first tele) (Sort plan.level))
    (λ number. functions (take first tele) (products (drop first tele) (ordered_term count order part.goal))) d e
    (only-products (take first tele) (Sort plan.level) (each-take first tele all) HasOnly.of_sort)
    (only-functions (take first tele) _ (each-take first tele all) (only-products (drop first tele) (ordered_term count order part.goal) (each-drop first tele all) goal))

-- terms over a table of candidates
module _ (S : Signature) (plan : Plan) (based : IsBased S plan) where
  pub own-tele : {Q : ℕ → Type 0} → CoversConstants Q S → Each (HasOnly Q) (own_part plan).tele
  own-tele covers = only-telescope S 0 (own_part plan).tele covers based.own.is.context_scoped

  pub own-goal : {Q : ℕ → Type 0} → CoversConstants Q S → HasOnly Q (own_part plan).goal
  own-goal covers = only-scoped S (length (own_part plan).tele) (own_part plan).goal covers based.own.is.goal_scoped

  pub only-step_node : {Q : ℕ → Type 0} (r : Recursion) (number : Naming) → CoversConstants Q S → RecursionOnly Q number plan r → NodeOnly Q (step_node plan r number)
  only-step_node r number covers h =
      let part = own_part plan in
      let count = length part.tele in
      let order = order_of count (Some r) in
      let first = length (first_positions r) in
      record {
        context =
            only-with_below first (below_type number plan r (ordered_variables order first)) (ordered_telescope part.tele order)
            (only-below_type number plan r (ordered_variables order first) h (own-tele covers) (only-ordered_variables order first))
            (only-ordered_telescope part.tele order (own-tele covers));
        goal = only-lift (ordered_term count order part.goal) 1 (count - first) (only-ordered_term count order part.goal (own-goal covers));
      }

  only-type : {Q : ℕ → Type 0} → CoversConstants Q S → HasOnly Q plan.type
  only-type {Q} covers = subst (HasOnly Q) (sym based.type) (only-products (own_part plan).tele (own_part plan).goal (own-tele covers) (own-goal covers))

  only-by_recursion : {Q : ℕ → Type 0} (r : Recursion) (number : Naming) → CoversConstants Q S → NumbersHave Q number (function_candidates S plan (Some r))
      → HasOnly Q (function_by_recursion plan r number)
  only-by_recursion r number covers (Each.more rec (Each.more motive (Each.more step all))) =
      let tele = (own_part plan).tele in
      let count = length tele in
      let terms = variables count in
      only-functions tele _ (own-tele covers)
      (only-applied (Const (number (rec_name r.family plan.level))) _ (HasOnly.of_const rec)
      (each-append (parameters_at tele r terms) _ (only-parameters_at tele r terms (own-tele covers) (only-variables count))
      (Each.more (only-motive_at number plan r terms motive (only-variables count))
      (Each.more
      (only-applied (Const (number (step_name plan.name))) (terms_at r.admission.fixed terms) (HasOnly.of_const step) (only-terms_at r.admission.fixed terms (only-variables count)))
      (each-append (scrutinee_at r terms) (terms_at (remaining_positions count r) terms) (only-terms_at _ terms (only-variables count))
      (only-terms_at (remaining_positions count r) terms (only-variables count)))))))

  pub recursive-names : (r : Recursion) (d : Draft) → function_entry S plan (Some r) ≡ Ok d → HasNames (function_candidates S plan (Some r)) d
  recursive-names r d e =
      let candidates = function_candidates S plan (Some r) in
      let table = with_names [] candidates in
      let number = number_in plan.base table in
      let covers = covers-more S plan.base (length table) based.base in
      draft-names plan.name plan.base candidates (λ number. plan.type) (function_by_recursion plan r) d e (only-type covers) (only-by_recursion r number covers (candidates-numbered plan.base candidates))

module _ (S : Signature) (plan : Plan) (planned : IsPlanned S plan) where
  based : IsBased S plan
  based = is-based S plan planned

  pub step-names : (r : Recursion) (d : Draft) → recursion_of S plan ≡ Some r → step_entry S plan r ≡ Ok d → HasNames (step_candidates S plan r) d
  step-names r d is e =
      let part = own_part plan in
      let order = order_of (length part.tele) (Some r) in
      let candidates = step_candidates S plan r in
      let table = with_names [] candidates in
      let number = number_in plan.base table in
      let covers = covers-more S plan.base (length table) planned.base in
      let named = candidates-numbered plan.base candidates in
      let sides = each-left (side_names plan (Some r) 0) _ named in
      let recursion = recursion-there S number plan (Some r) 0 (only-families S planned.ready.scoped covers) is sides in
      let node = only-step_node S plan based r number covers recursion in
      let names = each-right (side_names plan (Some r) 0) (tree_names S part.level part.tree (step_node plan r (λ name. plan.base))) named in
      draft-names (step_name plan.name) plan.base candidates (λ number. products (step_telescope plan r number) (step_goal plan r))
      (λ number. functions (step_telescope plan r number) (part_term S plan (Some r) part order (step_node plan r number) number)) d e
      (only-products (step_telescope plan r number) (step_goal plan r) node.context node.goal)
      (only-functions (step_telescope plan r number) _ node.context
      (only-part_term S number plan (Some r) 0 part order (step_node plan r number) planned is (own-is S plan planned) covers sides
      (subst (NumbersHave (IsInTable plan.base table) number)
      (tree-names S part.level part.tree (step_node plan r (λ name. plan.base)) (step_node plan r number) (step-like plan r (λ name. plan.base) number)) names)
      node))

  only-helper_node : {Q : ℕ → Type 0} (o : Option Recursion) (k : ℕ) (part : Part) (number : Naming) → CoversConstants Q S → OptionOnly (RecursionOnly Q number plan) o
      → IsPart S plan k part → NodeOnly Q (helper_node plan o part number)
  only-helper_node None k part number covers h p = record {
    context = only-telescope S 0 part.tele covers p.is.context_scoped;
    goal = only-scoped S (length part.tele) part.goal covers p.is.goal_scoped;
  }
  only-helper_node (Some r) k part number covers h p = record {
    context =
        each-append part.tele (below_type number plan r part.terms ∷ []) (only-telescope S 0 part.tele covers p.is.context_scoped)
        (Each.more (only-below_type number plan r part.terms h (own-tele S plan based covers) (only-all_scoped S (length part.tele) part.terms covers p.is.terms_scoped)) Each.none);
    goal = only-lift part.goal 1 0 (only-scoped S (length part.tele) part.goal covers p.is.goal_scoped);
  }

  pub helper-names : (o : Option Recursion) (k : ℕ) (part : Part) (d : Draft) → recursion_of S plan ≡ o → IsPart S plan k part → helper_entry S plan o k part ≡ Ok d
      → HasNames (helper_candidates S plan o k part) d
  helper-names o k part d is p e =
      let candidates = helper_candidates S plan o k part in
      let table = with_names [] candidates in
      let number = number_in plan.base table in
      let covers = covers-more S plan.base (length table) planned.base in
      let named = candidates-numbered plan.base candidates in
      let sides = each-left (side_names plan o k) _ named in
      let recursion = recursion-there S number plan o k (only-families S planned.ready.scoped covers) is sides in
      let node = only-helper_node o k part number covers recursion p in
      let names = each-right (side_names plan o k) (tree_names S part.level part.tree (helper_node plan o part (λ name. plan.base))) named in
      draft-names (helper_name plan.name k) plan.base candidates (λ number. products (helper_node plan o part number).context (helper_node plan o part number).goal)
      (λ number.
      functions (helper_node plan o part number).context (part_term S plan o part (order_of (length part.tele) None) (helper_node plan o part number) number)) d e
      (only-products (helper_node plan o part number).context (helper_node plan o part number).goal node.context node.goal)
      (only-functions (helper_node plan o part number).context _ node.context
      (only-part_term S number plan o k part (order_of (length part.tele) None) (helper_node plan o part number) planned is p covers sides
      (subst (NumbersHave (IsInTable plan.base table) number)
      (tree-names S part.level part.tree (helper_node plan o part (λ name. plan.base)) (helper_node plan o part number) (helper-like plan o part (λ name. plan.base) number)) names)
      node))

  pub function-names : (o : Option Recursion) (d : Draft) → recursion_of S plan ≡ o → function_entry S plan o ≡ Ok d → HasNames (function_candidates S plan o) d
  function-names None d is e =
      let part = own_part plan in
      let candidates = function_candidates S plan None in
      let table = with_names [] candidates in
      let number = number_in plan.base table in
      let covers = covers-more S plan.base (length table) planned.base in
      let named = candidates-numbered plan.base candidates in
      draft-names plan.name plan.base candidates (λ number. plan.type)
      (λ number. functions part.tele (part_term S plan None part (order_of (length part.tele) None) (own_node plan) number)) d e (only-type S plan based covers)
      (only-functions part.tele _ (own-tele S plan based covers)
      (only-part_term S number plan None 0 part (order_of (length part.tele) None) (own_node plan) planned is (own-is S plan planned) covers
      (each-left (side_names plan None 0) _ named) (each-right (side_names plan None 0) (tree_names S part.level part.tree (own_node plan)) named)
      (record { context = own-tele S plan based covers; goal = own-goal S plan based covers })))
  function-names (Some r) d is e = recursive-names S plan based r d e
