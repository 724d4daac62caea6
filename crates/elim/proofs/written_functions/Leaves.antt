-- The equation of a clause at a leaf of its tree is one of the clause as it is written.
use Rattle.std.proofs.Common.{◌≡◌, ℕ, zero, suc, ◌+◌, ◌<◌, ◌==◌, Bool, true, false, cond, Some, List, [], ◌∷◌, length, map, slice_get, get_or, Result, Ok, IfOk, refl, sym, ap, ap₂, ◌∙◌, subst as transport, arith, eq-eqb}
use Rattle.std.specs.List.{All}
use Rattle.std.proofs.lemmas.Bool.{eqb-true, false≢true}
use Rattle.std.proofs.lemmas.List.Elements.{All-append, All-cons, All-map, All-nil}
use Rattle.theory.specs.Terms.{Term}
use Rattle.theory.specs.Eliminators.{no_variable}
use Rattle.theory.specs.Telescopes.{Telescope, variables}
use Rattle.theory.specs.Conversion.{Converts}
use Rattle.theory.specs.Signatures.{Signature, IsPrefix}
use Rattle.theory.specs.WellFormed.{provisional}
use Rattle.theory.proofs.Lists.{some_is}
use Rattle.theory.proofs.ScopedTypes.{length-variables}
use Rattle.core_terms.specs.CaseTrees as tree
use Rattle.core_terms.specs.CaseTrees.{Tree, Branch, Branches, Walk}
use Rattle.core_terms.specs.Patterns as pattern
use Rattle.core_terms.specs.Patterns.{Pats}
use Rattle.tele_eq.specs.Items.{each_position, term_at}
use Rattle.tele_eq.specs.Levels.{place_in}
use Rattle.tele_eq.specs.ReflexivityLaws.{EachConverts}
use Rattle.unification.proofs.UnderInstances.{each-same}
use Rattle.case_trees.specs.pattern_vectors.Matching.{matches, matches_all}
use Rattle.case_trees.proofs.pattern_vectors.Separate.{and-both}
use Rattle.case_trees.proofs.KeptConversion.{all-convert}
use Rattle.case_trees.proofs.SolvedOrders.{not-equal}
use Rattle.case_trees.proofs.TreeMatching.{leaves_lead, leaves_match}
use Rattle.case_trees.specs.Kept.{KeptAll}
use Rattle.case_trees.specs.Laws.{IsLeafOf, LeadsTo}
use Rattle.case_trees.specs.Places.{all_variable_places}
use Rattle.case_trees.specs.Points.{start_at, under_solution}
use Rattle.case_trees.specs.Standing.{EachLeaf, EachLeafIn, EachLeafOf, LeafProperty}
use Rattle.case_trees.specs.Stops.{TreeStop}
use Rattle.tree_translation.specs.Conditions.{patterns_of}
use Rattle.tree_translation.specs.Mappings.{in_old_order}
use Rattle.tree_translation.specs.Plans.{Part, Plan}
use Rattle.tree_translation.specs.Standings.{levels_from}
use Rattle.tree_translation.proofs.LevelLists.{length-levels}
use Rattle.clause_reports.specs.Equations.{Equation, all_shown, in_signature, leaf_site, left_side, part_at, pats_of, right_side, side_of}
use Rattle.clause_reports.specs.Reports.{order_in, shown_leaf}
use Rattle.clause_reports.specs.Shadows.{TreeLeaf, equation_at_leaf, leaves_below, leaves_in_branch, leaves_of}
use Rattle.clause_reports.specs.elaboration.Walking.{Opened, Walked}
use Rattle.function_session.proofs.equation_laws.LeftShowing.{IsAt, equation-is}
use Rattle.function_session.proofs.equation_laws.ShownTerms.{all-fit, all-written}
use Rattle.function_checks.proofs.function_clauses.Fitting.{clauses-for}
use Rattle.resolve.specs.Functions.{Function}
use Rattle.resolve.specs.Scoping.{count}
use Rattle.elim.specs.written_functions.Clauses.{ConvertsAt, Placed, Values, left_of, written_in}
use Rattle.elim.proofs.written_functions.Equations.{AreLast, families, left-is, own-walk, placed_at, right-is, written-is}
use Rattle.elim.proofs.written_functions.PlanClauses.{IsPlaced, columns-are, placed-pats, placed-side}
use Rattle.elim.proofs.written_functions.PlanGiven.{IsPlanGiven, helper-made, own-made, start_ordered}
use Rattle.elim.proofs.written_functions.Recursors.{filled}
use Rattle.elim.proofs.written_functions.Walked.{IsPartGiven, part-given}

-- ---- variables in their own order

place-level : (at count k : ℕ) → k < count → place_in (levels_from at count) (at + k) ≡ k
place-level at zero k lt = absurd (omega (arith, lt))
place-level at (suc count) zero lt =
    ap (λ test. cond test zero (place_in (levels_from (at + 1) count) (at + zero) + 1)) (eq-eqb at (at + zero) (omega arith))
place-level at (suc count) (suc k) lt =
    let e : at + 1 + k ≡ at + suc k = omega arith in
    let inner : place_in (levels_from (at + 1) count) (at + suc k) ≡ k =
    ap (place_in (levels_from (at + 1) count)) (sym e) ∙ place-level (at + 1) count k (omega (arith, lt)) in
    let other : (at == at + suc k) ≡ false = not-equal at (at + suc k) (λ same. omega (arith, same)) in
    ap (λ test. cond test zero (place_in (levels_from (at + 1) count) (at + suc k) + 1)) other ∙ omega (arith, inner)

each-as : (g h : ℕ → Term) (j count : ℕ) → ((i : ℕ) → i < j + count → g i ≡ h i) → each_position g j count ≡ each_position h j count
each-as g h j zero same = refl
each-as g h j (suc count) same =
    ap₂ (λ t ts. t ∷ ts) (same j (omega arith)) (each-as g h (j + 1) count (λ i lt. same i (omega (arith, lt))))

shifted : (g : ℕ → Term) (j count : ℕ) → each_position g (j + 1) count ≡ each_position (λ i. g (suc i)) j count
shifted g j zero = refl
shifted g j (suc count) = ap₂ (λ t ts. t ∷ ts) (ap g (let e : j + 1 ≡ suc j = omega arith in e)) (shifted g (j + 1) count)

each-term : (ts : List Term) → each_position (term_at ts) 0 (length ts) ≡ ts
each-term [] = refl
each-term (t ∷ ts) = ap (λ rest. t ∷ rest) (shifted (term_at (t ∷ ts)) 0 (length ts) ∙ each-term ts)

same-order : (n : ℕ) (ts : List Term) → length ts ≡ n → in_old_order (levels_from 0 n) ts ≡ ts
same-order n ts long =
    ap (each_position (λ i. term_at ts (place_in (levels_from 0 n) i)) 0) (length-levels 0 n ∙ sym long)
    ∙ (each-as (λ i. term_at ts (place_in (levels_from 0 n) i)) (term_at ts) 0 (length ts)
    (λ i lt. ap (term_at ts) (ap (place_in (levels_from 0 n)) (let e : i ≡ 0 + i = omega arith in e) ∙ place-level 0 n i (omega (arith, lt, long))))
    ∙ each-term ts)

-- patterns that match are as many as the terms
matched-long : (W : Signature) (pats : Pats) (us : List Term) → matches_all W pats us ≡ true → count pats ≡ length us
matched-long W pattern.nil [] is = refl
matched-long W pattern.nil (u ∷ us) is = absurd (false≢true is)
matched-long W (pattern.cons pat pats) [] is = absurd (false≢true is)
matched-long W (pattern.cons pat pats) (u ∷ us) is =
    let rest : count pats ≡ length us = matched-long W pats us (and-both (matches W pat u) (matches_all W pats us) is).1 in omega (arith, rest)

-- ---- the leaves of a clause

mutual
  leaf-all : (P : LeafProperty) (Q : TreeLeaf → Type 0) (number : ℕ)
      → ((context : Telescope) (goal : Term) (s us bs : List Term) → P number context goal s us bs
      → Q (record { context = context; goal = goal; substitution = s; terms = us; binds = bs })) → (t : Tree) → EachLeaf P t → All Q (leaves_of number t)
  leaf-all P Q number h (tree.Leaf n context goal s us bs) p = by (n == number) refl
    where
      by : (b : Bool) → (n == number) ≡ b
          → All Q (cond b (record { context = context; goal = goal; substitution = s; terms = us; binds = bs } ∷ []) [])
      by true e = All-cons Q _ [] (h context goal s us bs (transport (λ m. P m context goal s us bs) (eqb-true n number e) p)) (All-nil Q)
      by false e = All-nil Q
  leaf-all P Q number h (tree.Split context x n type branches) p = leaf-all-below P Q number h branches p

  leaf-all-below : (P : LeafProperty) (Q : TreeLeaf → Type 0) (number : ℕ)
      → ((context : Telescope) (goal : Term) (s us bs : List Term) → P number context goal s us bs
      → Q (record { context = context; goal = goal; substitution = s; terms = us; binds = bs })) → (branches : Branches) → EachLeafOf P branches
      → All Q (leaves_below number branches)
  leaf-all-below P Q number h tree.nil p = All-nil Q
  leaf-all-below P Q number h (tree.cons branch branches) p =
      All-append Q (leaves_in_branch number branch) (leaves_below number branches) (leaf-all-in P Q number h branch p.0)
      (leaf-all-below P Q number h branches p.1)

  leaf-all-in : (P : LeafProperty) (Q : TreeLeaf → Type 0) (number : ℕ)
      → ((context : Telescope) (goal : Term) (s us bs : List Term) → P number context goal s us bs
      → Q (record { context = context; goal = goal; substitution = s; terms = us; binds = bs })) → (branch : Branch) → EachLeafIn P branch
      → All Q (leaves_in_branch number branch)
  leaf-all-in P Q number h (tree.Absurd steps context u v) p = All-nil Q
  leaf-all-in P Q number h (tree.Solved steps origins subtree) p = leaf-all P Q number h subtree p

-- the equation of the clause is there at a leaf, and its sides convert
abbrev pub ConvertsThere : Signature → Plan → (k number : ℕ) → Walk → TreeLeaf → Type 0
ConvertsThere S plan k number w leaf =
    (e : Equation) × (equation_at_leaf S plan k number (order_in S plan k) w leaf ≡ Ok e) × Converts S e.left e.right

module _ (S : Signature) (f : Function) (plan : Plan) (h : IsPlanGiven S f plan) where
  given-at : (k : ℕ) (v : Walked) → slice_get (h.own ∷ h.helpers) k ≡ Some v → IsPartGiven S f (h.own ∷ h.helpers) k v
  given-at k v at =
      transport (λ n. IsPartGiven S f (h.own ∷ h.helpers) n v) (let e : 0 + k ≡ k = omega arith in e)
      (part-given S f (h.own ∷ h.helpers) 0 (h.own ∷ h.helpers) k v h.given at)

  -- the leaves of a part match their clauses

  leaves-match : (k : ℕ) (v : Walked) → slice_get (h.own ∷ h.helpers) k ≡ Some v
      → EachLeaf (λ number context goal s us bs. IsLeafOf (provisional S f.name f.type) v.clauses number us bs) (part_at plan k).tree
  leaves-match zero v at =
      let T = provisional S f.name f.type in
      let made = own-made S f plan h in
      let start = start_ordered h.order h.own.part in
      transport (λ (x : Walked). EachLeaf (λ number context goal s us bs. IsLeafOf T x.clauses number us bs) (part_at plan 0).tree)
      (let same : h.own ≡ v = cc in same)
      (transport (EachLeaf (λ number context goal s us bs. IsLeafOf T h.own.clauses number us bs)) (sym (ap (λ (p : Part). p.tree) made.is))
      (transport (λ (r : Result Tree TreeStop). IfOk r (EachLeaf (λ number context goal s us bs. IsLeafOf T h.own.clauses number us bs))) made.splits
      (leaves_match T start.context start.goal start.terms h.own.clauses made.units h.own_start h.own_clauses)))
  leaves-match (suc k) v at =
      let T = provisional S f.name f.type in
      let made = helper-made S f plan h k v at in
      let given = (given-at (suc k) v at).walkable in
      transport (EachLeaf (λ number context goal s us bs. IsLeafOf T v.clauses number us bs)) (sym (ap (λ (p : Part). p.tree) made.is))
      (transport (λ (r : Result Tree TreeStop). IfOk r (EachLeaf (λ number context goal s us bs. IsLeafOf T v.clauses number us bs))) made.splits
      (leaves_match T v.part.tele v.part.goal v.part.terms v.clauses made.units given.given (clauses-for T v.part.terms v.clauses given.fitting)))

  -- those of a helper have its columns
  leaves-lead : (k : ℕ) (v : Walked) → slice_get (h.own ∷ h.helpers) (suc k) ≡ Some v
      → EachLeaf (λ number context goal s us bs. LeadsTo (provisional S f.name f.type) (start_at v.part.tele v.part.goal v.part.terms) goal s us)
      (part_at plan (suc k)).tree
  leaves-lead k v at =
      let T = provisional S f.name f.type in
      let made = helper-made S f plan h k v at in
      let given = (given-at (suc k) v at).walkable in
      let start = start_at v.part.tele v.part.goal v.part.terms in
      transport (EachLeaf (λ number context goal s us bs. LeadsTo T start goal s us)) (sym (ap (λ (p : Part). p.tree) made.is))
      (transport (λ (r : Result Tree TreeStop). IfOk r (EachLeaf (λ number context goal s us bs. LeadsTo T start goal s us))) made.splits
      (leaves_lead T v.part.tele v.part.goal v.part.terms v.clauses made.units given.given (clauses-for T v.part.terms v.clauses given.fitting)))

  -- a leaf of a helper leads there from its columns; of the function itself nothing is asked
  abbrev IsLed : (k : ℕ) → Walked → TreeLeaf → Type 0
  IsLed zero v leaf = Unit {0}
  IsLed (suc k) v leaf = LeadsTo (provisional S f.name f.type) (start_at v.part.tele v.part.goal v.part.terms) leaf.goal leaf.substitution leaf.terms

  all-matched : (k number : ℕ) (v : Walked) → slice_get (h.own ∷ h.helpers) k ≡ Some v
      → All (λ (leaf : TreeLeaf). IsLeafOf (provisional S f.name f.type) v.clauses number leaf.terms leaf.binds) (leaves_of number (part_at plan k).tree)
  all-matched k number v at =
      leaf-all (λ number context goal s us bs. IsLeafOf (provisional S f.name f.type) v.clauses number us bs)
      (λ (leaf : TreeLeaf). IsLeafOf (provisional S f.name f.type) v.clauses number leaf.terms leaf.binds) number
      (λ context goal s us bs p. p) (part_at plan k).tree (leaves-match k v at)

  all-led : (k number : ℕ) (v : Walked) → slice_get (h.own ∷ h.helpers) k ≡ Some v → All (IsLed k v) (leaves_of number (part_at plan k).tree)
  all-led zero number v at = λ i d less. tt
  all-led (suc k) number v at =
      leaf-all (λ number context goal s us bs. LeadsTo (provisional S f.name f.type) (start_at v.part.tele v.part.goal v.part.terms) goal s us)
      (IsLed (suc k) v) number (λ context goal s us bs p. p) (part_at plan (suc k)).tree (leaves-lead k v at)

  -- ---- sides at a leaf

  module _ (values : List Values) (U : Signature) (prefix : IsPrefix S U) (last : AreLast f plan values U) where
    -- the left side of a clause at a leaf, with terms for the telescope
    record HasLeft (k : ℕ) (leaf : TreeLeaf) (shown : List Term) (u : Term) : Type 0 where
      there : List Term
      led : EachConverts (provisional S f.name f.type) (map (under_solution there) (part_at plan k).terms) leaf.terms
      is : u ≡ left_of U (placed_at S f plan values) k there leaf.terms shown

    leaf-left : (k number : ℕ) (w : Walk) (c : Placed) (p : IsPlaced S f plan h k number w c) (leaf : TreeLeaf) (u : Term) → IsLed k p.made_of leaf
        → length leaf.terms ≡ length p.made_of.part.terms
        → u ≡ left_side U plan k c.pats (leaf_site (order_in U plan k) w leaf.context leaf.goal leaf.substitution leaf.terms leaf.binds)
        → HasLeft k leaf (all_shown U (λ t. in_signature U plan (under_solution leaf.binds t)) c.pats leaf.terms) u
    leaf-left zero number w c p leaf u led long e =
        let X = provisional S f.name f.type in
        let site = leaf_site (order_in U plan 0) w leaf.context leaf.goal leaf.substitution leaf.terms leaf.binds in
        let own : p.made_of.part.terms ≡ variables f.arity =
        ap (λ (x : Walked). x.part.terms) (let same : p.made_of ≡ h.own = let at = p.at in cc in same) ∙ ap (λ (q : Opened). q.terms) h.own_opened in
        let there : (part_at plan 0).terms ≡ variables (length leaf.terms) =
        columns-are S f plan h 0 p.made_of p.at ∙ (own ∙ ap variables (sym (long ∙ (ap length own ∙ length-variables f.arity)))) in
        record {
          there = leaf.terms;
          led =
              transport (λ us. EachConverts X us leaf.terms)
              (sym (ap (map (under_solution leaf.terms)) there ∙ filled no_variable leaf.terms)) (each-same X leaf.terms);
          is = left-is S f plan h values U prefix 0 c.pats site p.made_of u last p.at (omega (arith, p.wide, long)) e;
        }
    leaf-left (suc k) number w c p leaf u led long e =
        let X = provisional S f.name f.type in
        let site = leaf_site (order_in U plan (suc k)) w leaf.context leaf.goal leaf.substitution leaf.terms leaf.binds in
        let whole : length leaf.substitution ≡ length (part_at plan (suc k)).tele =
        led.whole ∙ sym (ap (λ (q : Part). length q.tele) (helper-made S f plan h k p.made_of p.at).is) in
        let same : in_old_order (levels_from 0 (length (part_at plan (suc k)).tele)) leaf.substitution ≡ leaf.substitution =
        same-order (length (part_at plan (suc k)).tele) leaf.substitution whole in
        record {
          there = site.substitution;
          led =
              transport (λ vs. EachConverts X (map (under_solution vs) (part_at plan (suc k)).terms) leaf.terms) (sym same)
              (transport (λ us. EachConverts X (map (under_solution leaf.substitution) us) leaf.terms)
              (sym (columns-are S f plan h (suc k) p.made_of p.at)) led.terms_there);
          is = left-is S f plan h values U prefix (suc k) c.pats site p.made_of u last p.at (omega (arith, p.wide, long)) e;
        }

    leaf-converts : (k number : ℕ) (w : Walk) (c : Placed) (p : IsPlaced S f plan h k number w c) (leaf : TreeLeaf)
        → IsLeafOf (provisional S f.name f.type) p.made_of.clauses number leaf.terms leaf.binds → IsLed k p.made_of leaf
        → ConvertsThere U plan k number w leaf → ConvertsAt U (placed_at S f plan values) c (shown_leaf leaf)
    leaf-converts k number w c p leaf m led (e, made, converts) =
        let T = provisional S f.name f.type in
        let at = placed_at S f plan values in
        let site = leaf_site (order_in U plan k) w leaf.context leaf.goal leaf.substitution leaf.terms leaf.binds in
        let wr : Term → Term = λ t. in_signature U plan (under_solution leaf.binds t) in
        let is : IsAt U plan k (pats_of (part_at plan k) number) (side_of (part_at plan k) number) site e =
        equation-is U plan k (pats_of (part_at plan k) number) (side_of (part_at plan k) number) site e made in
        let pats : m.pats ≡ c.pats = ap patterns_of (some_is (sym m.clause ∙ p.there)) in
        let matched : matches_all T c.pats leaf.terms ≡ true = transport (λ ps. matches_all T ps leaf.terms ≡ true) pats m.matched in
        let bound : KeptAll T leaf.binds (all_variable_places T c.pats leaf.terms) =
        transport (λ ps. KeptAll T leaf.binds (all_variable_places T ps leaf.terms)) pats m.bound in
        let long : length leaf.terms ≡ length p.made_of.part.terms = sym (matched-long T c.pats leaf.terms matched) ∙ p.one.resolved.0 in
        let left =
        leaf-left k number w c p leaf e.left led long (is.left ∙ ap (λ ps. left_side U plan k ps site) (placed-pats S f plan h k number w c p)) in
        let right =
        right-is S f plan h values U prefix w site (length p.made_of.part.terms) c.helper c.pats c.binds c.right p.side e.right last p.one.is_side
        p.one.resolved p.one.fit.scoped (omega (arith, p.wide, long))
        (is.right ∙ ap (λ side. right_side U plan side site) (placed-side S f plan h k number w c p)) in
        let stay = families S f plan h values U prefix in
        record {
          walk = w;
          own = own-walk S f plan h values k number w c p;
          equation = e;
          context = is.context;
          found = all_variable_places T c.pats leaf.terms;
          binds = leaf.binds;
          same = all-convert T leaf.binds (all_variable_places T c.pats leaf.terms) bound;
          values = left.there;
          led = transport (λ n. EachConverts T (map (under_solution left.there) (part_at plan n).terms) leaf.terms) (sym p.part) left.led;
          walked = site.walked;
          is = record {
            shown = all_shown U wr c.pats leaf.terms;
            fit =
                all-written U wr (written_in U at leaf.binds) (written-is S f plan h values U prefix leaf.binds) c.pats leaf.terms
                (all_shown U wr c.pats leaf.terms) (all_variable_places T c.pats leaf.terms) (all-fit T U wr stay c.pats leaf.terms matched);
            left = transport (λ n. e.left ≡ left_of U at n left.there leaf.terms (all_shown U wr c.pats leaf.terms)) (sym p.part) left.is;
            right = right;
          };
          converts = converts;
        }

    -- at all leaves of a clause, as they are shown
    pub leaves-convert : (k number : ℕ) (w : Walk) (c : Placed) → IsPlaced S f plan h k number w c
        → All (ConvertsThere U plan k number w) (leaves_of number (part_at plan k).tree)
        → All (ConvertsAt U (placed_at S f plan values) c) (map shown_leaf (leaves_of number (part_at plan k).tree))
    leaves-convert k number w c p all =
        let leaves = leaves_of number (part_at plan k).tree in
        All-map (ConvertsAt U (placed_at S f plan values) c) shown_leaf leaves
        (λ i d less.
        leaf-converts k number w c p (get_or leaves i d) (all-matched k number p.made_of p.at i d less) (all-led k number p.made_of p.at i d less)
        (all i d less))
