-- The names of each draft of a function over a pair differ, and each is generated or that of an entry before it.
use Rattle.std.proofs.Common.{◌≡◌, ◌≢◌, ◌⊎◌, inl, inr, ℕ, zero, suc, ◌+◌, ◌-◌, Option, Some, None, List, [], ◌∷◌, ◌++◌, length, take, drop, map, All, AllPairs, Ok, refl, sym, ap, subst, ◌∙◌, arith}
use Rattle.std.specs.List.{Any}
use Rattle.theory.specs.Terms.{Term, Sort, Const}
use Rattle.theory.specs.Telescopes.{applied, functions, products}
use Rattle.theory.specs.Signatures.{Signature}
use Rattle.core_sig.specs.Drafts.{Draft}
use Rattle.tele_eq.specs.Items.{each_position}
use Rattle.tree_translation.specs.Naming.{Naming, below_name, helper_name, motive_name, number_in, rec_name, step_name, with_names}
use Rattle.tree_translation.specs.Plans.{Plan, own_part}
use Rattle.tree_translation.specs.Recursion.{NamedRecursion, motive_with, order_of, parameters_at, remaining_positions, scrutinee_at, terms_at}
use Rattle.tree_translation.specs.TreeTerms.{tree_names}
use Rattle.tree_translation.specs.Entries.{helper_names, ordered_variables, step_goal, step_telescope, term_with}
use Rattle.tree_translation.specs.Laws.{IsAmong, IsGenerated, below as generated_below, name_of, rec as generated_rec}
use Rattle.tree_translation.proofs.EntryNames.{made-name, motive-made}
use Rattle.entry_laws.proofs.OnlyConstants.{Each, each-append, each-drop, each-left, each-right, each-take, each-weaker, HasOnly, only-applied, only-functions, only-products}
use Rattle.entry_laws.proofs.OnlyEntries.{IsBased, covers-more, function_candidates, motive-names, only-ordered_variables, only-step_node, own-tele, recursive-names, only-term_with}
use Rattle.entry_laws.proofs.OnlyFamilies.{CoversConstants, only-families}
use Rattle.entry_laws.proofs.OnlyLeaves.{NamedOnly, RecursionOnly, only-motive_with, only-parameters_at, only-terms_at}
use Rattle.entry_laws.proofs.OnlyRuns.{NumbersHave}
use Rattle.entry_laws.proofs.GrowingDrafts.{Grows, IsKnown, among-here, among-later, grows-at, grows-differ, known-generated, names-known}
use Rattle.entry_laws.proofs.NameLaws.{among-any, tree-generated}
use Rattle.entry_laws.proofs.SameNames.{tree-names}
use Rattle.entry_laws.proofs.TableNames.{HasNames, IsInTable, all-each, candidates-numbered, draft-names}
use Rattle.lex_recursion.specs.PairConditions.{IsPairPlanned}
use Rattle.lex_recursion.specs.PairEntries.{PairRecursion, behind_first, below_names, first_step_entry, first_step_names, motive2_entry, motive2_name, order_over, pair_goal, pair_recursions, pair_telescope, second_call, second_count, second_named, step2_entry, step2_name, step2_names, step2_node, step_terms, step_value}
use Rattle.pair_laws.specs.Laws.{PairEarlierAlone, PairNamesDiffer}
use Rattle.pair_laws.proofs.PairDrafts.{AreFive, five-of, first_step-made, motive2-made, step2-made}
use Rattle.pair_laws.proofs.PairNodes.{HasFamilies, PairOnly, only-behind_first, only-both, only-pair_goal, only-pair_telescope, only-step2_node, pair-families, step2-like}

pub based-of : (S : Signature) (plan : Plan) (second : ℕ) → IsPairPlanned S plan second → IsBased S plan
based-of S plan second planned = record {
  ready = planned.ready;
  base = planned.base;
  type = planned.type;
  own = record { uses = planned.uses; context = _; goal = _; terms = _; is = planned.own };
}

-- the candidates of the second step
abbrev step2_candidates : Signature → Plan → PairRecursion → List (List ℕ)
step2_candidates S plan p = step2_names plan p ++ tree_names S (own_part plan).level (own_part plan).tree (step2_node plan p (λ name. plan.base))

no-helpers : (Q : ℕ → Type 0) (number : Naming) (plan : Plan) → plan.parts ≡ own_part plan ∷ [] → NumbersHave Q number (helper_names plan 0)
no-helpers Q number plan alone =
    subst (λ parts. NumbersHave Q number (each_position (helper_name plan.name) (0 + 1) (length (drop 1 parts) - 0))) (sym alone) Each.none

module _ (S : Signature) (plan : Plan) (p : PairRecursion) (based : IsBased S plan) (there : HasFamilies S p) where
  -- the recursions, from the numbers of the first candidates
  outer-only : {Q : ℕ → Type 0} (number : Naming) → CoversConstants Q S → Q (number (below_name p.outer.family plan.level)) → Q (number (motive_name plan.name)) → RecursionOnly Q number plan p.outer
  outer-only number covers below motive = record {
    below = below;
    motive = motive;
    family = only-families S based.ready.scoped covers p.outer.admission.number p.outer.family there.outer;
  }

  both-only : {Q : ℕ → Type 0} (number : Naming) → CoversConstants Q S → NumbersHave Q number (step2_names plan p) → PairOnly Q number plan p
  both-only number covers (Each.more below (Each.more motive (Each.more below2 (Each.more motive2 none)))) = record {
    outer = outer-only number covers below motive;
    inner = record {
      below = below2;
      motive = motive2;
      family = only-families S based.ready.scoped covers p.inner.admission.number p.inner.family there.inner;
    };
  }

  pub motive2-names : (d : Draft) → motive2_entry plan p ≡ Ok d → HasNames (below_names plan p) d
  motive2-names d e =
      let candidates = below_names plan p in
      let table = with_names [] candidates in
      let number = number_in plan.base table in
      let covers = covers-more S plan.base (length table) based.base in
      let first = second_count p in
      let tele = pair_telescope plan p number in
      let all = over number covers (candidates-numbered plan.base candidates) in
      draft-names (motive2_name plan.name) plan.base candidates (λ number. products (take first (pair_telescope plan p number)) (Sort plan.level))
      (λ number. functions (take first (pair_telescope plan p number)) (products (drop first (pair_telescope plan p number)) (pair_goal plan p))) d e
      (only-products (take first tele) (Sort plan.level) (each-take first tele all) HasOnly.of_sort)
      (only-functions (take first tele) _ (each-take first tele all)
      (only-products (drop first tele) (pair_goal plan p) (each-drop first tele all) (only-pair_goal S plan p based covers)))
    where
      over : {Q : ℕ → Type 0} (number : Naming) → CoversConstants Q S → NumbersHave Q number (below_names plan p) → Each (HasOnly Q) (pair_telescope plan p number)
      over number covers (Each.more below (Each.more motive none)) = only-pair_telescope S plan p based number covers (outer-only number covers below motive)

  pub step2-names : plan.parts ≡ own_part plan ∷ [] → (d : Draft) → step2_entry S plan p ≡ Ok d → HasNames (step2_candidates S plan p) d
  step2-names alone d e =
      let part = own_part plan in
      let candidates = step2_candidates S plan p in
      let table = with_names [] candidates in
      let number = number_in plan.base table in
      let covers = covers-more S plan.base (length table) based.base in
      let named = candidates-numbered plan.base candidates in
      let both = both-only number covers (each-left (step2_names plan p) _ named) in
      let node = only-step2_node S plan p based number covers both in
      let names = each-right (step2_names plan p) (tree_names S part.level part.tree (step2_node plan p (λ name. plan.base))) named in
      draft-names (step2_name plan.name) plan.base candidates (λ number. products (step2_node plan p number).context (step2_node plan p number).goal)
      (λ number. functions (step2_node plan p number).context (term_with S plan (pair_recursions plan p) part (order_over plan p) (step2_node plan p number) number)) d e
      (only-products (step2_node plan p number).context (step2_node plan p number).goal node.context node.goal)
      (only-functions (step2_node plan p number).context _ node.context
      (only-term_with S number plan (pair_recursions plan p) 0 part (order_over plan p) (step2_node plan p number) based.ready based.base based.own covers
      (only-both number plan p both) (no-helpers (IsInTable plan.base table) number plan alone)
      (subst (NumbersHave (IsInTable plan.base table) number)
      (tree-names S part.level part.tree (step2_node plan p (λ name. plan.base)) (step2_node plan p number) (step2-like plan p (λ name. plan.base) number)) names)
      node))

  only-second_call : {Q : ℕ → Type 0} (number : Naming) → CoversConstants Q S → Q (number (rec_name p.inner.family plan.level)) → Q (number (motive2_name plan.name)) → Q (number (step2_name plan.name))
      → HasOnly Q (second_call plan p number)
  only-second_call number covers rec motive2 step2 =
      let tele = (own_part plan).tele in
      let count = length tele in
      let terms = step_terms plan p in
      let values = step_value plan p ∷ [] in
      let order = order_of count (Some p.outer) in
      let all = only-behind_first p count (ordered_variables order count) (only-ordered_variables order count) in
      let value = Each.more HasOnly.of_var Each.none in
      only-applied (Const (number (rec_name p.inner.family plan.level))) _ (HasOnly.of_const rec)
      (each-append (parameters_at tele p.inner terms) _ (only-parameters_at tele p.inner terms (own-tele S plan based covers) all)
      (Each.more (only-motive_with number (second_named (motive2_name plan.name) p) terms values motive2 all value)
      (Each.more (only-motive_with number (second_named (step2_name plan.name) p) terms values step2 all value)
      (each-append (scrutinee_at p.inner terms) (terms_at (remaining_positions count p.inner) terms) (only-terms_at _ terms all)
      (only-terms_at (remaining_positions count p.inner) terms all)))))

  first_step-by : {Q : ℕ → Type 0} (number : Naming) → CoversConstants Q S → NumbersHave Q number (first_step_names plan p)
      → HasOnly Q (products (step_telescope plan p.outer number) (step_goal plan p.outer))
      × HasOnly Q (functions (step_telescope plan p.outer number) (second_call plan p number))
  first_step-by number covers (Each.more below (Each.more motive (Each.more rec (Each.more motive2 (Each.more step2 none))))) =
      let node = only-step_node S plan based p.outer number covers (outer-only number covers below motive) in (
        only-products (step_telescope plan p.outer number) (step_goal plan p.outer) node.context node.goal,
        only-functions (step_telescope plan p.outer number) (second_call plan p number) node.context (only-second_call number covers rec motive2 step2),
      )

  pub first_step-names : (d : Draft) → first_step_entry plan p ≡ Ok d → HasNames (first_step_names plan p) d
  first_step-names d e =
      let candidates = first_step_names plan p in
      let table = with_names [] candidates in
      let number = number_in plan.base table in
      let both = first_step-by number (covers-more S plan.base (length table) based.base) (candidates-numbered plan.base candidates) in
      draft-names (step_name plan.name) plan.base candidates (λ number. products (step_telescope plan p.outer number) (step_goal plan p.outer))
      (λ number. functions (step_telescope plan p.outer number) (second_call plan p number)) d e both.0 both.1

-- ---- the drafts in turn

outer-generated : (S : Signature) (plan : Plan) (p : PairRecursion) → HasFamilies S p → IsGenerated S (below_name p.outer.family plan.level)
outer-generated S plan p there = generated_below p.outer.admission.number plan.level p.outer.family there.outer refl

inner-generated : (S : Signature) (plan : Plan) (p : PairRecursion) → HasFamilies S p → IsGenerated S (below_name p.inner.family plan.level)
inner-generated S plan p there = generated_below p.inner.admission.number plan.level p.inner.family there.inner refl

drafts-grow : (S : Signature) (plan : Plan) (second : ℕ) (planned : IsPairPlanned S plan second) (all : List Draft) → AreFive S plan planned.pair all → Grows (IsGenerated S) [] all
drafts-grow S plan second planned all five =
    let p = planned.pair in
    let G = IsGenerated S in
    let based = based-of S plan second planned in
    let there = pair-families S plan second p planned.recursion in
    let one = motive-names S plan p.outer five.motive based five.motive_is in
    let two = motive2-names S plan p based there five.motive2 five.motive2_is in
    let three = step2-names S plan p based there planned.alone five.step2 five.step2_is in
    let four = first_step-names S plan p based there five.step five.step_is in
    let last = recursive-names S plan based p.outer five.function five.function_is in
    let m : List ℕ = motive_name plan.name in
    let m2 : List ℕ = motive2_name plan.name in
    let s2 : List ℕ = step2_name plan.name in
    let s : List ℕ = step_name plan.name in
    let m_is = made-name m plan.base five.motive (motive-made plan p.outer five.motive five.motive_is) in
    let m2_is = made-name m2 plan.base five.motive2 (motive2-made plan p five.motive2 five.motive2_is) in
    let s2_is = made-name s2 plan.base five.step2 (step2-made S plan p five.step2 five.step2_is) in
    let s_is = made-name s plan.base five.step (first_step-made plan p five.step five.step_is) in
    let in_m : (names : List (List ℕ)) → IsAmong m (m ∷ names) = λ names. among-here m names in
    subst (Grows G []) (sym five.whole)
    (Grows.more (names-known G [] [] five.motive one Each.none) one.differ
    (subst (λ name. Grows G (name ∷ []) (five.motive2 ∷ five.step2 ∷ five.step ∷ five.function ∷ [])) (sym m_is)
    (Grows.more
    (names-known G (m ∷ []) (below_names plan p) five.motive2 two (Each.more (inl (outer-generated S plan p there)) (Each.more (inr (in_m [])) Each.none)))
    two.differ
    (subst (λ name. Grows G (m ∷ name ∷ []) (five.step2 ∷ five.step ∷ five.function ∷ [])) (sym m2_is)
    (Grows.more
    (names-known G (m ∷ m2 ∷ []) (step2_candidates S plan p) five.step2 three
    (each-append (step2_names plan p) (tree_names S (own_part plan).level (own_part plan).tree (step2_node plan p (λ name. plan.base)))
    (Each.more (inl (outer-generated S plan p there)) (Each.more (inr (in_m (m2 ∷ [])))
    (Each.more (inl (inner-generated S plan p there)) (Each.more (inr (among-later m m2 (m2 ∷ []) (among-here m2 []))) Each.none))))
    (known-generated G (m ∷ m2 ∷ []) _ (tree-generated S (own_part plan).level (own_part plan).tree (step2_node plan p (λ name. plan.base))))))
    three.differ
    (subst (λ name. Grows G (m ∷ m2 ∷ name ∷ []) (five.step ∷ five.function ∷ [])) (sym s2_is)
    (Grows.more
    (names-known G (m ∷ m2 ∷ s2 ∷ []) (first_step_names plan p) five.step four
    (Each.more (inl (outer-generated S plan p there)) (Each.more (inr (in_m (m2 ∷ s2 ∷ [])))
    (Each.more (inl (generated_rec p.inner.admission.number plan.level p.inner.family there.inner refl))
    (Each.more (inr (among-later m m2 (m2 ∷ s2 ∷ []) (among-here m2 (s2 ∷ []))))
    (Each.more (inr (among-later m s2 (m2 ∷ s2 ∷ []) (among-later m2 s2 (s2 ∷ []) (among-here s2 [])))) Each.none))))))
    four.differ
    (subst (λ name. Grows G (m ∷ m2 ∷ s2 ∷ name ∷ []) (five.function ∷ [])) (sym s_is)
    (Grows.more
    (names-known G (m ∷ m2 ∷ s2 ∷ s ∷ []) (function_candidates S plan (Some p.outer)) five.function last
    (Each.more (inl (generated_rec p.outer.admission.number plan.level p.outer.family there.outer refl))
    (Each.more (inr (in_m (m2 ∷ s2 ∷ s ∷ [])))
    (Each.more (inr (among-later m s (m2 ∷ s2 ∷ s ∷ []) (among-later m2 s (s2 ∷ s ∷ []) (among-later s2 s (s ∷ []) (among-here s []))))) Each.none))))
    last.differ Grows.none)))))))))

-- ---- the laws

pub names-differ : PairNamesDiffer
names-differ S plan second drafts planned e =
    all-each (λ d. AllPairs (λ one other. one ≢ other) d.names) drafts
    (grows-differ (IsGenerated S) [] drafts (drafts-grow S plan second planned drafts (five-of S plan second planned.pair drafts planned.recursion e)))

pub earlier-alone : PairEarlierAlone
earlier-alone S plan second drafts planned e before behind d whole =
    let grows = drafts-grow S plan second planned drafts (five-of S plan second planned.pair drafts planned.recursion e) in
    let names = grows-at (IsGenerated S) [] before behind d (subst (Grows (IsGenerated S) []) whole grows) in
    all-each (λ name. IsGenerated S name ⊎ Any (λ e. name_of e ≡ name) before) d.names (each-weaker d.names (λ name is. known name is) names)
  where
    known : (name : List ℕ) → IsKnown (IsGenerated S) (map name_of before) name → IsGenerated S name ⊎ Any (λ e. name_of e ≡ name) before
    known name (inl h) = inl h
    known name (inr h) = inr (among-any name before h)
