-- The entries with a tree are made where their terms are not too high.
use Rattle.std.proofs.Common.{◌≡◌, ℕ, ◌≤◌, Bool, true, false, cond, Option, Some, None, IfSome, List, [], ◌++◌, length, map, get_or, All, Result, Ok, Err, refl, sym, ap, ◌∙◌, subst as transport, arith}
use Rattle.std.proofs.lemmas.List.Elements.{All-weaker}
use Rattle.theory.specs.Terms.{Term, Sort, height}
use Rattle.theory.specs.Telescopes.{Telescope, functions}
use Rattle.theory.specs.Signatures.{Signature}
use Rattle.theory.specs.SignatureScopes.{IsScoped, IsScopedTelescope}
use Rattle.theory.proofs.ScopedTerms.{scoped-wider, telescope-wider}
use Rattle.core_terms.specs.Answers.{and_then, bounded, is_low}
use Rattle.core_terms.specs.declared.stop.Stop.{Stop}
use Rattle.core_terms.specs.declared.stop.Stop.TheVariants.{Deep}
use Rattle.core_terms.proofs.Answers.{low-is}
use Rattle.core_sig.specs.Drafts.{Draft, drafted}
use Rattle.core_sig.specs.Settling.{renumbered}
use Rattle.core_sig.proofs.DraftTerms.{height-renumbered}
use Rattle.unification.specs.ScopedStates.{IsReady}
use Rattle.unification.proofs.ScopedRecords.{variables-scoped}
use Rattle.tree_translation.specs.structural_rec.Uses.{Use}
use Rattle.case_trees.specs.Points.{start_at}
use Rattle.case_trees.specs.Scoped.{IsScopedPoint}
use Rattle.tree_translation.specs.Conditions.{IsPartOf, with_function}
use Rattle.tree_translation.specs.Entries.{part_term, side_names}
use Rattle.tree_translation.specs.Naming.{Naming, drafted_in_order, number_among, number_in, with_names}
use Rattle.tree_translation.specs.Plans.{Part, Plan}
use Rattle.tree_translation.specs.Recursion.{Recursion, recursions_in}
use Rattle.tree_translation.specs.Splits.{Node}
use Rattle.tree_translation.specs.TreeTerms.{Translation, tree_names, tree_term}
use Rattle.tree_translation.proofs.Drafting.{and_then-ok}
use Rattle.entry_laws.proofs.replay_laws.LowParts.{low-functions}
use Rattle.entry_laws.proofs.replay_laws.TreeNodes.{IsNodeOver}
use Rattle.leaf_terms.specs.CallsApart.{CallsStandApart}
use Rattle.function_entries.specs.CodeEntries.{table_made, translation_with, tree_entry_made}
use Rattle.leaf_terms.specs.CodeNumbering.{names_at, numbered, places_of}
use Rattle.function_entries.specs.CodeTrees.{tree_names_made}
use Rattle.entry_laws.specs.node_roots.Laws.{IsRoot}
use Rattle.entry_laws.proofs.SameNames.{IsLikeNode, tree-names}
use Rattle.exact_laws.specs.translation_laws.Laws.{with_function_at}
use Rattle.exact_laws.proofs.translation_laws.FunctionTrees.{function-same}
use Rattle.exact_laws.proofs.translation_laws.SameCode.{tree-names-made-same}
use Rattle.exact_laws.proofs.translation_laws.SameFamilies.{tree-names-same, tree-same}
use Rattle.entry_laws.proofs.draft_scopes.FunctionSignatures.{IsTree, function-numbers, part-tree}
use Rattle.exact_laws.specs.leaf_laws.Laws.{CallsApartBy, PartIsExact}
use Rattle.exact_laws.proofs.deep_laws.AlikeNames.{tree-names-alike}

-- ---- drafts

pub bounded-low : (t u : Term) → bounded t ≡ Ok u → height t ≤ 2000
bounded-low t u e = by (is_low t) refl e
  where
    by : (b : Bool) → is_low t ≡ b → (let answer : Result Term Stop = cond b (Ok t) (Err Deep) in answer ≡ Ok u) → height t ≤ 2000
    by true is k = low-is t is
    by false is k = absurd (cc)

drafted-low : (name : List ℕ) (base : ℕ) (names : List (List ℕ)) (t u : Term) (d : Draft) → drafted name base names t u ≡ Ok d
    → (height t ≤ 2000) × (height u ≤ 2000)
drafted-low name base names t u d e =
    let first = and_then-ok (bounded t) _ d e in
    let second = and_then-ok (bounded u) _ d first.goes in
    (bounded-low t first.answer first.is, bounded-low u second.answer second.is)

-- the type and the term of a draft that is numbered are not too high
pub numbered-low : (name : List ℕ) (base : ℕ) (table : List (List ℕ)) (t u : Term) (d : Draft) → numbered name base table t u ≡ Ok d
    → (height t ≤ 2000) × (height u ≤ 2000)
numbered-low name base table t u d e =
    let places = places_of base t u in
    let r = number_among base places in
    let both = drafted-low name base (names_at table places) (renumbered r t) (renumbered r u) d e in
    (transport (λ h. h ≤ 2000) (height-renumbered r t) both.0, transport (λ h. h ≤ 2000) (height-renumbered r u) both.1)

-- ---- where a tree begins

-- a part, and the node at which its tree begins, for each naming
pub record BeginsAt (S : Signature) (plan : Plan) (uses : List Use) (at : ℕ) (part : Part) (context : Telescope) (goal : Term) (terms : List Term) (node : Naming → Node)
    : Type 0 where
  pub part_is : IsPartOf S plan uses at part context goal terms
  pub scoped : IsScopedPoint (with_function S plan) (start_at context goal terms)
  pub tree : IsTree (with_function S plan) context goal terms part.tree
  pub over : (number : Naming) → IsRoot (node number) context
  pub like : (number other : Naming) → IsLikeNode (node number) (node other)

pub part-begins : (S : Signature) (plan : Plan) (uses : List Use) (at : ℕ) (part : Part) (context : Telescope) (goal : Term) (terms : List Term) (node : Naming → Node)
    → IsReady (with_function S plan) → IsPartOf S plan uses at part context goal terms → IsScopedTelescope S 0 context → IsScoped S (length context) goal
    → All (IsScoped S (length context)) terms → ((number : Naming) → IsRoot (node number) context)
    → ((number other : Naming) → IsLikeNode (node number) (node other)) → BeginsAt S plan uses at part context goal terms node
part-begins S plan uses at part context goal terms node ready is hc hg ht over like =
    let F = with_function S plan in
    let more = function-numbers S plan in
    let n = length context in
    record {
      part_is = is;
      scoped = record {
        context = telescope-wider more 0 context hc;
        goal = scoped-wider more hg;
        substitution = variables-scoped F n n (omega arith);
        terms = All-weaker (IsScoped S n) (IsScoped F n) (λ t h. scoped-wider more h) terms ht;
      };
      tree = part-tree S plan uses at part context goal terms ready is hc hg ht;
      over = over;
      like = like;
    }

-- ---- an entry

-- its names are made at the node of any naming
table-there : (w : Translation) (uses : List Use) (at : ℕ) (context : Telescope) (goal : Term) (terms : List Term) (node : Naming → Node) (start : Naming) (o : Option Recursion)
    → IsReady (with_function w.signature w.plan) → BeginsAt w.signature w.plan uses at w.part context goal terms node
    → height (tree_term w w.part.tree (node w.number)) ≤ 2000
    → table_made w.signature w.plan o at w.part (node start)
    ≡ Ok (with_names [] (side_names w.plan o at ++ tree_names w.signature w.part.level w.part.tree (node (λ name. w.plan.base))))
table-there w uses at context goal terms node start o ready begins low =
    let S = w.signature in
    let F = with_function S w.plan in
    let L = w.part.level in
    let t = w.part.tree in
    let same = function-same S w.plan in
    let names = side_names w.plan o at in
    let a = node start in
    let b = node w.number in
    let one : IsNodeOver a context = record { is_seen = (begins.over start).is_seen; hidden = (begins.over start).hidden } in
    let other : IsNodeOver b context = record { is_seen = (begins.over w.number).is_seen; hidden = (begins.over w.number).hidden } in
    let made : tree_names_made S L t a names ≡ Ok (names ++ tree_names S L t a) =
    tree-names-made-same S F same L t a names
    ∙ (tree-names-alike (with_function_at w) (start_at context goal terms) t a b names ready begins.tree.stands begins.tree.scoped one other
    (begins.like start w.number) (transport (λ u. height u ≤ 2000) (tree-same S F same w t b) low)
    ∙ ap (λ own. Ok (names ++ own)) (sym (tree-names-same S F same L t a))) in
    ap (λ (r : Result (List (List ℕ)) Stop). and_then r (λ names. Ok (with_names [] names))) made
    ∙ ap (λ own. Ok (with_names [] (names ++ own))) (tree-names S L t a (node (λ name. w.plan.base)) (begins.like start (λ name. w.plan.base)))

-- the condition on the calls, at one position
apart-by : (plan : Plan) (o : Option Recursion) (t : Term) → IfSome o (λ r. CallsStandApart plan.base r.position t)
    → CallsApartBy plan (map (λ c. c.recursion) (recursions_in plan o)) t
apart-by plan None t h = tt
apart-by plan (Some r) t h = (h, tt)

pub entry-there : PartIsExact → (S : Signature) (plan : Plan) (uses : List Use) (at : ℕ) (part : Part) (o : Option Recursion) (order : List ℕ) (context : Telescope) (goal : Term)
    (terms : List Term) (node : Naming → Node) (name : List ℕ) (type : Naming → Term) (d : Draft) → IsReady (with_function S plan) → plan.base ≡ length S.entries
    → BeginsAt S plan uses at part context goal terms node
    → ((clause : ℕ) → IfSome o (λ r. CallsStandApart plan.base r.position (get_or part.sides clause (Sort 0))))
    → drafted_in_order name plan.base (side_names plan o at ++ tree_names S part.level part.tree (node (λ name. plan.base))) type
    (λ number. functions (node number).context (part_term S plan o part order (node number) number))
    ≡ Ok d
    → and_then (table_made S plan o at part (node (number_in plan.base [])))
    (λ table.
    tree_entry_made name table (translation_with S plan o part order (number_in plan.base table)) (node (number_in plan.base table)) (type (number_in plan.base table)))
    ≡ Ok d
entry-there exact S plan uses at part o order context goal terms node name type d ready base begins apart e =
    let table = with_names [] (side_names plan o at ++ tree_names S part.level part.tree (node (λ name. plan.base))) in
    let number = number_in plan.base table in
    let w = translation_with S plan o part order number in
    let here = node number in
    let body = tree_term w part.tree here in
    let whole = numbered-low name plan.base table (type number) (functions here.context body) d e in
    let low : height body ≤ 2000 = (low-functions here.context body whole.1).1 in
    let made =
    exact w uses at context goal terms here (record { ready = ready; part = begins.part_is; scoped = begins.scoped; root = begins.over number }) base (λ clause. apart-by plan o (get_or part.sides clause (Sort 0)) (apart clause)) low in
    ap
    (λ (r : Result (List (List ℕ)) Stop).
    and_then r (λ table.
    tree_entry_made name table (translation_with S plan o part order (number_in plan.base table)) (node (number_in plan.base table)) (type (number_in plan.base table))))
    (table-there w uses at context goal terms node (number_in plan.base []) o ready begins low)
    ∙ (ap (λ (r : Result Term Stop). and_then (and_then r (λ t. Ok (functions here.context t))) (numbered name plan.base table (type number))) made ∙ e)
