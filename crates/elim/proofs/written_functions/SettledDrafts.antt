-- The helpers and the function of a plan as they enter a signature: their types and terms are those that they are made with, by the numbers
-- that their names have there.
use Rattle.std.proofs.Common.{◌≡◌, ℕ, zero, suc, ◌+◌, ◌<◌, ◌||◌, Bool, true, false, cond, bytes_eq, Some, None, List, [], ◌∷◌, ◌++◌, get_or, length, map, take, Ok, refl, sym, ap, ap₂, ◌∙◌, subst as transport, append_assoc, arith}
use Rattle.std.specs.List.{All}
use Rattle.std.specs.Prelude.{flat_map}
use Rattle.std.proofs.lemmas.Bool.{true≢false}
use Rattle.std.proofs.lemmas.Slice.Eq.{bytes_eq-Decides}
use Rattle.std.proofs.lemmas.List.Elements.{All-append, All-cons, All-nil, All-take}
use Rattle.theory.specs.Signatures.{Definition, Entry, IsPrefix, Signature}
use Rattle.theory.specs.Spines.{spine_of}
use Rattle.theory.specs.Telescopes.{Telescope, applied, functions, products, variables}
use Rattle.theory.specs.Terms.{Const, Term, Var, lift}
use Rattle.theory.specs.WellFormed.{IsWellFormed}
use Rattle.theory.proofs.Shifts.{weaken_by-is_lift}
use Rattle.core_sig.specs.Drafts.{Draft}
use Rattle.core_sig.specs.Settling.{renumbered, renumbered_entry, settled_number}
use Rattle.case_trees.specs.Points.{under_solution}
use Rattle.tele_eq.specs.Items.{term_at}
use Rattle.tele_eq.specs.Levels.{is_among}
use Rattle.unification.proofs.Levels.{among-left, among-right}
use Rattle.tree_translation.proofs.Drafting.{in_order-is, places_of}
use Rattle.tree_translation.proofs.NewNames.{named-own, or-true, with-named}
use Rattle.tree_translation.specs.Entries.{function_by_recursion, function_entry, helper_entry, helper_names, helper_node, part_term, side_names}
use Rattle.tree_translation.specs.Naming.{Naming, below_name, drafted_in_order, helper_name, is_named, mentions, motive_name, number_among, number_in, place_of, rec_name, step_name, with_names}
use Rattle.tree_translation.specs.Plans.{Part, Plan, own_part}
use Rattle.tree_translation.specs.Recursion.{Recursion, below_type, motive_at, order_of, parameters_at, remaining_positions, scrutinee_at, terms_at}
use Rattle.tree_translation.specs.TreeTerms.{tree_names}
use Rattle.clause_reports.specs.Equations.{number_of}
use Rattle.elim.proofs.written_functions.Numbering.{function-becomes, helper-becomes, low-stays, mentioned-body, mentioned-domain, mentioned-head, mentioned-inside, name-there, number_there, once-there, renumbered-twice}
use Rattle.elim.proofs.written_functions.Numbers.{AreUnder, products-under, ren-under, spine-under, under-stays}
use Rattle.core_terms.proofs.Answers.{Answers, and_next-has}
use Rattle.family_check.specs.Entering.{Entered}
use Rattle.family_check.specs.Scopes.{HasPrelude}
use Rattle.theory.proofs.Pushing.{prefix_transitive}
use Rattle.tree_translation.specs.Needed.{entry_terms}
use Rattle.clause_reports.proofs.Keeping.{Any, Grows, GrowsTo, any, enter_all-grows, enter_entry-grows, enter_needed-grows, weaker, weaker-of-two}
use Rattle.clause_reports.proofs.ProvedTypes.{enter_entry-there}
use Rattle.clause_reports.specs.DraftEntering.{Names, enter_all, enter_draft_of, enter_entry, enter_needed, mentioned, mentions_in}
use Rattle.elim.proofs.written_functions.HelpersEnter.{Enters, IsIn, IsKept, all-enter, in-left, in-right, mention-in}
use Rattle.elim.proofs.written_functions.PartEntries.{HasName, HasType, name-stays, type-stays}
use Rattle.elim.proofs.written_functions.Proofs.{IsThere}
use Rattle.elim.proofs.written_functions.Sides.{solved-under, term_at-under, terms_at-under}
use Rattle.elim.proofs.written_functions.Values.{helper_type, name-same}

-- ---- names in a table

table-at : (table : List (List ℕ)) (name : List ℕ) → is_named table name ≡ true → get_or table (place_of table name) [] ≡ name
table-at [] name h = absurd (true≢false (sym h))
table-at (other ∷ table) name h = by (bytes_eq other name) refl (table-at table name)
  where
    rest : (b : Bool) → bytes_eq name other ≡ b → bytes_eq other name ≡ false → (b || is_named table name) ≡ true → is_named table name ≡ true
    rest true is other_is k = absurd (true≢false (sym ((bytes_eq-Decides other name).1 (sym ((bytes_eq-Decides name other).0 is))) ∙ other_is))
    rest false is other_is k = k

    by : (b : Bool) → bytes_eq other name ≡ b → (is_named table name ≡ true → get_or table (place_of table name) [] ≡ name)
        → get_or (other ∷ table) (cond b 0 (place_of table name + 1)) [] ≡ name
    by true e go = (bytes_eq-Decides other name).0 e
    by false e go =
        ap (λ p. get_or (other ∷ table) p []) (let s : place_of table name + 1 ≡ suc (place_of table name) = omega arith in s)
        ∙ go (rest (bytes_eq name other) refl e h)

-- ---- drafts in order

-- the number of a constant of such a draft in the signature that it enters
abbrev pub number_in_order : Signature → (base : ℕ) (candidates : List (List ℕ)) (type term : Naming → Term) → ℕ → ℕ
number_in_order V base candidates type term =
    let table = with_names [] candidates in
    number_there V base table (places_of base (type (number_in base table)) (term (number_in base table)))

settles : (name : List ℕ) (base : ℕ) (candidates : List (List ℕ)) (type term : Naming → Term) (d : Draft) (V : Signature)
    → drafted_in_order name base candidates type term ≡ Ok d
    → renumbered_entry (settled_number V d.base d.names) d.entry
    ≡ Definition name (renumbered (number_in_order V base candidates type term) (type (number_in base (with_names [] candidates))))
    (renumbered (number_in_order V base candidates type term) (term (number_in base (with_names [] candidates))))
settles name base candidates type term d V e =
    let table = with_names [] candidates in
    let t = type (number_in base table) in
    let u = term (number_in base table) in
    let places = places_of base t u in
    let names = map (λ i. get_or table i []) places in
    let is = in_order-is name base candidates type term d e in
    let q = number_among base places in
    ap (renumbered_entry (settled_number V d.base d.names)) is.entry
    ∙ (ap₂ (λ b ns. Definition name (renumbered (settled_number V b ns) (renumbered q t)) (renumbered (settled_number V b ns) (renumbered q u))) is.same_base is.same_names
    ∙ ap₂ (Definition name) (renumbered-twice (settled_number V base names) q t) (renumbered-twice (settled_number V base names) q u))

-- a name that the type mentions, and one that the term mentions
in-type : (V : Signature) (base : ℕ) (candidates : List (List ℕ)) (type term : Naming → Term) (name : List ℕ) → IsWellFormed V → HasName V name
    → is_named candidates name ≡ true
    → is_among (place_of (with_names [] candidates) name) (mentions base (type (number_in base (with_names [] candidates)))) ≡ true
    → number_in_order V base candidates type term (number_in base (with_names [] candidates) name) ≡ number_of V name
in-type V base candidates type term name well there named among =
    let table = with_names [] candidates in
    let t = type (number_in base table) in
    let u = term (number_in base table) in
    let i = place_of table name in
    let at : get_or table i [] ≡ name = table-at table name (with-named [] candidates name ∙ named) in
    name-there V base table (places_of base t u) i well (transport (HasName V) (sym at) there)
    (once-there i [] (mentions base t ++ mentions base u) refl (among-left i (mentions base t) (mentions base u) among))
    ∙ ap (number_of V) at

in-term : (V : Signature) (base : ℕ) (candidates : List (List ℕ)) (type term : Naming → Term) (name : List ℕ) → IsWellFormed V → HasName V name
    → is_named candidates name ≡ true
    → is_among (place_of (with_names [] candidates) name) (mentions base (term (number_in base (with_names [] candidates)))) ≡ true
    → number_in_order V base candidates type term (number_in base (with_names [] candidates) name) ≡ number_of V name
in-term V base candidates type term name well there named among =
    let table = with_names [] candidates in
    let t = type (number_in base table) in
    let u = term (number_in base table) in
    let i = place_of table name in
    let at : get_or table i [] ≡ name = table-at table name (with-named [] candidates name ∙ named) in
    name-there V base table (places_of base t u) i well (transport (HasName V) (sym at) there)
    (once-there i [] (mentions base t ++ mentions base u) refl (among-right i (mentions base t) (mentions base u) among))
    ∙ ap (number_of V) at

-- ---- scopes

lifted-under : (n : ℕ) (t : Term) → AreUnder n t → AreUnder n (lift t 1 0)
lifted-under n t h = transport (AreUnder n) (weaken_by-is_lift 1 t) (ren-under n (λ v. v + 1) t h)

parameters-under : (n : ℕ) (tele : Telescope) (r : Recursion) (ts : List Term) → All (AreUnder n) tele → All (AreUnder n) ts
    → All (AreUnder n) (parameters_at tele r ts)
parameters-under n tele r ts types h =
    All-take (AreUnder n) (length r.family.parameters) (spine_of (under_solution (take r.position ts) (term_at tele r.position)))
    (spine-under n (under_solution (take r.position ts) (term_at tele r.position))
    (solved-under n (take r.position ts) (term_at tele r.position) (All-take (AreUnder n) r.position ts h) (term_at-under n tele r.position types)))

variables-under : (n k : ℕ) → All (AreUnder n) (variables k)
variables-under n zero = All-nil (AreUnder n)
variables-under n (suc k) = All-cons (AreUnder n) (Var k) (variables k) tt (variables-under n k)

-- ---- the function and its helpers

-- an entry that is a definition with this type, and one with this term
pub record IsTyped (name : List ℕ) (type : Term) (e : Entry) : Type 0 where
  pub body : Term
  pub is : e ≡ Definition name type body

pub helper-settles : (S : Signature) (plan : Plan) (r : Recursion) (k : ℕ) (part : Part) (d : Draft) (V : Signature) → helper_entry S plan (Some r) k part ≡ Ok d
    → IsWellFormed V → HasName V (below_name r.family plan.level) → HasName V (motive_name plan.name)
    → All (AreUnder plan.base) (own_part plan).tele → All (AreUnder plan.base) part.tele → AreUnder plan.base part.goal → All (AreUnder plan.base) part.terms
    → IsTyped (helper_name plan.name k) (helper_type plan (Some r) part (number_of V)) (renumbered_entry (settled_number V d.base d.names) d.entry)
helper-settles S plan r k part d V e well below motive own tele goal terms =
    let base = plan.base in
    let rest = tree_names S part.level part.tree (helper_node plan (Some r) part (λ name. plan.base)) in
    let candidates = side_names plan (Some r) k ++ rest in
    let type = helper_type plan (Some r) part in
    let term : Naming → Term = λ number.
    functions (helper_node plan (Some r) part number).context
    (part_term S plan (Some r) part (order_of (length part.tele) None) (helper_node plan (Some r) part number) number) in
    let number = number_in base (with_names [] candidates) in
    let q = number_in_order V base candidates type term in
    let tele_r = (own_part plan).tele in
    let ps = parameters_at tele_r r part.terms in
    let fixed = terms_at r.admission.fixed part.terms in
    let scrutinee = scrutinee_at r part.terms in
    let b = below_name r.family plan.level in
    let m = motive_name plan.name in
    let b_named : is_named candidates b ≡ true = named-own b (m ∷ (helper_names plan k ++ rest)) in
    let m_named : is_named candidates m ≡ true = or-true (bytes_eq m b) (is_named (m ∷ (helper_names plan k ++ rest)) m) (named-own m (helper_names plan k ++ rest)) in
    let b_is : q (number b) ≡ number_of V b =
    in-type V base candidates type term b well below b_named
    (mentioned-domain base (place_of (with_names [] candidates) b) part.tele [] (below_type number plan r part.terms) (lift part.goal 1 0)
    (mentioned-head base (place_of (with_names [] candidates) b) (ps ++ motive_at number plan r part.terms ∷ scrutinee))) in
    let m_is : q (number m) ≡ number_of V m =
    in-type V base candidates type term m well motive m_named
    (mentioned-domain base (place_of (with_names [] candidates) m) part.tele [] (below_type number plan r part.terms) (lift part.goal 1 0)
    (mentioned-inside base (place_of (with_names [] candidates) m) (Const (number b)) (motive_at number plan r part.terms) ps scrutinee
    (mentioned-head base (place_of (with_names [] candidates) m) fixed))) in
    record {
      body = _;
      is =
          settles (helper_name plan.name k) base candidates type term d V e
          ∙ ap (λ t. Definition (helper_name plan.name k) t (renumbered q (term number)))
          (helper-becomes base q number (number_of V) plan r part
          (λ c low. low-stays V base (with_names [] candidates) (places_of base (type number) (term number)) c low) b_is m_is
          (parameters-under base tele_r r part.terms own terms) (terms_at-under base part.terms r.admission.fixed terms)
          (terms_at-under base part.terms (r.admission.indices ++ r.position ∷ []) terms) tele (lifted-under base part.goal goal));
    }

-- without recursion nothing is named in the type
pub plain-settles : (S : Signature) (plan : Plan) (k : ℕ) (part : Part) (d : Draft) (V : Signature) → helper_entry S plan None k part ≡ Ok d
    → All (AreUnder plan.base) part.tele → AreUnder plan.base part.goal
    → IsTyped (helper_name plan.name k) (products part.tele part.goal) (renumbered_entry (settled_number V d.base d.names) d.entry)
plain-settles S plan k part d V e tele goal =
    let base = plan.base in
    let candidates = side_names plan None k ++ tree_names S part.level part.tree (helper_node plan None part (λ name. plan.base)) in
    let type = helper_type plan None part in
    let term : Naming → Term = λ number.
    functions (helper_node plan None part number).context
    (part_term S plan None part (order_of (length part.tele) None) (helper_node plan None part number) number) in
    let number = number_in base (with_names [] candidates) in
    let q = number_in_order V base candidates type term in
    record {
      body = _;
      is =
          settles (helper_name plan.name k) base candidates type term d V e
          ∙ ap (λ t. Definition (helper_name plan.name k) t (renumbered q (term number)))
          (under-stays base q (λ c low. low-stays V base (with_names [] candidates) (places_of base (type number) (term number)) c low)
          (products part.tele part.goal) (products-under base part.tele part.goal tele goal));
    }

-- the term of the function by recursion
pub function-settles : (S : Signature) (plan : Plan) (r : Recursion) (d : Draft) (V : Signature) → function_entry S plan (Some r) ≡ Ok d
    → IsWellFormed V → HasName V (rec_name r.family plan.level) → HasName V (motive_name plan.name) → HasName V (step_name plan.name)
    → All (AreUnder plan.base) (own_part plan).tele → AreUnder plan.base plan.type
    → renumbered_entry (settled_number V d.base d.names) d.entry ≡ Definition plan.name plan.type (function_by_recursion plan r (number_of V))
function-settles S plan r d V e well recursor motive step own written =
    let base = plan.base in
    let c = rec_name r.family plan.level in
    let m = motive_name plan.name in
    let s = step_name plan.name in
    let candidates = c ∷ m ∷ s ∷ [] in
    let type : Naming → Term = λ number. plan.type in
    let term = function_by_recursion plan r in
    let number = number_in base (with_names [] candidates) in
    let q = number_in_order V base candidates type term in
    let tele = (own_part plan).tele in
    let ts = variables (length tele) in
    let ps = parameters_at tele r ts in
    let fixed = terms_at r.admission.fixed ts in
    let others = scrutinee_at r ts ++ terms_at (remaining_positions (length tele) r) ts in
    let mt = motive_at number plan r ts in
    let st = applied (Const (number s)) fixed in
    let i : List ℕ → ℕ = place_of (with_names [] candidates) in
    let vars = variables-under base (length tele) in
    let whole = applied (Const (number c)) (ps ++ mt ∷ st ∷ others) in
    let c_is : q (number c) ≡ number_of V c =
    in-term V base candidates type term c well recursor (named-own c (m ∷ s ∷ []))
    (mentioned-body base (i c) tele whole (mentioned-head base (i c) (ps ++ mt ∷ st ∷ others))) in
    let m_is : q (number m) ≡ number_of V m =
    in-term V base candidates type term m well motive (or-true (bytes_eq m c) (is_named (m ∷ s ∷ []) m) (named-own m (s ∷ [])))
    (mentioned-body base (i m) tele whole (mentioned-inside base (i m) (Const (number c)) mt ps (st ∷ others) (mentioned-head base (i m) fixed))) in
    let s_is : q (number s) ≡ number_of V s =
    in-term V base candidates type term s well step
    (or-true (bytes_eq s c) (is_named (m ∷ s ∷ []) s) (or-true (bytes_eq s m) (is_named (s ∷ []) s) (named-own s [])))
    (mentioned-body base (i s) tele whole
    (transport (λ xs. is_among (i s) (mentions base (applied (Const (number c)) xs)) ≡ true) (append_assoc ps (mt ∷ []) (st ∷ others))
    (mentioned-inside base (i s) (Const (number c)) st (ps ++ mt ∷ []) others (mentioned-head base (i s) fixed)))) in
    let low : (n : ℕ) → n < base → q n ≡ n = λ n less. low-stays V base (with_names [] candidates) (places_of base plan.type (term number)) n less in
    settles plan.name base candidates type term d V e
    ∙ ap₂ (Definition plan.name) (under-stays base q low plan.type written)
    (function-becomes base q number (number_of V) plan r low c_is m_is s_is (parameters-under base tele r ts own vars)
    (terms_at-under base ts r.admission.fixed vars)
    (All-append (AreUnder base) (scrutinee_at r ts) (terms_at (remaining_positions (length tele) r) ts)
    (terms_at-under base ts (r.admission.indices ++ r.position ∷ []) vars) (terms_at-under base ts (remaining_positions (length tele) r) vars)) own)

-- ---- mentions

-- a name that the type of a draft in order mentions is mentioned in the draft
in-draft : (name : List ℕ) (base : ℕ) (candidates : List (List ℕ)) (type term : Naming → Term) (d : Draft) (x : List ℕ)
    → drafted_in_order name base candidates type term ≡ Ok d → is_named candidates x ≡ true
    → is_among (place_of (with_names [] candidates) x) (mentions base (type (number_in base (with_names [] candidates)))) ≡ true
    → IsIn (Names x) (mentioned d)
in-draft name base candidates type term d x e named among =
    let table = with_names [] candidates in
    let t = type (number_in base table) in
    let u = term (number_in base table) in
    let places = places_of base t u in
    let ns = map (λ i. get_or table i []) places in
    let q = number_among base places in
    let i = place_of table x in
    let is = in_order-is name base candidates type term d e in
    let at : get_or table i [] ≡ x = table-at table x (with-named [] candidates x ∙ named) in
    let there = once-there i [] (mentions base t ++ mentions base u) refl (among-left i (mentions base t) (mentions base u) among) in
    let entry : mentioned d ≡ flat_map (mentions_in base ns) (entry_terms (Definition name (renumbered q t) (renumbered q u))) =
    ap (λ y. flat_map (mentions_in d.base d.names) (entry_terms y)) is.entry
    ∙ ap₂ (λ b m. flat_map (mentions_in b m) (entry_terms (Definition name (renumbered q t) (renumbered q u)))) is.same_base is.same_names in
    transport (IsIn (Names x)) (sym entry)
    (in-left (Names x) (mentions_in base ns (renumbered q t)) (flat_map (mentions_in base ns) (renumbered q u ∷ []))
    (transport (λ y. IsIn (Names y) (mentions_in base ns (renumbered q t))) at (mention-in base table places i there t among)))

pub rec-mentioned : (S : Signature) (plan : Plan) (r : Recursion) (d : Draft) → function_entry S plan (Some r) ≡ Ok d
    → IsIn (Names (rec_name r.family plan.level)) (mentioned d)
rec-mentioned S plan r d e =
    let base = plan.base in
    let x = rec_name r.family plan.level in
    let candidates = x ∷ motive_name plan.name ∷ step_name plan.name ∷ [] in
    let table = with_names [] candidates in
    let number = number_in base table in
    let u = function_by_recursion plan r number in
    let places = places_of base plan.type u in
    let ns = map (λ i. get_or table i []) places in
    let q = number_among base places in
    let i = place_of table x in
    let tele = (own_part plan).tele in
    let ts = variables (length tele) in
    let is = in_order-is plan.name base candidates (λ n. plan.type) (function_by_recursion plan r) d e in
    let at : get_or table i [] ≡ x = table-at table x (with-named [] candidates x ∙ named-own x (motive_name plan.name ∷ step_name plan.name ∷ [])) in
    let among : is_among i (mentions base u) ≡ true =
    mentioned-body base i tele
    (applied (Const (number x))
    (parameters_at tele r ts
    ++ motive_at number plan r ts
    ∷ applied (Const (number (step_name plan.name))) (terms_at r.admission.fixed ts)
    ∷ (scrutinee_at r ts ++ terms_at (remaining_positions (length tele) r) ts)))
    (mentioned-head base i
    (parameters_at tele r ts
    ++ motive_at number plan r ts
    ∷ applied (Const (number (step_name plan.name))) (terms_at r.admission.fixed ts)
    ∷ (scrutinee_at r ts ++ terms_at (remaining_positions (length tele) r) ts))) in
    let there = once-there i [] (mentions base plan.type ++ mentions base u) refl (among-right i (mentions base plan.type) (mentions base u) among) in
    let entry : mentioned d ≡ flat_map (mentions_in base ns) (entry_terms (Definition plan.name (renumbered q plan.type) (renumbered q u))) =
    ap (λ y. flat_map (mentions_in d.base d.names) (entry_terms y)) is.entry
    ∙ ap₂ (λ b m. flat_map (mentions_in b m) (entry_terms (Definition plan.name (renumbered q plan.type) (renumbered q u)))) is.same_base is.same_names in
    transport (IsIn (Names x)) (sym entry)
    (in-right (Names x) (mentions_in base ns (renumbered q plan.type)) (flat_map (mentions_in base ns) (renumbered q u ∷ []))
    (in-left (Names x) (mentions_in base ns (renumbered q u)) []
    (transport (λ y. IsIn (Names y) (mentions_in base ns (renumbered q u))) at (mention-in base table places i there u among))))

pub below-mentioned : (S : Signature) (plan : Plan) (r : Recursion) (k : ℕ) (part : Part) (d : Draft) → helper_entry S plan (Some r) k part ≡ Ok d
    → IsIn (Names (below_name r.family plan.level)) (mentioned d)
below-mentioned S plan r k part d e =
    let base = plan.base in
    let rest = tree_names S part.level part.tree (helper_node plan (Some r) part (λ name. plan.base)) in
    let candidates = side_names plan (Some r) k ++ rest in
    let type = helper_type plan (Some r) part in
    let term : Naming → Term = λ number.
    functions (helper_node plan (Some r) part number).context
    (part_term S plan (Some r) part (order_of (length part.tele) None) (helper_node plan (Some r) part number) number) in
    let number = number_in base (with_names [] candidates) in
    let b = below_name r.family plan.level in
    in-draft (helper_name plan.name k) base candidates type term d b e (named-own b (motive_name plan.name ∷ (helper_names plan k ++ rest)))
    (mentioned-domain base (place_of (with_names [] candidates) b) part.tele [] (below_type number plan r part.terms) (lift part.goal 1 0)
    (mentioned-head base (place_of (with_names [] candidates) b)
    (parameters_at (own_part plan).tele r part.terms ++ motive_at number plan r part.terms ∷ scrutinee_at r part.terms)))

-- ---- entering

-- the entry of a helper, with its type by the numbers of an earlier signature that has the names
pub record HasHelper (plan : Plan) (r : Recursion) (k : ℕ) (part : Part) (T : Signature) : Type 0 where
  pub at : Signature
  pub well : IsWellFormed at
  pub prefix : IsPrefix at T
  pub below : HasName at (below_name r.family plan.level)
  pub motive : HasName at (motive_name plan.name)
  pub there : HasType T (helper_name plan.name k) (helper_type plan (Some r) part (number_of at))

-- what a helper is made of is over the entries before the plan
pub record IsOver (plan : Plan) (part : Part) : Type 0 where
  pub tele : All (AreUnder plan.base) part.tele
  pub goal : AreUnder plan.base part.goal
  pub terms : All (AreUnder plan.base) part.terms

pub helper-enters : (Good : Signature → Type 0) → IsKept Good → (S : Signature) (plan : Plan) (r : Recursion) (k : ℕ) (part : Part) (d : Draft) (U : Signature) (left : ℕ)
    → helper_entry S plan (Some r) k part ≡ Ok d → Enters Good (below_name r.family plan.level) → HasName U (motive_name plan.name) → Good U
    → IsWellFormed U → HasPrelude U → All (AreUnder plan.base) (own_part plan).tele → IsOver plan part
    → Answers (λ (x : Entered). HasHelper plan r k part x.signature) (enter_draft_of U d left)
helper-enters Good kept S plan r k part d U left e enters motive good well first own over =
    let b = below_name r.family plan.level in
    let P : Entered → Type 0 = λ x. HasHelper plan r k part x.signature in
    let Q : Signature → Type 0 = λ V. Grows U V × HasName V b in
    let all = enter_all enter_needed U (mentioned d) left in
    and_next-has Q P all _
    (weaker-of-two (Grows U) (λ V. HasName V b) Q all.0 (enter_all-grows enter_needed enter_needed-grows U (mentioned d) left)
    (all-enter Good kept b (mentioned d) U left enters (below-mentioned S plan r k part d e) good) (λ V g n. (g, n))) (λ V rest has.
    let grown = has.0.keeps well first in
    let m = name-stays U V (motive_name plan.name) has.0.prefix motive in
    let s = helper-settles S plan r k part d V e grown has.1 m own over.tele over.goal over.terms in
    let y = Definition (helper_name plan.name k) (helper_type plan (Some r) part (number_of V)) s.body in
    transport (λ entry. Answers P (enter_entry V entry rest)) (sym s.is)
    (weaker-of-two (GrowsTo V) (IsThere y) P (enter_entry V y rest).0 (enter_entry-grows V y rest) (enter_entry-there V y rest) (λ x g there. record {
      at = V;
      well = grown;
      prefix = g.prefix;
      below = has.1;
      motive = m;
      there = record { number = x.number; body = s.body; there = there };
    })))

-- without recursion
pub plain-enters : (S : Signature) (plan : Plan) (k : ℕ) (part : Part) (d : Draft) (U : Signature) (left : ℕ) → helper_entry S plan None k part ≡ Ok d
    → IsOver plan part → Answers (λ (x : Entered). HasType x.signature (helper_name plan.name k) (products part.tele part.goal)) (enter_draft_of U d left)
plain-enters S plan k part d U left e over =
    let P : Entered → Type 0 = λ x. HasType x.signature (helper_name plan.name k) (products part.tele part.goal) in
    let all = enter_all enter_needed U (mentioned d) left in
    and_next-has Any P all _ (any all.0) (λ V rest u.
    let s = plain-settles S plan k part d V e over.tele over.goal in
    let y = Definition (helper_name plan.name k) (products part.tele part.goal) s.body in
    transport (λ entry. Answers P (enter_entry V entry rest)) (sym s.is)
    (weaker (IsThere y) P (enter_entry V y rest).0 (λ x there. record { number = x.number; body = s.body; there = there }) (enter_entry-there V y rest)))

-- its type is the same by the numbers of a later signature
pub helper-later : (plan : Plan) (r : Recursion) (k : ℕ) (part : Part) (T : Signature) → IsWellFormed T → HasHelper plan r k part T
    → HasType T (helper_name plan.name k) (helper_type plan (Some r) part (number_of T))
helper-later plan r k part T well h =
    let made : ℕ → ℕ → Term = λ b m.
    products
    (part.tele
    ++ applied (Const b)
    (parameters_at (own_part plan).tele r part.terms ++ applied (Const m) (terms_at r.admission.fixed part.terms) ∷ scrutinee_at r part.terms) ∷ [])
    (lift part.goal 1 0) in
    transport (HasType T (helper_name plan.name k))
    (ap₂ made (name-same h.at T (below_name r.family plan.level) h.well well h.prefix h.below)
    (name-same h.at T (motive_name plan.name) h.well well h.prefix h.motive)) h.there

pub helper-stays : (plan : Plan) (r : Recursion) (k : ℕ) (part : Part) (T U : Signature) → IsPrefix T U → HasHelper plan r k part T → HasHelper plan r k part U
helper-stays plan r k part T U prefix h = record {
  at = h.at;
  well = h.well;
  prefix = prefix_transitive h.at T U h.prefix prefix;
  below = h.below;
  motive = h.motive;
  there = type-stays T U (helper_name plan.name k) (helper_type plan (Some r) part (number_of h.at)) prefix h.there;
}

-- the function's term is the same where its names have the same numbers
pub function-later : (plan : Plan) (r : Recursion) (V T : Signature) → number_of V (rec_name r.family plan.level) ≡ number_of T (rec_name r.family plan.level)
    → number_of V (motive_name plan.name) ≡ number_of T (motive_name plan.name) → number_of V (step_name plan.name) ≡ number_of T (step_name plan.name)
    → function_by_recursion plan r (number_of V) ≡ function_by_recursion plan r (number_of T)
function-later plan r V T c m s =
    let tele = (own_part plan).tele in
    let ts = variables (length tele) in
    let fixed = terms_at r.admission.fixed ts in
    let made : ℕ → ℕ → ℕ → Term = λ x y z.
    functions tele
    (applied (Const x)
    (parameters_at tele r ts
    ++ applied (Const y) fixed
    ∷ applied (Const z) fixed
    ∷ (scrutinee_at r ts ++ terms_at (remaining_positions (length tele) r) ts))) in
    ap (λ x. made x (number_of V (motive_name plan.name)) (number_of V (step_name plan.name))) c ∙ ap₂ (made (number_of T (rec_name r.family plan.level))) m s
