-- The comparison of two constructors is scoped, over a signature that has the prelude and both families.
use Rattle.std.proofs.Common.{◌≡◌, ℕ, zero, suc, ◌+◌, ◌-◌, ◌<◌, ◌≤◌, ◌==◌, Bool, true, false, cond, List, [], ◌∷◌, length, All, inl, subst as transport, arith}
use Rattle.std.proofs.lemmas.List.Elements.{All-head, All-tail, All-nil, All-cons}
use Rattle.theory.specs.Terms.{Term, top}
use Rattle.theory.specs.Terms.Term.{Var, Sort, Pi, Lam, App, Let, Const, Fam, Con, Elim, AxiomK}
use Rattle.theory.specs.Telescopes.{applied}
use Rattle.theory.specs.Prelude.{prelude, empty_type}
use Rattle.theory.specs.Signatures.{Signature, IsPrefix, equality}
use Rattle.theory.specs.SignatureScopes.{IsConstructorNumber, IsFamilyNumber}
use Rattle.core_terms.specs.Levels.{variable, run}
use Rattle.core_terms.specs.declared.levels.Binder.{Binder}
use Rattle.core_sig.specs.DraftScopes.{IsDraftNumber}
use Rattle.core_sig.specs.EntryTerms.{EachInTelescope}
use Rattle.core_sig.specs.Shapes.{ArgumentShape, ConstructorShape, types_of, by_kind, recursive_count}
use Rattle.core_sig.specs.declared.family.ArgKind.{ArgKind}
use Rattle.core_sig.specs.declared.family.ArgKind.TheVariants.{Plain as PlainKind, Recursive as RecursiveKind}
use Rattle.core_sig.proofs.PlacedDrafts.{both-lists, pi-draft, lam-draft, app-draft, bind-draft, sort-draft, var-draft, draft-more, functions-draft, place-draft, variable-draft, run-draft, at-run-draft}
use Rattle.core_sig.proofs.ShapeScopes.{IsDraftConstructor, fam-draft, con-draft, elim-draft, family_at-draft, constructor-at-draft}
use Rattle.case_below_gen.proofs.ScopedCourses.{const-draft}
use Rattle.case_below_gen.proofs.ShapeLevels.{AreLowArguments}
use Rattle.tele_eq.specs.Items.{Item, term_at}
use Rattle.tele_eq.specs.Congruences.{congruences}
use Rattle.tele_eq.specs.TelescopicEquality.{equation_behind}
use Rattle.tele_eq.proofs.DraftScopes.{AreDraftItems, draft-equations, draft-congruences}
use Rattle.tele_eq.proofs.Positions.{length-each_position}
use Rattle.generators.specs.noconf_gen.Compared.{argument_items}
use Rattle.generators.proofs.noconf_gen.ScopedMembers.{Drafted, argument_items-draft, length-argument_items}
use Rattle.decide_eq.specs.Comparisons.{member_at, members_equal, proved, refuted, confusion, different, argument_type, arguments_equal, argument_equations, plain_decision, argument_decided, by_arguments, refuted_by, by_refutation, whole_item, own_member, congruence, next_hypothesis, elimination_motive, compared}
use Rattle.decide_eq.specs.PlainFamilies.{Known, IsDecided, decision_for}
use Rattle.decide_eq.specs.Statements.{whole_type, equal, decision_of, deciding_from, deciding, deciding_parameter, decisions_over}
use Rattle.decide_eq.specs.declared.decided_family.DecidedFamily.{DecidedFamily}
use Rattle.decide_eq.specs.declared.members.Member.{Member}
use Rattle.decide_eq.specs.declared.members.Members.{Members}

abbrev pub Named : Signature → (count c : ℕ) → Type 0
Named S count c = IsDraftNumber S (length S.entries) count c

-- the scope of a decision: the prelude, the families D and E, and the decisions that are there
pub record IsDeciding (S : Signature) (count : ℕ) (d : DecidedFamily) (known : Known) : Type 0 where
  pub first : IsPrefix (prelude S.has_k) S
  pub family : IsFamilyNumber S d.family
  pub into : IsFamilyNumber S d.into
  pub proof : IsConstructorNumber S d.into 0
  pub refutation : IsConstructorNumber S d.into 1
  pub equality : IsFamilyNumber S (equality d.level)
  pub empty : IsFamilyNumber S empty_type
  pub level : d.level < top
  pub decisions : All (IsDecided S) known

-- ---- statements

pub whole_type-draft : {S : Signature} {count : ℕ} {known : Known} (d : DecidedFamily) (depth : ℕ) → IsDeciding S count d known → d.params ≤ depth → Drafted S count depth (whole_type d depth)
whole_type-draft d depth is low = family_at-draft d.family d.params depth 0 0 is.family low (omega arith)

pub equal-draft : {S : Signature} {count n : ℕ} {known : Known} (d : DecidedFamily) (type x y : Term) → IsDeciding S count d known → Drafted S count n type → Drafted S count n x → Drafted S count n y → Drafted S count n (equal d type x y)
equal-draft d type x y is a u v = app-draft (app-draft (app-draft (fam-draft (equality d.level) is.equality) a) u) v

pub decision_of-draft : {S : Signature} {count n : ℕ} {known : Known} (d : DecidedFamily) (claim : Term) → IsDeciding S count d known → Drafted S count n claim → Drafted S count n (decision_of d claim)
decision_of-draft d claim is h = app-draft (fam-draft d.into is.into) h

pub deciding_from-draft : {S : Signature} {count : ℕ} {known : Known} (d : DecidedFamily) (x : Term) (depth : ℕ) → IsDeciding S count d known → d.params ≤ depth → Drafted S count (depth + 1) x → Drafted S count depth (deciding_from d x depth)
deciding_from-draft d x depth is low h =
    let inside = depth + 1 in
    pi-draft (whole_type-draft d depth is low)
    (decision_of-draft d (equal d (whole_type d inside) x (variable inside depth)) is
    (equal-draft d (whole_type d inside) x (variable inside depth) is (whole_type-draft d inside is (omega arith)) h (variable-draft depth (omega arith))))

pub deciding-draft : {S : Signature} {count : ℕ} {known : Known} (d : DecidedFamily) (depth : ℕ) → IsDeciding S count d known → d.params ≤ depth → Drafted S count depth (deciding d depth)
deciding-draft d depth is low =
    pi-draft (whole_type-draft d depth is low)
    (deciding_from-draft d (variable (depth + 2) depth) (depth + 1) is (omega arith) (draft-more (omega arith) (variable-draft {depth = depth + 2} depth (omega arith))))

deciding_parameter-draft : {S : Signature} {count : ℕ} {known : Known} (d : DecidedFamily) (j depth : ℕ) → IsDeciding S count d known → j < depth → Drafted S count depth (deciding_parameter d j depth)
deciding_parameter-draft d j depth is low =
    let inside = depth + 2 in
    let claim = equal d (variable inside j) (variable inside depth) (variable inside (depth + 1)) in
    pi-draft (variable-draft j low)
    (pi-draft (variable-draft j (omega arith))
    (draft-more {n = inside} (omega arith)
    (decision_of-draft d claim is
    (equal-draft d (variable inside j) (variable inside depth) (variable inside (depth + 1)) is (variable-draft j (omega arith)) (variable-draft depth (omega arith)) (variable-draft (depth + 1) (omega arith))))))

pub decisions_over-draft : {S : Signature} {count : ℕ} {known : Known} (d : DecidedFamily) (binder : Binder) (j depth more : ℕ) (end : Term) → IsDeciding S count d known → j + more ≤ depth → Drafted S count (depth + more) end → Drafted S count depth (decisions_over d binder j depth more end)
decisions_over-draft d binder j depth zero end is low h = draft-more (omega arith) h
decisions_over-draft d binder j depth (suc more) end is low h =
    bind-draft binder (deciding_parameter-draft d j depth is (omega arith))
    (decisions_over-draft d binder (j + 1) (depth + 1) more end is (omega arith) (draft-more (omega arith) h))

-- ---- members

-- the constructor is there, and its arguments are before the depth
pub record IsMemberIn (S : Signature) (d : DecidedFamily) (depth : ℕ) (c : Member) : Type 0 where
  pub known : IsConstructorNumber S d.family c.number
  pub spine : c.start + c.count ≤ depth

pub member-more : {S : Signature} {d : DecidedFamily} {depth : ℕ} {c : Member} (more : ℕ) → depth ≤ more → IsMemberIn S d depth c → IsMemberIn S d more c
member-more more le is = record { known = is.known; spine = omega (arith, is.spine) }

pub record AreMembersIn (S : Signature) (d : DecidedFamily) (depth : ℕ) (m : Members) : Type 0 where
  pub left : IsMemberIn S d depth m.left
  pub right : IsMemberIn S d depth m.right

pub members-more : {S : Signature} {d : DecidedFamily} {depth : ℕ} {m : Members} (more : ℕ) → depth ≤ more → AreMembersIn S d depth m → AreMembersIn S d more m
members-more more le is = record { left = member-more more le is.left; right = member-more more le is.right }

pub member_at-draft : {S : Signature} {count : ℕ} (d : DecidedFamily) (c : Member) (depth : ℕ) → d.params ≤ depth → IsMemberIn S d depth c → Drafted S count depth (member_at d c depth)
member_at-draft d c depth low is = constructor-at-draft d.family d.params c.number c.start c.count depth is.known low is.spine

members_equal-draft : {S : Signature} {count : ℕ} {known : Known} (d : DecidedFamily) (m : Members) (depth : ℕ) → IsDeciding S count d known → d.params ≤ depth → AreMembersIn S d depth m → Drafted S count depth (members_equal d m depth)
members_equal-draft d m depth is low h =
    equal-draft d (whole_type d depth) (member_at d m.left depth) (member_at d m.right depth) is (whole_type-draft d depth is low)
    (member_at-draft d m.left depth low h.left) (member_at-draft d m.right depth low h.right)

proved-draft : {S : Signature} {count n : ℕ} {known : Known} (d : DecidedFamily) (claim proof : Term) → IsDeciding S count d known → Drafted S count n claim → Drafted S count n proof → Drafted S count n (proved d claim proof)
proved-draft d claim proof is a h = app-draft (app-draft (con-draft d.into 0 is.proof) a) h

refuted-draft : {S : Signature} {count n : ℕ} {known : Known} (d : DecidedFamily) (claim refutation : Term) → IsDeciding S count d known → Drafted S count n claim → Drafted S count n refutation → Drafted S count n (refuted d claim refutation)
refuted-draft d claim refutation is a h = app-draft (app-draft (con-draft d.into 1 is.refutation) a) h

confusion-draft : {S : Signature} {count : ℕ} {known : Known} (d : DecidedFamily) (confusions : ℕ → ℕ) (m : Members) (depth : ℕ) → IsDeciding S count d known → Named S count (confusions m.left.number) → d.params ≤ depth → 0 < depth → AreMembersIn S d depth m → Drafted S count depth (confusion d confusions m depth)
confusion-draft d confusions m depth is named low some h =
    let head = applied (Const (confusions m.left.number)) (run depth 0 d.params) in
    app-draft
    (app-draft
    (app-draft (at-run-draft head depth m.left.start m.left.count h.left.spine (at-run-draft (Const (confusions m.left.number)) depth 0 d.params (omega arith) (const-draft (confusions m.left.number) named)))
    (member_at-draft d m.right depth low h.right))
    (var-draft 0 some))
    (lam-draft (members_equal-draft d m depth is low h) (fam-draft empty_type is.empty))

pub different-draft : {S : Signature} {count : ℕ} {known : Known} (d : DecidedFamily) (confusions : ℕ → ℕ) (m : Members) (depth : ℕ) → IsDeciding S count d known → Named S count (confusions m.left.number) → d.params ≤ depth → AreMembersIn S d depth m → Drafted S count depth (different d confusions m depth)
different-draft d confusions m depth is named low h =
    let claim = members_equal-draft d m depth is low h in
    refuted-draft d (members_equal d m depth) (Lam (members_equal d m depth) (confusion d confusions m (depth + 1))) is claim
    (lam-draft claim (confusion-draft d confusions m (depth + 1) is named (omega arith) (omega arith) (members-more (depth + 1) (omega arith) h)))

-- ---- arguments

-- Both members are the constructor c, whose arguments are bound after the parameters and their decisions.
pub record AreOfConstructor (S : Signature) (count : ℕ) (d : DecidedFamily) (m : Members) (c : ConstructorShape) : Type 0 where
  pub terms : IsDraftConstructor S (length S.entries) count d.params c
  pub levels : AreLowArguments c.arguments
  pub left : m.left.count ≡ length c.arguments
  pub right : m.right.count ≡ length c.arguments
  pub behind : d.params + d.params ≤ m.left.start

argument_type-draft : {S : Signature} {count : ℕ} (d : DecidedFamily) (start at depth : ℕ) (a : ArgumentShape) → d.params ≤ start → start + at ≤ depth → Drafted S count (d.params + at) a.type → Drafted S count depth (argument_type d start at depth a)
argument_type-draft d start at depth a low below h =
    place-draft ((0, d.params) ∷ (start, at) ∷ []) (d.params + at) depth a.type (both-lists d.params start at depth low below) h

arguments_equal-draft : {S : Signature} {count : ℕ} {known : Known} (d : DecidedFamily) (m : Members) (at depth : ℕ) (a : ArgumentShape) → IsDeciding S count d known → d.params ≤ m.left.start → m.left.start + at < depth → m.right.start + at < depth → Drafted S count (d.params + at) a.type
    → Drafted S count depth (arguments_equal d m at depth a)
arguments_equal-draft d m at depth a is low one two h =
    equal-draft d (argument_type d m.left.start at depth a) (variable depth (m.left.start + at)) (variable depth (m.right.start + at)) is
    (argument_type-draft d m.left.start at depth a low (omega arith) h) (variable-draft (m.left.start + at) one) (variable-draft (m.right.start + at) two)

argument_equations-draft : {S : Signature} {count : ℕ} {known : Known} (d : DecidedFamily) (m : Members) (depth : ℕ) (c : ConstructorShape) → IsDeciding S count d known → AreOfConstructor S count d m c → d.params ≤ depth → AreMembersIn S d depth m
    → EachInTelescope (Drafted S count) depth (argument_equations d m depth c)
argument_equations-draft {S} {count} d m depth c is own low h =
    draft-equations S count depth (argument_items d.params depth c) (run depth m.left.start m.left.count) (run depth m.right.start m.left.count) is.first
    (argument_items-draft d.params depth c own.terms own.levels low) (run-draft depth m.left.start m.left.count h.left.spine)
    (run-draft depth m.right.start m.left.count (omega (arith, h.right.spine, own.left, own.right)))

length-equations : (d : DecidedFamily) (m : Members) (depth : ℕ) (c : ConstructorShape) → length (argument_equations d m depth c) ≡ length c.arguments
length-equations d m depth c =
    let X = argument_items d.params depth c in
    omega (
      arith,
      length-each_position (equation_behind (length X) X (run depth m.left.start m.left.count) (run depth m.right.start m.left.count)) 0 (length X),
      length-argument_items d.params depth c,
    )

by_arguments-draft : {S : Signature} {count : ℕ} {known : Known} (d : DecidedFamily) (m : Members) (at n depth : ℕ) (c : ConstructorShape) → IsDeciding S count d known → AreOfConstructor S count d m c → d.params ≤ depth → AreMembersIn S d depth m → n < depth → at < length c.arguments
    → Drafted S count depth (by_arguments d m at n depth c)
by_arguments-draft d m at n depth c is own low h bound among =
    let inside = depth + m.left.count in
    functions-draft depth (argument_equations d m depth c) (App (variable inside n) (variable inside (depth + at))) (argument_equations-draft d m depth c is own low h)
    (draft-more {n = inside} (omega (arith, length-equations d m depth c, own.left)) (app-draft (variable-draft n (omega arith)) (variable-draft (depth + at) (omega (arith, own.left)))))

refuted_by-draft : {S : Signature} {count : ℕ} {known : Known} (d : DecidedFamily) (confusions : ℕ → ℕ) (m : Members) (at n depth : ℕ) (c : ConstructorShape) → IsDeciding S count d known → Named S count (confusions m.left.number) → AreOfConstructor S count d m c → d.params ≤ depth → AreMembersIn S d depth m
    → n < depth → at < length c.arguments → Drafted S count depth (refuted_by d confusions m at n depth c)
refuted_by-draft d confusions m at n depth c is named own low h bound among =
    let inside = depth + 1 in
    let claim = members_equal-draft d m depth is low h in
    let further = members-more inside (omega arith) h in
    refuted-draft d (members_equal d m depth) (Lam (members_equal d m depth) (App (confusion d confusions m inside) (by_arguments d m at n inside c))) is claim
    (lam-draft claim
    (app-draft (confusion-draft d confusions m inside is named (omega arith) (omega arith) further) (by_arguments-draft d m at n inside c is own (omega arith) further (omega arith) among)))

by_refutation-draft : {S : Signature} {count : ℕ} {known : Known} (d : DecidedFamily) (confusions : ℕ → ℕ) (m : Members) (at depth : ℕ) (c : ConstructorShape) → IsDeciding S count d known → Named S count (confusions m.left.number) → AreOfConstructor S count d m c → d.params ≤ depth → AreMembersIn S d depth m
    → at < length c.arguments → (a : ArgumentShape) → Drafted S count depth (arguments_equal d m at depth a) → Drafted S count depth (by_refutation d confusions m at depth c a)
by_refutation-draft d confusions m at depth c is named own low h among a claim =
    lam-draft (pi-draft claim (fam-draft empty_type is.empty))
    (refuted_by-draft d confusions m at depth (depth + 1) c is named own (omega arith) (members-more (depth + 1) (omega arith) h) (omega arith) among)

decision_for-draft : {S : Signature} {count n : ℕ} (known : Known) (k : ℕ) → All (IsDecided S) known → Drafted S count n (decision_for known k)
decision_for-draft [] k all = sort-draft 0
decision_for-draft {S} {count} {n} (row ∷ known) k all = by (row.0 == k) (decision_for-draft known k (All-tail (IsDecided S) row known all))
  where
    by : (b : Bool) → Drafted S count n (decision_for known k) → Drafted S count n (cond b (Const row.1) (decision_for known k))
    by true rest = const-draft row.1 (inl (All-head (IsDecided S) row known all))
    by false rest = rest

plain_decision-draft : {S : Signature} {count : ℕ} {known : Known} (d : DecidedFamily) (at depth : ℕ) (type : Term) → IsDeciding S count d known → d.params + d.params + at < depth → Drafted S count depth (plain_decision d known at depth type)
plain_decision-draft d at depth (Var n) is low = variable-draft (d.params + (d.params + at - (n + 1))) (omega arith)
plain_decision-draft {known = known} d at depth (Fam n) is low = decision_for-draft known n is.decisions
plain_decision-draft d at depth (Sort i) is low = sort-draft 0
plain_decision-draft d at depth (Pi a b) is low = sort-draft 0
plain_decision-draft d at depth (Lam a b) is low = sort-draft 0
plain_decision-draft d at depth (App f a) is low = sort-draft 0
plain_decision-draft d at depth (Let a t b) is low = sort-draft 0
plain_decision-draft d at depth (Const c) is low = sort-draft 0
plain_decision-draft d at depth (Con n c) is low = sort-draft 0
plain_decision-draft d at depth (Elim n i) is low = sort-draft 0
plain_decision-draft d at depth (AxiomK i m) is low = sort-draft 0

argument_decided-draft : {S : Signature} {count : ℕ} {known : Known} (d : DecidedFamily) (m : Members) (at h depth : ℕ) (a : ArgumentShape) → IsDeciding S count d known → d.params + d.params + at < depth → m.left.start + at < depth → m.right.start + at < depth
    → h + by_kind a.kind 0 (λ inner. 1) ≤ depth → Drafted S count depth (argument_decided d known m at h depth a)
argument_decided-draft {S} {count} {known} d m at h depth a is low one two hyps = by a.kind hyps
  where
    by : (kind : ArgKind) → h + by_kind kind 0 (λ inner. 1) ≤ depth → Drafted S count depth (by_kind kind
        (App (App (plain_decision d known at depth a.type) (variable depth (m.left.start + at))) (variable depth (m.right.start + at)))
        (λ inner. App (variable depth h) (variable depth (m.right.start + at))))
    by PlainKind k = app-draft (app-draft (plain_decision-draft d at depth a.type is low) (variable-draft (m.left.start + at) one)) (variable-draft (m.right.start + at) two)
    by (RecursiveKind inner) k = app-draft (variable-draft h (omega arith)) (variable-draft (m.right.start + at) two)

-- ---- the congruence

first-draft : {S : Signature} {count n : ℕ} (ts : List Term) → All (Drafted S count n) ts → Drafted S count n (term_at ts 0)
first-draft [] all = sort-draft 0
first-draft {S} {count} {n} (t ∷ ts) all = All-head (Drafted S count n) t ts all

whole_item-draft : {S : Signature} {count : ℕ} {known : Known} (d : DecidedFamily) (depth : ℕ) → IsDeciding S count d known → d.params ≤ depth → AreDraftItems S count depth (whole_item d depth)
whole_item-draft d depth is low =
    record {
      types = (whole_type-draft d depth is low, tt);
      levels =
          All-cons (λ (item : Item). item.level < top) (record { type = whole_type d depth; level = d.level }) [] is.level
          (All-nil (λ (item : Item). item.level < top));
    }

congruence-draft : {S : Signature} {count : ℕ} {known : Known} (d : DecidedFamily) (m : Members) (depth : ℕ) (c : ConstructorShape) → IsDeciding S count d known → AreOfConstructor S count d m c → d.params ≤ depth → AreMembersIn S d depth m → m.right.start + m.right.count + m.left.count ≤ depth
    → Drafted S count depth (congruence d m depth c)
congruence-draft {S} {count} d m depth c is own low h below =
    let k = m.left.count in
    let X = argument_items d.params depth c in
    let Y = whole_item d depth in
    let f = own_member d m.left depth in
    let e : depth + k ≡ depth + length X = omega (arith, length-argument_items d.params depth c, own.left) in
    let whole = member_at-draft d (record { number = m.left.number; start = depth; count = k }) (depth + k) (omega arith) (record { known = h.left.known; spine = omega arith }) in
    first-draft (congruences X Y f (run depth m.left.start k) (run depth m.right.start k) (run depth (m.right.start + k) k))
    (draft-congruences S count depth X Y f (run depth m.left.start k) (run depth m.right.start k) (run depth (m.right.start + k) k)
    is.first (argument_items-draft d.params depth c own.terms own.levels low) (whole_item-draft d depth is low)
    (transport (λ n. All (Drafted S count n) f) e (All-cons (Drafted S count (depth + k)) (member_at d (record { number = m.left.number; start = depth; count = k }) (depth + k)) [] whole (All-nil (Drafted S count (depth + k)))))
    (run-draft depth m.left.start k h.left.spine) (run-draft depth m.right.start k (omega (arith, h.right.spine, own.left, own.right)))
    (run-draft depth (m.right.start + k) k (omega (arith, own.left, own.right))))

-- ---- the comparison of a constructor with itself

elimination_motive-draft : {S : Signature} {count : ℕ} {known : Known} (d : DecidedFamily) (m : Members) (at depth : ℕ) (a : ArgumentShape) → IsDeciding S count d known → d.params ≤ depth → AreMembersIn S d depth m → Drafted S count depth (arguments_equal d m at depth a) → Drafted S count depth (elimination_motive d m at depth a)
elimination_motive-draft d m at depth a is low h claim =
    lam-draft (decision_of-draft d (arguments_equal d m at depth a) is claim)
    (decision_of-draft d (members_equal d m (depth + 1)) is (members_equal-draft d m (depth + 1) is (omega arith) (members-more (depth + 1) (omega arith) h)))

-- the next hypothesis comes before the depth, and so do those after it
next-levels : (h depth : ℕ) (a : ArgumentShape) (arguments : List ArgumentShape) → h + recursive_count (a ∷ arguments) ≤ depth → (h + by_kind a.kind 0 (λ inner. 1) ≤ depth) × (next_hypothesis h a + recursive_count arguments ≤ depth + 1)
next-levels h depth a arguments low = by a.kind low
  where
    by : (kind : ArgKind) → h + by_kind kind (recursive_count arguments) (λ inner. recursive_count arguments + 1) ≤ depth
        → (h + by_kind kind 0 (λ inner. 1) ≤ depth) × (by_kind kind h (λ inner. h + 1) + recursive_count arguments ≤ depth + 1)
    by PlainKind k = (omega arith, omega arith)
    by (RecursiveKind inner) k = (omega arith, omega arith)

pub compared-draft : {S : Signature} {count : ℕ} {known : Known} (d : DecidedFamily) (confusions : ℕ → ℕ) (m : Members) (at h depth : ℕ) (c : ConstructorShape) (arguments : List ArgumentShape) → IsDeciding S count d known → (0 < length c.arguments → Named S count (confusions m.left.number)) → AreOfConstructor S count d m c
    → d.params ≤ depth → AreMembersIn S d depth m → at + length arguments ≡ length c.arguments → m.right.start + m.right.count + at ≤ depth → h + recursive_count arguments ≤ depth → EachInTelescope (Drafted S count) (d.params + at) (types_of arguments)
    → Drafted S count depth (compared d confusions known m at h depth c arguments)
compared-draft {S} {count} {known} d confusions m at h depth c [] is named own low members all below hyps types =
    proved-draft d (members_equal d m depth) (congruence d m depth c) is (members_equal-draft d m depth is low members)
    (congruence-draft d m depth c is own low members (omega (arith, own.left)))
compared-draft {S} {count} {known} d confusions m at h depth c (a ∷ arguments) is named own low members all below hyps types =
    let left = members.left.spine in
    let right = members.right.spine in
    let one : m.left.start + at < depth = omega (arith, own.left) in
    let two : m.right.start + at < depth = omega (arith, own.right) in
    let claim = arguments_equal-draft d m at depth a is (omega (arith, own.behind)) one two types.0 in
    let levels = next-levels h depth a arguments hyps in
    let rest = compared-draft d confusions m (at + 1) (next_hypothesis h a) (depth + 1) c arguments is named own (omega arith) (members-more (depth + 1) (omega arith) members) (omega arith) (omega arith) levels.1
    (transport (λ n. EachInTelescope (Drafted S count) n (types_of arguments)) (omega arith) types.1) in
    app-draft
    (app-draft
    (app-draft
    (app-draft (app-draft (elim-draft d.into d.level is.into) claim) (elimination_motive-draft d m at depth a is low members claim))
    (lam-draft claim rest))
    (by_refutation-draft d confusions m at depth c is (named (omega arith)) own low members (omega arith) a claim))
    (argument_decided-draft d m at h depth a is (omega (arith, own.behind)) one two levels.0)
