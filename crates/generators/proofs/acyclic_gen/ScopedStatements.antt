-- Statements about terms of a family without indices are scoped, over a signature that has the prelude and the family.
use Rattle.std.proofs.Common.{ℕ, suc, ◌+◌, ◌-◌, ◌<◌, ◌≤◌, ◌==◌, Bool, true, false, cond, nat_le, if◌then◌else◌, List, [], ◌∷◌, length, All, refl, subst as transport, arith}
use Rattle.std.proofs.lemmas.List.Elements.{All-head, All-tail, All-nil, All-cons}
use Rattle.theory.specs.Terms.{Term, top}
use Rattle.theory.specs.Terms.Term.{Var, Pi, Lam, Const, Con, Elim}
use Rattle.theory.specs.Prelude.{prelude, empty_type, unit_type, pair_type, empty_family, equality_family}
use Rattle.theory.specs.Signatures.{Signature, FamilyOf, IsPrefix, equality}
use Rattle.theory.specs.SignatureScopes.{IsFamilyNumber, IsConstructorNumber}
use Rattle.theory.proofs.PreludeWellFormed.{equality_at}
use Rattle.theory.proofs.Widening.{prefix_keeps}
use Rattle.core_terms.specs.declared.levels.Binder.TheVariants.{Function}
use Rattle.core_sig.specs.DraftScopes.{IsDraftNumber, IsDraftTerm}
use Rattle.core_sig.specs.EntryTerms.{EachInTelescope}
use Rattle.core_sig.specs.Shapes.{ArgumentShape, ConstructorShape, types_of, by_kind, recursive_count}
use Rattle.core_sig.specs.declared.family.ArgKind.{ArgKind}
use Rattle.core_sig.specs.declared.family.ArgKind.TheVariants.{Plain as PlainKind, Recursive as RecursiveKind}
use Rattle.core_sig.proofs.PlacedDrafts.{AreBelow, below-next, below-here, two-lists, pi-draft, lam-draft, app-draft, draft-pi, var-draft, sort-draft, draft-more, place-draft, variable-draft, at-run-draft}
use Rattle.core_sig.proofs.ShapeScopes.{IsDraftConstructor, fam-draft, con-draft, elim-draft, family_at-draft}
use Rattle.case_below_gen.specs.declared.sides.Side.{Side}
use Rattle.case_below_gen.specs.declared.sides.Side.TheVariants.{First, Second}
use Rattle.case_below_gen.proofs.ScopedCases.{constructor-over-draft, arguments-behind}
use Rattle.case_below_gen.proofs.ScopedCourses.{HasPairs, pairs-there, pair_of-draft, const-draft}
use Rattle.case_below_gen.proofs.ScopedEntries.{side_variable-draft}
use Rattle.generators.specs.acyclic_gen.Statements.{carrier_at, head_at, point_at, at_level, built, equal, unequal_to, unequal, no_part, not_within, is_direct, directs, none_within}
use Rattle.generators.specs.acyclic_gen.Pairings.{Pairing, Within, Several, side_type, projection, component}
use Rattle.generators.specs.acyclic_gen.Claims.{pushed_whole, pushed_part, claim_at, claim_level, eliminator, hypothesis_from, hypothesis, hypotheses_over, method_over}
use Rattle.generators.specs.declared.acyclic_gen.carrier.Carrier.{Carrier}
use Rattle.generators.specs.declared.acyclic_gen.claims.Claim.{Claim}
use Rattle.generators.specs.declared.acyclic_gen.claims.Claim.TheVariants.{Direct as Parts, Acyclic, Pushed}
use Rattle.generators.specs.declared.acyclic_gen.claims.Push.{Push}
use Rattle.generators.specs.declared.acyclic_gen.direct_arguments.Direct.{Direct}
use Rattle.generators.specs.declared.acyclic_gen.point.Head.{Head}
use Rattle.generators.specs.declared.acyclic_gen.point.Head.TheVariants.{Variable, Constructor}
use Rattle.generators.specs.declared.acyclic_gen.point.Point.{Point}

-- a term of a draft over the entries of S and so many names
abbrev pub Drafted : Signature → (count n : ℕ) → Term → Type 0
Drafted S count n t = IsDraftTerm S (length S.entries) count n t

abbrev pub Named : Signature → (count c : ℕ) → Type 0
Named S count c = IsDraftNumber S (length S.entries) count c

-- the signature has the family, and what the prelude says of equality, of pairs and of no term at its level
pub record IsCarrier (S : Signature) (q : Carrier) : Type 0 where
  pub family : IsFamilyNumber S q.family
  pub equality : IsFamilyNumber S (equality q.level)
  pub pairs : HasPairs S q.level
  pub empty : IsFamilyNumber S empty_type

pub carrier-there : (S : Signature) (q : Carrier) → IsPrefix (prelude S.has_k) S → q.level < top → IsFamilyNumber S q.family → IsCarrier S q
carrier-there S q first low is = record {
  family = is;
  equality = (equality_family q.level, (prefix_keeps first).entry (equality q.level) (FamilyOf (equality_family q.level)) (equality_at top q.level low));
  pairs = pairs-there S q.level first low;
  empty = (empty_family, (prefix_keeps first).entry empty_type (FamilyOf empty_family) refl);
}

-- ---- points

abbrev pub IsHeadIn : Signature → Carrier → (depth : ℕ) → Head → Type 0
IsHeadIn S q depth (Variable level) = level < depth
IsHeadIn S q depth (Constructor number) = IsConstructorNumber S q.family number

pub record IsPointIn (S : Signature) (q : Carrier) (depth : ℕ) (x : Point) : Type 0 where
  pub head : IsHeadIn S q depth x.head
  pub spine : x.start + x.count ≤ depth

head-more : (S : Signature) (q : Carrier) (depth more : ℕ) (head : Head) → depth ≤ more → IsHeadIn S q depth head → IsHeadIn S q more head
head-more S q depth more (Variable level) le is = omega arith
head-more S q depth more (Constructor number) le is = is

pub point-more : {S : Signature} {q : Carrier} {depth : ℕ} {x : Point} (more : ℕ) → depth ≤ more → IsPointIn S q depth x → IsPointIn S q more x
point-more {S} {q} {depth} {x} more le is = record { head = head-more S q depth more x.head le is.head; spine = omega (arith, is.spine) }

pub at_level-in : {S : Signature} {q : Carrier} {depth : ℕ} (level : ℕ) → level < depth → IsPointIn S q depth (at_level level)
at_level-in level low = record { head = low; spine = omega arith }

pub built-in : {S : Signature} {q : Carrier} {depth : ℕ} (number start count : ℕ) → IsConstructorNumber S q.family number → start + count ≤ depth → IsPointIn S q depth (built number start count)
built-in number start count known low = record { head = known; spine = low }

head-draft : {S : Signature} {count : ℕ} (q : Carrier) (depth : ℕ) (head : Head) → q.params ≤ depth → IsHeadIn S q depth head → Drafted S count depth (head_at q depth head)
head-draft q depth (Variable level) low is = variable-draft level is
head-draft q depth (Constructor number) low is = at-run-draft (Con q.family number) depth 0 q.params (omega arith) (con-draft q.family number is)

pub point-draft : {S : Signature} {count : ℕ} (q : Carrier) (depth : ℕ) (x : Point) → q.params ≤ depth → IsPointIn S q depth x → Drafted S count depth (point_at q depth x)
point-draft q depth x low is = at-run-draft (head_at q depth x.head) depth x.start x.count is.spine (head-draft q depth x.head low is.head)

pub carrier-draft : {S : Signature} {count : ℕ} (q : Carrier) (depth : ℕ) → IsCarrier S q → q.params ≤ depth → Drafted S count depth (carrier_at q depth)
carrier-draft q depth is low = family_at-draft q.family q.params depth 0 0 is.family low (omega arith)

-- ---- statements

pub equal-draft : {S : Signature} {count : ℕ} (q : Carrier) (depth : ℕ) (x : Point) (y : Term) → IsCarrier S q → q.params ≤ depth → IsPointIn S q depth x → Drafted S count depth y → Drafted S count depth (equal q depth x y)
equal-draft q depth x y is low hx hy =
    app-draft (app-draft (app-draft (fam-draft (equality q.level) is.equality) (carrier-draft q depth is low)) (point-draft q depth x low hx)) hy

unequal_to-draft : {S : Signature} {count : ℕ} (q : Carrier) (depth : ℕ) (x : Point) → IsCarrier S q → q.params ≤ depth → IsPointIn S q depth x → Drafted S count depth (unequal_to q depth x)
unequal_to-draft q depth x is low hx =
    lam-draft (carrier-draft q depth is low)
    (pi-draft (equal-draft q (depth + 1) x (Var 0) is (omega arith) (point-more (depth + 1) (omega arith) hx) (var-draft 0 (omega arith))) (fam-draft empty_type is.empty))

pub unequal-draft : {S : Signature} {count : ℕ} (q : Carrier) (depth : ℕ) (x y : Point) → IsCarrier S q → q.params ≤ depth → IsPointIn S q depth x → IsPointIn S q depth y → Drafted S count depth (unequal q depth x y)
unequal-draft q depth x y is low hx hy = app-draft (unequal_to-draft q depth x is low hx) (point-draft q depth y low hy)

pub no_part-draft : {S : Signature} {count : ℕ} (q : Carrier) (depth : ℕ) (x y : Point) → IsCarrier S q → Named S count q.direct → q.params ≤ depth → IsPointIn S q depth x → IsPointIn S q depth y → Drafted S count depth (no_part q depth x y)
no_part-draft q depth x y is named low hx hy =
    app-draft (app-draft (at-run-draft (Const q.direct) depth 0 q.params (omega arith) (const-draft q.direct named)) (unequal_to-draft q depth x is low hx))
    (point-draft q depth y low hy)

pub not_within-draft : {S : Signature} {count : ℕ} (q : Carrier) (depth : ℕ) (x y : Point) → IsCarrier S q → Named S count q.direct → q.params ≤ depth → IsPointIn S q depth x → IsPointIn S q depth y → Drafted S count depth (not_within q depth x y)
not_within-draft q depth x y is named low hx hy =
    pair_of-draft q.level (unequal q depth x y) (no_part q depth x y) is.pairs (unequal-draft q depth x y is low hx hy) (no_part-draft q depth x y is named low hx hy)

-- ---- direct arguments

-- the argument and its hypothesis come before the depth
abbrev pub IsBelow : ℕ → Direct → Type 0
IsBelow depth d = (d.argument < depth) × (d.hypothesis < depth)

abbrev pub AreDirectsBelow : ℕ → List Direct → Type 0
AreDirectsBelow depth ds = All (IsBelow depth) ds

pub directs-below : (argument hypothesis depth : ℕ) (arguments : List ArgumentShape) → argument + length arguments ≤ depth → hypothesis + recursive_count arguments ≤ depth → AreDirectsBelow depth (directs argument hypothesis arguments)
directs-below argument hypothesis depth [] la lh = All-nil (IsBelow depth)
directs-below argument hypothesis depth (a ∷ arguments) la lh =
    by a.kind lh
    (λ h. directs-below (argument + 1) hypothesis depth arguments (omega arith) h)
    (λ h. directs-below (argument + 1) (hypothesis + 1) depth arguments (omega arith) (omega arith))
  where
    chosen : (b : Bool) (others : List Direct) → argument < depth → hypothesis < depth → AreDirectsBelow depth others → AreDirectsBelow depth (cond b (record { argument = argument; hypothesis = hypothesis } ∷ others) others)
    chosen true others ha hh all = All-cons (IsBelow depth) (record { argument = argument; hypothesis = hypothesis }) others (ha, hh) all
    chosen false others ha hh all = all

    by : (kind : ArgKind) → hypothesis + by_kind kind (recursive_count arguments) (λ inner. recursive_count arguments + 1) ≤ depth
        → (hypothesis + recursive_count arguments ≤ depth → AreDirectsBelow depth (directs (argument + 1) hypothesis arguments))
        → (hypothesis + (recursive_count arguments + 1) ≤ depth → AreDirectsBelow depth (directs (argument + 1) (hypothesis + 1) arguments))
        → AreDirectsBelow depth (cond (is_direct kind) (record { argument = argument; hypothesis = hypothesis } ∷ directs (argument + 1) (by_kind kind hypothesis (λ inner. hypothesis + 1)) arguments)
        (directs (argument + 1) (by_kind kind hypothesis (λ inner. hypothesis + 1)) arguments))
    by PlainKind g plain recursive = plain g
    by (RecursiveKind inner) g plain recursive =
        chosen (inner == 0) (directs (argument + 1) (hypothesis + 1) arguments) (omega arith) (omega arith) (recursive g)

pub none_within-draft : {S : Signature} {count : ℕ} (q : Carrier) (depth : ℕ) (x : Point) (ds : List Direct) → IsCarrier S q → Named S count q.direct → q.params ≤ depth → IsPointIn S q depth x → AreDirectsBelow depth ds → Drafted S count depth (none_within q depth x ds)
none_within-draft q depth x [] is named low hx all = fam-draft (unit_type q.level) is.pairs.unit
none_within-draft q depth x (d ∷ ds) is named low hx all =
    pair_of-draft q.level (not_within q depth x (at_level d.argument)) (none_within q depth x ds) is.pairs
    (not_within-draft q depth x (at_level d.argument) is named low hx (at_level-in d.argument (All-head (IsBelow depth) d ds all).0))
    (none_within-draft q depth x ds is named low hx (All-tail (IsBelow depth) d ds all))

-- ---- pairings

abbrev pub IsPairingIn : Signature → Carrier → (depth : ℕ) → Pairing → Type 0
IsPairingIn S q depth (Within x y) = IsPointIn S q depth x × IsPointIn S q depth y
IsPairingIn S q depth (Several x d ds) = IsPointIn S q depth x × IsBelow depth d × AreDirectsBelow depth ds

side_type-draft : {S : Signature} {count : ℕ} (side : Side) (q : Carrier) (depth : ℕ) (pairing : Pairing) → IsCarrier S q → Named S count q.direct → q.params ≤ depth → IsPairingIn S q depth pairing → Drafted S count depth (side_type side q depth pairing)
side_type-draft First q depth (Within x y) is named low h = unequal-draft q depth x y is low h.0 h.1
side_type-draft Second q depth (Within x y) is named low h = no_part-draft q depth x y is named low h.0 h.1
side_type-draft First q depth (Several x d ds) is named low h = not_within-draft q depth x (at_level d.argument) is named low h.0 (at_level-in d.argument h.1.0)
side_type-draft Second q depth (Several x d ds) is named low h = none_within-draft q depth x ds is named low h.0 h.2

below-more : (depth : ℕ) (ds : List Direct) → AreDirectsBelow depth ds → AreDirectsBelow (depth + 1) ds
below-more depth [] all = All-nil (IsBelow (depth + 1))
below-more depth (d ∷ ds) all =
    let here = All-head (IsBelow depth) d ds all in
    let a = here.0 in
    let h = here.1 in
    All-cons (IsBelow (depth + 1)) d ds (omega arith, omega arith) (below-more depth ds (All-tail (IsBelow depth) d ds all))

pairing-more : (S : Signature) (q : Carrier) (depth : ℕ) (pairing : Pairing) → IsPairingIn S q depth pairing → IsPairingIn S q (depth + 1) pairing
pairing-more S q depth (Within x y) h = (point-more (depth + 1) (omega arith) h.0, point-more (depth + 1) (omega arith) h.1)
pairing-more S q depth (Several x d ds) h =
    let a = h.1.0 in
    let b = h.1.1 in
    (point-more (depth + 1) (omega arith) h.0, (omega arith, omega arith), below-more depth ds h.2)

pub projection-draft : {S : Signature} {count : ℕ} (side : Side) (q : Carrier) (depth : ℕ) (pairing : Pairing) (both : Term) → IsCarrier S q → Named S count q.direct → q.params ≤ depth → IsPairingIn S q depth pairing → Drafted S count depth both → Drafted S count depth (projection side q depth pairing both)
projection-draft {S} {count} side q depth pairing both is named low h hb =
    let first = side_type-draft First q depth pairing is named low h in
    let second = side_type-draft Second q depth pairing is named low h in
    let inside = pairing-more S q depth pairing h in
    app-draft (app-draft (app-draft (app-draft (app-draft (elim-draft (pair_type q.level) q.level is.pairs.pair) first) second)
    (lam-draft (pair_of-draft q.level (side_type First q depth pairing) (side_type Second q depth pairing) is.pairs first second) (side_type-draft side q (depth + 1) pairing is named (omega arith) inside)))
    (lam-draft first (lam-draft (side_type-draft Second q (depth + 1) pairing is named (omega arith) inside) (side_variable-draft side (omega arith)))))
    hb

pub component-draft : {S : Signature} {count : ℕ} (q : Carrier) (depth : ℕ) (x : Point) (wanted : ℕ) (ds : List Direct) (tuple : Term) → IsCarrier S q → Named S count q.direct → q.params ≤ depth → IsPointIn S q depth x → AreDirectsBelow depth ds → Drafted S count depth tuple → Drafted S count depth (component q depth x wanted ds tuple)
component-draft q depth x wanted [] tuple is named low hx all h = h
component-draft {S} {count} q depth x wanted (d ∷ ds) tuple is named low hx all h =
    chosen (d.argument == wanted) (component-draft q depth x wanted ds (projection Second q depth (Several x d ds) tuple) is named low hx (All-tail (IsBelow depth) d ds all) (projection-draft Second q depth (Several x d ds) tuple is named low here h))
  where
    here : IsPairingIn S q depth (Several x d ds)
    here = (hx, All-head (IsBelow depth) d ds all, All-tail (IsBelow depth) d ds all)

    chosen : (b : Bool) → Drafted S count depth (component q depth x wanted ds (projection Second q depth (Several x d ds) tuple))
        → Drafted S count depth (cond b (projection First q depth (Several x d ds) tuple) (component q depth x wanted ds (projection Second q depth (Several x d ds) tuple)))
    chosen true others = projection-draft First q depth (Several x d ds) tuple is named low here h
    chosen false others = others

-- ---- claims

pub record IsPushIn (S : Signature) (count : ℕ) (q : Carrier) (depth : ℕ) (push : Push) : Type 0 where
  pub known : IsConstructorNumber S q.family push.constructor
  pub noconf : Named S count push.noconf
  pub spine : push.first + push.count ≤ depth
  pub first : push.first ≤ push.part
  pub part : push.part < push.first + push.count

pub push-more : {S : Signature} {count : ℕ} {q : Carrier} {depth : ℕ} {push : Push} (more : ℕ) → depth ≤ more → IsPushIn S count q depth push → IsPushIn S count q more push
push-more more le is = record { known = is.known; noconf = is.noconf; spine = omega (arith, is.spine); first = is.first; part = is.part }

pub whole-in : {S : Signature} {count : ℕ} {q : Carrier} {depth : ℕ} {push : Push} → IsPushIn S count q depth push → IsPointIn S q depth (pushed_whole push)
whole-in {push = push} is = built-in push.constructor push.first push.count is.known is.spine

pub part-in : {S : Signature} {count : ℕ} {q : Carrier} {depth : ℕ} {push : Push} → IsPushIn S count q depth push → IsPointIn S q depth (pushed_part push)
part-in {push = push} is = at_level-in push.part (omega (arith, is.part, is.spine))

abbrev pub IsClaimIn : Signature → (count : ℕ) → Carrier → (depth : ℕ) → Claim → Type 0
IsClaimIn S count q depth Parts = Unit {0}
IsClaimIn S count q depth Acyclic = Named S count q.direct
IsClaimIn S count q depth (Pushed push) = Named S count q.direct × IsPushIn S count q depth push

pub claim-more : (S : Signature) (count : ℕ) (q : Carrier) (depth more : ℕ) (claim : Claim) → depth ≤ more → IsClaimIn S count q depth claim → IsClaimIn S count q more claim
claim-more S count q depth more Parts le is = tt
claim-more S count q depth more Acyclic le is = is
claim-more S count q depth more (Pushed push) le is = (is.0, push-more more le is.1)

claim_at-draft : {S : Signature} {count : ℕ} (claim : Claim) (q : Carrier) (depth : ℕ) (b : Point) → IsCarrier S q → IsClaimIn S count q depth claim → q.params ≤ depth → IsPointIn S q depth b → Drafted S count depth (claim_at claim q depth b)
claim_at-draft Parts q depth b is claimed low hb = sort-draft q.level
claim_at-draft Acyclic q depth b is claimed low hb = no_part-draft q depth b b is claimed low hb hb
claim_at-draft (Pushed push) q depth b is claimed low hb =
    pi-draft (no_part-draft q depth (pushed_part push) b is claimed.0 low (part-in claimed.1) hb)
    (not_within-draft q (depth + 1) (pushed_whole push) b is claimed.0 (omega arith) (whole-in (push-more (depth + 1) (omega arith) claimed.1)) (point-more (depth + 1) (omega arith) hb))

pub eliminator-draft : {S : Signature} {count : ℕ} (claim : Claim) (q : Carrier) (depth : ℕ) → IsCarrier S q → IsClaimIn S count q depth claim → q.params ≤ depth → Drafted S count depth (eliminator claim q depth)
eliminator-draft {S} {count} claim q depth is claimed low =
    app-draft (at-run-draft (Elim q.family (claim_level claim q)) depth 0 q.params (omega arith) (elim-draft q.family (claim_level claim q) is.family))
    (lam-draft (carrier-draft q depth is low)
    (claim_at-draft claim q (depth + 1) (at_level depth) is (claim-more S count q depth (depth + 1) claim (omega arith) claimed) (omega arith) (at_level-in depth (omega arith))))

hypothesis_from-draft : {S : Signature} {count : ℕ} (claim : Claim) (q : Carrier) (runs : List (ℕ × ℕ)) (size depth r start inner : ℕ) (t : Term) → IsCarrier S q → IsClaimIn S count q depth claim → AreBelow runs size depth inner → q.params ≤ depth → r < depth → start ≤ depth → Drafted S count size t → Drafted S count depth (hypothesis_from claim q runs size depth r start inner t)
hypothesis_from-draft {S} {count} claim q runs size depth r start (suc inner) (Pi a b) is claimed below low hr hs ht =
    let parts = draft-pi ht in
    pi-draft (place-draft runs size depth a (below-here below) parts.0)
    (hypothesis_from-draft claim q runs (size + 1) (depth + 1) r start inner b is (claim-more S count q depth (depth + 1) claim (omega arith) claimed) (below-next (transport (AreBelow runs size depth) (omega arith) below)) (omega arith) (omega arith) (omega arith) parts.1)
hypothesis_from-draft claim q runs size depth r start _ t is claimed below low hr hs ht =
    claim_at-draft claim q depth (record { head = Variable r; start = start; count = depth - start }) is claimed low (record { head = hr; spine = omega arith })

hypothesis-draft : {S : Signature} {count : ℕ} (claim : Claim) (q : Carrier) (first at depth inner : ℕ) (t : Term) → IsCarrier S q → IsClaimIn S count q depth claim → q.params ≤ first → first + at < depth → Drafted S count (q.params + at) t → Drafted S count depth (hypothesis claim q first at depth inner t)
hypothesis-draft {S} {count} claim q first at depth inner t is claimed low below ht = by (nat_le inner 2000)
  where
    by : (b : Bool) → Drafted S count depth (if b then hypothesis_from claim q ((0, q.params) ∷ (first, at) ∷ (depth, inner) ∷ []) (q.params + at) depth (first + at) depth inner t else t)
    by true =
        hypothesis_from-draft claim q ((0, q.params) ∷ (first, at) ∷ (depth, inner) ∷ []) (q.params + at) depth (first + at) depth inner t is claimed
        (two-lists q.params first at depth inner low (omega arith)) (omega arith) below (omega arith) ht
    by false = draft-more (omega arith) ht

hypotheses_over-draft : {S : Signature} {count : ℕ} (claim : Claim) (q : Carrier) (first at depth : ℕ) (arguments : List ArgumentShape) (end : Term) → IsCarrier S q → IsClaimIn S count q depth claim → q.params ≤ first → first + at + length arguments ≤ depth → EachInTelescope (Drafted S count) (q.params + at) (types_of arguments)
    → Drafted S count (depth + recursive_count arguments) end → Drafted S count depth (hypotheses_over claim q first at depth arguments end)
hypotheses_over-draft claim q first at depth [] end is claimed low below all h = draft-more (omega arith) h
hypotheses_over-draft {S} {count} claim q first at depth (a ∷ arguments) end is claimed low below all h =
    by a.kind h
    (λ g. hypotheses_over-draft claim q first (at + 1) depth arguments end is claimed low (omega arith) rest g)
    (λ g. hypotheses_over-draft claim q first (at + 1) (depth + 1) arguments end is (claim-more S count q depth (depth + 1) claim (omega arith) claimed) low (omega arith) rest (draft-more (omega arith) g))
  where
    rest : EachInTelescope (Drafted S count) (q.params + (at + 1)) (types_of arguments)
    rest = transport (λ m. EachInTelescope (Drafted S count) m (types_of arguments)) (omega arith) all.1

    by : (kind : ArgKind) → Drafted S count (depth + by_kind kind (recursive_count arguments) (λ inner. recursive_count arguments + 1)) end
        → (Drafted S count (depth + recursive_count arguments) end → Drafted S count depth (hypotheses_over claim q first (at + 1) depth arguments end))
        → (Drafted S count (depth + (recursive_count arguments + 1)) end → Drafted S count (depth + 1) (hypotheses_over claim q first (at + 1) (depth + 1) arguments end))
        → Drafted S count depth (by_kind kind (hypotheses_over claim q first (at + 1) depth arguments end)
        (λ inner. Lam (hypothesis claim q first at depth inner a.type) (hypotheses_over claim q first (at + 1) (depth + 1) arguments end)))
    by PlainKind g plain recursive = plain g
    by (RecursiveKind inner) g plain recursive = lam-draft (hypothesis-draft claim q first at depth inner a.type is claimed low (omega arith) all.0) (recursive g)

pub method_over-draft : {S : Signature} {count : ℕ} (claim : Claim) (q : Carrier) (depth : ℕ) (c : ConstructorShape) (end : Term) → IsCarrier S q → IsClaimIn S count q depth claim → q.params ≤ depth → IsDraftConstructor S (length S.entries) count q.params c → Drafted S count (depth + length c.arguments + recursive_count c.arguments) end
    → Drafted S count depth (method_over claim q depth c end)
method_over-draft {S} {count} claim q depth c end is claimed low made h =
    let inside = depth + length c.arguments in
    constructor-over-draft Function q.params depth c (hypotheses_over claim q depth 0 inside c.arguments end) made low
    (hypotheses_over-draft claim q depth 0 inside c.arguments end is (claim-more S count q depth inside claim (omega arith) claimed) low (omega arith) (arguments-behind c made) h)
