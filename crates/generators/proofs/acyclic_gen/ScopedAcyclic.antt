-- `D!direct` and `D!acyclic` for a family of a scoped signature are scoped.
use Rattle.std.proofs.Common.{◌≡◌, ℕ, suc, ◌+◌, ◌<◌, ◌≤◌, Bool, true, false, cond, ◌||◌, List, [], ◌∷◌, length, map, All, Some, slice_get, Result, Ok, Err, IfOk, inr, refl, ap, sym, ◌∙◌, subst as transport, arith}
use Rattle.std.proofs.lemmas.List.Elements.{All-head, All-tail, All-nil, All-cons}
use Rattle.std.proofs.lemmas.Option.{same_Some}
use Rattle.theory.specs.Terms.{Term}
use Rattle.theory.specs.Terms.Term.{Var, Sort, Pi, App}
use Rattle.theory.specs.Families.{Constructor, Family}
use Rattle.theory.specs.Prelude.{prelude, unit_type}
use Rattle.theory.specs.Signatures.{Signature, FamilyOf, IsEntryAt, IsPrefix}
use Rattle.theory.specs.SignatureScopes.{IsConstructorNumber, IsScopedSignature}
use Rattle.core_terms.specs.Levels.{variable, bind}
use Rattle.core_terms.specs.declared.levels.Binder.{Binder}
use Rattle.core_terms.specs.declared.levels.Binder.TheVariants.{Product, Function}
use Rattle.core_terms.specs.declared.stop.Stop.{Stop}
use Rattle.core_sig.specs.Drafts.{Draft, draft_of}
use Rattle.core_sig.specs.FamilyShapes.{constructor_shape, family_shape}
use Rattle.core_sig.specs.ScopedDrafts.{IsScopedDraft}
use Rattle.core_sig.specs.Shapes.{ArgumentShape, ConstructorShape, Shape, by_kind, recursive_count}
use Rattle.core_sig.specs.declared.entry.Draft.{Draft as DraftOfCode}
use Rattle.core_sig.proofs.PlacedDrafts.{pi-draft, app-draft, bind-draft, draft-longer, var-draft, sort-draft, variable-draft}
use Rattle.core_sig.proofs.ScopedDrafts.{drafted-scoped}
use Rattle.core_sig.proofs.ShapeScopes.{IsDraftConstructor, IsDraftShape, fam-draft, con-draft, family-draft}
use Rattle.case_below_gen.specs.Components.{pair_of}
use Rattle.case_below_gen.specs.CourseEntries.{applied_to_methods}
use Rattle.case_below_gen.proofs.ScopedCases.{closed_over-draft}
use Rattle.case_below_gen.proofs.ScopedCourses.{pair_of-draft, pair_with-draft}
use Rattle.case_below_gen.proofs.ScopedEntries.{applied_to_methods-draft}
use Rattle.case_below_gen.proofs.ShapeLevels.{AreLowArguments, shape-levels}
use Rattle.generators.specs.acyclic_gen.AcyclicEntries.{with_part, pushes, acyclic_method, applied_to_acyclic_methods, acyclic_over, acyclic_type, acyclic_term, acyclic_name, noconf_name, noconf_names, names_for, acyclic_draft, acyclic_entry}
use Rattle.generators.specs.acyclic_gen.Answers.{Yields, unless_indexed}
use Rattle.generators.specs.acyclic_gen.Claims.{eliminator, pushed_whole}
use Rattle.generators.specs.acyclic_gen.DirectEntries.{carrier_of, parts_type, direct_method, direct_over, direct_type, direct_term, direct_name, direct_draft, direct_entry}
use Rattle.generators.specs.acyclic_gen.Pushing.{pushing}
use Rattle.generators.specs.acyclic_gen.Statements.{carrier_at, at_level, no_part, not_within, none_within, is_direct, has_direct, directs}
use Rattle.generators.specs.declared.acyclic_gen.carrier.Carrier.{Carrier}
use Rattle.generators.specs.declared.acyclic_gen.claims.Claim.TheVariants.{Direct as Parts, Acyclic}
use Rattle.generators.specs.declared.acyclic_gen.claims.Push.{Push}
use Rattle.generators.specs.declared.acyclic_gen.direct_arguments.Direct.{Direct}
use Rattle.generators.specs.declared.acyclic_gen.stop.AcyclicStop.{AcyclicStop}
use Rattle.generators.proofs.acyclic_gen.ScopedStatements.{Drafted, Named, IsCarrier, IsPushIn, IsBelow, AreDirectsBelow, carrier-there, carrier-draft, at_level-in, no_part-draft, not_within-draft, none_within-draft, directs-below, whole-in, eliminator-draft, method_over-draft}
use Rattle.generators.proofs.acyclic_gen.ScopedPushing.{IsPushing, pushing-draft}

-- ---- answers

pub unless-scoped : (T : Signature) {I : Type 0} (indices : List I) (result : Result Draft Stop) → IfOk result (IsScopedDraft T) → IfOk (unless_indexed indices result) (IsScopedDraft T)
unless-scoped T [] (Ok d) h = h
unless-scoped T [] (Err e) h = tt
unless-scoped T (index ∷ indices) result h = tt

-- the answer of a call is scoped if the meant one is
pub yields-scoped : (T : Signature) (result : Result DraftOfCode AcyclicStop) (meant : Result Draft AcyclicStop) → Yields draft_of result meant → IfOk meant (IsScopedDraft T) → IfOk result (λ d. IsScopedDraft T (draft_of d))
yields-scoped T (Ok d) meant is h = transport (λ r. IfOk r (IsScopedDraft T)) (sym is) h
yields-scoped T (Err e) meant is h = tt

-- ---- D!direct

parts_type-draft : {S : Signature} {count : ℕ} (q : Carrier) (depth : ℕ) (ds : List Direct) → IsCarrier S q → q.params < depth → AreDirectsBelow depth ds → Drafted S count depth (parts_type q depth ds)
parts_type-draft q depth [] is low all = fam-draft (unit_type q.level) is.pairs.unit
parts_type-draft q depth (d ∷ ds) is low all =
    let hd = All-head (IsBelow depth) d ds all in
    pair_of-draft q.level (pair_of q.level (App (variable depth q.params) (variable depth d.argument)) (variable depth d.hypothesis)) (parts_type q depth ds) is.pairs
    (pair_of-draft q.level (App (variable depth q.params) (variable depth d.argument)) (variable depth d.hypothesis) is.pairs
    (app-draft (variable-draft q.params low) (variable-draft d.argument hd.0)) (variable-draft d.hypothesis hd.1))
    (parts_type-draft q depth ds is low (All-tail (IsBelow depth) d ds all))

direct_method-draft : {S : Signature} {count : ℕ} (q : Carrier) (depth : ℕ) (c : ConstructorShape) → IsCarrier S q → q.params < depth → IsDraftConstructor S (length S.entries) count q.params c → Drafted S count depth (direct_method q depth c)
direct_method-draft q depth c is low made =
    let inside = depth + length c.arguments in
    let whole = inside + recursive_count c.arguments in
    let ds = directs depth inside c.arguments in
    method_over-draft Parts q depth c (parts_type q whole ds) is tt (omega arith) made
    (parts_type-draft q whole ds is (omega arith) (directs-below depth inside whole c.arguments (omega arith) (omega arith)))

direct_over-draft : {S : Signature} {count n : ℕ} (binder : Binder) (f : Shape) (q : Carrier) (end : Term) → IsCarrier S q → q.params ≡ length f.parameters → IsDraftShape S (length S.entries) count n f → Drafted S count (length f.parameters + 2) end → Drafted S count 0 (direct_over binder f q end)
direct_over-draft {S} {count} {n} binder f q end is e shape h =
    closed_over-draft binder f.parameters (bind binder (Pi (carrier_at q q.params) (Sort q.level)) (bind binder (carrier_at q (q.params + 1)) end)) shape.parameters
    (transport (λ p. Drafted S count p (bind binder (Pi (carrier_at q q.params) (Sort q.level)) (bind binder (carrier_at q (q.params + 1)) end))) e
    (bind-draft binder (pi-draft (carrier-draft q q.params is (omega arith)) (sort-draft q.level))
    (bind-draft binder (carrier-draft q (q.params + 1) is (omega arith)) (transport (λ p. Drafted S count p end) (omega arith) h))))

pub direct-scoped : (S T : Signature) (n : ℕ) (f : Family) → IsScopedSignature S → IsPrefix (prelude S.has_k) S → IsEntryAt S n (FamilyOf f) → IsPrefix S T → IfOk (direct_entry (length S.entries) n f) (IsScopedDraft T)
direct-scoped S T n f scoped first at longer =
    let shape = family_shape n f in
    let base = length S.entries in
    let q = carrier_of n shape base in
    let inside = q.params + 2 in
    let is = family-draft S 0 n f scoped at in
    let carrier = carrier-there S q first (shape-levels S n f scoped at).level (f, at) in
    let method : ℕ → ConstructorShape → Term = λ number c. direct_method q inside c in
    let head = eliminator Parts q inside in
    unless-scoped T shape.indices (direct_draft base f.name n shape)
    (drafted-scoped T (direct_name f.name) base [] (direct_type shape q) (direct_term shape q)
    (draft-longer longer (direct_over-draft Product shape q (Sort q.level) carrier refl is (sort-draft q.level)))
    (draft-longer longer
    (direct_over-draft Function shape q (App (applied_to_methods method 0 head shape.constructors) (Var 0)) carrier refl is
    (app-draft
    (applied_to_methods-draft n q.params inside method 0 head shape.constructors (λ i lt. is.numbers i (omega arith)) is.constructors
    (λ i c known made. direct_method-draft q inside c carrier (omega arith) made) (eliminator-draft Parts q inside carrier tt (omega arith)))
    (var-draft 0 (omega arith))))))

-- ---- D!acyclic: the tuples

-- the argument lies among these levels
abbrev IsAmong : (first end : ℕ) → Direct → Type 0
IsAmong first end d = (first ≤ d.argument) × (d.argument < end)

directs-among : (first end argument hypothesis : ℕ) (arguments : List ArgumentShape) → first ≤ argument → argument + length arguments ≤ end → All (IsAmong first end) (directs argument hypothesis arguments)
directs-among first end argument hypothesis [] le la = All-nil (IsAmong first end)
directs-among first end argument hypothesis (a ∷ arguments) le la =
    chosen (is_direct a.kind) (directs (argument + 1) (by_kind a.kind hypothesis (λ count. hypothesis + 1)) arguments)
    (directs-among first end (argument + 1) (by_kind a.kind hypothesis (λ count. hypothesis + 1)) arguments (omega arith) (omega arith))
  where
    chosen : (b : Bool) (others : List Direct) → All (IsAmong first end) others → All (IsAmong first end) (cond b (record { argument = argument; hypothesis = hypothesis } ∷ others) others)
    chosen true others all = All-cons (IsAmong first end) (record { argument = argument; hypothesis = hypothesis }) others (le, omega arith) all
    chosen false others all = all

or-first : (a b : Bool) → (a || b) ≡ false → a ≡ false
or-first true b e = e
or-first false b e = refl

or-second : (a b : Bool) → (a || b) ≡ false → b ≡ false
or-second true b e = absurd (grind arith)
or-second false b e = e

no-directs : (argument hypothesis : ℕ) (arguments : List ArgumentShape) → has_direct arguments ≡ false → directs argument hypothesis arguments ≡ []
no-directs argument hypothesis [] none = refl
no-directs argument hypothesis (a ∷ arguments) none =
    let next = by_kind a.kind hypothesis (λ count. hypothesis + 1) in
    let others = directs (argument + 1) next arguments in
    ap (λ b. cond b (record { argument = argument; hypothesis = hypothesis } ∷ others) others) (or-first (is_direct a.kind) (has_direct arguments) none)
    ∙ no-directs (argument + 1) next arguments (or-second (is_direct a.kind) (has_direct arguments) none)

-- the family with all its constructors, and the constant `D!direct`
record IsWhole (S : Signature) (count : ℕ) (q : Carrier) (constructors : List ConstructorShape) : Type 0 where
  first : IsPrefix (prelude S.has_k) S
  carrier : IsCarrier S q
  direct : Named S count q.direct
  made : All (IsDraftConstructor S (length S.entries) count q.params) constructors
  known : (i : ℕ) → i < length constructors → IsConstructorNumber S q.family i

pushes-draft : {S : Signature} {count : ℕ} (q : Carrier) (constructors : List ConstructorShape) (push : Push) (c : ConstructorShape) (depth : ℕ) (ds : List Direct) → IsWhole S count q constructors → IsDraftConstructor S (length S.entries) count q.params c → AreLowArguments c.arguments → push.count ≡ length c.arguments
    → slice_get constructors push.constructor ≡ Some c → IsConstructorNumber S q.family push.constructor → Named S count push.noconf → push.first + push.count ≤ depth → q.params ≤ depth → All (IsAmong push.first (push.first + push.count)) ds → AreDirectsBelow depth ds
    → Drafted S count depth (pushes q constructors push c.arguments depth ds)
pushes-draft q constructors push c depth [] is made levels arity at known named spine low among all = con-draft (unit_type q.level) 0 is.carrier.pairs.empty_tuple
pushes-draft {S} {count} q constructors push c depth (d ∷ ds) is made levels arity at known named spine low among all =
    let own = c.arguments in
    let whole = pushed_whole push in
    let Among = IsAmong push.first (push.first + push.count) in
    let here = All-head Among d ds among in
    let hd = All-head (IsBelow depth) d ds all in
    let rest = All-tail (IsBelow depth) d ds all in
    let part = with_part push d.argument in
    let pushed : IsPushIn S count q depth part = record { known = known; noconf = named; spine = spine; first = here.0; part = here.1 } in
    let pushing-here : IsPushing S count q part own = record { first = is.first; carrier = is.carrier; direct = is.direct; types = made.arguments; levels = levels; arity = arity } in
    pair_with-draft q.level (not_within q depth whole (at_level d.argument)) (none_within q depth whole ds)
    (App (App (pushing q constructors part own depth) (variable depth d.argument)) (variable depth d.hypothesis)) (pushes q constructors push own depth ds) is.carrier.pairs
    (not_within-draft q depth whole (at_level d.argument) is.carrier is.direct low (whole-in pushed) (at_level-in d.argument hd.0))
    (none_within-draft q depth whole ds is.carrier is.direct low (whole-in pushed) rest)
    (app-draft (app-draft
    (pushing-draft q constructors part own depth pushing-here pushed is.known is.made
    (λ e there. ap (λ (x : ConstructorShape). x.arguments) (same_Some c e (sym at ∙ there))) low)
    (variable-draft d.argument hd.0)) (variable-draft d.hypothesis hd.1))
    (pushes-draft q constructors push c depth ds is made levels arity at known named spine low (All-tail Among d ds among) rest)

acyclic_method-draft : {S : Signature} {count : ℕ} (q : Carrier) (constructors : List ConstructorShape) (depth number noconf : ℕ) (c : ConstructorShape) → IsWhole S count q constructors → IsDraftConstructor S (length S.entries) count q.params c → AreLowArguments c.arguments → slice_get constructors number ≡ Some c → IsConstructorNumber S q.family number
    → (has_direct c.arguments ≡ true → Named S count noconf) → q.params ≤ depth → Drafted S count depth (acyclic_method q constructors depth number noconf c)
acyclic_method-draft {S} {count} q constructors depth number noconf c is made levels at known named low =
    method_over-draft Acyclic q depth c (pushes q constructors push c.arguments whole ds) is.carrier is.direct low made (by (has_direct c.arguments) refl)
  where
    inside : ℕ
    inside = depth + length c.arguments

    whole : ℕ
    whole = inside + recursive_count c.arguments

    ds : List Direct
    ds = directs depth inside c.arguments

    push : Push
    push = record { constructor = number; noconf = noconf; first = depth; count = length c.arguments; part = depth }

    by : (b : Bool) → has_direct c.arguments ≡ b → Drafted S count whole (pushes q constructors push c.arguments whole ds)
    by true e =
        pushes-draft q constructors push c whole ds is made levels refl at known (named e) (omega arith) (omega arith)
        (directs-among depth (depth + length c.arguments) depth inside c.arguments (omega arith) (omega arith)) (directs-below depth inside whole c.arguments (omega arith) (omega arith))
    by false e =
        transport (λ xs. Drafted S count whole (pushes q constructors push c.arguments whole xs)) (sym (no-directs depth inside c.arguments e))
        (con-draft (unit_type q.level) 0 is.carrier.pairs.empty_tuple)

-- ---- the constants `D!noconf.c.0`

-- how many constructors have direct arguments
abbrev direct_count : List ConstructorShape → ℕ
direct_count [] = 0
direct_count (c ∷ constructors) = cond (has_direct c.arguments) (suc (direct_count constructors)) (direct_count constructors)

count-names : (family : List ℕ) (n : ℕ) (f : Family) (cs : List Constructor) → length (noconf_names family (map (λ (c : Constructor). c.name) cs) (map (constructor_shape n f) cs)) ≡ direct_count (map (constructor_shape n f) cs)
count-names family n f [] = refl
count-names family n f (c ∷ cs) = by (has_direct (constructor_shape n f c).arguments) (count-names family n f cs)
  where
    others : List (List ℕ)
    others = noconf_names family (map (λ (c : Constructor). c.name) cs) (map (constructor_shape n f) cs)

    by : (b : Bool) → length others ≡ direct_count (map (constructor_shape n f) cs) → length (cond b (noconf_name family c.name ∷ others) others) ≡ cond b (suc (direct_count (map (constructor_shape n f) cs))) (direct_count (map (constructor_shape n f) cs))
    by true e = ap suc e
    by false e = e

-- methods for constructors that are those of the family from `at` on
methods-draft : {S : Signature} {count : ℕ} (q : Carrier) (all : List ConstructorShape) (depth at noconf : ℕ) (head : Term) (constructors : List ConstructorShape) → IsWhole S count q all → All (IsDraftConstructor S (length S.entries) count q.params) constructors → All (λ d. AreLowArguments d.arguments) constructors
    → ((i : ℕ) (d : ConstructorShape) → slice_get constructors i ≡ Some d → slice_get all (at + i) ≡ Some d) → ((i : ℕ) → i < at + length constructors → IsConstructorNumber S q.family i) → length S.entries ≤ noconf → noconf + direct_count constructors ≤ length S.entries + count → q.params ≤ depth → Drafted S count depth head
    → Drafted S count depth (applied_to_acyclic_methods q all depth at noconf head constructors)
methods-draft q all depth at noconf head [] is made levels same known from to low h = h
methods-draft {S} {count} q all depth at noconf head (d ∷ constructors) is made levels same known from to low h =
    by (has_direct d.arguments) refl to
    (λ next from' to'. methods-draft q all depth (at + 1) next (App head (acyclic_method q all depth at noconf d)) constructors is (All-tail Made d constructors made) (All-tail Low d constructors levels)
    (λ i e there. transport (λ x. slice_get all x ≡ Some e) (omega arith) (same (suc i) e there)) (λ i lt. known i (omega arith)) from' to' low)
  where
    Made : ConstructorShape → Type 0
    Made = IsDraftConstructor S (length S.entries) count q.params

    Low : ConstructorShape → Type 0
    Low c = AreLowArguments c.arguments

    method : (has_direct d.arguments ≡ true → Named S count noconf) → Drafted S count depth (App head (acyclic_method q all depth at noconf d))
    method named =
        app-draft h
        (acyclic_method-draft q all depth at noconf d is (All-head Made d constructors made) (All-head Low d constructors levels)
        (transport (λ x. slice_get all x ≡ Some d) (omega arith) (same 0 d refl)) (known at (omega arith)) named low)

    by : (b : Bool) → has_direct d.arguments ≡ b → noconf + cond b (suc (direct_count constructors)) (direct_count constructors) ≤ length S.entries + count
        → ((next : ℕ) → length S.entries ≤ next → next + direct_count constructors ≤ length S.entries + count → Drafted S count depth (App head (acyclic_method q all depth at noconf d))
        → Drafted S count depth (applied_to_acyclic_methods q all depth (at + 1) next (App head (acyclic_method q all depth at noconf d)) constructors))
        → Drafted S count depth (applied_to_acyclic_methods q all depth (at + 1) (cond b (noconf + 1) noconf) (App head (acyclic_method q all depth at noconf d)) constructors)
    by true e room go = go (noconf + 1) (omega arith) (omega arith) (method (λ has. inr (from, omega arith)))
    by false e room go = go noconf from room (method (λ has. absurd (grind arith)))

acyclic_over-draft : {S : Signature} {count n : ℕ} (binder : Binder) (f : Shape) (q : Carrier) (end : Term) → IsCarrier S q → q.params ≡ length f.parameters → IsDraftShape S (length S.entries) count n f → Drafted S count (length f.parameters + 1) end → Drafted S count 0 (acyclic_over binder f q end)
acyclic_over-draft {S} {count} {n} binder f q end is e shape h =
    closed_over-draft binder f.parameters (bind binder (carrier_at q q.params) end) shape.parameters
    (bind-draft binder (transport (λ p. Drafted S count p (carrier_at q q.params)) e (carrier-draft q q.params is (omega arith))) h)

pub acyclic-scoped : (S T : Signature) (n : ℕ) (f : Family) → IsScopedSignature S → IsPrefix (prelude S.has_k) S → IsEntryAt S n (FamilyOf f) → IsPrefix S T → IfOk (acyclic_entry (length S.entries) n f) (IsScopedDraft T)
acyclic-scoped S T n f scoped first at longer =
    let shape = family_shape n f in
    let base = length S.entries in
    let names = map (λ (c : Constructor). c.name) f.constructors in
    let count = suc (length (noconf_names f.name names shape.constructors)) in
    let q = carrier_of n shape base in
    let inside = q.params + 1 in
    let is = family-draft S count n f scoped at in
    let levels = shape-levels S n f scoped at in
    let carrier = carrier-there S q first levels.level (f, at) in
    let direct : Named S count base = inr (omega arith, omega arith) in
    let whole : IsWhole S count q shape.constructors = record { first = first; carrier = carrier; direct = direct; made = is.constructors; known = is.numbers } in
    let head = eliminator Acyclic q inside in
    unless-scoped T shape.indices (acyclic_draft base f.name names n shape)
    (drafted-scoped T (acyclic_name f.name) base (names_for f.name names shape.constructors) (acyclic_type shape q) (acyclic_term shape q (base + 1))
    (draft-longer longer
    (acyclic_over-draft Product shape q (no_part q inside (at_level q.params) (at_level q.params)) carrier refl is
    (no_part-draft q inside (at_level q.params) (at_level q.params) carrier direct (omega arith) (at_level-in q.params (omega arith)) (at_level-in q.params (omega arith)))))
    (draft-longer longer
    (acyclic_over-draft Function shape q (App (applied_to_acyclic_methods q shape.constructors inside 0 (base + 1) head shape.constructors) (Var 0)) carrier refl is
    (app-draft
    (methods-draft q shape.constructors inside 0 (base + 1) head shape.constructors whole is.constructors levels.constructors
    (λ i d there. transport (λ x. slice_get shape.constructors x ≡ Some d) (omega arith) there) (λ i lt. is.numbers i (omega arith)) (omega arith)
    (omega (arith, count-names f.name n f f.constructors)) (omega arith) (eliminator-draft Acyclic q inside carrier direct (omega arith)))
    (var-draft 0 (omega arith))))))
