-- The record of a constructor that the code has found is scoped and has its kinds.
use Rattle.std.proofs.Common.{◌≡◌, ℕ, zero, suc, ◌+◌, ◌≤◌, ◌<◌, Bool, true, false, cond, option_map, List, [], ◌∷◌, ◌++◌, length, map, All, Result, Ok, Err, refl, ap, ap₂, sym, ◌∙◌, subst as transport, arith}
use Rattle.std.proofs.lemmas.List.{length-map, length-append}
use Rattle.std.proofs.lemmas.Option.{slice_get-map}
use Rattle.theory.specs.Terms.{Term, Fam, free_of, lift}
use Rattle.theory.specs.Families as pure
use Rattle.theory.specs.Families.{argument_types, index_types, level_of}
use Rattle.theory.specs.Scopes.{IsTelescopeOver, AreArgumentsOver, IsConstructorOver}
use Rattle.theory.specs.SignatureScopes.{IsScopedConstructor, IsScopedFamily}
use Rattle.theory.specs.Eliminators.{no_variable}
use Rattle.theory.specs.Substitutions.{fill}
use Rattle.theory.specs.Telescopes.{Telescope, applied, inst_telescope, variables, weaken_by}
use Rattle.theory.specs.WellFormed.{first_entries}
use Rattle.theory.proofs.Heights.{height-lift}
use Rattle.theory.proofs.ScopedEntries.{All-at}
use Rattle.core_terms.specs.Answers.{and_then, are_low, bounded_terms}
use Rattle.core_terms.specs.Meanings.{tree_of, tele_of}
use Rattle.core_terms.specs.declared.term.Term as code-term
use Rattle.core_terms.specs.declared.stop.Stop.{Stop}
use Rattle.core_terms.specs.declared.stop.Stop.TheVariants.{Deep}
use Rattle.core_sig.specs.declared.family.Constructor.{Constructor}
use Rattle.core_sig.specs.Kinds.{HaveKinds}
use Rattle.core_sig.specs.Meanings.{argument_of, constructor_of, family_of}
use Rattle.tele_eq.specs.Items.{Item, AreSmall, AreSmallTerms, item_of, items_of}
use Rattle.tele_eq.specs.declared.item.Item as code
use Rattle.tele_eq.specs.Congruences.{congruences}
use Rattle.unification.specs.Heights.{are_low_items, bounded_items, group_made}
use Rattle.unification.specs.Injecting.{lifted}
use Rattle.unification.specs.Records.{items_at, argument_items, family_items, constructor_terms}
use Rattle.problems.specs.CodeBuilt.{IsKnown}
use Rattle.problems.specs.CodeInjections.{group_made_behind}
use Rattle.problems.specs.Conditions.{AreOver, HasFewVariables, HaveFewVariables, most_depth}
use Rattle.problems.specs.declared.built.Built.{Built}
use Rattle.problems.proofs.LowTerms.{small-items, small-terms}
use Rattle.problems.proofs.RecordSizes.{arguments-few, constructor-over, family-few, family-scoped, lifted-free, scoped-over, terms-few}

-- ---- the record is in a signature

family-known : (b : Built) (k : IsKnown b) → IsScopedFamily k.S b.family (family_of b.record.now)
family-known b k = family-scoped k.S b.family (family_of b.record.now) k.ready.scoped k.family

pub kinds-known : (b : Built) → IsKnown b → HaveKinds b.family (family_of b.record.now) 0 b.con.now.args
kinds-known b k =
    All-at (λ c. HaveKinds b.family (family_of b.record.now) 0 c.args) b.record.now.cons b.number b.con.now k.there k.kinds.constructors

constructor-known : (b : Built) → IsKnown b → IsConstructorOver (length (tele_of b.record.now.params)) (constructor_of (length b.record.now.params) b.con.now)
constructor-known b k =
    let f = family_of b.record.now in
    let T = first_entries k.S (b.family + 1) in
    let p = length b.record.now.params in
    constructor-over T (length (tele_of b.record.now.params)) (length f.indices) (constructor_of p b.con.now)
    (All-at (IsScopedConstructor T (length f.parameters) (length f.indices)) f.constructors b.number (constructor_of p b.con.now)
    (slice_get-map (constructor_of p) b.record.now.cons b.number ∙ ap (option_map (constructor_of p)) k.there) (family-known b k).constructors)

indices-known : (b : Built) → IsKnown b → IsTelescopeOver (length (tele_of b.record.now.params)) (index_types (family_of b.record.now))
indices-known b k = scoped-over (first_entries k.S b.family) (length (tele_of b.record.now.params)) (index_types (family_of b.record.now)) (family-known b k).indices

-- ---- items and terms made of it are small

pub items-made : (X Y : List Item) → Ok Y ≡ bounded_items X → (Y ≡ X) × (are_low_items X ≡ true)
items-made X Y e = go (are_low_items X) refl e
  where
    go : (b : Bool) → are_low_items X ≡ b → ◌≡◌ {A = Result (List Item) Stop} (Ok Y) (cond b (Ok X) (Err Deep)) → (Y ≡ X) × (are_low_items X ≡ true)
    go true low e = (cc, low)
    go false low e = absurd (cc)

pub terms-made : (ts us : List Term) → Ok us ≡ bounded_terms ts → (us ≡ ts) × (are_low ts ≡ true)
terms-made ts us e = go (are_low ts) refl e
  where
    go : (b : Bool) → are_low ts ≡ b → ◌≡◌ {A = Result (List Term) Stop} (Ok us) (cond b (Ok ts) (Err Deep)) → (us ≡ ts) × (are_low ts ≡ true)
    go true low e = (cc, low)
    go false low e = absurd (cc)

made-small : (X Y : List Item) → Ok Y ≡ bounded_items X → HasFewVariables X → AreSmall Y
made-small X Y e few = let made = items-made X Y e in transport AreSmall (sym made.0) (small-items X made.1 few)

made-small-terms : (ts us : List Term) → Ok us ≡ bounded_terms ts → HaveFewVariables ts → AreSmallTerms us
made-small-terms ts us e few = let made = terms-made ts us e in transport AreSmallTerms (sym made.0) (small-terms ts made.1 few)

length-items : (tele : Telescope) (levels : List ℕ) → length (items_at tele levels) ≤ length levels
length-items [] levels = omega arith
length-items (a ∷ tele) [] = omega arith
length-items (a ∷ tele) (i ∷ levels) = let k = length-items tele levels in omega arith

pub arguments-many : (n : ℕ) (ps : List Term) (c : pure.Constructor) → length (argument_items n ps c) ≤ length c.arguments
arguments-many n ps c =
    let k = length-items (argument_types (fill no_variable ps) (applied (Fam n) ps) c.arguments) (map level_of c.arguments) in
    let l = length-map c.arguments level_of in
    omega arith

pub members-many : (n : ℕ) (f : pure.Family) (ps : List Term) → length (family_items n f ps) ≤ length f.indices + 1
members-many n f ps =
    let count = length f.indices in
    let k = length-items (inst_telescope (fill no_variable ps) (index_types f) ++ applied (weaken_by count (applied (Fam n) ps)) (variables count) ∷ []) (map (λ i. i.1) f.indices ++ f.level ∷ []) in
    let l = length-map f.indices (λ (i : Term × ℕ). i.1) in
    let m = length-append (map (λ (i : Term × ℕ). i.1) f.indices) (f.level ∷ []) in
    omega arith

-- the constructor that is known, with as many parameters
pub arguments-few-known : (b : Built) (ps : List Term) (p : ℕ) → IsKnown b → length ps ≡ p → p ≡ length b.record.now.params → AreOver most_depth ps
    → length b.con.now.args ≤ 2000 → HasFewVariables (argument_items b.family ps (constructor_of p b.con.now))
arguments-few-known b ps p known count e over few =
    arguments-few b.family ps (constructor_of p b.con.now) over
    (transport (λ k. AreArgumentsOver k (constructor_of p b.con.now).arguments) (length-map b.record.now.params tree_of ∙ (sym e ∙ sym count))
    (transport (λ k. AreArgumentsOver (length (tele_of b.record.now.params)) (constructor_of k b.con.now).arguments) (sym e) (constructor-known b known).arguments))
    (omega (arith, length-map b.con.now.args (argument_of p)))

pub arguments-small : (b : Built) (ps : List Term) (p : ℕ) (Y : List Item) → IsKnown b → length ps ≡ p → p ≡ length b.record.now.params → AreOver most_depth ps
    → length b.con.now.args ≤ 2000 → Ok Y ≡ bounded_items (argument_items b.family ps (constructor_of p b.con.now)) → AreSmall Y
arguments-small b ps p Y known count e over few made =
    made-small (argument_items b.family ps (constructor_of p b.con.now)) Y made (arguments-few-known b ps p known count e over few)

pub members-small : (b : Built) (ps : List Term) (Y : List Item) → IsKnown b → length ps ≡ length b.record.now.params → AreOver most_depth ps
    → length b.record.now.indices ≤ 2000 → Ok Y ≡ bounded_items (family_items b.family (family_of b.record.now) ps) → AreSmall Y
members-small b ps Y known count over few made =
    made-small (family_items b.family (family_of b.record.now) ps) Y made
    (family-few b.family (family_of b.record.now) ps over
    (transport (λ k. IsTelescopeOver k (index_types (family_of b.record.now))) (length-map b.record.now.params tree_of ∙ sym count) (indices-known b known))
    (omega (arith, length-map {B = Term × ℕ} b.record.now.indices (λ i. (tree_of i.ty, i.level)))))

-- how many there are
pub few-arguments-made : (b : Built) (ps : List Term) (p : ℕ) (Y : List code.Item) → length b.con.now.args ≤ 1000
    → Ok (items_of Y) ≡ bounded_items (argument_items b.family ps (constructor_of p b.con.now)) → length Y ≤ 1000
few-arguments-made b ps p Y few made =
    let same = ap length (items-made (argument_items b.family ps (constructor_of p b.con.now)) (items_of Y) made).0 in
    let many = arguments-many b.family ps (constructor_of p b.con.now) in
    let count = length-map b.con.now.args (argument_of p) in
    omega (arith, length-map Y item_of)

pub few-members-made : (b : Built) (ps : List Term) (Y : List code.Item) → length b.record.now.indices < 1000
    → Ok (items_of Y) ≡ bounded_items (family_items b.family (family_of b.record.now) ps) → length Y ≤ 1000
few-members-made b ps Y few made =
    let same = ap length (items-made (family_items b.family (family_of b.record.now) ps) (items_of Y) made).0 in
    let many = members-many b.family (family_of b.record.now) ps in
    let count = length-map {B = Term × ℕ} b.record.now.indices (λ i. (tree_of i.ty, i.level)) in
    omega (arith, length-map Y item_of)

pub terms-small : (b : Built) (ps : List Term) (p : ℕ) (us : List Term) → IsKnown b → length ps ≡ p → p ≡ length b.record.now.params → AreOver most_depth ps
    → length b.con.now.args ≤ 2000 → Ok us ≡ bounded_terms (constructor_terms b.family b.number ps (constructor_of p b.con.now)) → AreSmallTerms us
terms-small b ps p us known count e over few made =
    let c = constructor_of p b.con.now in
    made-small-terms (constructor_terms b.family b.number ps c) us made
    (terms-few b.family b.number ps c over
    (transport (λ k. All (λ t. free_of t ≤ k + length c.arguments) c.targets) (length-map b.record.now.params tree_of ∙ (sym e ∙ sym count))
    (transport (λ k. All (λ t. free_of t ≤ length (tele_of b.record.now.params) + length (constructor_of k b.con.now).arguments) c.targets) (sym e) (constructor-known b known).targets))
    (omega (arith, length-map b.con.now.args (argument_of p))))

-- ---- terms that are further in

pub over-more : (n m : ℕ) (ts : List Term) → n ≤ m → m ≤ most_depth → AreOver n ts → AreOver m ts
over-more n m [] le few h = tt
over-more n m (t ∷ ts) le few h = let f = h.0.1 in ((h.0.0, omega arith, few), over-more n m ts le few h.1)

pub lifted-over : (n by m : ℕ) (ts : List Term) → n + by ≤ m → m ≤ most_depth → AreOver n ts → AreOver m (lifted by ts)
lifted-over n by m [] le few h = tt
lifted-over n by m (t ∷ ts) le few h =
    let low = h.0.0 in
    let e = height-lift t by 0 in
    ((omega arith, lifted-free t by n m le h.0.1, few), lifted-over n by m ts le few h.1)

pub over-small : (n : ℕ) (ts : List Term) → AreOver n ts → AreSmallTerms ts
over-small n [] h = tt
over-small n (t ∷ ts) h = let f = h.0.1 in let few = h.0.2 in ((h.0.0, omega arith), over-small n ts h.1)

pub variables-small : (k : ℕ) → k ≤ 1000 → AreSmallTerms (variables k)
variables-small zero le = tt
variables-small (suc k) le = ((omega arith, omega arith), variables-small k (omega arith))

-- ---- the terms for the places and the equations of a group

pub group-made-is : (n number : ℕ) (f : pure.Family) (c : pure.Constructor) (ps us vs : List Term) (X Y : List Item) (Z : List Term) (count : ℕ)
    → Ok X ≡ bounded_items (argument_items n ps c) → Ok Y ≡ bounded_items (family_items n f ps) → Ok Z ≡ bounded_terms (constructor_terms n number ps c)
    → count ≡ length c.arguments
    → bounded_terms (congruences X Y Z (lifted count us) (lifted count vs) (variables count)) ≡ group_made_behind n number f c ps us vs
group-made-is n number f c ps us vs X Y Z count hx hy hz ec =
    let A = argument_items n ps c in
    let F = family_items n f ps in
    let T = constructor_terms n number ps c in
    let k = length c.arguments in
    let D = bounded_terms (congruences A F T (lifted k us) (lifted k vs) (variables k)) in
    ap (λ k. bounded_terms (congruences X Y Z (lifted k us) (lifted k vs) (variables k))) ec
    ∙ (ap (λ x. bounded_terms (congruences x Y Z (lifted k us) (lifted k vs) (variables k))) (items-made A X hx).0
    ∙ (ap (λ y. bounded_terms (congruences A y Z (lifted k us) (lifted k vs) (variables k))) (items-made F Y hy).0
    ∙ (ap (λ z. bounded_terms (congruences A F z (lifted k us) (lifted k vs) (variables k))) (terms-made T Z hz).0
    ∙ (ap (λ r. and_then r (λ terms. D)) hz
    ∙ (ap (λ r. and_then r (λ family. and_then (bounded_terms T) (λ terms. D))) hy
    ∙ ap (λ r. and_then r (λ arguments. and_then (bounded_items F) (λ family. and_then (bounded_terms T) (λ terms. D)))) hx)))))

length-lifted : (by : ℕ) (ts : List Term) → length (lifted by ts) ≡ length ts
length-lifted by ts = length-map ts (λ t. lift t by 0)

pub count-lifted : (by : ℕ) (ps qs : List code-term.Term) → tele_of qs ≡ lifted by (tele_of ps) → length qs ≡ length ps
count-lifted by ps qs e =
    sym (length-map qs tree_of) ∙ (ap length e ∙ (length-lifted by (tele_of ps) ∙ length-map ps tree_of))

pub behind-is : (n number : ℕ) (f : pure.Family) (con : Constructor) (ps qs us vs : List Term) (p q count : ℕ) → q ≡ p → qs ≡ lifted count ps
    → count ≡ length con.args
    → group_made_behind n number f (constructor_of q con) qs us vs ≡ group_made n number f (constructor_of p con) ps us vs
behind-is n number f con ps qs us vs p q count ep eq ec =
    ap₂ (λ k xs. group_made_behind n number f (constructor_of k con) xs us vs) ep
    (eq ∙ ap (λ k. lifted k ps) (ec ∙ sym (length-map con.args (argument_of p))))
