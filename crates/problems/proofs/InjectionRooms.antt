-- The terms for the places and the equations of a group are over few variables.
use Rattle.std.proofs.Common.{◌≡◌, ℕ, ◌+◌, ◌≤◌, nat_le, Bool, true, false, cond, Some, option_map, List, [], ◌∷◌, ◌++◌, length, drop, slice_get, All, Result, Ok, Err, refl, ap, ap₂, sym, ◌∙◌, subst as transport, arith}
use Rattle.std.proofs.lemmas.Bool.Decides.{nat_tests}
use Rattle.std.proofs.lemmas.List.{length-map}
use Rattle.std.proofs.lemmas.List.Elements.{All-head, All-tail, All-nil, All-cons}
use Rattle.std.proofs.lemmas.Option.{slice_get-map}
use Rattle.theory.specs.Families.{Family, Constructor}
use Rattle.theory.specs.Signatures.{Signature, FamilyOf, IsEntryAt}
use Rattle.theory.specs.SignatureScopes.{IsScoped}
use Rattle.theory.specs.Telescopes.{Telescope, variables}
use Rattle.theory.specs.Terms.{Term}
use Rattle.core_terms.specs.Answers.{and_then, are_low, bounded_terms, is_low}
use Rattle.core_terms.specs.Meanings.{tree_of, tele_of}
use Rattle.core_terms.specs.Levels.{variable}
use Rattle.core_terms.specs.declared.stop.Stop.{Stop}
use Rattle.core_terms.specs.declared.stop.Stop.TheVariants.{Deep}
use Rattle.tele_eq.specs.Environments.{Environment}
use Rattle.tele_eq.specs.Items.{Item, item_of, items_of}
use Rattle.tele_eq.specs.declared.item.Item as code-item
use Rattle.tele_eq.specs.TelescopicEquality.{equation_behind, equations}
use Rattle.tele_eq.proofs.Positions.{length-each_position}
use Rattle.unification.specs.Heights.{are_low_items, bounded_items, equations_made, group_made, most_places}
use Rattle.unification.specs.Injecting.{group_proofs, injected_equations, lifted}
use Rattle.unification.specs.Records.{argument_items, family_items, constructor_terms}
use Rattle.unification.specs.Moving.{over_first, behind, moved}
use Rattle.unification.specs.States.{Equation, State, equations_at}
use Rattle.unification.proofs.MovedStates.{group_proofs-scoped}
use Rattle.unification.proofs.ScopedRecords.{length-argument_items, constructor_terms-scoped}
use Rattle.core_sig.specs.Meanings.{argument_of, constructor_of, family_of}
use Rattle.core_terms.specs.declared.term.Term as code-term
use Rattle.problems.specs.CodeBuilt.{IsInjected, IsKnown}
use Rattle.problems.specs.declared.built.Built.{Built}
use Rattle.problems.proofs.GivenTerms.{all-over}
use Rattle.problems.proofs.RecordSizes.{family-entry}
use Rattle.problems.specs.CodeInjections.{equations_joined, injected_rest}
use Rattle.problems.specs.Conditions.{AreBehind, AreGiven, AreOver, ArePut, HasRoom, HaveFewVariables, most_depth, most_levels}
use Rattle.problems.specs.Meanings.{equation_of, equations_of, state_of}
use Rattle.problems.specs.declared.state.State as code
use Rattle.problems.proofs.KnownRecords.{over-more, terms-made}
use Rattle.problems.proofs.Rooms.{behind-drop, behind-few}
use Rattle.problems.proofs.LowTerms.{and-parts, low-height}

pub given-scoped : (S : Signature) (n : ℕ) (ts : List Term) → AreGiven S n ts → All (IsScoped S n) ts
given-scoped S n [] h = All-nil (IsScoped S n)
given-scoped S n (t ∷ ts) h = All-cons (IsScoped S n) t ts h.0.scoped (given-scoped S n ts h.1)

pub over-few-variables : (n : ℕ) (ts : List Term) → AreOver n ts → HaveFewVariables ts
over-few-variables n [] h = tt
over-few-variables n (t ∷ ts) h = let f = h.0.1 in let few = h.0.2 in (omega arith, over-few-variables n ts h.1)

scoped-put : (S : Signature) (n : ℕ) (ts : List Term) → are_low ts ≡ true → All (IsScoped S n) ts → n ≤ most_depth → ArePut n ts
scoped-put S n [] low all few = tt
scoped-put S n (t ∷ ts) low all few =
    let parts = and-parts (is_low t) (are_low ts) low in
    let h = low-height t parts.0 in
    (omega arith, (All-head (IsScoped S n) t ts all).variables, few, scoped-put S n ts parts.1 (All-tail (IsScoped S n) t ts all) few)

pub made-put : (S : Signature) (n : ℕ) (ts us : List Term) → Ok us ≡ bounded_terms ts → All (IsScoped S n) ts → n ≤ most_depth → ArePut n us
made-put S n ts us e all few = let made = terms-made ts us e in transport (ArePut n) (sym made.0) (scoped-put S n ts made.1 all few)

-- the last part of a chain that is answered
last-of : {A B : Type 0} (r : Result A Stop) (d : Result B Stop) (b : B) → Ok b ≡ and_then r (λ a. d) → Ok b ≡ d
last-of (Ok a) d b e = e
last-of (Err s) d b e = absurd (cc)

pub proofs-made : (n number : ℕ) (f : Family) (c : Constructor) (ps us vs made : List Term) → Ok made ≡ group_made n number f c ps us vs
    → Ok made ≡ bounded_terms (group_proofs n number f c ps us vs)
proofs-made n number f c ps us vs made e =
    let last = bounded_terms (group_proofs n number f c ps us vs) in
    let ps' = lifted (length c.arguments) ps in
    let terms = and_then (bounded_terms (constructor_terms n number ps' c)) (λ terms. last) in
    let family = and_then (bounded_items (family_items n f ps')) (λ family. terms) in
    last-of (bounded_terms (constructor_terms n number ps' c)) last made
    (last-of (bounded_items (family_items n f ps')) terms made (last-of (bounded_items (argument_items n ps' c)) family made e))

pub joined-same : (s : State) (g n number : ℕ) (f : Family) (c : Constructor) (ps us vs : List Term) (X : List Item) (types terms proofs : List Term)
    → X ≡ argument_items n ps c → types ≡ equations X us vs → length types ≡ length c.arguments
    → terms ≡ constructor_terms n number ps c → proofs ≡ group_proofs n number f c ps us vs
    → equations_joined s g X types us vs terms proofs ≡ injected_equations s g n number f c ps us vs
joined-same s g n number f c ps us vs X types terms proofs ex et count ht hp =
    let m = length s.context in
    let A = argument_items n ps c in
    let T = constructor_terms n number ps c in
    let P = group_proofs n number f c ps us vs in
    let at : List Item → List Term → ℕ → List Term → List Term → List Equation = λ X types k terms proofs.
    equations_at X types us vs
    ++ moved (behind m g (m + k) variable (over_first (m + k) terms)) (behind m g (m + k) variable (over_first (m + k) proofs)) (λ t. t) (m + g) (m + k) (drop g s.equations) in
    ap (λ k. at X types k terms proofs) count
    ∙ (ap₂ (λ terms proofs. at X types (length c.arguments) terms proofs) ht hp
    ∙ (ap (λ types. at X types (length c.arguments) T P) et
    ∙ ap (λ X. at X (equations X us vs) (length c.arguments) T P) ex))

-- the equations that the code joins
pub joined-made : (s : State) (g : ℕ) (X : List Item) (types us vs terms proofs : List Term) (m new : ℕ) (items kinds : Environment) (made rest all : List Equation)
    → all ≡ made ++ moved items kinds (λ t. t) (m + g) new rest
    → made ≡ equations_at X types us vs → items ≡ behind m g new variable (over_first new terms) → kinds ≡ behind m g new variable (over_first new proofs)
    → rest ≡ drop g s.equations → new ≡ m + length types → m ≡ length s.context → all ≡ equations_joined s g X types us vs terms proofs
joined-made s g X types us vs terms proofs m new items kinds made rest all e em ei ek er en ec =
    let at : ℕ → ℕ → List Equation = λ m new.
    equations_at X types us vs
    ++ moved (behind m g new variable (over_first new terms)) (behind m g new variable (over_first new proofs)) (λ t. t) (m + g) new (drop g s.equations) in
    e
    ∙ (ap₂ (λ made rest. made ++ moved items kinds (λ t. t) (m + g) new rest) em er
    ∙ (ap₂ (λ items kinds. equations_at X types us vs ++ moved items kinds (λ t. t) (m + g) new (drop g s.equations)) ei ek
    ∙ (ap (λ new. at m new) en ∙ ap (λ m. at m (m + length types)) ec)))

-- how many variables and equations a state of the code has
pub state-few : (s : code.State) → HasRoom (state_of s) → length s.ctx + length s.equations ≤ most_levels
state-few s room =
    let k = behind-few (length (tele_of s.ctx)) (length (tele_of s.ctx)) (equations_of s.equations) room.equations in
    omega (arith, length-map s.ctx tree_of, length-map s.equations equation_of)

-- the equations after a group
pub group-behind : (s : code.State) (n g : ℕ) (rest : List Equation) → HasRoom (state_of s) → g ≤ length s.equations → n ≡ length s.ctx
    → rest ≡ drop g (equations_of s.equations) → AreBehind n (n + g) rest
group-behind s n g rest room le en er =
    let m = length (tele_of s.ctx) in
    let many = length-map s.equations equation_of in
    transport (λ k. AreBehind k (k + g) rest) (length-map s.ctx tree_of ∙ sym en)
    (transport (AreBehind m (m + g)) (sym er) (behind-drop m m g (equations_of s.equations) (omega arith) room.equations))

-- the equations, where the parts are those that are meant
pub joined-is : (s : State) (g n number : ℕ) (f : Family) (c : Constructor) (ps us vs : List Term) (X : List Item) (types terms proofs : List Term)
    → X ≡ argument_items n ps c → types ≡ equations X us vs → length types ≡ length c.arguments
    → Ok terms ≡ bounded_terms (constructor_terms n number ps c) → Ok proofs ≡ group_made n number f c ps us vs
    → Ok (equations_joined s g X types us vs terms proofs) ≡ injected_rest s g n number f c ps us vs
joined-is s g n number f c ps us vs X types terms proofs ex et count ht hp =
    let A = argument_items n ps c in
    let T = constructor_terms n number ps c in
    let same : equations_joined s g X types us vs terms proofs ≡ injected_equations s g n number f c ps us vs =
    joined-same s g n number f c ps us vs X types terms proofs ex et count (terms-made T terms ht).0
    (terms-made (group_proofs n number f c ps us vs) proofs (proofs-made n number f c ps us vs proofs hp)).0 in
    ap (λ es. Ok es) same
    ∙ (ap (λ r. and_then r (λ terms. Ok (injected_equations s g n number f c ps us vs))) ht
    ∙ ap (λ r. and_then r (λ proofs. and_then (bounded_terms T) (λ terms. Ok (injected_equations s g n number f c ps us vs)))) hp)

-- there is an equation for each argument
pub types-many : (n : ℕ) (ps us vs types : List Term) (c : Constructor) (X : List Item) → X ≡ argument_items n ps c → types ≡ equations X us vs
    → length types ≡ length c.arguments
types-many n ps us vs types c X ex et =
    ap length et ∙ (length-each_position (equation_behind (length X) X us vs) 0 (length X) ∙ (ap length ex ∙ length-argument_items n ps c))

-- ---- properties of an injectivity

pub parameters-over : (b : Built) (n m : ℕ) (ps us vs : List Term) → IsInjected b n ps us vs → n ≤ m → m ≤ most_depth → AreOver m ps
parameters-over b n m ps us vs h le few = over-more n m ps le few (all-over h.known.S n ps h.parameters)

pub left-over : (b : Built) (n m : ℕ) (ps us vs : List Term) → IsInjected b n ps us vs → n ≤ m → m ≤ most_depth → AreOver m us
left-over b n m ps us vs h le few = over-more n m us le few (all-over h.known.S n us h.left)

pub right-over : (b : Built) (n m : ℕ) (ps us vs : List Term) → IsInjected b n ps us vs → n ≤ m → m ≤ most_depth → AreOver m vs
right-over b n m ps us vs h le few = over-more n m vs le few (all-over h.known.S n vs h.right)

constructor-there : (b : Built) (p : ℕ) → IsKnown b → p ≡ length b.record.now.params
    → slice_get (family_of b.record.now).constructors b.number ≡ Some (constructor_of p b.con.now)
constructor-there b p k e =
    let q = length b.record.now.params in
    slice_get-map (constructor_of q) b.record.now.cons b.number ∙ (ap (option_map (constructor_of q)) k.there ∙ ap (λ q. Some (constructor_of q b.con.now)) (sym e))

entry-there : (b : Built) (k : IsKnown b) → IsEntryAt k.S b.family (FamilyOf (family_of b.record.now))
entry-there b k = family-entry (slice_get (k.S).entries b.family) (family_of b.record.now) k.family

pub terms-put : (b : Built) (n p : ℕ) (ps us vs terms : List Term) → IsInjected b n ps us vs → p ≡ length b.record.now.params
    → Ok terms ≡ bounded_terms (constructor_terms b.family b.number ps (constructor_of p b.con.now)) → n + length b.con.now.args ≤ most_depth
    → ArePut (n + length b.con.now.args) terms
terms-put b n p ps us vs terms h e made few =
    let S = h.known.S in
    let c = constructor_of p b.con.now in
    made-put S (n + length b.con.now.args) (constructor_terms b.family b.number ps c) terms made
    (transport (λ k. All (IsScoped S (n + k)) (constructor_terms b.family b.number ps c)) (length-map b.con.now.args (argument_of p))
    (constructor_terms-scoped S b.family b.number n (family_of b.record.now) c ps h.known.ready.scoped (entry-there b h.known)
    (constructor-there b p h.known e) (given-scoped S n ps h.parameters))) few

pub proofs-put : (b : Built) (n p : ℕ) (ps us vs proofs : List Term) → IsInjected b n ps us vs → p ≡ length b.record.now.params
    → Ok proofs ≡ group_made b.family b.number (family_of b.record.now) (constructor_of p b.con.now) ps us vs → n + length b.con.now.args ≤ most_depth
    → ArePut (n + length b.con.now.args) proofs
proofs-put b n p ps us vs proofs h e made few =
    let S = h.known.S in
    let c = constructor_of p b.con.now in
    let f = family_of b.record.now in
    made-put S (n + length b.con.now.args) (group_proofs b.family b.number f c ps us vs) proofs
    (proofs-made b.family b.number f c ps us vs proofs made)
    (transport (λ k. All (IsScoped S (n + k)) (group_proofs b.family b.number f c ps us vs)) (length-map b.con.now.args (argument_of p))
    (group_proofs-scoped S n b.family b.number f f c ps us vs h.known.ready (entry-there b h.known) (constructor-there b p h.known e) (entry-there b h.known)
    (given-scoped S n ps h.parameters) (given-scoped S n us h.left) (given-scoped S n vs h.right))) few

-- how many types there are in the code
pub code-types : (b : Built) (p : ℕ) (ps us vs : List Term) (types : List code-term.Term) (X : List Item)
    → X ≡ argument_items b.family ps (constructor_of p b.con.now) → tele_of types ≡ equations X us vs → length types ≡ length b.con.now.args
code-types b p ps us vs types X ex et =
    sym (length-map types tree_of)
    ∙ (types-many b.family ps us vs (tele_of types) (constructor_of p b.con.now) X ex et ∙ length-map b.con.now.args (argument_of p))

-- ---- the equations of the arguments

pub equations-refused : (X : List Item) (us vs : List Term) (e : Stop) → Err e ≡ bounded_items X → Err e ≡ equations_made X us vs
equations-refused X us vs e h = go (are_low_items X) (nat_le (length X) most_places) h
  where
    go : (low few : Bool) → ◌≡◌ {A = Result (List Item) Stop} (Err e) (cond low (Ok X) (Err Deep))
        → ◌≡◌ {A = Result Telescope Stop} (Err e) (cond few (and_then (cond low (Ok X) (Err Deep)) (λ items. bounded_terms (equations items us vs))) (Err Deep))
    go true few h = absurd (cc)
    go false true h = cc
    go false false h = cc

pub equations-are : (X : List Item) (us vs types : List Term) → Ok types ≡ equations_made X us vs → (types ≡ equations X us vs) × (length X ≤ 1000)
equations-are X us vs types h = go (nat_le (length X) most_places) (are_low_items X) refl h
  where
    go : (few low : Bool) → nat_le (length X) most_places ≡ few
        → ◌≡◌ {A = Result Telescope Stop} (Ok types) (cond few (and_then (cond low (Ok X) (Err Deep)) (λ items. bounded_terms (equations items us vs))) (Err Deep))
        → (types ≡ equations X us vs) × (length X ≤ 1000)
    go true true few h = ((terms-made (equations X us vs) types h).0, grind (arith, nat_tests))
    go true false few h = absurd (cc)
    go false low few h = absurd (cc)

-- as many items as arguments
pub code-items : (b : Built) (p : ℕ) (ps : List Term) (tele : List code-item.Item) → items_of tele ≡ argument_items b.family ps (constructor_of p b.con.now)
    → length tele ≡ length b.con.now.args
code-items b p ps tele e =
    sym (length-map tele item_of)
    ∙ (ap length e ∙ (length-argument_items b.family ps (constructor_of p b.con.now) ∙ length-map b.con.now.args (argument_of p)))
