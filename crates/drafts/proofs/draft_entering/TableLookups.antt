-- An entry that is found by its name is generated over the signature, and so are those that its draft mentions.
use Rattle.std.proofs.Common.{◌≡◌, inl, inr, ℕ, zero, suc, ◌+◌, ◌<◌, ◌≤◌, ◌&&◌, Bool, true, false, cond, nat_lt, nat_le, if◌then◌else◌, Some, List, [], ◌∷◌, ◌++◌, flat_map, map, length, max, get_or, slice_get, bytes_eq, codes, Ok, Err, IfOk, refl, sym, ap, ◌∙◌, subst as transport, arith, append_assoc}
use Rattle.std.specs.List.{All, filter, range_with_len}
use Rattle.std.proofs.lemmas.Bool.{and_parts}
use Rattle.std.proofs.lemmas.Bool.Decides.{nat_tests}
use Rattle.std.proofs.lemmas.List.{length-map}
use Rattle.std.proofs.lemmas.List.Elements.{All-cons, All-nil}
use Rattle.std.proofs.lemmas.Option.{none-some}
use Rattle.std.proofs.lemmas.Slice.Eq.{bytes_eq-Decides}
use Rattle.theory.specs.Terms.{Term, height, top}
use Rattle.theory.specs.Families.{Family}
use Rattle.theory.specs.Signatures.{Signature, Entry, FamilyOf, EliminatorAt, AxiomKAt, Definition, IsEntryAt}
use Rattle.theory.proofs.Lists.{some_is}
use Rattle.theory.proofs.WellFormedness.{same_family}
use Rattle.core_terms.specs.Answers.{and_then}
use Rattle.core_terms.specs.declared.stop.Stop.TheVariants.{Deep}
use Rattle.core_sig.specs.Drafts.{drafted, generated_name}
use Rattle.core_sig.specs.FamilyShapes.{family_shape}
use Rattle.core_sig.specs.Shapes.{ConstructorShape}
use Rattle.case_below_gen.specs.CaseEntries.{case_type, case_term}
use Rattle.case_below_gen.specs.CourseEntries.{course_of, below_type, below_term, aux_type, aux_term}
use Rattle.case_below_gen.specs.Projections.{side_entry_type, side_entry_term}
use Rattle.case_below_gen.specs.declared.sides.Side.TheVariants.{First, Second}
use Rattle.case_below_gen.specs.LeftEntries.{left_type, left_term}
use Rattle.generators.specs.noconf_gen.NoConfusion.{noconf_type, noconf_term}
use Rattle.generators.specs.acyclic_gen.DirectEntries.{carrier_of, direct_type, direct_term}
use Rattle.generators.specs.acyclic_gen.AcyclicEntries.{noconf_name, noconf_names, names_for, acyclic_type, acyclic_term}
use Rattle.generators.specs.acyclic_gen.Statements.{has_direct}
use Rattle.generators.specs.noconf_gen.NoConfusionTypes.{constructor_at, confusion_level, constructor_mark, constructor_name, nct_type, nct_term}
use Rattle.unification.specs.Built.{has_no_indices}
use Rattle.clause_reports.specs.Generated as pure
use Rattle.clause_reports.specs.Generated.{Generated, Case, Below, Aux, Rec, ConfusionType, NoConfusion, Direct, Acyclic, Left, name_of, is_generated, at_level, of_entry, of_entries, of_identities, levels, generated_by, generated_draft}
use Rattle.drafts.specs.draft_entering.ByNumbers.{IsThere, HasRecord, draft_meant, record_of, HasNoIndices, HasPartLevel}
use Rattle.drafts.specs.draft_entering.Conditions.{IsEnterable, IsGeneratedName}
use Rattle.drafts.specs.draft_entering.FoundNames.{numbers_of}
use Rattle.drafts.specs.draft_entering.Tables.{IsListed, names_by, IsMadeOf}
use Rattle.drafts.proofs.draft_entering.ListedIn.{In, in-left, in-right, in-cases, in-flat, flat-in, in-map, map-in, in-first, range-in, in-filter, filter-in, in-found, found-in}

-- ---- listed entries are generated

entry-in : (g : Generated) (k n : ℕ) (e : Entry) (entries : List Entry) → slice_get entries n ≡ Some e → In g (of_entry (k + n) e) → In g (of_entries k entries)
entry-in g k n e [] at h = absurd (none-some e at)
entry-in g k zero e (x ∷ entries) at h =
    let same : k + zero ≡ k = omega arith in
    in-left g (of_entry k x) (of_entries (k + 1) entries) (transport (λ y. In g (of_entry k y)) (sym (some_is at)) (transport (λ i. In g (of_entry i e)) same h))
entry-in g k (suc n) e (x ∷ entries) at h =
    let same : k + suc n ≡ k + 1 + n = omega arith in
    in-right g (of_entry k x) (of_entries (k + 1) entries) (entry-in g (k + 1) n e entries at (transport (λ i. In g (of_entry i e)) same h))

in-entries : (S : Signature) (g : Generated) (n : ℕ) (f : Family) → IsEntryAt S n (FamilyOf f) → In g (of_entry n (FamilyOf f)) → In g (of_entries 0 S.entries ++ of_identities)
in-entries S g n f at h =
    let same : n ≡ 0 + n = omega arith in
    in-left g (of_entries 0 S.entries) of_identities (entry-in g 0 n (FamilyOf f) S.entries at (transport (λ i. In g (of_entry i (FamilyOf f))) same h))

level-in : (g : Generated) (n : ℕ) (f : Family) (m : ℕ) → m < top → In g (at_level n f m) → In g (of_entry n (FamilyOf f))
level-in g n f m lt h = inr (inr (in-flat (at_level n f) m g levels (in-first top m lt) h))

confusion-in : (g : Generated) (n : ℕ) (f : Family) (number m : ℕ) → number < length f.constructors → In g (ConfusionType n f number m ∷ NoConfusion n f number m ∷ []) → In g (at_level n f m)
confusion-in g n f number m lt h =
    inr (inr (inr (inr (inr (in-flat (λ k. ConfusionType n f k m ∷ NoConfusion n f k m ∷ []) number g (range_with_len 0 (length f.constructors)) (in-first (length f.constructors) number lt) h)))))

listed-in : (S : Signature) (g : Generated) → IsListed S g → In g (of_entries 0 S.entries ++ of_identities)
listed-in S (Case n f m) (at, lt) = in-entries S (Case n f m) n f at (level-in (Case n f m) n f m lt (inl refl))
listed-in S (Below n f m) (at, lt) = in-entries S (Below n f m) n f at (level-in (Below n f m) n f m lt (inr (inl refl)))
listed-in S (Aux n f m) (at, lt) = in-entries S (Aux n f m) n f at (level-in (Aux n f m) n f m lt (inr (inr (inl refl))))
listed-in S (Rec n f m) (at, lt) = in-entries S (Rec n f m) n f at (level-in (Rec n f m) n f m lt (inr (inr (inr (inl refl)))))
listed-in S (pure.All n f m) (at, lt) = in-entries S (pure.All n f m) n f at (level-in (pure.All n f m) n f m lt (inr (inr (inr (inr (inl refl))))))
listed-in S (ConfusionType n f number m) (at, (lt, within)) =
    in-entries S (ConfusionType n f number m) n f at (level-in (ConfusionType n f number m) n f m lt (confusion-in (ConfusionType n f number m) n f number m within (inl refl)))
listed-in S (NoConfusion n f number m) (at, (lt, within)) =
    in-entries S (NoConfusion n f number m) n f at (level-in (NoConfusion n f number m) n f m lt (confusion-in (NoConfusion n f number m) n f number m within (inr (inl refl))))
listed-in S (Direct n f) at = in-entries S (Direct n f) n f at (inl refl)
listed-in S (Acyclic n f) at = in-entries S (Acyclic n f) n f at (inr (inl refl))
listed-in S (Left i m) (lt, within) =
    in-right (Left i m) (of_entries 0 S.entries) of_identities
    (in-flat (λ k. map (Left k) levels) i (Left i m) levels (in-first top i lt) (in-map (Left i) m levels (in-first top m within)))

-- so its name is found
pub listed-named : (S : Signature) (g : Generated) → IsListed S g → is_generated g ≡ true → IsGeneratedName S (name_of g)
listed-named S g listed made =
    in-found (λ h. bytes_eq (name_of h) (name_of g)) g (filter is_generated (of_entries 0 S.entries ++ of_identities))
    (in-filter is_generated g (of_entries 0 S.entries ++ of_identities) (listed-in S g listed) made)
    ((bytes_eq-Decides (name_of g) (name_of g)).1 refl)

-- ---- and back

in-entry : (g : Generated) (k : ℕ) (entries : List Entry) → In g (of_entries k entries) → (n : ℕ) × (e : Entry) × (slice_get entries n ≡ Some e) × In g (of_entry (k + n) e)
in-entry g k [] h = absurd h
in-entry g k (x ∷ entries) h = elim (in-cases g (of_entry k x) (of_entries (k + 1) entries) h) [
  | inl here ↦ let same : k ≡ k + zero = omega arith in (zero, x, refl, transport (λ i. In g (of_entry i x)) same here)
  | inr later ↦
      let r = in-entry g (k + 1) entries later in
      let same : k + 1 + r.0 ≡ k + suc r.0 = omega arith in
      (suc r.0, r.1, r.2, transport (λ i. In g (of_entry i r.1)) same r.3)
]

confusions-listed : (S : Signature) (n : ℕ) (f : Family) (m : ℕ) (g : Generated) → IsEntryAt S n (FamilyOf f) → m < top
    → In g (flat_map (λ k. ConfusionType n f k m ∷ NoConfusion n f k m ∷ []) (range_with_len 0 (length f.constructors))) → IsListed S g
confusions-listed S n f m g at lt h =
    let r = flat-in (λ k. ConfusionType n f k m ∷ NoConfusion n f k m ∷ []) g (range_with_len 0 (length f.constructors)) h in
    let within : r.0 < length f.constructors = omega (arith, range-in 0 (length f.constructors) r.0 r.1) in
    by r.0 within r.2
  where
    by : (k : ℕ) → k < length f.constructors → In g (ConfusionType n f k m ∷ NoConfusion n f k m ∷ []) → IsListed S g
    by k within (inl e) = transport (IsListed S) (sym e) (at, (lt, within))
    by k within (inr (inl e)) = transport (IsListed S) (sym e) (at, (lt, within))
    by k within (inr (inr h)) = absurd h

level-listed : (S : Signature) (n : ℕ) (f : Family) (m : ℕ) (g : Generated) → IsEntryAt S n (FamilyOf f) → m < top → In g (at_level n f m) → IsListed S g
level-listed S n f m g at lt (inl e) = transport (IsListed S) (sym e) (at, lt)
level-listed S n f m g at lt (inr (inl e)) = transport (IsListed S) (sym e) (at, lt)
level-listed S n f m g at lt (inr (inr (inl e))) = transport (IsListed S) (sym e) (at, lt)
level-listed S n f m g at lt (inr (inr (inr (inl e)))) = transport (IsListed S) (sym e) (at, lt)
level-listed S n f m g at lt (inr (inr (inr (inr (inl e))))) = transport (IsListed S) (sym e) (at, lt)
level-listed S n f m g at lt (inr (inr (inr (inr (inr h))))) = confusions-listed S n f m g at lt h

family-listed : (S : Signature) (n : ℕ) (f : Family) (g : Generated) → IsEntryAt S n (FamilyOf f) → In g (of_entry n (FamilyOf f)) → IsListed S g
family-listed S n f g at (inl e) = transport (IsListed S) (sym e) at
family-listed S n f g at (inr (inl e)) = transport (IsListed S) (sym e) at
family-listed S n f g at (inr (inr h)) =
    let r = flat-in (at_level n f) g levels h in level-listed S n f r.0 g at (omega (arith, range-in 0 top r.0 r.1)) r.2

entry-listed : (S : Signature) (n : ℕ) (e : Entry) (g : Generated) → IsEntryAt S n e → In g (of_entry n e) → IsListed S g
entry-listed S n (FamilyOf f) g at h = family-listed S n f g at h
entry-listed S n (EliminatorAt k m) g at h = absurd h
entry-listed S n (AxiomKAt i m) g at h = absurd h
entry-listed S n (Definition name type body) g at h = absurd h

identity-listed : (S : Signature) (g : Generated) → In g of_identities → IsListed S g
identity-listed S g h =
    let r = flat-in (λ k. map (Left k) levels) g levels h in
    let s = map-in (Left r.0) g levels r.2 in
    let first : r.0 < top = omega (arith, range-in 0 top r.0 r.1) in
    let second : s.0 < top = omega (arith, range-in 0 top s.0 s.1) in
    transport (IsListed S) (sym s.2) (first, second)

in-listed : (S : Signature) (g : Generated) → In g (of_entries 0 S.entries ++ of_identities) → IsListed S g
in-listed S g h = elim (in-cases g (of_entries 0 S.entries) of_identities h) [
  | inl entry ↦
      let r = in-entry g 0 S.entries entry in
      let same : 0 + r.0 ≡ r.0 = omega arith in
      entry-listed S r.0 r.1 g r.2 (transport (λ i. In g (of_entry i r.1)) same r.3)
  | inr identity ↦ identity-listed S g identity
]

-- the entry that is found by a name
pub record IsFoundBy (S : Signature) (name : List ℕ) (g : Generated) : Type 0 where
  pub listed : IsListed S g
  pub made : is_generated g ≡ true
  pub named : name_of g ≡ name

pub found-listed : (S : Signature) (name : List ℕ) (g : Generated) → generated_by S name ≡ Some g → IsFoundBy S name g
found-listed S name g is =
    let r = found-in (λ h. bytes_eq (name_of h) name) g (filter is_generated (of_entries 0 S.entries ++ of_identities)) is in
    let q = filter-in is_generated g (of_entries 0 S.entries ++ of_identities) r.0 in
    record { listed = in-listed S g q.0; made = q.1; named = (bytes_eq-Decides (name_of g) name).0 r.1 }

-- ---- by numbers

lower : (a b m : ℕ) → (nat_le a b && nat_lt (m + 1) top) ≡ true → m + 1 < top
lower a b m h = let p = and_parts (nat_le a b) (nat_lt (m + 1) top) h in let q = p.1 in grind (arith, nat_tests)

below-top : (m : ℕ) → nat_lt m top ≡ true → m < top
below-top m h = grind (arith, nat_tests)

confused : (S : Signature) (n : ℕ) (f : Family) (number m : ℕ) → IsEntryAt S n (FamilyOf f) → number < length f.constructors
    → nat_lt (max f.level (m + 1) + 1) top ≡ true
    → ((g : Family) × IsEntryAt S n (FamilyOf g) × (number < length g.constructors)) × ((g : Family) → IsEntryAt S n (FamilyOf g) → max g.level (m + 1) + 1 < top)
confused S n f number m at within h =
    ((f, at, within), λ g there. transport (λ r. max r.level (m + 1) + 1 < top) (same_family S n f g at there) (below-top (max f.level (m + 1) + 1) h))

apart : (S : Signature) (n : ℕ) (f : Family) → IsEntryAt S n (FamilyOf f) → (has_no_indices f && nat_lt (f.level + 1) top) ≡ true
    → ((g : Family) × IsEntryAt S n (FamilyOf g)) × (HasNoIndices S n × HasPartLevel S n)
apart S n f at h =
    let p = and_parts (has_no_indices f) (nat_lt (f.level + 1) top) h in (
      (f, at),
      (
        λ g there. transport (λ r. has_no_indices r ≡ true) (same_family S n f g at there) p.0,
        λ g there. transport (λ r. r.level + 1 < top) (same_family S n f g at there) (below-top (f.level + 1) p.1),
      ),
    )

pub listed-there : (S : Signature) (g : Generated) → IsListed S g → is_generated g ≡ true → IsThere S (numbers_of g)
listed-there S (Case n f m) (at, lt) h = ((f, at), lt)
listed-there S (Below n f m) (at, lt) h = ((f, at), lower f.level m m h)
listed-there S (Aux n f m) (at, lt) h = ((f, at), lower f.level m m h)
listed-there S (Rec n f m) (at, lt) h = ((f, at), lower f.level m m h)
listed-there S (pure.All n f m) (at, lt) h = ((f, at), lower f.level m m h)
listed-there S (ConfusionType n f number m) (at, (lt, within)) h = confused S n f number m at within h
listed-there S (NoConfusion n f number m) (at, (lt, within)) h = confused S n f number m at within h
listed-there S (Direct n f) at h = apart S n f at h
listed-there S (Acyclic n f) at h = apart S n f at h
listed-there S (Left i m) (lt, within) h =
    let q : max i (m + 1) < top = below-top (max i (m + 1)) h in (lt, omega (arith, q))

pub listed-record : (S : Signature) (g : Generated) → IsListed S g → HasRecord S (numbers_of g) (record_of g)
listed-record S (Case n f m) h = h.0
listed-record S (Below n f m) h = h.0
listed-record S (Aux n f m) h = h.0
listed-record S (Rec n f m) h = h.0
listed-record S (pure.All n f m) h = h.0
listed-record S (ConfusionType n f number m) h = h.0
listed-record S (NoConfusion n f number m) h = h.0
listed-record S (Direct n f) h = h
listed-record S (Acyclic n f) h = h
listed-record S (Left i m) h = tt

pub meant-is : (base : ℕ) (g : Generated) → draft_meant base (record_of g) (numbers_of g) ≡ generated_draft base g
meant-is base (Case n f m) = refl
meant-is base (Below n f m) = refl
meant-is base (Aux n f m) = refl
meant-is base (Rec n f m) = refl
meant-is base (pure.All n f m) = refl
meant-is base (ConfusionType n f number m) = refl
meant-is base (NoConfusion n f number m) = refl
meant-is base (Direct n f) = refl
meant-is base (Acyclic n f) = refl
meant-is base (Left i m) = refl

-- ---- the drafts

drafted-made : (name : List ℕ) (base : ℕ) (names : List (List ℕ)) (type term : Term) → IfOk (drafted name base names type term) (IsMadeOf name names)
drafted-made name base names type term = by (nat_le (height type) 2000) (nat_le (height term) 2000) refl refl
  where
    low : (t : Term) → nat_le (height t) 2000 ≡ true → height t ≤ 2000
    low t h = grind (arith, nat_tests)

    by : (b c : Bool) → nat_le (height type) 2000 ≡ b → nat_le (height term) 2000 ≡ c
        → IfOk (and_then (if b then Ok type else Err Deep) (λ t. and_then (if c then Ok term else Err Deep) (λ u. Ok (record { entry = Definition name t u; base = base; names = names })))) (IsMadeOf name names)
    by true true e f = record { own = refl; definition = tt; listed = refl; low = (low type e, low term f) }
    by true false e f = tt
    by false c e f = tt

pub generated-made : (base : ℕ) (g : Generated) → IfOk (generated_draft base g) (IsMadeOf (name_of g) (names_by g))
generated-made base (Case n f m) =
    drafted-made (name_of (Case n f m)) base [] (case_type n (family_shape n f) m) (case_term n (family_shape n f) m)
generated-made base (Below n f m) =
    drafted-made (name_of (Below n f m)) base [] (below_type n (family_shape n f) m) (below_term n (family_shape n f) m)
generated-made base (Aux n f m) =
    drafted-made (name_of (Aux n f m)) base (names_by (Aux n f m)) (aux_type n (family_shape n f) (course_of (family_shape n f) m base))
    (aux_term n (family_shape n f) (course_of (family_shape n f) m base))
generated-made base (Rec n f m) =
    drafted-made (name_of (Rec n f m)) base (names_by (Rec n f m)) (side_entry_type First n (family_shape n f) (course_of (family_shape n f) m base))
    (side_entry_term First n (family_shape n f) (course_of (family_shape n f) m base) (base + 1))
generated-made base (pure.All n f m) =
    drafted-made (name_of (pure.All n f m)) base (names_by (pure.All n f m)) (side_entry_type Second n (family_shape n f) (course_of (family_shape n f) m base))
    (side_entry_term Second n (family_shape n f) (course_of (family_shape n f) m base) (base + 1))
generated-made base (ConfusionType n f number m) =
    let shape = family_shape n f in
    let c = constructor_at shape.constructors number in
    let j = confusion_level shape m in
    drafted-made (name_of (ConfusionType n f number m)) base (names_by (ConfusionType n f number m)) (nct_type n shape number c j) (nct_term n shape number c m j base)
generated-made base (NoConfusion n f number m) =
    let shape = family_shape n f in
    let c = constructor_at shape.constructors number in
    drafted-made (name_of (NoConfusion n f number m)) base (names_by (NoConfusion n f number m)) (noconf_type n shape number c base)
    (noconf_term n shape number c m (confusion_level shape m) base)
generated-made base (Direct n f) =
    drafted-made (name_of (Direct n f)) base [] (direct_type (family_shape n f) (carrier_of n (family_shape n f) base))
    (direct_term (family_shape n f) (carrier_of n (family_shape n f) base))
generated-made base (Acyclic n f) =
    drafted-made (name_of (Acyclic n f)) base (names_by (Acyclic n f)) (acyclic_type (family_shape n f) (carrier_of n (family_shape n f) base))
    (acyclic_term (family_shape n f) (carrier_of n (family_shape n f) base) (base + 1))
generated-made base (Left i m) = drafted-made (name_of (Left i m)) base [] (left_type i m) (left_term i m)

-- ---- the mentions of a draft are generated, too

only : (S : Signature) (name : List ℕ) → IsGeneratedName S name → All (IsEnterable S) (name ∷ [])
only S name made = All-cons (IsEnterable S) name [] (inr made) (All-nil (IsEnterable S))

both-of : (S : Signature) (n : ℕ) (f : Family) (m : ℕ) → IsEntryAt S n (FamilyOf f) → m < top → (nat_le f.level m && nat_lt (m + 1) top) ≡ true
    → All (IsEnterable S) (name_of (Below n f m) ∷ name_of (Aux n f m) ∷ [])
both-of S n f m at lt h =
    All-cons (IsEnterable S) (name_of (Below n f m)) (name_of (Aux n f m) ∷ []) (inr (listed-named S (Below n f m) (at, lt) h))
    (only S (name_of (Aux n f m)) (listed-named S (Aux n f m) (at, lt) h))

zero-level : (f c : List ℕ) → generated_name f (constructor_mark (codes "!noconf.") c) 0 ≡ noconf_name f c
zero-level f c =
    let m = codes "!noconf." in
    ap (λ l. l ++ codes "0") (sym (append_assoc f (m ++ c) (codes ".")) ∙ ap (λ l. l ++ codes ".") (sym (append_assoc f m c)))
    ∙ append_assoc ((f ++ m) ++ c) (codes ".") (codes "0")

part-name : (S : Signature) (n : ℕ) (f : Family) (number : ℕ) → IsEntryAt S n (FamilyOf f) → (has_no_indices f && nat_lt (f.level + 1) top) ≡ true
    → number < length f.constructors → IsEnterable S (noconf_name f.name (constructor_name f number))
part-name S n f number at h within = inr (transport (IsGeneratedName S) (zero-level f.name (constructor_name f number)) (listed-named S (NoConfusion n f number 0) (at, (omega arith, within)) made))
  where
    level : f.level + 1 < top
    level = below-top (f.level + 1) (and_parts (has_no_indices f) (nat_lt (f.level + 1) top) h).1

    made : nat_lt (max f.level 1 + 1) top ≡ true
    made = let l = level in grind (arith, nat_tests)

parts-named : (P : List ℕ → Type 0) (family : List ℕ) (names : List (List ℕ)) (shapes : List ConstructorShape)
    → ((k : ℕ) → k < length names → P (noconf_name family (get_or names k []))) → All P (noconf_names family names shapes)
parts-named P family [] shapes each = All-nil P
parts-named P family (name ∷ names) [] each = All-nil P
parts-named P family (name ∷ names) (c ∷ shapes) each = by (has_direct c.arguments) (parts-named P family names shapes (λ k lt. each (suc k) (omega arith)))
  where
    by : (b : Bool) → All P (noconf_names family names shapes) → All P (cond b (noconf_name family name ∷ noconf_names family names shapes) (noconf_names family names shapes))
    by true rest = All-cons P (noconf_name family name) (noconf_names family names shapes) (each 0 (omega arith)) rest
    by false rest = rest

acyclic-named : (S : Signature) (n : ℕ) (f : Family) → IsEntryAt S n (FamilyOf f) → (has_no_indices f && nat_lt (f.level + 1) top) ≡ true
    → All (IsEnterable S) (names_for f.name (map (λ c. c.name) f.constructors) (family_shape n f).constructors)
acyclic-named S n f at h =
    All-cons (IsEnterable S) (name_of (Direct n f)) _ (inr (listed-named S (Direct n f) at h))
    (parts-named (IsEnterable S) f.name (map (λ c. c.name) f.constructors) (family_shape n f).constructors
    (λ k lt. part-name S n f k at h (let e = length-map f.constructors (λ c. c.name) in omega (arith, lt, e))))

case-level : (l m : ℕ) → nat_lt (max l (m + 1) + 1) top ≡ true → max l (m + 1) + 1 < top
case-level l m h = below-top (max l (m + 1) + 1) h

pub names-enterable : (S : Signature) (g : Generated) → IsListed S g → is_generated g ≡ true → All (IsEnterable S) (names_by g)
names-enterable S (Case n f m) listed h = All-nil (IsEnterable S)
names-enterable S (Below n f m) listed h = All-nil (IsEnterable S)
names-enterable S (Aux n f m) (at, lt) h = only S (name_of (Below n f m)) (listed-named S (Below n f m) (at, lt) h)
names-enterable S (Rec n f m) (at, lt) h = both-of S n f m at lt h
names-enterable S (pure.All n f m) (at, lt) h = both-of S n f m at lt h
names-enterable S (ConfusionType n f number m) (at, (lt, within)) h =
    only S (name_of (Case n f (max f.level (m + 1) + 1))) (listed-named S (Case n f (max f.level (m + 1) + 1)) (at, case-level f.level m h) h)
names-enterable S (NoConfusion n f number m) (at, (lt, within)) h =
    only S (name_of (ConfusionType n f number m)) (listed-named S (ConfusionType n f number m) (at, (lt, within)) h)
names-enterable S (Direct n f) listed h = All-nil (IsEnterable S)
names-enterable S (Acyclic n f) at h = acyclic-named S n f at h
names-enterable S (Left i m) listed h = All-nil (IsEnterable S)
