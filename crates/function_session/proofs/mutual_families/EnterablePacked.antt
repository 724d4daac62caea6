-- A packed declaration can enter.
use Rattle.std.proofs.Common.{◌≡◌, ◌≢◌, ℕ, zero, suc, ◌+◌, ◌<◌, ◌≤◌, ◌==◌, Bool, true, false, cond, Option, Some, None, List, [], ◌∷◌, ◌++◌, length, map, flat_map, slice_get, Result, Ok, Err, refl, sym, ap, ◌∙◌, subst as transport, length-append, arith}
use Rattle.std.specs.List.{All}
use Rattle.std.proofs.lemmas.List.{length-map}
use Rattle.std.proofs.lemmas.List.Elements.{All-append, All-cons, All-head, All-nil, All-tail, All-weaker}
use Rattle.std.proofs.lemmas.Bool.Decides.{Decides-eqb}
use Rattle.core_terms.specs.Answers.{and_then}
use Rattle.theory.specs.Families.{Constructor, Family}
use Rattle.theory.specs.Signatures.{Definition, Entry, FamilyOf, IsPrefix, Signature, names_of}
use Rattle.theory.specs.SignatureScopes.{IsConstantNumber, IsConstructorNumber, IsFamilyNumber, IsScoped, IsScopedTelescope}
use Rattle.theory.specs.Telescopes.{Telescope, functions, products}
use Rattle.theory.specs.Terms.{Fam, Pi, Sort, Term}
use Rattle.theory.specs.WellFormed.{pushed}
use Rattle.theory.proofs.Lists.{slice_get-append_right, slice_get-last}
use Rattle.theory.proofs.Pushing.{prefix_reflexive, prefix_transitive, push_is_longer}
use Rattle.theory.proofs.ScopedTerms.{keeps-numbers, telescope-wider}
use Rattle.theory.proofs.Widening.{prefix_keeps}
use Rattle.core_sig.specs.Names.{find}
use Rattle.core_sig.specs.Raw.{MutualRaw, RawConstructor, RawFamily, RawMember, raw_names}
use Rattle.core_sig.proofs.PlacedDrafts.{app-draft}
use Rattle.core_sig.proofs.ShapeScopes.{con-draft, family_at-draft}
use Rattle.core_text.specs.RawEntries.{RawFamilyOf}
use Rattle.elab_session.specs.Entering.{CanEnter}
use Rattle.entry_laws.proofs.entry_scopes.WholeCycles.{draft-whole}
use Rattle.entry_laws.proofs.entry_scopes.WholeStandings.{scoped-functions, scoped-products}
use Rattle.family_check.specs.Families.{family_without}
use Rattle.family_check.specs.Laws.{IsAsDeclared}
use Rattle.family_check.specs.Scopes.{IsScopedRaw, with_raw}
use Rattle.function_session.specs.mutual_families.Conditions.{AreScopedDefinitions, CanEnterPacked, IsDeclared, IsScopedDefinition}
use Rattle.function_session.proofs.mutual_families.NewNames.{find-pushed}
use Rattle.mutual_pack.specs.MutualFamilies.{Packed, all_constructors}
use Rattle.mutual_pack.specs.PackedScopes.{AreScopedMembers, HasPackedFamilies}
use Rattle.mutual_pack.specs.Packing.{common_level, member_entries, members_of, pack, pack_at, pack_low, packed_family, packed_with, tag_constructor, tag_family, tagged}
use Rattle.mutual_pack.specs.declared.members.Members.{Members}
use Rattle.mutual_pack.specs.declared.stop.MutualStop.{MutualStop}
use Rattle.mutual_pack.specs.declared.stop.MutualStop.TheVariants.{Deep, TagCount}
use Rattle.mutual_pack.specs.Packing.{members_have_low_types}
use Rattle.mutual_pack.proofs.PackedScoped.{packed-is-scoped}
use Rattle.mutual_pack.proofs.PackedTypes.{packed-as}
use Rattle.resolve.specs.Scoping.{HasMemberConstants, IsResolved, IsResolvedMember, IsResolvedMutual}

-- ---- the tags

tags-low : (g : Members) (d : MutualRaw) (packed : Packed) → pack_low g d ≡ Ok packed → length d.tags ≡ length d.members
tags-low g d packed e = by (length d.tags == length d.members) refl (and_then (common_level d.members) (λ l. pack_at g l d)) e
  where
    by : (b : Bool) → length d.tags == length d.members ≡ b → (r : Result Packed MutualStop) → ◌≡◌ {A = Result Packed MutualStop} (cond b r (Err TagCount)) (Ok packed)
        → length d.tags ≡ length d.members
    by true same r e = (Decides-eqb (length d.tags) (length d.members)).0 same
    by false same r e = absurd cc

-- there is one for each member
pub tags-counted : (base : ℕ) (d : MutualRaw) (packed : Packed) → pack base d ≡ Ok packed → length d.tags ≡ length d.members
tags-counted base d packed e = by (members_have_low_types d.members) (pack_low (members_of base d) d) refl e
  where
    by : (b : Bool) (r : Result Packed MutualStop) → pack_low (members_of base d) d ≡ r → ◌≡◌ {A = Result Packed MutualStop} (cond b r (Err Deep)) (Ok packed)
        → length d.tags ≡ length d.members
    by true r is e = tags-low (members_of base d) d packed (is ∙ e)
    by false r is e = absurd cc

pub tag-names : (g : Members) (tags : List (List ℕ)) → map (λ (c : RawConstructor). c.name) (map (tag_constructor g) tags) ≡ tags
tag-names g [] = refl
tag-names g (name ∷ tags) = ap (λ names. name ∷ names) (tag-names g tags)

pub tag-constructors : (g : Members) (n : ℕ) (d : MutualRaw) (t : Family) → IsAsDeclared n (tag_family g d.tag d.tags) t → length t.constructors ≡ length d.tags
tag-constructors g n d t is =
    let named : names_of (FamilyOf t) ≡ d.tag ∷ d.tags = is.names ∙ ap (λ names. d.tag ∷ names) (tag-names g d.tags) in
    let counted = ap length named in
    let own = length-map t.constructors (λ (c : Constructor). c.name) in
    omega (arith, counted, own)

-- ---- the written types

abbrev pub placeholder : Entry
placeholder = Definition [] (Sort 0) (Sort 0)

abbrev pub with_constants : Signature → List RawMember → Signature
with_constants S members = record { entries = S.entries ++ map (λ m. placeholder) members; has_k = S.has_k }

constant-there : (members : List RawMember) (k : ℕ) → k < length members → slice_get (map (λ m. placeholder) members) k ≡ Some placeholder
constant-there [] k lt = absurd (omega arith)
constant-there (m ∷ members) zero lt = refl
constant-there (m ∷ members) (suc k) lt = constant-there members k (omega arith)

pub constants-there : (S : Signature) (d : MutualRaw) → HasMemberConstants S (with_constants S d.members) d
constants-there S d k lt =
    ([], Sort 0, Sort 0, slice_get-append_right S.entries (map (λ m. placeholder) d.members) k ∙ constant-there d.members k lt)

-- the parameters are scoped
pub parameters-scoped : (S : Signature) (d : MutualRaw) → IsDeclared S d → IsScopedTelescope S 0 d.parameters
parameters-scoped S d h =
    let U = with_constants S d.members in
    (h.scoped U (record { more = map (λ m. placeholder) d.members; entries = refl; has_k = refl }) (constants-there S d)).parameters

constructors-scoped : (S U : Signature) (p : ℕ) (members : List RawMember) → All (IsResolvedMember S U p) members → All (λ c. IsScoped U p c.type) (all_constructors members)
constructors-scoped S U p [] all = All-nil (λ c. IsScoped U p c.type)
constructors-scoped S U p (m ∷ members) all =
    let Is : RawConstructor → Type 0 = λ c. IsScoped U p c.type in
    All-append Is m.constructors (all_constructors members)
    (All-weaker (λ (c : RawConstructor). IsResolved U p c.type) Is (λ c r. r.scoped) m.constructors (All-head (IsResolvedMember S U p) m members all).constructors)
    (constructors-scoped S U p members (All-tail (IsResolvedMember S U p) m members all))

pub members-scoped : (S : Signature) (d : MutualRaw) → IsDeclared S d → AreScopedMembers S d
members-scoped S d h U longer there = constructors-scoped S U (length d.parameters) d.members (h.scoped U longer there).members

-- ---- the tag family

tags-scoped : (V : Signature) (g : Members) (tags : List (List ℕ)) → IsFamilyNumber V g.first → All (λ c. IsScoped V 0 c.type) (map (tag_constructor g) tags)
tags-scoped V g [] there = All-nil (λ c. IsScoped V 0 c.type)
tags-scoped V g (name ∷ tags) there =
    All-cons (λ (c : RawConstructor). IsScoped V 0 c.type) (tag_constructor g name) (map (tag_constructor g) tags) (record { variables = omega arith; entries = there })
    (tags-scoped V g tags there)

tag-can : (S : Signature) (d : MutualRaw) → IsDeclared S d → CanEnter S (RawFamilyOf (tag_family (members_of (length S.entries) d) d.tag d.tags))
tag-can S d h =
    let g = members_of (length S.entries) d in
    let raw = tag_family g d.tag d.tags in (
      record {
        parameters = tt;
        type = record { variables = omega arith; entries = tt };
        constructors = tags-scoped (with_raw S raw) g d.tags (family_without raw [] 0, slice_get-last S.entries (FamilyOf (family_without raw [] 0)));
      },
      h.tag,
    )

-- ---- the packed family

module _ (S : Signature) (d : MutualRaw) (l : ℕ) (t : Family) (h : IsDeclared S d) (is : IsAsDeclared (length S.entries) (tag_family (members_of (length S.entries) d) d.tag d.tags) t) (counted : length d.tags ≡ length d.members) where
  abbrev g : Members
  g = members_of (length S.entries) d

  abbrev T : Signature
  T = pushed S (FamilyOf t)

  abbrev family : RawFamily
  family = packed_family g l d

  number : length T.entries ≡ length S.entries + 1
  number = length-append S.entries (FamilyOf t ∷ [])

  tags-there : (V : Signature) → IsPrefix T V → (k : ℕ) → k < length d.members → IsConstructorNumber V (length S.entries) k
  tags-there V longer k low =
      let all = tag-constructors g (length S.entries) d t is in
      (t, (prefix_keeps longer).entry (length S.entries) (FamilyOf t) (slice_get-last S.entries (FamilyOf t)), omega (arith, all, counted, low))

  family-new : find T d.family ≡ None
  family-new =
      find-pushed S t d.family h.family
      (transport (All (λ name. d.family ≢ name)) (sym (is.names ∙ ap (λ names. d.tag ∷ names) (tag-names g d.tags))) h.apart)

  families-there : (f : Family) (V : Signature) → IsPrefix (pushed T (FamilyOf f)) V → HasPackedFamilies V (length S.entries) (length d.members)
  families-there f V longer = record {
    family =
        transport (IsFamilyNumber V) number (f, (prefix_keeps longer).entry (length T.entries) (FamilyOf f) (slice_get-last T.entries (FamilyOf f)));
    tags = tags-there V (prefix_transitive T (pushed T (FamilyOf f)) V (push_is_longer T (FamilyOf f)) longer);
  }

  family-can : (packed : Packed) → pack (length S.entries) d ≡ Ok packed → packed_with g l d ≡ packed → CanEnter T (RawFamilyOf family)
  family-can packed e same =
      let f = family_without family [] 0 in
      let V = pushed T (FamilyOf f) in
      let longer = prefix_transitive S T V (push_is_longer S (FamilyOf t)) (push_is_longer T (FamilyOf f)) in (
        record {
          parameters = telescope-wider (keeps-numbers (prefix_keeps (push_is_longer S (FamilyOf t)))) 0 d.parameters (parameters-scoped S d h);
          type = record { variables = omega arith; entries = ((t, slice_get-last S.entries (FamilyOf t)), tt) };
          constructors =
              transport (λ (p : Packed). All (λ c. IsScoped V (length d.parameters) c.type) p.family.constructors) (sym same)
              (packed-is-scoped S V d packed e (members-scoped S d h) longer (families-there f V (prefix_reflexive V)));
        },
        family-new,
      )

  -- ---- the members

  tagged-scoped : (V : Signature) (k : ℕ) → HasPackedFamilies V (length S.entries) (length d.members) → k < length d.members → IsScoped V g.params (tagged g k g.params)
  tagged-scoped V k has low =
      draft-whole V g.params (tagged g k g.params)
      (app-draft (family_at-draft (g.first + 1) g.params g.params 0 0 has.family (omega arith) (omega arith)) (con-draft g.first k (has.tags k low)))

  entries-scoped : (V : Signature) (k : ℕ) (members : List RawMember) → IsPrefix S V → HasPackedFamilies V (length S.entries) (length d.members) → k + length members ≤ length d.members
      → AreScopedDefinitions V (member_entries g l d.parameters k members)
  entries-scoped V k [] longer has room = All-nil (IsScopedDefinition V)
  entries-scoped V k (m ∷ members) longer has room =
      let tele = telescope-wider (keeps-numbers (prefix_keeps longer)) 0 d.parameters (parameters-scoped S d h) in
      let place : length d.parameters ≡ 0 + length d.parameters = omega arith in
      let body = transport (λ n. IsScoped V n (tagged g k g.params)) place (tagged-scoped V k has (omega arith)) in
      let type : IsScoped V (0 + length d.parameters) (Sort l) = record { variables = omega arith; entries = tt } in
      All-cons (IsScopedDefinition V) (Definition m.name (products d.parameters (Sort l)) (functions d.parameters (tagged g k g.params))) (member_entries g l d.parameters (k + 1) members)
      (scoped-products V 0 d.parameters (Sort l) tele type, scoped-functions V 0 d.parameters (tagged g k g.params) tele body)
      (entries-scoped V (k + 1) members longer has (omega arith))

  members-can : (f : Family) → AreScopedDefinitions (pushed T (FamilyOf f)) (member_entries g l d.parameters 0 d.members)
  members-can f =
      let V = pushed T (FamilyOf f) in
      entries-scoped V 0 d.members (prefix_transitive S T V (push_is_longer S (FamilyOf t)) (push_is_longer T (FamilyOf f))) (families-there f V (prefix_reflexive V)) (omega arith)

-- ---- all of it

pub packed-can : (S : Signature) (d : MutualRaw) (packed : Packed) → IsDeclared S d → pack (length S.entries) d ≡ Ok packed → CanEnterPacked S packed
packed-can S d packed h e =
    let is = packed-as (length S.entries) d packed e in
    let counted = tags-counted (length S.entries) d packed e in
    transport (CanEnterPacked S) is.same
    (record {
      tag = tag-can S d h;
      family = λ t given. family-can S d is.level t h given counted packed e is.same;
      members = λ t f given behind. members-can S d is.level t h given counted f;
    })
