-- The entries of a source file's declarations can be written in a core file.
use Rattle.std.proofs.Common.{◌≡◌, inl, ℕ, zero, suc, ◌+◌, ◌<◌, ◌≤◌, ◌^◌, Bool, true, false, List, [], ◌∷◌, ◌++◌, map, drop, All, Some, Result, Ok, IfOk, refl, sym, ap, ◌∙◌, subst, arith}
use Rattle.std.specs.Prelude.{get_or, slice_get, codes}
use Rattle.std.specs.List.{range_with_len}
use Rattle.std.proofs.lemmas.List.Elements.{All-nil, All-cons, All-append}
use Rattle.std.proofs.lemmas.Option.{slice_get_within, slice_get-get_or}
use Rattle.theory.specs.Terms.{top}
use Rattle.theory.specs.Families.{Constructor, Family}
use Rattle.theory.specs.Prelude.{prelude, empty_family, equality_family, unit_family, pair_family, at_levels, level_text}
use Rattle.theory.specs.Signatures.{Entry, FamilyOf, EliminatorAt, Signature}
use Rattle.theory.proofs.Lists.{some_is}
use Rattle.core_sig.specs.Raw.{RawConstructor, RawFamily, raw_names}
use Rattle.core_text.specs.NameRuns.{are_name_chars}
use Rattle.core_text.specs.ReadableNames.{NamesStayReadable, PreludeHasReadableNames}
use Rattle.core_text.specs.SurfaceNames.{SurfaceNamesAreReadable}
use Rattle.core_text.specs.WrittenEntries.{IsDeclarableName}
use Rattle.core_text.proofs.WholeRuns.{chars-join}
use Rattle.surface_syntax.specs.Trees as surf
use Rattle.surface_syntax.specs.declared.token.TokenKind.TheVariants.{Plain}
use Rattle.family_check.specs.Entering.{Entered}
use Rattle.family_check.specs.Entering as entering
use Rattle.family_check.specs.Laws.{EntersAsDeclared}
use Rattle.family_check.proofs.AsDeclared.{declare-gives}
use Rattle.elab_session.specs.declared.refusal.Refusal.{Refusal}
use Rattle.function_session.specs.Declaring.{declared_in, new_session, with_declared}
use Rattle.function_session.specs.Elaborating.{Elaborated}
use Rattle.function_session.specs.Sessions.{Session}
use Rattle.elim.specs.elim_program.Acceptance.{Accepts, end, next}
use Rattle.surface_syntax.specs.word_laws.Words.{Each}
use Rattle.elim.specs.headline.writing_laws.Writing.{AreLow, HasFewParameters, IsSurfaceName, IsOrdinary, AcceptedIsWritable}
use Rattle.elim.proofs.headline.writing_laws.Carrying.{After, if-ok}
use Rattle.elim.proofs.headline.writing_laws.Marks.{holds_mark, unmarked-join, IsStem}
use Rattle.elim.proofs.headline.writing_laws.Names.{IsPart, AreParts, HasStems, AreNamed, motive-named, step-named, induction-named, helper-named, proof-named, generated-named, named-pushed, define-named, eliminator-named, axiom_k-named}
use Rattle.elim.proofs.headline.writing_laws.Ordinary.{text-ordinary}
use Rattle.elim.proofs.headline.writing_laws.Sessions.{DeclIs, RawIs, KeepsAll, declared-keeps}
use Rattle.elim.proofs.headline.writing_laws.StaysLow.{entries-stay-low}
use Rattle.elim.proofs.headline.writing_laws.Stems.{level-is, equality-stem, unit-stem, pair-stem, empty-stem, words-chars}

-- ---- the prelude

abbrev StemsIn : Entry → Type 0
StemsIn (FamilyOf f) = HasStems f
StemsIn _ = Unit {0}

part-level : (word : List ℕ) → holds_mark word ≡ false → (i : ℕ) → i < top → are_name_chars word ≡ true → IsPart (word ++ level_text i)
part-level word unmarked i lt all =
    let level = level-is i lt in record { all_chars = chars-join word (level_text i) all level.all_chars; unmarked = unmarked-join word (level_text i) unmarked level.unmarked }

levels-stem : (f : ℕ → Family) → ((i : ℕ) → i < top → HasStems (f i)) → (from n : ℕ) → from + n ≤ top → All StemsIn (map (λ i. FamilyOf (f i)) (range_with_len from n))
levels-stem f each from zero le = All-nil StemsIn
levels-stem f each from (suc n) le =
    All-cons StemsIn (FamilyOf (f from)) (map (λ i. FamilyOf (f i)) (range_with_len (from + 1) n)) (each from (omega arith)) (levels-stem f each (from + 1) n (omega arith))

prelude-stems : (k : Bool) → All StemsIn (prelude k).entries
prelude-stems k =
    All-cons StemsIn (FamilyOf empty_family) (at_levels equality_family ++ (at_levels unit_family ++ at_levels pair_family)) (record { own = empty-stem; parts = tt })
    (All-append StemsIn (at_levels equality_family) (at_levels unit_family ++ at_levels pair_family)
    (levels-stem equality_family (λ i lt. record { own = equality-stem i lt; parts = (part-level (codes "refl.") refl i lt words-chars.0, tt) }) 0 top (omega arith))
    (All-append StemsIn (at_levels unit_family) (at_levels pair_family)
    (levels-stem unit_family (λ i lt. record { own = unit-stem i lt; parts = (part-level (codes "unit.") refl i lt words-chars.1, tt) }) 0 top (omega arith))
    (levels-stem pair_family (λ i lt. record { own = pair-stem i lt; parts = (part-level (codes "pair.") refl i lt words-chars.2, tt) }) 0 top (omega arith))))

stems-at : (es : List Entry) → All StemsIn es → (n : ℕ) (f : Family) → slice_get es n ≡ Some (FamilyOf f) → HasStems f
stems-at es all n f at =
    let lt = slice_get_within es n (FamilyOf f) at in
    let same : get_or es n (EliminatorAt 0 0) ≡ FamilyOf f = some_is (sym (slice_get-get_or es n (EliminatorAt 0 0) lt) ∙ at) in
    subst StemsIn same (all n (EliminatorAt 0 0) lt)

prelude-named : PreludeHasReadableNames → (k : Bool) → AreNamed (prelude k)
prelude-named begins k = record {
  stems = λ n f at. stems-at (prelude k).entries (prelude-stems k) n f at;
  names = λ n e after at. (let lt = slice_get_within (prelude k).entries n e at in absurd (omega arith));
  readable = begins k;
}

-- ---- declarations

module _ (stay : NamesStayReadable) (begins : PreludeHasReadableNames) (surface : SurfaceNamesAreReadable) where
  surface-declarable : (x : List ℕ) → IsSurfaceName x → IsDeclarableName x
  surface-declarable x h = (surface x h.0 h.1).0

  stem-of : (x : List ℕ) → IsSurfaceName x → IsStem x
  stem-of x h = record { all_chars = (surface-declarable x h).readable.chars; of = Plain; kind = inl refl; spelled = h.1 }

  part-of : (x : List ℕ) → IsSurfaceName x → IsPart x
  part-of x h = record { all_chars = (surface-declarable x h).readable.chars; unmarked = (surface x h.0 h.1).1 }

  names-declarable : (raws : List RawConstructor) → Each (λ c. IsSurfaceName c.name) raws → All IsDeclarableName (map (λ c. c.name) raws)
  names-declarable [] h = All-nil IsDeclarableName
  names-declarable (c ∷ raws) h = All-cons IsDeclarableName c.name (map (λ d. d.name) raws) (surface-declarable c.name h.0) (names-declarable raws h.1)

  names-parts : (raws : List RawConstructor) → Each (λ c. IsSurfaceName c.name) raws → Each IsPart (map (λ c. c.name) raws)
  names-parts [] h = tt
  names-parts (c ∷ raws) h = (part-of c.name h.0, names-parts raws h.1)

  parts-of : (cs : List Constructor) → Each IsPart (map (λ c. c.name) cs) → AreParts cs
  parts-of [] h = tt
  parts-of (c ∷ cs) h = (h.0, parts-of cs h.1)

  family-named : (S : Signature) (raw : RawFamily) → AreNamed S → RawIs IsSurfaceName (2 ^ 32) raw → (e : Entered) → EntersAsDeclared S raw e → AreNamed e.signature
  family-named S raw named h e is =
      let f = is.0 in
      let given = is.2 in
      let own : f.name ≡ raw.name = ap (λ (ns : List (List ℕ)). get_or ns 0 []) given.names in
      let others : map (λ (c : Constructor). c.name) f.constructors ≡ map (λ (c : RawConstructor). c.name) raw.constructors = ap (λ (ns : List (List ℕ)). drop 1 ns) given.names in
      let stems : HasStems f = record {
        own = subst IsStem (sym own) (stem-of raw.name h.own);
        parts = parts-of f.constructors (subst (λ ns. Each IsPart ns) (sym others) (names-parts raw.constructors h.constructors));
      } in
      let declared : All IsDeclarableName (raw_names raw) =
      All-cons IsDeclarableName raw.name (map (λ (c : RawConstructor). c.name) raw.constructors) (surface-declarable raw.name h.own) (names-declarable raw.constructors h.constructors) in
      let unmarked : holds_mark f.name ≡ false = ap holds_mark own ∙ (part-of raw.name h.own).unmarked in
      let Is : Entered → Type 0 = λ x. AreNamed x.signature in
      subst Is (sym is.1)
      (named-pushed stay S (FamilyOf f) named (subst (λ ns. All IsDeclarableName ns) (sym given.names) declared) unmarked (λ g same. subst StemsIn same stems))

  names-are-kept : KeepsAll IsDeclarableName IsSurfaceName (λ k. k < 10000000000) (2 ^ 32) AreNamed
  names-are-kept = record {
    keeps = record {
      define = λ S name type body left named h. define-named stay S name type body left named h;
      eliminator = λ S n f m left named. eliminator-named stay S n f m left named;
      axiom_k = λ S i m left named. axiom_k-named stay S i m left named;
      generated = λ S g named listed. generated-named S g named listed;
      own = λ x h. surface-declarable x h;
      motive = λ x h. motive-named x (stem-of x h);
      step = λ x h. step-named x (stem-of x h);
      helper = λ x k h few. helper-named x k (stem-of x h) few;
      proof = λ x k clause h few. proof-named x k clause (stem-of x h) few;
    };
    induction = λ x h. induction-named x (stem-of x h);
    declare = λ S raw left named h. if-ok (EntersAsDeclared S raw) (After AreNamed) (entering.declare_of S raw left).0 (family-named S raw named h) (declare-gives S raw left);
  }

  ordinary-is : (S : Signature) (d : surf.Decl) → IsOrdinary S d → DeclIs IsSurfaceName (λ k. k < 10000000000) (2 ^ 32) S d
  ordinary-is S (surf.Def x ty body) h = h
  ordinary-is S (surf.Data x params ty cons) h = h
  ordinary-is S (surf.Decide x family into) h = h
  ordinary-is S (surf.Mutual params members f tag tags) h = h
  ordinary-is S (surf.Fun x ty clauses) h = h

  few-in : (S : Signature) (d : surf.Decl) → IsOrdinary S d → HasFewParameters d
  few-in S (surf.Def x ty body) h = tt
  few-in S (surf.Data x params ty cons) h = h.1
  few-in S (surf.Decide x family into) h = tt
  few-in S (surf.Mutual params members f tag tags) h = h.4
  few-in S (surf.Fun x ty clauses) h = tt

  named-after : (s : Session) (d : surf.Decl) (a : Elaborated) → AreNamed s.signature → IsOrdinary s.signature d → declared_in s d ≡ Ok a
      → AreNamed a.signature
  named-after s d a named h is =
      let Is : Result Elaborated Refusal → Type 0 = λ r. IfOk r (λ b. AreNamed b.signature) in
      subst Is is
      (declared-keeps IsDeclarableName IsSurfaceName (λ k. k < 10000000000) (2 ^ 32) AreNamed names-are-kept s named d (ordinary-is s.signature d h))

  led : (s : Session) (ds : List surf.Decl) (t : Session) → Each (λ d. (U : Signature) → IsOrdinary U d) ds → Accepts s ds t → AreNamed s.signature
      → AreLow s.signature → AreNamed t.signature × AreLow t.signature
  led _ _ _ ordinary (end s) named low = (named, low)
  led _ _ _ ordinary (next s t d ds a is rest) named low =
      let S = s.signature in
      led (with_declared s d a.signature) ds t ordinary.1 rest (named-after s d a named (ordinary.0 S) is)
      (entries-stay-low.1 s d a low (few-in S d (ordinary.0 S)) is)

  front-ordinary : (front back : List surf.Decl) → Each (λ d. (U : Signature) → IsOrdinary U d) (front ++ back) → Each (λ d. (U : Signature) → IsOrdinary U d) front
  front-ordinary [] back h = tt
  front-ordinary (d ∷ front) back h = (h.0, front-ordinary front back h.1)

  pub accepted-writable : AcceptedIsWritable
  accepted-writable bytes decls front back k fuel t gives parts accepts =
      let all = subst (λ ds. Each (λ d. (U : Signature) → IsOrdinary U d) ds) parts (text-ordinary bytes decls gives) in
      let r = led (new_session k fuel) front t (front-ordinary front back all) accepts (prelude-named begins k) (entries-stay-low.0 k) in
      record { readable = r.0.readable; names = r.0.names; low = r.1 }
