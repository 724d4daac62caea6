-- Drafts of course-of-values recursion that are settled.
use Rattle.std.proofs.Common.{◌≡◌, ℕ, ◌+◌, ◌-◌, Bool, true, false, nat_lt, nat_le, if◌then◌else◌, List, [], ◌∷◌, length, slice_get, Some, Result, Ok, Err, All, inl, inr, codes, refl, ap, ap₂, ◌∙◌, arith}
use Rattle.std.specs.Prelude.{option_and_then}
use Rattle.std.specs.Option.{option_map_or}
use Rattle.std.proofs.lemmas.Bool.Decides.{nat_tests}
use Rattle.std.proofs.lemmas.List.Elements.{All-head, All-tail}
use Rattle.theory.specs.Terms.{Term, height}
use Rattle.theory.specs.Terms.Term.{Var, Sort, Pi, Lam, App, Let, Const, Fam, Con, Elim, AxiomK}
use Rattle.theory.specs.Telescopes.{Telescope}
use Rattle.theory.specs.Signatures.{Signature, Definition}
use Rattle.theory.proofs.Instances.{ap₃}
use Rattle.core_terms.specs.Answers.{and_then}
use Rattle.core_terms.specs.declared.stop.Stop.{Stop}
use Rattle.core_terms.specs.declared.stop.Stop.TheVariants.{Deep}
use Rattle.core_sig.specs.DraftScopes.{HasDraftEntries, IsDraftTerm}
use Rattle.core_sig.specs.Drafts.{Draft, drafted, generated_name}
use Rattle.core_sig.specs.EntryTerms.{EachInTelescope}
use Rattle.core_sig.specs.FamilyShapes.{family_shape}
use Rattle.core_sig.specs.Names.{find}
use Rattle.core_sig.specs.Settling.{entry_found, renumbered, renumbered_entry, settled_number}
use Rattle.core_sig.specs.Shapes.{ConstructorShape, Shape}
use Rattle.core_sig.specs.declared.entry.Found.TheVariants.{Entry}
use Rattle.core_sig.proofs.ShapeScopes.{IsDraftConstructor, IsDraftShape, family-draft}
use Rattle.case_below_gen.specs.CourseEntries.{course_of, aux_type, aux_term}
use Rattle.case_below_gen.specs.Projections.{side_mark, side_entry_type, side_entry_term}
use Rattle.case_below_gen.specs.SettledLaws.{AuxSettles, SidesSettle}
use Rattle.case_below_gen.proofs.Renumbered.{AllKept, KeptConstructors, KeptShape, aux_type-anew, aux_term-anew, side_type-is-anew, side_term-is-anew}

-- ---- drafts that are made

drafted-is : (name : List ℕ) (base : ℕ) (names : List (List ℕ)) (type term : Term) (d : Draft) → drafted name base names type term ≡ Ok d → d ≡ record { entry = Definition name type term; base = base; names = names }
drafted-is name base names type term d is = by (nat_le (height type) 2000) (nat_le (height term) 2000) is
  where
    by : (b c : Bool)
        → and_then (if b then Ok type else Err Deep) (λ t. and_then (if c then Ok term else Err Deep) (λ u. Ok (record { entry = Definition name t u; base = base; names = names }))) ≡ Ok d
        → d ≡ record { entry = Definition name type term; base = base; names = names }
    by true true e =
        let same : ◌≡◌ {A = Result Draft Stop} (Ok (record { entry = Definition name type term; base = base; names = names })) (Ok d) = e in cc
    by true false e = absurd (grind arith)
    by false c e = absurd (grind arith)

-- ---- the number of a name

settled-name : (T : Signature) (base : ℕ) (names : List (List ℕ)) (c i : ℕ) (name : List ℕ) (k : ℕ) → c ≡ base + i → slice_get names i ≡ Some name → find T name ≡ Some (Entry k) → settled_number T base names c ≡ k
settled-name T base names c i name k is at found =
    ap (λ b. if b then c else option_map_or (λ n. n) (option_and_then entry_found (option_and_then (find T) (slice_get names (c - base)))) c) behind
    ∙ (ap (λ j. option_map_or (λ n. n) (option_and_then entry_found (option_and_then (find T) (slice_get names j))) c) place
    ∙ (ap (λ o. option_map_or (λ n. n) (option_and_then entry_found (option_and_then (find T) o)) c) at
    ∙ ap (λ o. option_map_or (λ n. n) (option_and_then entry_found o) c) found))
  where
    behind : nat_lt c base ≡ false
    behind = grind (arith, nat_tests)

    place : c - base ≡ i
    place = omega arith

-- ---- the family's own terms

module _ (S T : Signature) (base : ℕ) (names : List (List ℕ)) where
  abbrev r : ℕ → ℕ
  r = settled_number T base names

  term-kept : (t : Term) → HasDraftEntries S base 0 t → renumbered r t ≡ t
  term-kept (Pi a b) h = ap₂ Pi (term-kept a h.0) (term-kept b h.1)
  term-kept (Lam a b) h = ap₂ Lam (term-kept a h.0) (term-kept b h.1)
  term-kept (App f a) h = ap₂ App (term-kept f h.0) (term-kept a h.1)
  term-kept (Let a t b) h = ap₃ Let (term-kept a h.0) (term-kept t h.1) (term-kept b h.2)
  term-kept (Const c) (inl (below, is)) = ap Const (grind (arith, nat_tests))
  term-kept (Const c) (inr (from, to)) = absurd (omega arith)
  term-kept (Fam n) h = refl
  term-kept (Con n c) h = refl
  term-kept (Elim n m) h = refl
  term-kept (Var v) h = refl
  term-kept (Sort i) h = refl
  term-kept (AxiomK i m) h = refl

  telescope-kept : (n : ℕ) (tele : Telescope) → EachInTelescope (IsDraftTerm S base 0) n tele → AllKept r tele
  telescope-kept n [] h = tt
  telescope-kept n (a ∷ tele) h = (term-kept a h.0.entries, telescope-kept (n + 1) tele h.1)

  terms-kept : (n : ℕ) (ts : List Term) → All (IsDraftTerm S base 0 n) ts → AllKept r ts
  terms-kept n [] h = tt
  terms-kept n (t ∷ ts) h = (term-kept t (All-head (IsDraftTerm S base 0 n) t ts h).entries, terms-kept n ts (All-tail (IsDraftTerm S base 0 n) t ts h))

  constructors-kept : (p : ℕ) (constructors : List ConstructorShape) → All (IsDraftConstructor S base 0 p) constructors → KeptConstructors r constructors
  constructors-kept p [] h = tt
  constructors-kept p (c ∷ constructors) h =
      let is = All-head (IsDraftConstructor S base 0 p) c constructors h in (
        telescope-kept p _ is.arguments,
        terms-kept _ c.targets is.targets,
        constructors-kept p constructors (All-tail (IsDraftConstructor S base 0 p) c constructors h),
      )

  shape-kept : (n : ℕ) (f : Shape) → IsDraftShape S base 0 n f → KeptShape r f
  shape-kept n f is = record {
    parameters = telescope-kept 0 f.parameters is.parameters;
    indices = telescope-kept (length f.parameters) _ is.indices;
    constructors = constructors-kept (length f.parameters) f.constructors is.constructors;
  }

-- ---- laws

pub aux-settles : AuxSettles
aux-settles S T n f m below d scoped at made found =
    let shape = family_shape n f in
    let base = length S.entries in
    let name = generated_name f.name (codes "!below.") m in
    let r = settled_number T base (name ∷ []) in
    let kept = shape-kept S T base (name ∷ []) n shape (family-draft S 0 n f scoped at) in
    let is = drafted-is (generated_name f.name (codes "!aux.") m) base (name ∷ []) (aux_type n shape (course_of shape m base)) (aux_term n shape (course_of shape m base)) d made in
    let number : r base ≡ below = settled-name T base (name ∷ []) base 0 name below (omega arith) refl found in
    ap (λ (x : Draft). renumbered_entry (settled_number T x.base x.names) x.entry) is
    ∙ ap₂ (Definition (generated_name f.name (codes "!aux.") m))
    (aux_type-anew r n shape (course_of shape m base) kept ∙ ap (λ k. aux_type n shape (course_of shape m k)) number)
    (aux_term-anew r n shape (course_of shape m base) kept ∙ ap (λ k. aux_term n shape (course_of shape m k)) number)

pub sides-settle : SidesSettle
sides-settle side S T n f m below aux d scoped at made found_below found_aux =
    let shape = family_shape n f in
    let base = length S.entries in
    let name = generated_name f.name (codes "!below.") m in
    let aux_name = generated_name f.name (codes "!aux.") m in
    let names = name ∷ aux_name ∷ [] in
    let r = settled_number T base names in
    let kept = shape-kept S T base names n shape (family-draft S 0 n f scoped at) in
    let is = drafted-is (generated_name f.name (side_mark side) m) base names (side_entry_type side n shape (course_of shape m base)) (side_entry_term side n shape (course_of shape m base) (base + 1)) d made in
    let number : r base ≡ below = settled-name T base names base 0 name below (omega arith) refl found_below in
    let second : r (base + 1) ≡ aux = settled-name T base names (base + 1) 1 aux_name aux (omega arith) refl found_aux in
    ap (λ (x : Draft). renumbered_entry (settled_number T x.base x.names) x.entry) is
    ∙ ap₂ (Definition (generated_name f.name (side_mark side) m))
    (side_type-is-anew r side n shape (course_of shape m base) kept ∙ ap (λ k. side_entry_type side n shape (course_of shape m k)) number)
    (side_term-is-anew r side n shape (course_of shape m base) (base + 1) kept ∙ ap₂ (λ k l. side_entry_term side n shape (course_of shape m k) l) number second)
