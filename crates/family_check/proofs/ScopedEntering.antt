-- A settled signature stays settled where an entry enters.
use Rattle.std.proofs.Common.{◌≡◌, ◌≢◌, ℕ, ◌+◌, ◌<◌, ◌≤◌, Bool, true, false, ◌&&◌, nat_lt, Option, Some, None, Result, Ok, Err, IfOk, List, [], ◌∷◌, length, get_or, position, All, refl, sym, ap, ◌∙◌, subst as transport, inl, arith}
use Rattle.std.proofs.lemmas.Bool.Decides.{nat_tests}
use Rattle.std.proofs.lemmas.Option.{slice_get_within}
use Rattle.std.proofs.lemmas.List.Elements.{All-nil, All-cons, All-weaker, All-head, All-tail}
use Rattle.theory.specs.Terms.{Term, top}
use Rattle.theory.specs.Terms.Term.{Const, Elim, AxiomK}
use Rattle.theory.specs.Telescopes.{Context, context_behind}
use Rattle.theory.specs.Families.{Constructor, Family, index_types}
use Rattle.theory.specs.Eliminators.{eliminator_type}
use Rattle.theory.specs.Signatures.{Entry, FamilyOf, EliminatorAt, AxiomKAt, Definition, Signature, IsEntryAt, equality, axiom_k_type}
use Rattle.theory.specs.Signatures.TypeOf.{eliminator, axiom_k}
use Rattle.theory.specs.WellFormed.{pushed}
use Rattle.theory.specs.SignatureScopes.{IsConstantNumber, IsFamilyNumber, IsConstructorNumber, IsScoped, IsScopedTelescope, IsScopedContext, IsScopedConstructor, IsScopedFamily, IsScopedSignature}
use Rattle.theory.proofs.Lists.{slice_get-last, slice_get-longer}
use Rattle.theory.proofs.ScopedTerms.{context-scoped}
use Rattle.theory.proofs.ScopedEntries.{types-scoped}
use Rattle.core_terms.specs.Verdicts.{Denial}
use Rattle.core_sig.specs.Raw.{RawConstructor, RawFamily, raw_names}
use Rattle.kernel_reduce.specs.Reduction.{nesting}
use Rattle.kernel_reduce.proofs.StepLaws.{both-true}
use Rattle.core_sig.specs.Instances.{is_eliminator, is_axiom_k}
use Rattle.kernel_check.specs.Checking.{infer_sort_of, check_of}
use Rattle.kernel_check.specs.Laws.{IsScopedDenial}
use Rattle.kernel_check.proofs.Scoped.{infer_sort-scoped, check-scoped}
use Rattle.family_check.specs.Outcomes.{Site, OfType, OfBody, OfConstructor, FamilyStop, Duplicate, Outcome, ended, granted}
use Rattle.family_check.specs.Asking.{sort_in, type_in}
use Rattle.core_terms.specs.Telescopes.{domains_of, end_of}
use Rattle.family_check.specs.Shapes.{constructor_targets}
use Rattle.family_check.specs.Families.{levels_of, family_without, declare_type, on_targets, declare_constructor, declare_constructors, with_constructors, declare_family}
use Rattle.family_check.specs.Families.Role.{ArgumentOf}
use Rattle.family_check.specs.Scopes.{IsSettled, IsScopedRaw, site_signature, IsScopedStop}
use Rattle.family_check.specs.Entering.{Entered, if_new, are_new, enter_instance, unless_there, check_definition}
use Rattle.family_check.specs.Laws.{DeclareKeepsSettled, InstanceKeepsSettled, AxiomKKeepsSettled, DefineKeepsSettled}
use Rattle.theory.proofs.ScopedTerms.{HasNumbers, scoped-wider, telescope-wider}
use Rattle.family_check.proofs.OtherSignatures.{denial-wider, pushed-numbers, without_eliminator-numbers, without_axiom_k-numbers, other_family-numbers, arguments-wider}
use Rattle.core_terms.proofs.Answers.{Splits, and_next-splits, split-parts}
use Rattle.family_check.proofs.Scoped.{Any, any-type, granted-splits, AreWithin, levels-within, length-behind, IsBareScoped, type-scoped}
use Rattle.family_check.proofs.ScopedShapes.{domains-scoped, targets-scoped, arguments-scoped}
use Rattle.family_check.proofs.Settling.{first-all, first-whole, push-settled}
use Rattle.family_check.proofs.Shapes.{IsShaped, constructor-shaped, arguments-counted}

targets-split : (over : Site → Signature) (n : ℕ) (f : Family) (number : ℕ) (t : Term)
    → Splits (IsShaped n f t) (IsScopedStop over) (on_targets number (constructor_targets n f t))
targets-split over n f number t = by_case (constructor_targets n f t) (constructor-shaped n f t)
  where
    by_case : (r : Result (List Term) ℕ) → IfOk r (IsShaped n f t) → Splits (IsShaped n f t) (IsScopedStop over) (on_targets number r)
    by_case (Ok targets) h = h
    by_case (Err k) h = tt

-- T has family number n with the record f, p of its parameters make the context G
record Stands (over : Site → Signature) (T : Signature) (f : Family) : Type 0 where
  pub scoped : IsScopedSignature T
  pub low : f.level < top
  pub context : IsScopedContext T (context_behind [] f.parameters)
  pub reads : (number : ℕ) (denial : Denial) → IsScopedDenial T denial → IsScopedDenial (over (OfConstructor number)) denial

constructor-splits : (over : Site → Signature) (T : Signature) (n : ℕ) (f : Family) (number : ℕ) (raw : RawConstructor) (left : ℕ)
    → Stands over T f → IsScoped T (length f.parameters) raw.type
    → Splits (IsScopedConstructor T (length f.parameters) (length f.indices)) (IsScopedStop over) (declare_constructor T n f number raw left).0
unfolding sort_in
constructor-splits over T n f number raw left h type =
    and_next-splits Any Made (IsScopedStop over) (granted (OfConstructor number) (infer_sort_of T nesting G raw.type left)) _
    (granted-splits Any over T (OfConstructor number) (length G) (infer_sort_of T nesting G raw.type left) (h.reads number)
    (infer_sort-scoped T nesting G raw.type left h.scoped h.context (moved raw.type type)) (any-type (infer_sort_of T nesting G raw.type left).0)) (λ sort left1 u.
    and_next-splits (IsShaped n f raw.type) Made (IsScopedStop over) (ended (on_targets number (constructor_targets n f raw.type)) left1) _
    (targets-split over n f number raw.type) (λ targets left2 shaped.
    and_next-splits (AreWithin (ArgumentOf number f.level) (domains_of raw.type)) Made (IsScopedStop over) (levels_of T (ArgumentOf number f.level) 0 G (domains_of raw.type) left2) _
    (levels-within over T (ArgumentOf number f.level) h.scoped (λ k. h.reads number) 0 G (domains_of raw.type) left2 h.context
    (domains-scoped T (length G) raw.type (moved raw.type type)).0) (λ levels end within.
    let parts = domains-scoped T p raw.type type in
    record {
      arguments = arguments-scoped T n f 0 p (domains_of raw.type) levels
          (All-weaker (λ i. i ≤ f.level) (λ i. i < top) (λ i le. let low = h.low in omega arith) levels within.within) parts.0;
      targets = transport (λ k. All (IsScoped T (p + k)) targets) (sym (arguments-counted n f 0 (domains_of raw.type) levels within.counted))
          (targets-scoped T n (length (domains_of raw.type)) (p + length (domains_of raw.type)) f (end_of raw.type) targets shaped.end parts.1);
      target_count = shaped.end.count;
    })))
  where
    p : ℕ
    p = length f.parameters

    G : Context
    G = context_behind [] f.parameters

    Made : Constructor → Type 0
    Made = IsScopedConstructor T p (length f.indices)

    moved : (t : Term) → IsScoped T p t → IsScoped T (length G) t
    moved t k = transport (λ m. IsScoped T m t) (let e : p ≡ length G = omega (arith, length-behind [] f.parameters) in e) k

constructors-split : (over : Site → Signature) (T : Signature) (n : ℕ) (f : Family) (number : ℕ) (raws : List RawConstructor) (left : ℕ)
    → Stands over T f → All (λ c. IsScoped T (length f.parameters) c.type) raws
    → Splits (All (IsScopedConstructor T (length f.parameters) (length f.indices))) (IsScopedStop over) (declare_constructors T n f number raws left).0
constructors-split over T n f number [] left h types = All-nil _
constructors-split over T n f number (raw ∷ raws) left h types =
    let Made = IsScopedConstructor T (length f.parameters) (length f.indices) in
    let Typed : RawConstructor → Type 0 = λ c. IsScoped T (length f.parameters) c.type in
    and_next-splits Made (All Made) (IsScopedStop over) (declare_constructor T n f number raw left) _
    (constructor-splits over T n f number raw left h (All-head Typed raw raws types)) (λ c rest made.
    and_next-splits (All Made) (All Made) (IsScopedStop over) (declare_constructors T n f (number + 1) raws rest) _
    (constructors-split over T n f (number + 1) raws rest h (All-tail Typed raw raws types)) (λ cs end all.
    All-cons Made c cs made all))

constructor-wider : {T U : Signature} → HasNumbers T U → (p count : ℕ) (c : Constructor) → IsScopedConstructor T p count c → IsScopedConstructor U p count c
constructor-wider m p count c h = record {
  arguments = arguments-wider m p c.arguments h.arguments;
  targets = λ k d w. scoped-wider m (h.targets k d w);
  target_count = h.target_count;
}

-- no family is a provisional definition
no-definition : (f : Family) (name : List ℕ) (type body : Term) → FamilyOf f ≢ Definition name type body
no-definition f name type body e = absurd (grind arith)

bare-settled : (S : Signature) (raw : RawFamily) (f : Family) → IsSettled S → IsBareScoped S raw f → IsSettled (pushed S (FamilyOf f))
bare-settled S raw f settled b =
    push-settled S (FamilyOf f) settled b.scoped (λ name type. no-definition f name type (Const (length S.entries)))

-- the parameters and the constructors' types are scoped over a signature that has the family without constructors at its end
pub record OverBare (S : Signature) (raw : RawFamily) (f : Family) : Type 0 where
  pub settled : IsSettled (pushed S (FamilyOf f))
  pub parameters : IsScopedTelescope (pushed S (FamilyOf f)) 0 f.parameters
  pub types : All (λ c. IsScoped (pushed S (FamilyOf f)) (length f.parameters) c.type) raw.constructors

pub over-bare : (S : Signature) → IsSettled S → (raw : RawFamily) (f : Family) → IsScopedRaw S raw → IsBareScoped S raw f → OverBare S raw f
over-bare S settled raw f h b = record {
  settled = bare-settled S raw f settled b;
  parameters = transport (IsScopedTelescope (pushed S (FamilyOf f)) 0) (sym b.parameters)
      (telescope-wider (pushed-numbers S (FamilyOf f)) 0 raw.parameters h.parameters);
  types = λ k d w.
      transport (λ ps. IsScoped (pushed S (FamilyOf f)) (length ps) (get_or raw.constructors k d).type) (sym b.parameters)
      (scoped-wider (other_family-numbers S (family_without raw [] 0) f refl) (h.constructors k d w));
}

whole-scoped : (S : Signature) (raw : RawFamily) (f : Family) (cs : List Constructor) → IsBareScoped S raw f
    → All (IsScopedConstructor (pushed S (FamilyOf f)) (length f.parameters) (length f.indices)) cs
    → IsScopedFamily (pushed S (FamilyOf (with_constructors f cs))) (length S.entries) (with_constructors f cs)
whole-scoped S raw f cs b all =
    let back = sym (first-all S (FamilyOf f)) ∙ first-all S (FamilyOf g) in
    record {
      parameters = transport (λ T. IsScopedTelescope T 0 f.parameters) back b.scoped.parameters;
      indices = transport (λ T. IsScopedTelescope T (length f.parameters) (index_types f)) back b.scoped.indices;
      level = b.scoped.level;
      index_levels = b.scoped.index_levels;
      constructors =
          transport (λ T. All (IsScopedConstructor T (length f.parameters) (length f.indices)) cs) (first-whole S (FamilyOf g))
          (All-weaker (IsScopedConstructor (pushed S (FamilyOf f)) (length f.parameters) (length f.indices))
          (IsScopedConstructor (pushed S (FamilyOf g)) (length f.parameters) (length f.indices))
          (λ c. constructor-wider (other_family-numbers S f g b.bare) (length f.parameters) (length f.indices) c) cs all);
    }
  where
    g : Family
    g = with_constructors f cs

-- the declared family goes to the end
abbrev Settles : Signature → Family → Type 0
Settles S f = IsSettled (pushed S (FamilyOf f))

family-settles : (S : Signature) → IsSettled S → (raw : RawFamily) (left : ℕ) → IsScopedRaw S raw
    → Splits (Settles S) (IsScopedStop (site_signature S raw)) (declare_family S raw left).0
family-settles S settled raw left h =
    and_next-splits (IsBareScoped S raw) (Settles S) (IsScopedStop over) (declare_type S raw left) _
    (type-scoped S settled raw left h) (λ f rest b.
    let T = pushed S (FamilyOf f) in
    let Made = IsScopedConstructor T (length f.parameters) (length f.indices) in
    let o = over-bare S settled raw f h b in
    and_next-splits (All Made) (Settles S) (IsScopedStop over) (declare_constructors T (length S.entries) f 0 raw.constructors rest) _
    (constructors-split over T (length S.entries) f 0 raw.constructors rest (stands f b o) o.types) (λ cs end all.
    push-settled S (FamilyOf (with_constructors f cs)) settled (whole-scoped S raw f cs b all)
    (λ name type. no-definition (with_constructors f cs) name type (Const (length S.entries)))))
  where
    over : Site → Signature
    over = site_signature S raw

    bare : Family
    bare = family_without raw [] 0

    stands : (f : Family) → IsBareScoped S raw f → OverBare S raw f → Stands over (pushed S (FamilyOf f)) f
    stands f b o = record {
      scoped = o.settled.scoped;
      low = b.scoped.level;
      context = (context-scoped (pushed S (FamilyOf f)) f.parameters).0 o.parameters;
      reads = λ number denial. denial-wider (other_family-numbers S f bare b.bare) denial;
    }

if_new-splits : {A : Type 0} (P : A → Type 0) (N : FamilyStop → Type 0) (test : Bool) (next : ℕ → Outcome A) (left : ℕ)
    → N Duplicate → Splits P N (next left).0 → Splits P N (if_new test next left).0
if_new-splits P N true next left d h = h
if_new-splits P N false next left d h = d

abbrev StaysSettled : Entered → Type 0
StaysSettled e = IsSettled e.signature

pub declare-settles : DeclareKeepsSettled
declare-settles S raw left settled h =
    split-parts StaysSettled (IsScopedStop (site_signature S raw)) _
    (if_new-splits StaysSettled (IsScopedStop (site_signature S raw)) (are_new S (raw_names raw)) _ left tt
    (and_next-splits (Settles S) StaysSettled (IsScopedStop (site_signature S raw)) (declare_family S raw left) _
    (family-settles S settled raw left h) (λ f end settles. settles)))

-- a constant that is scoped over the signature is none after it
not-beyond : (S : Signature) → ¬ IsConstantNumber S (length S.entries)
not-beyond S (name, type, body, at) = absurd (let lt = slice_get_within S.entries (length S.entries) _ at in omega arith)

-- a definition that is scoped
definition-settles : (S : Signature) (name : List ℕ) (type body : Term) → IsSettled S → IsScoped S 0 type → IsScoped S 0 body
    → IsSettled (pushed S (Definition name type body))
definition-settles S name type body settled ht hb =
    let before = first-all S (Definition name type body) in
    push-settled S (Definition name type body) settled
    (transport (λ T. IsScoped T 0 type) before ht, inl (transport (λ T. IsScoped T 0 body) before hb)) whole
  where
    body_of : Entry → Term
    body_of (Definition other given t) = t
    body_of _ = body

    whole : (other : List ℕ) (given : Term) → Definition name type body ≢ Definition other given (Const (length S.entries))
    whole other given e =
        not-beyond S (transport (IsScoped S 0) (ap body_of e) hb).entries

pub define-settles : DefineKeepsSettled
unfolding sort_in type_in
define-settles S name type body left settled ht hb =
    split-parts StaysSettled N _
    (if_new-splits StaysSettled N (are_new S (name ∷ [])) (check_definition S name type body) left tt
    (and_next-splits Any StaysSettled N (granted OfType (infer_sort_of S nesting [] type left)) _
    (granted-splits Any (λ site. S) S OfType 0 (infer_sort_of S nesting [] type left) (λ denial d. d)
    (infer_sort-scoped S nesting [] type left settled.scoped tt ht) (any-type (infer_sort_of S nesting [] type left).0)) (λ sort rest u.
    and_next-splits Any StaysSettled N (granted OfBody (check_of S nesting [] body type rest)) _
    (granted-splits Any (λ site. S) S OfBody 0 (check_of S nesting [] body type rest) (λ denial d. d)
    (check-scoped S nesting [] body type rest settled.scoped tt hb ht) (any-type (check_of S nesting [] body type rest).0)) (λ found end w.
    definition-settles S name type body settled ht hb))))
  where
    N : FamilyStop → Type 0
    N = IsScopedStop (λ site. S)

there-splits : (N : FamilyStop → Type 0) (S : Signature) (place : Option ℕ) (enter : ℕ → Outcome Entered) (left : ℕ) → IsSettled S
    → Splits StaysSettled N (enter left).0 → Splits StaysSettled N (unless_there S place enter left).0
there-splits N S (Some n) enter left settled h = settled
there-splits N S None enter left settled h = h

-- an instance whose type is scoped where its levels fit
instance-splits : (S : Signature) (e : Entry) (fits : Bool) (type : Term) (left : ℕ) → IsSettled S → (fits ≡ true → IsScoped S 0 type)
    → (fits ≡ true → IsSettled (pushed S e)) → Splits StaysSettled (IsScopedStop (λ site. S)) (enter_instance S e fits type left).0
unfolding sort_in
instance-splits S e false type left settled ht he = (tt, tt)
instance-splits S e true type left settled ht he =
    and_next-splits Any StaysSettled (IsScopedStop (λ site. S)) (granted OfType (infer_sort_of S nesting [] type left)) _
    (granted-splits Any (λ site. S) S OfType 0 (infer_sort_of S nesting [] type left) (λ denial d. d)
    (infer_sort-scoped S nesting [] type left settled.scoped tt (ht refl)) (any-type (infer_sort_of S nesting [] type left).0)) (λ sort end u.
    he refl)

-- a signature with an eliminator, whose level fits
eliminator-settled : (S : Signature) (n m : ℕ) (f : Family) → IsSettled S → IsEntryAt S n (FamilyOf f) → m < top → IsSettled (pushed S (EliminatorAt n m))
eliminator-settled S n m f settled at low =
    push-settled S (EliminatorAt n m) settled (transport (λ T. IsFamilyNumber T n) (first-all S (EliminatorAt n m)) (f, at), low)
    (λ name type e. absurd (grind arith))

-- the type of an eliminator is scoped
pub eliminator-scoped : (S : Signature) (n m : ℕ) (f : Family) → IsSettled S → IsEntryAt S n (FamilyOf f) → m < top → IsScoped S 0 (eliminator_type n f m)
eliminator-scoped S n m f settled at low =
    scoped-wider (without_eliminator-numbers S n m) (types-scoped (pushed S (EliminatorAt n m)) (Elim n m) (eliminator_type n f m) (eliminator-settled S n m f settled at low).scoped
    (eliminator n m (length S.entries) (slice_get-longer S.entries (EliminatorAt n m ∷ []) n (FamilyOf f) at) (slice_get-last S.entries (EliminatorAt n m))))

pub instance-settles : InstanceKeepsSettled
instance-settles S n f m left settled at =
    split-parts StaysSettled (IsScopedStop (λ site. S)) _
    (there-splits (IsScopedStop (λ site. S)) S (position (is_eliminator n m) S.entries) _ left settled
    (instance-splits S (EliminatorAt n m) (nat_lt m top) (eliminator_type n f m) left settled
    (λ fits. eliminator-scoped S n m f settled at (low fits)) (λ fits. eliminator-settled S n m f settled at (low fits))))
  where
    low : nat_lt m top ≡ true → m < top
    low fits = grind (arith, nat_tests)

-- the identity family of a level, where the signature has it
abbrev HasEquality : Signature → ℕ → Type 0
HasEquality S i = i < top → IsConstructorNumber S (equality i) 0

axiom_k-settled : (S : Signature) (i m : ℕ) → IsSettled S → HasEquality S i → i < top → m < top → IsSettled (pushed S (AxiomKAt i m))
axiom_k-settled S i m settled identity low motive_low =
    push-settled S (AxiomKAt i m) settled
    (low, motive_low, transport (λ T. IsConstructorNumber T (equality i) 0) (first-all S (AxiomKAt i m)) (identity low))
    (λ name type e. absurd (grind arith))

-- the type of axiom K is scoped
pub axiom_k-scoped : (S : Signature) (i m : ℕ) → IsSettled S → HasEquality S i → i < top → m < top → IsScoped S 0 (axiom_k_type i m)
axiom_k-scoped S i m settled identity low motive_low =
    scoped-wider (without_axiom_k-numbers S i m) (types-scoped (pushed S (AxiomKAt i m)) (AxiomK i m) (axiom_k_type i m) (axiom_k-settled S i m settled identity low motive_low).scoped
    (axiom_k i m (length S.entries) (slice_get-last S.entries (AxiomKAt i m))))

pub axiom_k-settles : AxiomKKeepsSettled
axiom_k-settles S i m left settled identity =
    split-parts StaysSettled (IsScopedStop (λ site. S)) _
    (there-splits (IsScopedStop (λ site. S)) S (position (is_axiom_k i m) S.entries) _ left settled
    (instance-splits S (AxiomKAt i m) (nat_lt i top && nat_lt m top) (axiom_k_type i m) left settled
    (λ fits. axiom_k-scoped S i m settled identity (low fits).0 (low fits).1) (λ fits. axiom_k-settled S i m settled identity (low fits).0 (low fits).1)))
  where
    low : (nat_lt i top && nat_lt m top) ≡ true → (i < top) × (m < top)
    low fits =
        let levels = both-true (nat_lt i top) (nat_lt m top) fits in
        let identity_fits = levels.0 in
        let motive_fits = levels.1 in
        (grind (arith, nat_tests), grind (arith, nat_tests))
