-- A well-formed signature stays well formed where an entry enters.
use Rattle.std.proofs.Common.{◌≡◌, ◌≢◌, ℕ, suc, ◌+◌, ◌≤◌, Bool, true, false, cond, not, ◌&&◌, ◌==◌, nat_lt, nat_le, Option, Some, None, Result, Ok, Err, IfOk, List, [], ◌∷◌, map, length, zip, position, All, AllPairs, Contains, refl, ap, ap₂, sym, ◌∙◌, subst as transport, subst₂ as transport₂, arith}
use Rattle.std.specs.List.{position_or_len}
use Rattle.std.proofs.lemmas.Bool.Decides.{Decides-eqb, nat_tests}
use Rattle.std.proofs.lemmas.List.Elements.{All-cons, All-nil}
use Rattle.theory.specs.Terms.{Term, top}
use Rattle.theory.specs.Terms.Term.{Sort, Var}
use Rattle.theory.specs.Telescopes.{Context, Telescope, context_behind, products}
use Rattle.theory.specs.Families.{Constructor, Family, IsPositiveConstructor, index_types, without_constructors}
use Rattle.theory.specs.Eliminators.{eliminator_type}
use Rattle.theory.specs.Signatures.{Entry, FamilyOf, EliminatorAt, AxiomKAt, Definition, Signature, names_of, axiom_k_type}
use Rattle.theory.specs.Typing.{IsContext, Has, HasSort}
use Rattle.theory.specs.Typing.IsContext.{empty, bind}
use Rattle.theory.specs.Typing.IsType.{has_sort}
use Rattle.theory.specs.WellFormed.{pushed, HasLevels, IsConstructor, IsFamily, IsEntry, IsWellFormed, IsTyped}
use Rattle.theory.specs.WellFormed.HasLevels.{none, more}
use Rattle.theory.specs.WellFormed.IsEntry.{family, eliminator, axiom_k, definition}
use Rattle.theory.proofs.Generation.{parts, telescope_formation, telescope_generation}
use Rattle.theory.proofs.Pushing.{push_is_longer, push_well_formed, names_of_push}
use Rattle.theory.proofs.WellFormedness.{well_formed_typed}
use Rattle.theory.proofs.Carrying.{sort-carried}
use Rattle.theory.proofs.Widening.{prefix_carries}
use Rattle.core_sig.specs.Raw.{RawConstructor, RawFamily, raw_names}
use Rattle.kernel_reduce.specs.Reduction.{nesting}
use Rattle.kernel_reduce.proofs.StepLaws.{both-true}
use Rattle.core_sig.specs.Instances.{is_eliminator, is_axiom_k}
use Rattle.kernel_check.specs.Checking.{infer_sort_of, check_of}
use Rattle.kernel_check.specs.Laws.{HasUniverse, HasWanted}
use Rattle.kernel_check.proofs.Soundness.{infer_sort-is_sound, check-is_sound}
use Rattle.family_check.specs.Outcomes.{Site, OfType, OfBody, OfConstructor, FamilyStop, TooLarge, Outcome, ended, granted}
use Rattle.family_check.specs.Asking.{sort_in, type_in}
use Rattle.core_terms.specs.Telescopes.{domains_of, end_of}
use Rattle.family_check.specs.Shapes.{arguments, constructor_targets}
use Rattle.family_check.specs.Families.{Role, site_of, fitting, sort_level, level_in, levels_of, family_level, family_without, declare_type, on_targets, declare_constructor, declare_constructors, with_constructors, declare_family}
use Rattle.family_check.specs.Families.Role.{Parameter, Index, ArgumentOf}
use Rattle.family_check.specs.Entering.{Entered, are_new, enter_instance, unless_there}
use Rattle.family_check.specs.Laws.{DeclareKeepsWellFormed, InstanceKeepsWellFormed, AxiomKKeepsWellFormed, DefineKeepsWellFormed}
use Rattle.core_terms.proofs.Answers.{Answers, and_next-has}
use Rattle.family_check.proofs.Outcomes.{granted-has, if_new-has}
use Rattle.core_terms.proofs.LeadingProducts.{products-of_parts}
use Rattle.family_check.proofs.Shapes.{IsShaped, targets-shaped, arguments-leveled, arguments-targeted, telescope-of, constructor-typed}
use Rattle.family_check.proofs.Zips.{zip-firsts, zip-seconds}
use Rattle.family_check.proofs.PreludeEntries.{identity-there}
use Rattle.family_check.proofs.NewNames.{DifferFrom, new-differ, first-differs, all-distinct}

-- a sort that is granted has a derivation
sort-granted : (S : Signature) → IsTyped S → (site : Site) (G : Context) (t : Term) (left : ℕ) → IsContext S G
    → Answers (HasUniverse S G t) (granted site (infer_sort_of S nesting G t left))
sort-granted S typed site G t left context =
    granted-has (HasUniverse S G t) site (infer_sort_of S nesting G t left) (infer_sort-is_sound S typed nesting G t left context)

-- the greatest level that a type may have
abbrev limit_of : Role → ℕ
limit_of Parameter = top
limit_of (Index limit) = limit
limit_of (ArgumentOf number limit) = limit

bounded-level : (limit level : ℕ) (e : FamilyStop) → IfOk (cond (nat_le level limit) (Ok level) (Err e)) (λ i. (i ≡ level) × (i ≤ limit))
bounded-level limit level e = by_case (nat_le level limit) refl
  where
    by_case : (b : Bool) → nat_le level limit ≡ b → IfOk {E = FamilyStop} (cond b (Ok level) (Err e)) (λ i. (i ≡ level) × (i ≤ limit))
    by_case true test = (refl, grind (arith, nat_tests))
    by_case false test = tt

level-fits : (role : Role) (k level : ℕ) → level ≤ top → IfOk (fitting role k level) (λ i. (i ≡ level) × (i ≤ limit_of role))
level-fits Parameter k level le = (refl, le)
level-fits (Index limit) k level le = bounded-level limit level (TooLarge None k)
level-fits (ArgumentOf number limit) k level le = bounded-level limit level (TooLarge (Some number) k)

-- the type has a sort of the level, which fits
record IsLevel (S : Signature) (role : Role) (G : Context) (a : Term) (level : ℕ) : Type 0 where
  pub derivation : Has S G a (Sort level)
  pub fits : level ≤ limit_of role

level-sound : (S : Signature) → IsTyped S → (role : Role) (k : ℕ) (G : Context) (a : Term) (left : ℕ) → IsContext S G
    → Answers (IsLevel S role G a) (level_in S role k G a left)
unfolding sort_in
level-sound S typed role k G a left context =
    and_next-has (HasUniverse S G a) (IsLevel S role G a) (granted (site_of role k) (infer_sort_of S nesting G a left)) _
    (sort-granted S typed (site_of role k) G a left context) (λ sort rest u.
    let same : sort_level sort ≡ u.level = ap sort_level u.is_sort in
    by_case u (fitting role k (sort_level sort)) (transport (λ i. IfOk (fitting role k i) (λ j. (j ≡ u.level) × (j ≤ limit_of role))) (sym same) (level-fits role k u.level u.limit)))
  where
    by_case : {sort : Term} (u : HasUniverse S G a sort) (r : Result ℕ FamilyStop) → IfOk r (λ j. (j ≡ u.level) × (j ≤ limit_of role)) → IfOk r (IsLevel S role G a)
    by_case u (Ok i) (same, fits) = record { derivation = transport (λ j. Has S G a (Sort j)) (sym same) u.derivation; fits = fits }
    by_case u (Err e) h = tt

levels-sound : (S : Signature) → IsTyped S → (role : Role) (count : ℕ) (G : Context) (tele : Telescope) (left : ℕ) → IsContext S G
    → Answers (HasLevels S (limit_of role) G tele) (levels_of S role count G tele left)
levels-sound S typed role count G [] left context = none
levels-sound S typed role count G (a ∷ tele) left context =
    and_next-has (IsLevel S role G a) (HasLevels S (limit_of role) G (a ∷ tele)) (level_in S role (count + 1) G a left) _
    (level-sound S typed role (count + 1) G a left context) (λ level rest h.
    and_next-has (HasLevels S (limit_of role) (a ∷ G) tele) (HasLevels S (limit_of role) G (a ∷ tele)) (levels_of S role (count + 1) (a ∷ G) tele rest) _
    (levels-sound S typed role (count + 1) (a ∷ G) tele rest (bind level context h.derivation)) (λ levels end k.
    more h.derivation h.fits k))

-- types that have sorts make a context
context-of_levels : {S : Signature} {limit : ℕ} {G : Context} {tele : Telescope} {levels : List ℕ} → HasLevels S limit G tele levels
    → IsContext S G → IsContext S (context_behind G tele)
context-of_levels none context = context
context-of_levels (more {i = i} d le rest) context = context-of_levels rest (bind i context d)

levels-counted : {S : Signature} {limit : ℕ} {G : Context} {tele : Telescope} {levels : List ℕ} → HasLevels S limit G tele levels → length levels ≡ length tele
levels-counted none = refl
levels-counted (more d le rest) = ap suc (levels-counted rest)

family-ends : (t : Term) → IfOk (family_level t) (λ level. t ≡ Sort level)
family-ends (Sort level) = refl
family-ends (Var n) = tt
family-ends _ = tt

-- a family without constructors, from its declaration
record IsBare (S : Signature) (raw : RawFamily) (f : Family) : Type 0 where
  pub bare : f.constructors ≡ []
  pub name : f.name ≡ raw.name
  pub context : IsContext S (context_behind [] f.parameters)
  pub formed : IsFamily S f

bare-family : (S : Signature) → IsTyped S → (raw : RawFamily) (parameter_levels levels : List ℕ) (level : ℕ) {sort : Term}
    → HasLevels S top [] raw.parameters parameter_levels → HasUniverse S (context_behind [] raw.parameters) raw.type sort
    → end_of raw.type ≡ Sort level → HasLevels S level (context_behind [] raw.parameters) (domains_of raw.type) levels
    → IsBare S raw (family_without raw levels level)
bare-family S typed raw parameter_levels levels level params u ends indices =
    record { bare = refl; name = refl; context = context; formed = formed }
  where
    G : Context
    G = context_behind [] raw.parameters

    context : IsContext S G
    context = context-of_levels params empty

    counted : length levels ≡ length (domains_of raw.type)
    counted = levels-counted indices

    firsts : map (λ i. i.0) (zip (domains_of raw.type) levels) ≡ domains_of raw.type
    firsts = zip-firsts (domains_of raw.type) levels counted

    written : raw.type ≡ products (domains_of raw.type) (Sort level)
    written = sym (products-of_parts raw.type) ∙ ap (products (domains_of raw.type)) ends

    type_sort : HasSort S G (products (domains_of raw.type) (Sort level))
    type_sort = (u.level, transport (λ t. Has S G t (Sort u.level)) written u.derivation)

    formed : IsFamily S (family_without raw levels level)
    formed = record {
      level = (parts (telescope_generation S G (domains_of raw.type) (Sort level) type_sort).1.1).limit;
      type = telescope_formation S [] raw.parameters _ context
          (transport (λ tele. HasSort S G (products tele (Sort level))) (sym firsts) type_sort);
      indices = transport₂ (HasLevels S level G) (sym firsts) (sym (zip-seconds (domains_of raw.type) levels counted)) indices;
      constructors = All-nil _;
      positive = All-nil _;
    }

type-sound : (S : Signature) → IsTyped S → (raw : RawFamily) (left : ℕ) → Answers (IsBare S raw) (declare_type S raw left)
unfolding sort_in
type-sound S typed raw left =
    let G = context_behind [] raw.parameters in
    and_next-has (HasLevels S top [] raw.parameters) (IsBare S raw) (levels_of S Parameter 0 [] raw.parameters left) _
    (levels-sound S typed Parameter 0 [] raw.parameters left empty) (λ parameter_levels left1 params.
    let context = context-of_levels params empty in
    and_next-has (HasUniverse S G raw.type) (IsBare S raw) (granted OfType (infer_sort_of S nesting G raw.type left1)) _
    (sort-granted S typed OfType G raw.type left1 context) (λ sort left2 u.
    and_next-has (λ level. end_of raw.type ≡ Sort level) (IsBare S raw) (ended (family_level (end_of raw.type)) left2) _
    (family-ends (end_of raw.type)) (λ level left3 ends.
    and_next-has (HasLevels S level G (domains_of raw.type)) (IsBare S raw) (levels_of S (Index level) 0 G (domains_of raw.type) left3) _
    (levels-sound S typed (Index level) 0 G (domains_of raw.type) left3 context) (λ levels end indices.
    bare-family S typed raw parameter_levels levels level params u ends indices))))

-- a constructor of a family that is there, from its declaration
record IsFormed (T : Signature) (n : ℕ) (f : Family) (given : List ℕ) (c : Constructor) : Type 0 where
  pub name : c.name ≡ given
  pub formed : IsConstructor T n f c
  pub positive : IsPositiveConstructor n c

constructor-formed : (T : Signature) (n : ℕ) (f : Family) (raw : RawConstructor) (targets : List Term) (levels : List ℕ) {sort : Term}
    → IsContext T (context_behind [] f.parameters) → HasUniverse T (context_behind [] f.parameters) raw.type sort → IsShaped n f raw.type targets
    → HasLevels T f.level (context_behind [] f.parameters) (domains_of raw.type) levels
    → IsFormed T n f raw.name (record { name = raw.name; arguments = arguments n f 0 (domains_of raw.type) levels; targets = targets })
constructor-formed T n f raw targets levels context u shaped leveled =
    record {
      name = refl;
      formed = record {
        type = transport (HasSort T []) (sym (constructor-typed n f raw.name raw.type levels targets counted shaped.end))
            (telescope_formation T [] f.parameters raw.type context (u.level, u.derivation));
        levels = transport₂ (HasLevels T f.level (context_behind [] f.parameters))
            (sym (telescope-of n f raw.name (domains_of raw.type) levels targets counted))
            (sym (arguments-leveled n f 0 (domains_of raw.type) levels counted)) leveled;
        targets = shaped.end.count;
        argument_targets = arguments-targeted n f 0 (domains_of raw.type) levels;
      };
      positive = record { arguments = shaped.positive levels; targets = shaped.end.lack };
    }
  where
    counted : length levels ≡ length (domains_of raw.type)
    counted = levels-counted leveled

constructor-sound : (T : Signature) → IsTyped T → (n : ℕ) (f : Family) (number : ℕ) (raw : RawConstructor) (left : ℕ)
    → IsContext T (context_behind [] f.parameters) → Answers (IsFormed T n f raw.name) (declare_constructor T n f number raw left)
unfolding sort_in
constructor-sound T typed n f number raw left context =
    let G = context_behind [] f.parameters in
    and_next-has (HasUniverse T G raw.type) (IsFormed T n f raw.name) (granted (OfConstructor number) (infer_sort_of T nesting G raw.type left)) _
    (sort-granted T typed (OfConstructor number) G raw.type left context) (λ sort left1 u.
    and_next-has (IsShaped n f raw.type) (IsFormed T n f raw.name) (ended (on_targets number (constructor_targets n f raw.type)) left1) _
    (targets-shaped n f number raw.type) (λ targets left2 shaped.
    and_next-has (HasLevels T f.level G (domains_of raw.type)) (IsFormed T n f raw.name) (levels_of T (ArgumentOf number f.level) 0 G (domains_of raw.type) left2) _
    (levels-sound T typed (ArgumentOf number f.level) 0 G (domains_of raw.type) left2 context) (λ levels end leveled.
    constructor-formed T n f raw targets levels context u shaped leveled)))

-- all constructors
record AreFormed (T : Signature) (n : ℕ) (f : Family) (raws : List RawConstructor) (cs : List Constructor) : Type 0 where
  pub names : map (λ c. c.name) cs ≡ map (λ r. r.name) raws
  pub formed : All (IsConstructor T n f) cs
  pub positive : All (IsPositiveConstructor n) cs

constructors-sound : (T : Signature) → IsTyped T → (n : ℕ) (f : Family) (number : ℕ) (raws : List RawConstructor) (left : ℕ)
    → IsContext T (context_behind [] f.parameters) → Answers (AreFormed T n f raws) (declare_constructors T n f number raws left)
constructors-sound T typed n f number [] left context = record { names = refl; formed = All-nil _; positive = All-nil _ }
constructors-sound T typed n f number (raw ∷ raws) left context =
    and_next-has (IsFormed T n f raw.name) (AreFormed T n f (raw ∷ raws)) (declare_constructor T n f number raw left) _
    (constructor-sound T typed n f number raw left context) (λ c rest h.
    and_next-has (AreFormed T n f raws) (AreFormed T n f (raw ∷ raws)) (declare_constructors T n f (number + 1) raws rest) _
    (constructors-sound T typed n f (number + 1) raws rest context) (λ cs end k.
    record {
      names = ap₂ ◌∷◌ h.name k.names;
      formed = All-cons (IsConstructor T n f) c cs h.formed k.formed;
      positive = All-cons (IsPositiveConstructor n) c cs h.positive k.positive;
    }))

-- an entry with new names
enters : (S : Signature) (e : Entry) → IsWellFormed S → IsEntry S e → DifferFrom S (names_of e) → IsWellFormed (pushed S e)
enters S e h entry new =
    push_well_formed S e h entry (transport (AllPairs (λ x y. x ≢ y)) (sym (names_of_push S e)) (all-distinct S (names_of e) h.distinct new))

-- the whole family
record IsDeclared (S : Signature) (raw : RawFamily) (f : Family) : Type 0 where
  pub names : names_of (FamilyOf f) ≡ raw_names raw
  pub formed : IsFamily S f

family-complete : (S : Signature) (raw : RawFamily) (f : Family) (cs : List Constructor) → IsBare S raw f
    → AreFormed (pushed S (FamilyOf f)) (length S.entries) f raw.constructors cs → IsDeclared S raw (with_constructors f cs)
family-complete S raw f cs b k =
    let formed = transport (λ g. All (IsConstructor (pushed S (FamilyOf g)) (length S.entries) f) cs) bare k.formed in
    record {
      names = ap₂ ◌∷◌ b.name k.names;
      formed = record {
        level = b.formed.level;
        type = b.formed.type;
        indices = b.formed.indices;
        constructors = λ i d w.
            let c = formed i d w in
            record { type = c.type; levels = c.levels; targets = c.targets; argument_targets = c.argument_targets };
        positive = k.positive;
      };
    }
  where
    bare : f ≡ without_constructors (with_constructors f cs)
    bare = λ i. record {
      name = f.name;
      parameters = f.parameters;
      indices = f.indices;
      level = f.level;
      constructors = b.bare i;
    }

family-sound : (S : Signature) → IsWellFormed S → (raw : RawFamily) (left : ℕ) → DifferFrom S (raw_names raw)
    → Answers (IsDeclared S raw) (declare_family S raw left)
family-sound S h raw left new =
    and_next-has (IsBare S raw) (IsDeclared S raw) (declare_type S raw left) _
    (type-sound S (well_formed_typed S h) raw left) (λ f rest b.
    let T = pushed S (FamilyOf f) in
    and_next-has (AreFormed T (length S.entries) f raw.constructors) (IsDeclared S raw) (declare_constructors T (length S.entries) f 0 raw.constructors rest) _
    (constructors-sound T (half-typed f b) (length S.entries) f 0 raw.constructors rest (half-context f b)) (λ cs end k.
    family-complete S raw f cs b k))
  where
    half : (f : Family) → IsBare S raw f → IsWellFormed (pushed S (FamilyOf f))
    half f b = enters S (FamilyOf f) h (family b.formed)
        (transport (DifferFrom S) (ap₂ (λ x cs. x ∷ map (λ (c : Constructor). c.name) cs) (sym b.name) (sym b.bare)) (first-differs S raw.name (map (λ r. r.name) raw.constructors) new))

    half-typed : (f : Family) → IsBare S raw f → IsTyped (pushed S (FamilyOf f))
    half-typed f b = well_formed_typed (pushed S (FamilyOf f)) (half f b)

    half-context : (f : Family) → IsBare S raw f → IsContext (pushed S (FamilyOf f)) (context_behind [] f.parameters)
    half-context f b = (telescope_generation (pushed S (FamilyOf f)) [] f.parameters (products (index_types f) (Sort f.level)) (sort-carried (prefix_carries (push_is_longer S (FamilyOf f))) b.formed.type)).0

pub declare-keeps : DeclareKeepsWellFormed
declare-keeps S raw left h =
    if_new-has (λ e. IsWellFormed e.signature) (are_new S (raw_names raw)) _ left (λ test.
    let new = new-differ S (raw_names raw) test in
    and_next-has (IsDeclared S raw) (λ e. IsWellFormed e.signature) (declare_family S raw left) _
    (family-sound S h raw left new) (λ f end d.
    enters S (FamilyOf f) h (family d.formed) (transport (DifferFrom S) (sym d.names) new)))

-- a definition
pub define-keeps : DefineKeepsWellFormed
unfolding sort_in type_in
define-keeps S name type body left h =
    let typed = well_formed_typed S h in
    if_new-has (λ e. IsWellFormed e.signature) (are_new S (name ∷ [])) _ left (λ test.
    and_next-has (HasUniverse S [] type) (λ e. IsWellFormed e.signature) (granted OfType (infer_sort_of S nesting [] type left)) _
    (sort-granted S typed OfType [] type left empty) (λ sort rest u.
    and_next-has (HasWanted S [] body type) (λ e. IsWellFormed e.signature) (granted OfBody (check_of S nesting [] body type rest)) _
    (granted-has (HasWanted S [] body type) OfBody (check_of S nesting [] body type rest)
    (check-is_sound S typed nesting [] body type rest empty (has_sort u.level u.derivation))) (λ found end w.
    enters S (Definition name type body) h
    (definition (record { type_sort = (u.level, u.derivation); body_type = w.derivation })) (new-differ S (name ∷ []) test))))

-- where a place is not found, no element passes the test
none-at : {X : Type 0} (p : X → Bool) (xs : List X) → length xs ≤ position_or_len p xs → All (λ x. p x ≡ false) xs
none-at p [] h = All-nil (λ x. p x ≡ false)
none-at p (x ∷ xs) h = by_case (p x) refl h (none-at p xs)
  where
    by_case : (b : Bool) → p x ≡ b → suc (length xs) ≤ cond (not b) (1 + position_or_len p xs) 0 → (length xs ≤ position_or_len p xs → All (λ y. p y ≡ false) xs)
        → All (λ y. p y ≡ false) (x ∷ xs)
    by_case true e le rest = absurd (omega arith)
    by_case false e le rest = All-cons (λ y. p y ≡ false) x xs e (rest (omega arith))

not-found : {X : Type 0} (p : X → Bool) (xs : List X) (x : X) → position p xs ≡ None → p x ≡ true → ¬ Contains xs x
not-found p xs x absent passes (k, lt, at) =
    let fails = none-at p xs (beyond (nat_lt (position_or_len p xs) (length xs)) refl absent) k x lt in
    absurd (let t = ap p at in grind arith)
  where
    beyond : (b : Bool) → nat_lt (position_or_len p xs) (length xs) ≡ b → cond b (Some (position_or_len p xs)) None ≡ None → length xs ≤ position_or_len p xs
    beyond true e h = absurd (grind arith)
    beyond false e h = grind (arith, nat_tests)

both-same : (a b : ℕ) → ((a == a) && (b == b)) ≡ true
both-same a b = ap₂ ◌&&◌ ((Decides-eqb a a).1 refl) ((Decides-eqb b b).1 refl)

there-keeps : (S : Signature) (place : Option ℕ) (enter : ℕ → Outcome Entered) (left : ℕ) → IsWellFormed S
    → (place ≡ None → Answers (λ e. IsWellFormed e.signature) (enter left)) → Answers (λ e. IsWellFormed e.signature) (unless_there S place enter left)
there-keeps S (Some n) enter left h k = h
there-keeps S None enter left h k = k refl

-- an instance, which brings no names
instance-enters : (S : Signature) (e : Entry) (fits : Bool) (type : Term) (left : ℕ) → IsWellFormed S → names_of e ≡ []
    → (fits ≡ true → HasSort S [] type → IsEntry S e) → Answers (λ x. IsWellFormed x.signature) (enter_instance S e fits type left)
unfolding sort_in
instance-enters S e false type left h nameless made = tt
instance-enters S e true type left h nameless made =
    and_next-has (HasUniverse S [] type) (λ x. IsWellFormed x.signature) (granted OfType (infer_sort_of S nesting [] type left)) _
    (sort-granted S (well_formed_typed S h) OfType [] type left empty) (λ sort end u.
    enters S e h (made refl (u.level, u.derivation))
    (transport (DifferFrom S) (sym nameless) (record { unknown = All-nil _; distinct = λ i j d l w. absurd (omega arith) })))

pub instance-keeps : InstanceKeepsWellFormed
instance-keeps S n f m left h at =
    there-keeps S (position (is_eliminator n m) S.entries) (enter_instance S (EliminatorAt n m) (nat_lt m top) (eliminator_type n f m)) left h (λ absent.
    instance-enters S (EliminatorAt n m) (nat_lt m top) (eliminator_type n f m) left h refl (λ fits type.
    eliminator f (record {
      family = at;
      level = grind (arith, nat_tests);
      type = type;
      new = not-found (is_eliminator n m) S.entries (EliminatorAt n m) absent (both-same n m);
    })))

pub axiom_k-keeps : AxiomKKeepsWellFormed
axiom_k-keeps S i m left h on prelude =
    there-keeps S (position (is_axiom_k i m) S.entries) (enter_instance S (AxiomKAt i m) (nat_lt i top && nat_lt m top) (axiom_k_type i m)) left h (λ absent.
    instance-enters S (AxiomKAt i m) (nat_lt i top && nat_lt m top) (axiom_k_type i m) left h refl (λ fits type.
    let levels = both-true (nat_lt i top) (nat_lt m top) fits in
    let identity_fits = levels.0 in
    let motive_fits = levels.1 in
    axiom_k (record {
      on = on;
      identity = identity-there S i prelude (grind (arith, nat_tests));
      level = grind (arith, nat_tests);
      type = type;
      new = not-found (is_axiom_k i m) S.entries (AxiomKAt i m) absent (both-same i m);
    })))
