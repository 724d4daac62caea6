-- An entry is added or refused in the same way with more units.
use Rattle.std.proofs.Common.{ℕ, ◌+◌, Bool, true, false, ◌&&◌, nat_lt, position, Option, Some, None, Result, Ok, Err, List, [], ◌∷◌, length, ap}
use Rattle.theory.specs.Terms.{Term, top}
use Rattle.theory.specs.Eliminators.{eliminator_type}
use Rattle.theory.specs.Telescopes.{Context, Telescope, context_behind}
use Rattle.theory.specs.Families.{Family}
use Rattle.theory.specs.Signatures.{Entry, FamilyOf, EliminatorAt, AxiomKAt, Definition, Signature, axiom_k_type}
use Rattle.theory.specs.WellFormed.{pushed}
use Rattle.core_terms.specs.Answers.{Spent, and_next}
use Rattle.core_terms.specs.Telescopes.{domains_of, end_of}
use Rattle.core_terms.specs.Verdicts.{LevelTooHigh, Verdict}
use Rattle.core_terms.specs.declared.stop.Stop.{Stop}
use Rattle.core_sig.specs.Instances.{is_eliminator, is_axiom_k}
use Rattle.core_sig.specs.Raw.{RawConstructor, RawFamily, raw_names}
use Rattle.kernel_reduce.specs.Reduction.{nesting}
use Rattle.kernel_check.specs.Checking.{infer_sort_of, check_of}
use Rattle.family_check.specs.Outcomes.{Site, OfType, OfBody, OfConstructor, FamilyStop, Stopped, Denied, Duplicate, Outcome, ended, on_part, granted}
use Rattle.family_check.specs.Asking.{sort_in, type_in}
use Rattle.family_check.specs.Shapes.{arguments, constructor_targets}
use Rattle.family_check.specs.Families.{Role, Parameter, Index, ArgumentOf, site_of, fitting, sort_level, level_in, levels_of, family_level, family_without, bare_family, declare_type, on_targets, leveled_constructor, shaped_constructor, declare_constructor, declare_constructors, with_constructors, declare_family}
use Rattle.family_check.specs.Entering.{Entered, entered, entered_at, are_new, if_new, enter_instance, unless_there, check_definition}
use Rattle.elim.specs.refusal_laws.unit_laws.Laws.{DeclareSteady, InstanceSteady, AxiomKSteady, DefineSteady}
use Rattle.elim.specs.refusal_laws.unit_laws.Steady.{IsFuel, IsFamilyFuel, IsPaid, IsSteady}
use Rattle.elim.proofs.refusal_laws.unit_laws.Runs.{steady-now, steady-next, steady-each}
use Rattle.elim.proofs.refusal_laws.unit_laws.Checking.{infer_sort-steady, check-steady}

abbrev Steady : {A : Type 0} → (ℕ → Outcome A) → Type 0
Steady run = IsSteady IsFamilyFuel run

now : {A : Type 0} (r : Result A FamilyStop) → Steady (λ left. (r, left))
now r = steady-now IsFamilyFuel r

paid-part : (site : Site) (r : Result Verdict Stop) → IsPaid IsFamilyFuel (on_part site r) → IsPaid IsFuel r
paid-part site (Ok verdict) paid = tt
paid-part site (Err e) paid = λ is. paid (ap Stopped is)

pub granted-steady : (site : Site) (asked : ℕ → Spent Verdict) → IsSteady IsFuel asked → Steady (λ left. granted site (asked left))
granted-steady site asked h left more paid = ap (granted site) (h left more (paid-part site (asked left).0 paid))

pub sort-steady : (S : Signature) (site : Site) (G : Context) (t : Term) → Steady (sort_in S site G t)
unfolding sort_in
sort-steady S site G t = granted-steady site (infer_sort_of S nesting G t) (infer_sort-steady S nesting G t)

pub type-steady : (S : Signature) (site : Site) (G : Context) (t wanted : Term) → Steady (type_in S site G t wanted)
unfolding type_in
type-steady S site G t wanted = granted-steady site (check_of S nesting G t wanted) (check-steady S nesting G t wanted)

-- ---- families

level-steady : (S : Signature) (role : Role) (k : ℕ) (G : Context) (a : Term) → Steady (level_in S role k G a)
level-steady S role k G a =
    steady-next IsFamilyFuel (sort_in S (site_of role k) G a) _ (sort-steady S (site_of role k) G a) (λ sort. now (fitting role k (sort_level sort)))

levels-steady : (S : Signature) (role : Role) (count : ℕ) (G : Context) (tele : Telescope) → Steady (levels_of S role count G tele)
levels-steady S role count G tele =
    steady-each IsFamilyFuel (λ G k a. level_in S role (k + 1) G a) (λ G a. a ∷ G) (λ G k a. level-steady S role (k + 1) G a) G count tele

bare-steady : (S : Signature) (raw : RawFamily) → Steady (bare_family S raw)
bare-steady S raw =
    steady-next IsFamilyFuel (ended (family_level (end_of raw.type))) _ (now (family_level (end_of raw.type))) (λ level.
    steady-next IsFamilyFuel (levels_of S (Index level) 0 (context_behind [] raw.parameters) (domains_of raw.type)) _
    (levels-steady S (Index level) 0 (context_behind [] raw.parameters) (domains_of raw.type)) (λ levels.
    now (Ok (family_without raw levels level))))

declare_type-steady : (S : Signature) (raw : RawFamily) → Steady (declare_type S raw)
declare_type-steady S raw =
    steady-next IsFamilyFuel (levels_of S Parameter 0 [] raw.parameters) _ (levels-steady S Parameter 0 [] raw.parameters) (λ levels.
    steady-next IsFamilyFuel (sort_in S OfType (context_behind [] raw.parameters) raw.type) _
    (sort-steady S OfType (context_behind [] raw.parameters) raw.type) (λ sort. bare-steady S raw))

leveled-steady : (S : Signature) (n : ℕ) (f : Family) (number : ℕ) (name : List ℕ) (types : Telescope) (targets : List Term)
    → Steady (leveled_constructor S n f number name types targets)
leveled-steady S n f number name types targets =
    steady-next IsFamilyFuel (levels_of S (ArgumentOf number f.level) 0 (context_behind [] f.parameters) types) _
    (levels-steady S (ArgumentOf number f.level) 0 (context_behind [] f.parameters) types) (λ levels.
    now (Ok (record { name = name; arguments = arguments n f 0 types levels; targets = targets })))

shaped-steady : (S : Signature) (n : ℕ) (f : Family) (number : ℕ) (raw : RawConstructor) → Steady (shaped_constructor S n f number raw)
shaped-steady S n f number raw =
    let offends = on_targets number (constructor_targets n f raw.type) in
    steady-next IsFamilyFuel (ended offends) _ (now offends) (λ targets. leveled-steady S n f number raw.name (domains_of raw.type) targets)

constructor-steady : (S : Signature) (n : ℕ) (f : Family) (number : ℕ) (raw : RawConstructor) → Steady (declare_constructor S n f number raw)
constructor-steady S n f number raw =
    steady-next IsFamilyFuel (sort_in S (OfConstructor number) (context_behind [] f.parameters) raw.type) _
    (sort-steady S (OfConstructor number) (context_behind [] f.parameters) raw.type) (λ sort. shaped-steady S n f number raw)

constructors-steady : (S : Signature) (n : ℕ) (f : Family) (number : ℕ) (raws : List RawConstructor) → Steady (declare_constructors S n f number raws)
constructors-steady S n f number raws =
    steady-each {S = Unit {0}} IsFamilyFuel (λ s k raw. declare_constructor S n f k raw) (λ s raw. s) (λ s k raw. constructor-steady S n f k raw) tt number raws

family-steady : (S : Signature) (raw : RawFamily) → Steady (declare_family S raw)
family-steady S raw =
    steady-next IsFamilyFuel (declare_type S raw) _ (declare_type-steady S raw) (λ f.
    steady-next IsFamilyFuel (declare_constructors (pushed S (FamilyOf f)) (length S.entries) f 0 raw.constructors) _
    (constructors-steady (pushed S (FamilyOf f)) (length S.entries) f 0 raw.constructors) (λ constructors.
    now (Ok (with_constructors f constructors))))

-- ---- entries

new-steady : {A : Type 0} (test : Bool) (next : ℕ → Outcome A) → Steady next → Steady (if_new test next)
new-steady true next h = h
new-steady false next h = now (Err Duplicate)

pub declare-steady : DeclareSteady
declare-steady S raw =
    new-steady (are_new S (raw_names raw)) (λ all. and_next (declare_family S raw all) (λ f end. ended (Ok (entered S (FamilyOf f))) end))
    (steady-next IsFamilyFuel (declare_family S raw) _ (family-steady S raw) (λ f. now (Ok (entered S (FamilyOf f)))))

enter-steady : (S : Signature) (e : Entry) (fits : Bool) (type : Term) → Steady (enter_instance S e fits type)
enter-steady S e true type = steady-next IsFamilyFuel (sort_in S OfType [] type) _ (sort-steady S OfType [] type) (λ sort. now (Ok (entered S e)))
enter-steady S e false type = now (Err (Denied OfType (record { place = []; ctx = []; reason = LevelTooHigh })))

there-steady : (S : Signature) (place : Option ℕ) (enter : ℕ → Outcome Entered) → Steady enter → Steady (unless_there S place enter)
there-steady S (Some n) enter h = now (Ok (entered_at S n))
there-steady S None enter h = h

pub instance-steady : InstanceSteady
instance-steady S n f m =
    there-steady S (position (is_eliminator n m) S.entries) (enter_instance S (EliminatorAt n m) (nat_lt m top) (eliminator_type n f m))
    (enter-steady S (EliminatorAt n m) (nat_lt m top) (eliminator_type n f m))

pub axiom_k-steady : AxiomKSteady
axiom_k-steady S i m =
    there-steady S (position (is_axiom_k i m) S.entries) (enter_instance S (AxiomKAt i m) (nat_lt i top && nat_lt m top) (axiom_k_type i m))
    (enter-steady S (AxiomKAt i m) (nat_lt i top && nat_lt m top) (axiom_k_type i m))

definition-steady : (S : Signature) (name : List ℕ) (type body : Term) → Steady (check_definition S name type body)
definition-steady S name type body =
    steady-next IsFamilyFuel (sort_in S OfType [] type) _ (sort-steady S OfType [] type) (λ sort.
    steady-next IsFamilyFuel (type_in S OfBody [] body type) _ (type-steady S OfBody [] body type) (λ found.
    now (Ok (entered S (Definition name type body)))))

pub define-steady : DefineSteady
define-steady S name type body = new-steady (are_new S (name ∷ [])) (check_definition S name type body) (definition-steady S name type body)
