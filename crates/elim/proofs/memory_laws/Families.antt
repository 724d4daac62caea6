-- Families, instances and definitions that enter.
use Rattle.std.proofs.Common.{ℕ, ◌+◌, Bool, true, false, ◌&&◌, nat_lt, position, Option, Some, None, Result, Ok, Err, List, [], ◌∷◌, length}
use Rattle.theory.specs.Terms.{Term, top}
use Rattle.theory.specs.Terms.Term.{Var, Sort}
use Rattle.theory.specs.Eliminators.{eliminator_type}
use Rattle.theory.specs.Telescopes.{Context, Telescope, context_behind}
use Rattle.theory.specs.Families.{Family}
use Rattle.theory.specs.Signatures.{Entry, FamilyOf, EliminatorAt, AxiomKAt, Signature, axiom_k_type}
use Rattle.theory.specs.WellFormed.{pushed}
use Rattle.core_terms.specs.Telescopes.{domains_of, end_of}
use Rattle.core_terms.specs.Verdicts.{Verdict}
use Rattle.core_terms.specs.Verdicts.Verdict.{Yes, No}
use Rattle.core_terms.specs.declared.stop.Stop.{Stop}
use Rattle.core_sig.specs.Instances.{is_eliminator, is_axiom_k}
use Rattle.core_sig.specs.Raw.{RawConstructor, RawFamily, raw_names}
use Rattle.kernel_reduce.specs.Reduction.{nesting}
use Rattle.family_check.specs.Outcomes.FamilyStop.{Stopped, Denied, NotPositive, TooLarge, BadFamily, Duplicate}
use Rattle.family_check.specs.Outcomes.{Site, OfType, OfBody, OfConstructor, FamilyStop, Outcome, on_part}
use Rattle.family_check.specs.Asking.{sort_in, type_in}
use Rattle.family_check.specs.Shapes.{constructor_targets}
use Rattle.family_check.specs.Families.{Role, Parameter, Index, ArgumentOf, site_of, fitting, sort_level, level_in, levels_of, family_level, bare_family, declare_type, on_targets, leveled_constructor, shaped_constructor, declare_constructor, declare_constructors, declare_family}
use Rattle.family_check.specs.Entering.{Entered, are_new, if_new, declare_of, enter_instance, unless_there, instance_of, axiom_k_of, check_definition, define_of}
use Rattle.elim.specs.memory_laws.Foreseen.{IsForeseen, IsForeseenEntry, IsForeseenInstance}
use Rattle.elim.proofs.memory_laws.Runs.{Only, Ends, ok, no, now, done, next, either, each}
use Rattle.elim.proofs.memory_laws.Kernel.{infer-sort, check}

-- ---- the checker's answer for a part

on-part : (site : Site) (r : Result Verdict Stop) → Only IsForeseen r → Only IsForeseenEntry (on_part site r)
on-part site (Ok (Yes type)) h = ok
on-part site (Ok (No denial)) h = no tt
on-part site (Err e) h = no h.is

pub is-sort : (S : Signature) (site : Site) (G : Context) (t : Term) (left : ℕ) → Ends IsForeseenEntry (sort_in S site G t left)
unfolding sort_in
is-sort S site G t left = now (on-part site _ (infer-sort S nesting G t left).only)

is-typed : (S : Signature) (site : Site) (G : Context) (t wanted : Term) (left : ℕ) → Ends IsForeseenEntry (type_in S site G t wanted left)
unfolding type_in
is-typed S site G t wanted left = now (on-part site _ (check S nesting G t wanted left).only)

-- ---- families

fits : (role : Role) (k level : ℕ) → Only IsForeseenEntry (fitting role k level)
fits Parameter k level = ok
fits (Index limit) k level = either _ ok (no tt)
fits (ArgumentOf number limit) k level = either _ ok (no tt)

level : (S : Signature) (role : Role) (k : ℕ) (G : Context) (a : Term) (left : ℕ) → Ends IsForeseenEntry (level_in S role k G a left)
level S role k G a left = next (is-sort S (site_of role k) G a left) (λ sort rest. now (fits role k (sort_level sort)))

levels : (S : Signature) (role : Role) (count : ℕ) (G : Context) (tele : Telescope) (left : ℕ) → Ends IsForeseenEntry (levels_of S role count G tele left)
levels S role count G tele left = each (λ G a. a ∷ G) (λ G k a rest. level S role (k + 1) G a rest) G count tele left

end-level : (t : Term) → Only IsForeseenEntry (family_level t)
end-level (Sort i) = ok
end-level (Var n) = no tt
end-level t = no tt

bare : (S : Signature) (raw : RawFamily) (left : ℕ) → Ends IsForeseenEntry (bare_family S raw left)
bare S raw left =
    next (now (end-level (end_of raw.type))) (λ level rest.
    next (levels S (Index level) 0 (context_behind [] raw.parameters) (domains_of raw.type) rest) (λ levels end. done))

typed : (S : Signature) (raw : RawFamily) (left : ℕ) → Ends IsForeseenEntry (declare_type S raw left)
typed S raw left =
    next (levels S Parameter 0 [] raw.parameters left) (λ levels rest.
    next (is-sort S OfType (context_behind [] raw.parameters) raw.type rest) (λ sort end. bare S raw end))

targets : (number : ℕ) (r : Result (List Term) ℕ) → Only IsForeseenEntry (on_targets number r)
targets number (Ok terms) = ok
targets number (Err k) = no tt

leveled : (S : Signature) (n : ℕ) (f : Family) (number : ℕ) (name : List ℕ) (types : Telescope) (terms : List Term) (left : ℕ)
    → Ends IsForeseenEntry (leveled_constructor S n f number name types terms left)
leveled S n f number name types terms left =
    next (levels S (ArgumentOf number f.level) 0 (context_behind [] f.parameters) types left) (λ levels end. done)

shaped : (S : Signature) (n : ℕ) (f : Family) (number : ℕ) (raw : RawConstructor) (left : ℕ) → Ends IsForeseenEntry (shaped_constructor S n f number raw left)
shaped S n f number raw left =
    next (now (targets number (constructor_targets n f raw.type))) (λ terms rest. leveled S n f number raw.name (domains_of raw.type) terms rest)

constructor : (S : Signature) (n : ℕ) (f : Family) (number : ℕ) (raw : RawConstructor) (left : ℕ) → Ends IsForeseenEntry (declare_constructor S n f number raw left)
constructor S n f number raw left =
    next (is-sort S (OfConstructor number) (context_behind [] f.parameters) raw.type left) (λ sort rest. shaped S n f number raw rest)

constructors : (S : Signature) (n : ℕ) (f : Family) (number : ℕ) (raws : List RawConstructor) (left : ℕ)
    → Ends IsForeseenEntry (declare_constructors S n f number raws left)
constructors S n f number raws left = each {S = Unit {0}} (λ s raw. s) (λ s k raw rest. constructor S n f k raw rest) tt number raws left

family : (S : Signature) (raw : RawFamily) (left : ℕ) → Ends IsForeseenEntry (declare_family S raw left)
family S raw left =
    next (typed S raw left) (λ f rest.
    next (constructors (pushed S (FamilyOf f)) (length S.entries) f 0 raw.constructors rest) (λ constructors end. done))

-- ---- entries

new : {A : Type 0} (test : Bool) {run : ℕ → Outcome A} → ((left : ℕ) → Ends IsForeseenEntry (run left)) → (left : ℕ) → Ends IsForeseenEntry (if_new test run left)
new true h left = h left
new false h left = now (no tt)

pub declare : (S : Signature) (raw : RawFamily) (left : ℕ) → Ends IsForeseenEntry (declare_of S raw left)
declare S raw left = new (are_new S (raw_names raw)) (λ all. next (family S raw all) (λ f end. done)) left

definition : (S : Signature) (name : List ℕ) (type body : Term) (left : ℕ) → Ends IsForeseenEntry (check_definition S name type body left)
definition S name type body left =
    next (is-sort S OfType [] type left) (λ sort rest. next (is-typed S OfBody [] body type rest) (λ found end. done))

pub define : (S : Signature) (name : List ℕ) (type body : Term) (left : ℕ) → Ends IsForeseenEntry (define_of S name type body left)
define S name type body left = new (are_new S (name ∷ [])) (definition S name type body) left

-- ---- instances, which are never refused for their names

sort-found : (r : Result Verdict Stop) → Only IsForeseen r → Only IsForeseenInstance (on_part OfType r)
sort-found (Ok (Yes type)) h = ok
sort-found (Ok (No denial)) h = no tt
sort-found (Err e) h = no h.is

type-sort : (S : Signature) (t : Term) (left : ℕ) → Ends IsForeseenInstance (sort_in S OfType [] t left)
unfolding sort_in
type-sort S t left = now (sort-found _ (infer-sort S nesting [] t left).only)

enter : (S : Signature) (e : Entry) (fits : Bool) (type : Term) (left : ℕ) → Ends IsForeseenInstance (enter_instance S e fits type left)
enter S e true type left = next (type-sort S type left) (λ sort end. done)
enter S e false type left = now (no tt)

there : (S : Signature) (place : Option ℕ) {run : ℕ → Outcome Entered} → ((left : ℕ) → Ends IsForeseenInstance (run left)) → (left : ℕ)
    → Ends IsForeseenInstance (unless_there S place run left)
there S (Some n) h left = done
there S None h left = h left

pub instance : (S : Signature) (n : ℕ) (f : Family) (m left : ℕ) → Ends IsForeseenInstance (instance_of S n f m left)
instance S n f m left =
    there S (position (is_eliminator n m) S.entries) (enter S (EliminatorAt n m) (nat_lt m top) (eliminator_type n f m)) left

pub axiom-k : (S : Signature) (i m left : ℕ) → Ends IsForeseenInstance (axiom_k_of S i m left)
axiom-k S i m left =
    there S (position (is_axiom_k i m) S.entries) (enter S (AxiomKAt i m) (nat_lt i top && nat_lt m top) (axiom_k_type i m)) left

-- an instance is refused as other entries are
pub as-entry : (e : FamilyStop) → IsForeseenInstance e → IsForeseenEntry e
as-entry (Stopped e) h = h
as-entry (Denied site d) h = tt
as-entry (NotPositive n k) h = tt
as-entry (TooLarge n k) h = tt
as-entry BadFamily h = tt
as-entry Duplicate h = absurd h
