-- At parameters whose constants are of one kind, the terms of a family, of its members and of its constructors have no others.
use Rattle.std.proofs.Common.{◌≡◌, ℕ, zero, suc, ◌+◌, ◌==◌, Option, Some, None, IfSome, List, [], ◌∷◌, ◌++◌, map, length, slice_get, All, sym, subst}
use Rattle.std.proofs.lemmas.Option.{none-some}
use Rattle.std.proofs.lemmas.List.Elements.{All-head, All-tail}
use Rattle.theory.specs.Terms.{Term, Var, Sort, Pi, Lam, App, Let, Const, Fam, Con, Elim, AxiomK, lift}
use Rattle.theory.specs.Substitutions.{inst, ups, weaken, fill}
use Rattle.theory.specs.Telescopes.{Telescope, applied, variables, weaken_by, inst_telescope}
use Rattle.theory.specs.Spines.{head_of, spine_of}
use Rattle.theory.specs.Eliminators.{no_variable}
use Rattle.theory.specs.Families.{Argument, Plain, Recursive, Constructor, Family, level_of, index_types, recursive_type, argument_type, argument_types}
use Rattle.theory.specs.Signatures.{Signature, FamilyOf, IsEntryAt}
use Rattle.theory.specs.SignatureScopes.{IsConstantNumber, HasEntries, IsScoped, IsScopedTelescope, IsScopedArgument, IsScopedArguments, IsScopedConstructor, IsScopedFamily, IsScopedSignature}
use Rattle.theory.specs.WellFormed.{first_entries}
use Rattle.theory.proofs.Lists.{some_is}
use Rattle.theory.proofs.ScopedTerms.{first-numbers}
use Rattle.core_sig.specs.DraftScopes.{IsDraftNumber, HasDraftEntries, IsDraftTerm}
use Rattle.core_sig.specs.EntryTerms.{EachInTelescope}
use Rattle.kernel_reduce.specs.Entries.{family_at}
use Rattle.kernel_reduce.proofs.LookUps.{family-found}
use Rattle.kernel_reduce.proofs.StepLaws.{some-next, some-cond}
use Rattle.unification.specs.Injecting.{lifted, group_proofs}
use Rattle.unification.specs.Records.{items_at, argument_items, family_items, constructor_terms}
use Rattle.unification.specs.Built.{Built, built_of}
use Rattle.unification.proofs.Constructors.{found, IsFound}
use Rattle.case_trees.specs.Problems.{Member, member_with, member_at, member_of}
use Rattle.entry_laws.proofs.OnlyConstants.{Each, each-append, each-map, each-take, each-drop, HasOnly, PutsOnly, only-ren, only-lift, only-under, only-inst, only-fill, only-filled, only-applied, only-spine, only-variables}
use Rattle.entry_laws.proofs.OnlyEquations.{ItemsOnly, only-congruences}

-- ---- terms that are scoped

pub only-entries : {Q : ℕ → Type 0} (S : Signature) (t : Term) → ((c : ℕ) → IsConstantNumber S c → Q c) → HasEntries S t → HasOnly Q t
only-entries S (Pi a b) each h = HasOnly.of_pi (only-entries S a each h.0) (only-entries S b each h.1)
only-entries S (Lam a b) each h = HasOnly.of_lam (only-entries S a each h.0) (only-entries S b each h.1)
only-entries S (App f a) each h = HasOnly.of_app (only-entries S f each h.0) (only-entries S a each h.1)
only-entries S (Let a t b) each h = HasOnly.of_let (only-entries S a each h.0) (only-entries S t each h.1) (only-entries S b each h.2)
only-entries S (Const c) each h = HasOnly.of_const (each c h)
only-entries S (Var n) each h = HasOnly.of_var
only-entries S (Sort i) each h = HasOnly.of_sort
only-entries S (Fam n) each h = HasOnly.of_fam
only-entries S (Con n c) each h = HasOnly.of_con
only-entries S (Elim n m) each h = HasOnly.of_elim
only-entries S (AxiomK i m) each h = HasOnly.of_axiom

pub only-draft : {Q : ℕ → Type 0} (S : Signature) (base count : ℕ) (t : Term) → ((c : ℕ) → IsDraftNumber S base count c → Q c) → HasDraftEntries S base count t → HasOnly Q t
only-draft S base count (Pi a b) each h = HasOnly.of_pi (only-draft S base count a each h.0) (only-draft S base count b each h.1)
only-draft S base count (Lam a b) each h = HasOnly.of_lam (only-draft S base count a each h.0) (only-draft S base count b each h.1)
only-draft S base count (App f a) each h = HasOnly.of_app (only-draft S base count f each h.0) (only-draft S base count a each h.1)
only-draft S base count (Let a t b) each h =
    HasOnly.of_let (only-draft S base count a each h.0) (only-draft S base count t each h.1) (only-draft S base count b each h.2)
only-draft S base count (Const c) each h = HasOnly.of_const (each c h)
only-draft S base count (Var n) each h = HasOnly.of_var
only-draft S base count (Sort i) each h = HasOnly.of_sort
only-draft S base count (Fam n) each h = HasOnly.of_fam
only-draft S base count (Con n c) each h = HasOnly.of_con
only-draft S base count (Elim n m) each h = HasOnly.of_elim
only-draft S base count (AxiomK i m) each h = HasOnly.of_axiom

-- the constants of a signature
abbrev pub CoversConstants : (ℕ → Type 0) → Signature → Type 0
CoversConstants Q S = (c : ℕ) → IsConstantNumber S c → Q c

pub only-scoped : {Q : ℕ → Type 0} (S : Signature) (n : ℕ) (t : Term) → CoversConstants Q S → IsScoped S n t → HasOnly Q t
only-scoped S n t covers h = only-entries S t covers h.entries

pub only-all_scoped : {Q : ℕ → Type 0} (S : Signature) (n : ℕ) (ts : List Term) → CoversConstants Q S → All (IsScoped S n) ts → Each (HasOnly Q) ts
only-all_scoped S n [] covers h = Each.none
only-all_scoped S n (t ∷ ts) covers h =
    Each.more (only-scoped S n t covers (All-head (IsScoped S n) t ts h)) (only-all_scoped S n ts covers (All-tail (IsScoped S n) t ts h))

pub only-telescope : {Q : ℕ → Type 0} (S : Signature) (n : ℕ) (tele : Telescope) → CoversConstants Q S → IsScopedTelescope S n tele → Each (HasOnly Q) tele
only-telescope S n [] covers h = Each.none
only-telescope S n (a ∷ tele) covers h = Each.more (only-scoped S n a covers h.0) (only-telescope S (n + 1) tele covers h.1)

pub only-draft_telescope : {Q : ℕ → Type 0} (S : Signature) (base count n : ℕ) (tele : Telescope) → ((c : ℕ) → IsDraftNumber S base count c → Q c)
    → EachInTelescope (IsDraftTerm S base count) n tele → Each (HasOnly Q) tele
only-draft_telescope S base count n [] each h = Each.none
only-draft_telescope S base count n (a ∷ tele) each h =
    Each.more (only-draft S base count a each h.0.entries) (only-draft_telescope S base count (n + 1) tele each h.1)

-- ---- families

pub data ArgumentOnly (Q : ℕ → Type 0) : Argument → Type 0 where
  of_plain : {type : Term} {level : ℕ} → HasOnly Q type → ArgumentOnly Q (Plain type level)
  of_recursive : {inner : Telescope} {targets : List Term} {level : ℕ} → Each (HasOnly Q) inner → Each (HasOnly Q) targets → ArgumentOnly Q (Recursive inner targets level)

pub record ConstructorOnly (Q : ℕ → Type 0) (c : Constructor) : Type 0 where
  pub arguments : Each (ArgumentOnly Q) c.arguments
  pub targets : Each (HasOnly Q) c.targets

pub record FamilyOnly (Q : ℕ → Type 0) (f : Family) : Type 0 where
  pub parameters : Each (HasOnly Q) f.parameters
  pub indices : Each (HasOnly Q) (index_types f)
  pub constructors : Each (ConstructorOnly Q) f.constructors

only-argument : {Q : ℕ → Type 0} (S : Signature) (n : ℕ) (a : Argument) → CoversConstants Q S → IsScopedArgument S n a → ArgumentOnly Q a
only-argument S n (Plain type level) covers h = ArgumentOnly.of_plain (only-scoped S n type covers h.0)
only-argument S n (Recursive inner targets level) covers h =
    ArgumentOnly.of_recursive (only-telescope S n inner covers h.0) (only-all_scoped S (n + length inner) targets covers h.1)

only-arguments : {Q : ℕ → Type 0} (S : Signature) (n : ℕ) (arguments : List Argument) → CoversConstants Q S → IsScopedArguments S n arguments → Each (ArgumentOnly Q) arguments
only-arguments S n [] covers h = Each.none
only-arguments S n (a ∷ arguments) covers h = Each.more (only-argument S n a covers h.0) (only-arguments S (n + 1) arguments covers h.1)

only-constructors : {Q : ℕ → Type 0} (S : Signature) (n count : ℕ) (constructors : List Constructor) → CoversConstants Q S → All (IsScopedConstructor S n count) constructors
    → Each (ConstructorOnly Q) constructors
only-constructors S n count [] covers h = Each.none
only-constructors S n count (c ∷ constructors) covers h =
    let one = All-head (IsScopedConstructor S n count) c constructors h in
    Each.more
    (record { arguments = only-arguments S n c.arguments covers one.arguments; targets = only-all_scoped S (n + length c.arguments) c.targets covers one.targets })
    (only-constructors S n count constructors covers (All-tail (IsScopedConstructor S n count) c constructors h))

first-covers : {Q : ℕ → Type 0} (S : Signature) (count : ℕ) → CoversConstants Q S → CoversConstants Q (first_entries S count)
first-covers S count covers c is = covers c ((first-numbers S count).constants c is)

-- the families of a signature
abbrev pub FamiliesOnly : (ℕ → Type 0) → Signature → Type 0
FamiliesOnly Q S = (n : ℕ) (f : Family) → IsEntryAt S n (FamilyOf f) → FamilyOnly Q f

scoped-family : {Q : ℕ → Type 0} (S : Signature) (n : ℕ) (f : Family) → CoversConstants Q S → IsScopedFamily S n f → FamilyOnly Q f
scoped-family S n f covers h = record {
  parameters = only-telescope (first_entries S n) 0 f.parameters (first-covers S n covers) h.parameters;
  indices = only-telescope (first_entries S n) (length f.parameters) (index_types f) (first-covers S n covers) h.indices;
  constructors =
      only-constructors (first_entries S (n + 1)) (length f.parameters) (length f.indices) f.constructors (first-covers S (n + 1) covers) h.constructors;
}

pub only-families : {Q : ℕ → Type 0} (S : Signature) → IsScopedSignature S → CoversConstants Q S → FamiliesOnly Q S
only-families S scoped covers n f at = scoped-family S n f covers (scoped n (FamilyOf f) at)

pub only-constructor : {Q : ℕ → Type 0} (constructors : List Constructor) (number : ℕ) (c : Constructor) → slice_get constructors number ≡ Some c
    → Each (ConstructorOnly Q) constructors → ConstructorOnly Q c
only-constructor [] number c at Each.none = absurd (none-some c at)
only-constructor {Q} (d ∷ constructors) zero c at (Each.more h all) = subst (ConstructorOnly Q) (some_is at) h
only-constructor (d ∷ constructors) (suc number) c at (Each.more h all) = only-constructor constructors number c at all

-- ---- their items

pub only-items_at : {Q : ℕ → Type 0} (tele : Telescope) (levels : List ℕ) → Each (HasOnly Q) tele → ItemsOnly Q (items_at tele levels)
only-items_at [] levels Each.none = Each.none
only-items_at (a ∷ tele) [] h = Each.none
only-items_at (a ∷ tele) (i ∷ levels) (Each.more h all) = Each.more h (only-items_at tele levels all)

pub only-instances : {Q : ℕ → Type 0} (s : ℕ → Term) (ts : List Term) → PutsOnly Q s → Each (HasOnly Q) ts → Each (HasOnly Q) (map (inst s) ts)
only-instances s ts each all = each-map (inst s) ts (λ t h. only-inst s t each h) all

pub only-recursive_type : {Q : ℕ → Type 0} (s : ℕ → Term) (head : Term) (inner : Telescope) (targets : List Term) → PutsOnly Q s → HasOnly Q head
    → Each (HasOnly Q) inner → Each (HasOnly Q) targets → HasOnly Q (recursive_type s head inner targets)
only-recursive_type s head [] targets each h Each.none ts = only-applied head (map (inst s) targets) h (only-instances s targets each ts)
only-recursive_type s head (a ∷ inner) targets each h (Each.more k all) ts =
    HasOnly.of_pi (only-inst s a each k) (only-recursive_type (ups s) (weaken head) inner targets (only-under s each) (only-ren suc head h) all ts)

pub only-argument_type : {Q : ℕ → Type 0} (s : ℕ → Term) (head : Term) (a : Argument) → PutsOnly Q s → HasOnly Q head → ArgumentOnly Q a → HasOnly Q (argument_type s head a)
only-argument_type s head (Plain type level) each h (ArgumentOnly.of_plain k) = only-inst s type each k
only-argument_type s head (Recursive inner targets level) each h (ArgumentOnly.of_recursive k l) = only-recursive_type s head inner targets each h k l

pub only-argument_types : {Q : ℕ → Type 0} (s : ℕ → Term) (head : Term) (arguments : List Argument) → PutsOnly Q s → HasOnly Q head → Each (ArgumentOnly Q) arguments
    → Each (HasOnly Q) (argument_types s head arguments)
only-argument_types s head [] each h Each.none = Each.none
only-argument_types s head (a ∷ arguments) each h (Each.more k all) =
    Each.more (only-argument_type s head a each h k) (only-argument_types (ups s) (weaken head) arguments (only-under s each) (only-ren suc head h) all)

pub only-inst_telescope : {Q : ℕ → Type 0} (s : ℕ → Term) (tele : Telescope) → PutsOnly Q s → Each (HasOnly Q) tele → Each (HasOnly Q) (inst_telescope s tele)
only-inst_telescope s [] each Each.none = Each.none
only-inst_telescope s (a ∷ tele) each (Each.more h all) = Each.more (only-inst s a each h) (only-inst_telescope (ups s) tele (only-under s each) all)

pub only-weaken_by : {Q : ℕ → Type 0} (k : ℕ) (t : Term) → HasOnly Q t → HasOnly Q (weaken_by k t)
only-weaken_by k t h = only-ren (λ n. n + k) t h

pub only-lifted : {Q : ℕ → Type 0} (by : ℕ) (ts : List Term) → Each (HasOnly Q) ts → Each (HasOnly Q) (lifted by ts)
only-lifted by ts all = each-map (λ t. lift t by 0) ts (λ t h. only-lift t by 0 h) all

pub only-argument_items : {Q : ℕ → Type 0} (n : ℕ) (ps : List Term) (c : Constructor) → Each (HasOnly Q) ps → ConstructorOnly Q c → ItemsOnly Q (argument_items n ps c)
only-argument_items n ps c hps hc =
    only-items_at (argument_types (fill no_variable ps) (applied (Fam n) ps) c.arguments) (map level_of c.arguments)
    (only-argument_types (fill no_variable ps) (applied (Fam n) ps) c.arguments (only-filled ps hps) (only-applied (Fam n) ps HasOnly.of_fam hps) hc.arguments)

pub only-family_items : {Q : ℕ → Type 0} (n : ℕ) (f : Family) (ps : List Term) → FamilyOnly Q f → Each (HasOnly Q) ps → ItemsOnly Q (family_items n f ps)
only-family_items n f ps hf hps =
    let count = length f.indices in
    only-items_at _ (map (λ i. i.1) f.indices ++ f.level ∷ [])
    (each-append (inst_telescope (fill no_variable ps) (index_types f)) _
    (only-inst_telescope (fill no_variable ps) (index_types f) (only-filled ps hps) hf.indices)
    (Each.more
    (only-applied (weaken_by count (applied (Fam n) ps)) (variables count) (only-weaken_by count (applied (Fam n) ps) (only-applied (Fam n) ps HasOnly.of_fam hps)) (only-variables count))
    Each.none))

pub only-constructor_terms : {Q : ℕ → Type 0} (n number : ℕ) (ps : List Term) (c : Constructor) → Each (HasOnly Q) ps → ConstructorOnly Q c
    → Each (HasOnly Q) (constructor_terms n number ps c)
only-constructor_terms n number ps c hps hc =
    let count = length c.arguments in
    each-append (map (inst (fill (λ v. weaken_by count (fill no_variable ps v)) (variables count))) c.targets) _
    (only-instances (fill (λ v. weaken_by count (fill no_variable ps v)) (variables count)) c.targets
    (only-fill (λ v. weaken_by count (fill no_variable ps v)) (variables count) (λ v. only-weaken_by count (fill no_variable ps v) (only-filled ps hps v)) (only-variables count))
    hc.targets)
    (Each.more
    (only-applied (weaken_by count (applied (Con n number) ps)) (variables count) (only-weaken_by count (applied (Con n number) ps) (only-applied (Con n number) ps HasOnly.of_con hps)) (only-variables count))
    Each.none)

pub only-group_proofs : {Q : ℕ → Type 0} (n number : ℕ) (f : Family) (c : Constructor) (ps us vs : List Term) → FamilyOnly Q f → ConstructorOnly Q c → Each (HasOnly Q) ps
    → Each (HasOnly Q) us → Each (HasOnly Q) vs → Each (HasOnly Q) (group_proofs n number f c ps us vs)
only-group_proofs n number f c ps us vs hf hc hps hu hv =
    let count = length c.arguments in
    let hps' = only-lifted count ps hps in
    only-congruences (argument_items n (lifted count ps) c) (family_items n f (lifted count ps)) (constructor_terms n number (lifted count ps) c)
    (lifted count us) (lifted count vs) (variables count)
    (only-argument_items n (lifted count ps) c hps' hc) (only-family_items n f (lifted count ps) hf hps') (only-constructor_terms n number (lifted count ps) c hps' hc)
    (only-lifted count us hu) (only-lifted count vs hv) (only-variables count)

-- ---- members and constructors

pub record MemberOnly (Q : ℕ → Type 0) (m : Member) : Type 0 where
  pub family : FamilyOnly Q m.family
  pub parameters : Each (HasOnly Q) m.parameters
  pub indices : Each (HasOnly Q) m.indices

only-member_at : {Q : ℕ → Type 0} (S : Signature) (h : Term) (spine : List Term) → FamiliesOnly Q S → Each (HasOnly Q) spine → IfSome (member_at S h spine) (MemberOnly Q)
only-member_at {Q} S (Fam n) spine families all =
    some-next (MemberOnly Q) (member_with n spine) (family_at S n) (λ f at.
    some-cond (MemberOnly Q) (length spine == length f.parameters + length f.indices) _ (λ test.
    record {
      family = families n f (family-found S n f at);
      parameters = each-take (length f.parameters) spine all;
      indices = each-drop (length f.parameters) spine all;
    }))
only-member_at S (Var x) spine families all = tt
only-member_at S _ spine families all = tt

-- a property of an optional value holds of the value that is there
pub if-there : {X : Type 0} (P : X → Type 0) (o : Option X) (x : X) → IfSome o P → o ≡ Some x → P x
if-there P (Some y) x h e = subst P (some_is e) h
if-there P None x h e = absurd (none-some x e)

pub only-member : {Q : ℕ → Type 0} (S : Signature) (t : Term) → FamiliesOnly Q S → HasOnly Q t → IfSome (member_of S t) (MemberOnly Q)
only-member S t families h = only-member_at S (head_of t) (spine_of t) families (only-spine t h)

pub record BuiltOnly (Q : ℕ → Type 0) (b : Built) : Type 0 where
  pub family : FamilyOnly Q b.family
  pub constructor : ConstructorOnly Q b.constructor
  pub parameters : Each (HasOnly Q) b.parameters
  pub arguments : Each (HasOnly Q) b.arguments

only-found : {Q : ℕ → Type 0} (S : Signature) (h : Term) (us : List Term) (b : Built) → FamiliesOnly Q S → IsFound S h us b → Each (HasOnly Q) us → BuiltOnly Q b
only-found {Q} S h us b families is all =
    let family = families b.n b.family (family-found S b.n b.family is.family) in
    record {
      family = family;
      constructor = only-constructor b.family.constructors b.number b.constructor is.constructor family.constructors;
      parameters = subst (Each (HasOnly Q)) (sym is.parameters) (each-take (length b.family.parameters) us all);
      arguments = subst (Each (HasOnly Q)) (sym is.arguments) (each-drop (length b.family.parameters) us all);
    }

pub only-built : {Q : ℕ → Type 0} (S : Signature) (t : Term) (b : Built) → FamiliesOnly Q S → built_of S t ≡ Some b → HasOnly Q t → BuiltOnly Q b
only-built S t b families e h = only-found S (head_of t) (spine_of t) b families (found S t b e) (only-spine t h)
