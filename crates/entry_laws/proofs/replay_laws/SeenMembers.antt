-- A family with all its parameters and indices, with terms put for the variables of its context.
use Rattle.std.proofs.Common.{◌≡◌, ℕ, ◌+◌, ◌==◌, true, cond, Some, None, option_and_then, List, [], ◌∷◌, ◌++◌, length, map, take, drop, refl, sym, ap, ap₂, ◌∙◌, subst as transport, arith}
use Rattle.std.proofs.lemmas.Bool.{eqb-true}
use Rattle.std.proofs.lemmas.Bool.Decides.{nat_tests}
use Rattle.std.proofs.lemmas.List.{drop-map, length-drop, length-map, map-append, take-append-drop, take-map}
use Rattle.std.proofs.lemmas.Option.{cond_some, option_and_then_some}
use Rattle.theory.specs.Terms.{Term}
use Rattle.theory.specs.Terms.Term.{App, Fam}
use Rattle.theory.specs.Spines.{head_of, spine_of}
use Rattle.theory.specs.Signatures.{Signature, FamilyOf, IsEntryAt}
use Rattle.theory.specs.Substitutions.{inst}
use Rattle.theory.specs.Telescopes.{applied}
use Rattle.theory.proofs.Spines.{applied-spine}
use Rattle.kernel_reduce.specs.Entries.{family_at}
use Rattle.kernel_reduce.proofs.LookUps.{family-found}
use Rattle.case_trees.specs.Problems.{Member, member_at, member_of, member_with}

-- a head and its arguments are those of a member
pub record IsMemberAt (S : Signature) (h : Term) (us : List Term) (m : Member) : Type 0 where
  pub head : h ≡ Fam m.n
  pub family : family_at S m.n ≡ Some m.family
  pub whole : length us ≡ length m.family.parameters + length m.family.indices
  pub parameters : m.parameters ≡ take (length m.family.parameters) us
  pub indices : m.indices ≡ drop (length m.family.parameters) us

at-found : (S : Signature) (h : Term) (us : List Term) (m : Member) → member_at S h us ≡ Some m → IsMemberAt S h us m
at-found S (Fam n) us m e =
    option_and_then_some (member_with n us) (family_at S n) m e (λ f at placed.
    let tested =
    cond_some (length us == length f.parameters + length f.indices)
    (record { n = n; family = f; parameters = take (length f.parameters) us; indices = drop (length f.parameters) us }) m placed in
    transport (IsMemberAt S (Fam n) us) tested.1
    (record { head = refl; family = at; whole = eqb-true _ _ tested.0; parameters = refl; indices = refl }))
at-found S _ us m e = absurd (grind arith)

-- the facts of a type that is found as a member
pub member-found : (S : Signature) (t : Term) (m : Member) → member_of S t ≡ Some m → IsMemberAt S (head_of t) (spine_of t) m
member-found S t m e = at-found S (head_of t) (spine_of t) m e

found-again : (S : Signature) (h : Term) (us : List Term) (m : Member) → IsMemberAt S h us m → member_at S h us ≡ Some m
found-again S h us m is =
    ap (λ h. member_at S h us) is.head
    ∙ (ap (option_and_then (member_with m.n us)) is.family
    ∙ (ap (λ t. cond t (Some (record m { parameters = take (length m.family.parameters) us; indices = drop (length m.family.parameters) us })) None) counted
    ∙ ap₂ (λ ps is. Some (record m { parameters = ps; indices = is })) (sym is.parameters) (sym is.indices)))
  where
    counted : (length us == length m.family.parameters + length m.family.indices) ≡ true
    counted = grind (arith, nat_tests, is.whole)

-- ---- its parts

pub member-count : (S : Signature) (t : Term) (m : Member) → member_of S t ≡ Some m → length m.indices ≡ length m.family.indices
member-count S t m e =
    let is = member-found S t m e in let rest = length-drop (length m.family.parameters) (spine_of t) in ap length is.indices ∙ omega (arith, rest, is.whole)

pub member-entry : (S : Signature) (t : Term) (m : Member) → member_of S t ≡ Some m → IsEntryAt S m.n (FamilyOf m.family)
member-entry S t m e = family-found S m.n m.family (member-found S t m e).family

-- the type that it is
pub member-type : (S : Signature) (t : Term) (m : Member) → member_of S t ≡ Some m → t ≡ applied (Fam m.n) (m.parameters ++ m.indices)
member-type S t m e =
    let is = member-found S t m e in
    sym (applied-spine t)
    ∙ ap₂ applied is.head
    (sym (take-append-drop (length m.family.parameters) (spine_of t)) ∙ ap₂ ◌++◌ (sym is.parameters) (sym is.indices))

-- ---- instances

abbrev pub member_under : (ℕ → Term) → Member → Member
member_under q m = record m { parameters = map (inst q) m.parameters; indices = map (inst q) m.indices }

head-instance : (q : ℕ → Term) (t : Term) (n : ℕ) → head_of t ≡ Fam n → (head_of (inst q t) ≡ Fam n) × (spine_of (inst q t) ≡ map (inst q) (spine_of t))
head-instance q (App f a) n e =
    let (head, spine) = head-instance q f n e in
    (head, ap (λ us. us ++ inst q a ∷ []) spine ∙ sym (map-append (inst q) (spine_of f) (a ∷ [])))
head-instance q (Fam m) n e = (e, refl)
head-instance q _ n e = absurd (grind arith)

pub member-instance : (S : Signature) (q : ℕ → Term) (t : Term) (m : Member) → member_of S t ≡ Some m → member_of S (inst q t) ≡ Some (member_under q m)
member-instance S q t m e =
    let is = member-found S t m e in
    let (head, spine) = head-instance q t m.n is.head in
    found-again S (head_of (inst q t)) (spine_of (inst q t)) (member_under q m)
    (record {
      head = head;
      family = is.family;
      whole = ap length spine ∙ (length-map (spine_of t) (inst q) ∙ is.whole);
      parameters =
          ap (map (inst q)) is.parameters
          ∙ (sym (take-map (inst q) (length m.family.parameters) (spine_of t)) ∙ ap (take (length m.family.parameters)) (sym spine));
      indices =
          ap (map (inst q)) is.indices
          ∙ (sym (drop-map (inst q) (length m.family.parameters) (spine_of t)) ∙ ap (drop (length m.family.parameters)) (sym spine));
    })
