-- Constructors with all their arguments: a term that is found to be one, and its instances.
use Rattle.std.proofs.Common.{◌≡◌, ℕ, ◌+◌, ◌≤◌, ◌==◌, true, cond, Option, Some, None, IfSome, option_and_then, List, [], ◌∷◌, ◌++◌, length, map, take, drop, slice_get, refl, ap, ap₂, sym, subst, ◌∙◌, arith}
use Rattle.std.proofs.lemmas.Bool.{eqb-true}
use Rattle.std.proofs.lemmas.Bool.Decides.{nat_tests}
use Rattle.std.proofs.lemmas.List.{length-map, length-take, length-drop, take-append-drop, map-append, take-map, drop-map, nil_from_length}
use Rattle.std.proofs.lemmas.Option.{option_and_then_some, cond_some}
use Rattle.theory.specs.Substitutions.{inst}
use Rattle.theory.specs.Telescopes.{applied}
use Rattle.theory.specs.Spines.{head_of, spine_of}
use Rattle.theory.specs.Families.{Family, Constructor}
use Rattle.theory.specs.Signatures.{Signature, FamilyOf, IsEntryAt}
use Rattle.theory.specs.Terms.{Term, App, Con}
use Rattle.theory.proofs.Lists.{some_is}
use Rattle.theory.proofs.Spines.{applied-spine}
use Rattle.theory.proofs.Instantiation.{inst-applied}
use Rattle.kernel_reduce.specs.Entries.{family_in, family_at, constructor_at}
use Rattle.kernel_reduce.proofs.LookUps.{family-found}
use Rattle.unification.specs.Built.{Built, term_of, with_all, with_spine, built_of, greatest_level, is_fitting, has_no_indices}
use Rattle.unification.specs.Paths.{IsBuilt}

-- the arguments `us` of a head h are those of a constructor with its record
pub record IsFound (S : Signature) (h : Term) (us : List Term) (b : Built) : Type 0 where
  pub head : h ≡ Con b.n b.number
  pub family : family_at S b.n ≡ Some b.family
  pub constructor : slice_get b.family.constructors b.number ≡ Some b.constructor
  pub whole : length us ≡ length b.family.parameters + length b.constructor.arguments
  pub parameters : b.parameters ≡ take (length b.family.parameters) us
  pub arguments : b.arguments ≡ drop (length b.family.parameters) us

made : (n number : ℕ) → Family → List Term → Constructor → Built
made n number f us c = record { n = n; number = number; family = f; constructor = c; parameters = take (length f.parameters) us; arguments = drop (length f.parameters) us }

found-family : (S : Signature) (n number : ℕ) (us : List Term) (b : Built) → with_spine S (Con n number) us ≡ Some b → IsFound S (Con n number) us b
unfolding made
found-family S n number us b e =
    option_and_then_some _ (family_at S n) b e (λ f at found.
    option_and_then_some (with_all n number f us) (slice_get f.constructors number) b found (λ c there whole.
    let tested = cond_some (length us == length f.parameters + length c.arguments) (made n number f us c) b whole in
    subst (IsFound S (Con n number) us) tested.1
    (record {
      head = refl;
      family = at;
      constructor = there;
      whole = eqb-true _ _ tested.0;
      parameters = refl;
      arguments = refl;
    })))

found-spine : (S : Signature) (h : Term) (us : List Term) (b : Built) → with_spine S h us ≡ Some b → IsFound S h us b
found-spine S (Con n number) us b e = found-family S n number us b e
found-spine S _ us b e = absurd (grind arith)

-- a term that is found as a constructor has it at its head, with all its arguments
pub found : (S : Signature) (t : Term) (b : Built) → built_of S t ≡ Some b → IsFound S (head_of t) (spine_of t) b
found S t b e = found-spine S (head_of t) (spine_of t) b e

-- its constructor is in the signature, and all arguments are there
pub found-constructor : (S : Signature) (t : Term) (b : Built) → built_of S t ≡ Some b
    → (constructor_at S b.n b.number ≡ Some b.constructor) × (length b.arguments ≡ length b.constructor.arguments)
found-constructor S t b e =
    let is = found S t b e in
    let shorter = length-drop (length b.family.parameters) (spine_of t) in (
      ap (option_and_then (λ f. slice_get f.constructors b.number)) is.family ∙ is.constructor,
      ap length is.arguments ∙ omega (arith, shorter, is.whole),
    )

-- a property of each constructor that may be found is one of the constructor that is found
pub each-found : (S : Signature) (t : Term) (P : Built → Type 0) → ((b : Built) → built_of S t ≡ Some b → P b) → IfSome (built_of S t) P
each-found S t P h = go (built_of S t) refl
  where
    go : (o : Option Built) → built_of S t ≡ o → IfSome o P
    go (Some b) e = h b e
    go None e = tt

-- t is b, a constructor with all its arguments
pub record IsBuiltTerm (S : Signature) (t : Term) (b : Built) : Type 0 where
  pub built : IsBuilt S b
  pub term : t ≡ term_of b

-- a term that is found as a constructor is one
pub built-is : (S : Signature) (t : Term) (b : Built) → built_of S t ≡ Some b → IsBuiltTerm S t b
built-is S t b e =
    let is = found S t b e in
    let count = length b.family.parameters in
    let shorter = length-take count (spine_of t) in
    record {
      built = record {
        family = family-found S b.n b.family is.family;
        constructor = is.constructor;
        parameters = ap length is.parameters ∙ omega (arith, shorter, is.whole);
        arguments = (found-constructor S t b e).1;
      };
      term =
          sym (applied-spine t)
          ∙ ap₂ applied is.head (sym (take-append-drop count (spine_of t)) ∙ ap₂ ◌++◌ (sym is.parameters) (sym is.arguments));
    }

-- one number has one family
pub one-family : (S : Signature) (n m : ℕ) (f g : Family) → IsEntryAt S n (FamilyOf f) → IsEntryAt S m (FamilyOf g) → n ≡ m → f ≡ g
one-family S n m f g hf hg e =
    let there : Some (FamilyOf f) ≡ Some (FamilyOf g) = sym hf ∙ (ap (λ i. slice_get S.entries i) e ∙ hg) in
    some_is (ap family_in (some_is there))

-- one constructor of one family is one record
pub same-constructor : (S : Signature) (b d : Built) → IsBuilt S b → IsBuilt S d → b.n ≡ d.n → b.number ≡ d.number
    → b.constructor ≡ d.constructor
same-constructor S b d hb hd e number =
    some_is
    (sym hb.constructor
    ∙ (ap₂ (λ (f : Family) (k : ℕ). slice_get f.constructors k) (one-family S b.n d.n b.family d.family hb.family hd.family e) number ∙ hd.constructor))

-- a family that no confusion and acyclicity are made of
pub fitting-level : (f : Family) → is_fitting f ≡ true → f.level ≤ greatest_level
fitting-level f e = grind (arith, nat_tests)

-- and a family without indices
pub no-indices : (f : Family) → has_no_indices f ≡ true → f.indices ≡ []
no-indices f e = nil_from_length f.indices (eqb-true (length f.indices) 0 e)

-- arguments that satisfy this are found as the constructor
found-again : (S : Signature) (h : Term) (us : List Term) (b : Built) → IsFound S h us b → with_spine S h us ≡ Some b
unfolding made
found-again S h us b is =
    ap (λ h. with_spine S h us) is.head
    ∙ (ap (option_and_then (λ f. option_and_then (with_all b.n b.number f us) (slice_get f.constructors b.number))) is.family
    ∙ (ap (option_and_then (with_all b.n b.number b.family us)) is.constructor
    ∙ all-again))
  where
    all-again : with_all b.n b.number b.family us b.constructor ≡ Some b
    all-again =
        let counted : (length us == length b.family.parameters + length b.constructor.arguments) ≡ true = grind (arith, nat_tests, is.whole) in
        ap (λ t. cond t (Some (made b.n b.number b.family us b.constructor)) None) counted
        ∙ ap₂ (λ ps us. Some (record b { parameters = ps; arguments = us })) (sym is.parameters) (sym is.arguments)

-- ---- instances

-- the constructor at instances of its parameters and arguments
abbrev pub instance_of : (ℕ → Term) → Built → Built
instance_of s b = record b { parameters = map (inst s) b.parameters; arguments = map (inst s) b.arguments }

-- its term
pub term-instance : (s : ℕ → Term) (b : Built) → inst s (term_of b) ≡ term_of (instance_of s b)
term-instance s b =
    inst-applied s (Con b.n b.number) (b.parameters ++ b.arguments) ∙ ap (applied (Con b.n b.number)) (map-append (inst s) b.parameters b.arguments)

-- a term that begins with a constructor keeps it, and its arguments are instances
pub head-instance : (s : ℕ → Term) (t : Term) (n number : ℕ) → head_of t ≡ Con n number
    → (head_of (inst s t) ≡ Con n number) × (spine_of (inst s t) ≡ map (inst s) (spine_of t))
head-instance s (App f a) n number e =
    let (head, spine) = head-instance s f n number e in
    (head, ap (λ us. us ++ inst s a ∷ []) spine ∙ sym (map-append (inst s) (spine_of f) (a ∷ [])))
head-instance s (Con m k) n number e = (e, refl)
head-instance s _ n number e = absurd (grind arith)

-- an instance of a constructor with all its arguments is one
pub built-instance : (S : Signature) (s : ℕ → Term) (t : Term) (b : Built) → built_of S t ≡ Some b → built_of S (inst s t) ≡ Some (instance_of s b)
built-instance S s t b e =
    let is = found S t b e in
    let (head, spine) = head-instance s t b.n b.number is.head in
    let count = length b.family.parameters in
    found-again S (head_of (inst s t)) (spine_of (inst s t)) (instance_of s b)
    (record {
      head = head;
      family = is.family;
      constructor = is.constructor;
      whole = ap length spine ∙ (length-map (spine_of t) (inst s) ∙ is.whole);
      parameters = ap (map (inst s)) is.parameters ∙ (sym (take-map (inst s) count (spine_of t)) ∙ ap (take count) (sym spine));
      arguments = ap (map (inst s)) is.arguments ∙ (sym (drop-map (inst s) count (spine_of t)) ∙ ap (drop count) (sym spine));
    })
