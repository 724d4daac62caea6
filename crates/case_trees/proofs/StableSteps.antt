-- Whatever is put for the variables of a term, its head step stays.
use Rattle.std.proofs.Common.{◌≡◌, ℕ, ◌+◌, ◌≤◌, Bool, true, false, ◌==◌, ◌&&◌, cond, Option, Some, None, IfSome, option_and_then, option_map, List, [], ◌∷◌, ◌++◌, length, map, take, drop, slice_get, refl, sym, ap, ap₂, ◌∙◌, subst as transport, arith}
use Rattle.std.proofs.lemmas.Bool.{false≢true}
use Rattle.std.proofs.lemmas.Bool.Decides.{nat_tests}
use Rattle.std.proofs.lemmas.List.{length-map, length-append, map-append, take-map, drop-map}
use Rattle.std.proofs.lemmas.Option.{slice_get-map}
use Rattle.theory.specs.Terms.{Term, Var, Sort, Pi, Lam, App, Let, Const, Fam, Con, Elim, AxiomK, subst}
use Rattle.theory.specs.Substitutions.{inst, ups}
use Rattle.theory.specs.Spines.{head_of, spine_of}
use Rattle.theory.specs.Families.{Family, Constructor}
use Rattle.theory.specs.Eliminators.{iota_right}
use Rattle.theory.specs.Signatures.{Signature, HasClosedBodies, equality}
use Rattle.theory.proofs.Instantiation.{inst-put, inst-closed, inst-iota_right}
use Rattle.theory.proofs.Shifts.{put-is_subst}
use Rattle.kernel_reduce.specs.Entries.{body_at, family_at}
use Rattle.kernel_reduce.specs.Identities.{has_k_at}
use Rattle.kernel_reduce.specs.Steps.{beta_step, fills, awaits_scrutinee, method_applied, iota_at, iota_step, k_step, contraction, scrutinee_step, elimination_step, first_of, application_step, step_of}
use Rattle.kernel_reduce.proofs.StepLaws.{both-true, body-in}
use Rattle.case_trees.proofs.HeadForms.{no-step}

-- a head that instances keep, with its arguments
abbrev IsSymbol : Term → Type 0
IsSymbol (Con n number) = Unit {0}
IsSymbol (Elim n m) = Unit {0}
IsSymbol (AxiomK i m) = Unit {0}
IsSymbol _ = ⊥

symbol-kept : (s : ℕ → Term) (t : Term) → IsSymbol (head_of t) → (head_of (inst s t) ≡ head_of t) × (spine_of (inst s t) ≡ map (inst s) (spine_of t))
symbol-kept s (App f a) is =
    let (head, spine) = symbol-kept s f is in
    (head, ap (λ us. us ++ inst s a ∷ []) spine ∙ sym (map-append (inst s) (spine_of f) (a ∷ [])))
symbol-kept s (Con n number) is = (refl, refl)
symbol-kept s (Elim n m) is = (refl, refl)
symbol-kept s (AxiomK i m) is = (refl, refl)
symbol-kept s (Var x) is = absurd is
symbol-kept s (Sort i) is = absurd is
symbol-kept s (Pi a b) is = absurd is
symbol-kept s (Lam a b) is = absurd is
symbol-kept s (Let a t b) is = absurd is
symbol-kept s (Const n) is = absurd is
symbol-kept s (Fam n) is = absurd is

-- ---- a term that awaits its scrutinee takes no step itself

-- the head takes at least so many arguments before its scrutinee
abbrev pub Takes : Signature → Term → ℕ → Type 0
Takes S (Elim n m) count = (f : Family) × (family_at S n ≡ Some f) × (count ≤ length f.parameters + (1 + (length f.constructors + length f.indices)))
Takes S (AxiomK i m) count = count ≤ 4
Takes S _ count = ⊥

pub awaits-takes : (S : Signature) (h : Term) (args : List Term) → awaits_scrutinee S h args ≡ true → Takes S h (length args)
awaits-takes S (Elim n m) args e = by (family_at S n) refl e
  where
    by : (o : Option Family) → family_at S n ≡ o → fills args o ≡ true
        → (f : Family) × (family_at S n ≡ Some f) × (length args ≤ length f.parameters + (1 + (length f.constructors + length f.indices)))
    by (Some f) there full =
        let exact : length args ≡ length f.parameters + (1 + (length f.constructors + length f.indices)) = grind (arith, nat_tests) in
        (f, there, omega arith)
    by None there full = absurd (false≢true full)
awaits-takes S (AxiomK i m) args e =
    let (on, count) = both-true (has_k_at S i) (length args == 4) e in
    let exact : length args ≡ 4 = grind (arith, nat_tests) in
    omega arith
awaits-takes S (Var x) args e = absurd (false≢true e)
awaits-takes S (Sort i) args e = absurd (false≢true e)
awaits-takes S (Pi a b) args e = absurd (false≢true e)
awaits-takes S (Lam a b) args e = absurd (false≢true e)
awaits-takes S (App f a) args e = absurd (false≢true e)
awaits-takes S (Let a t b) args e = absurd (false≢true e)
awaits-takes S (Const n) args e = absurd (false≢true e)
awaits-takes S (Fam n) args e = absurd (false≢true e)
awaits-takes S (Con n number) args e = absurd (false≢true e)

pub takes-no_beta : (S : Signature) (f u : Term) (count : ℕ) → Takes S (head_of f) count → beta_step f u ≡ None
takes-no_beta S (Lam a b) u count h = absurd h
takes-no_beta S (App f a) u count h = refl
takes-no_beta S (Elim n m) u count h = refl
takes-no_beta S (AxiomK i m) u count h = refl
takes-no_beta S (Var x) u count h = refl
takes-no_beta S (Sort i) u count h = refl
takes-no_beta S (Pi a b) u count h = refl
takes-no_beta S (Let a t b) u count h = refl
takes-no_beta S (Const n) u count h = refl
takes-no_beta S (Fam n) u count h = refl
takes-no_beta S (Con n number) u count h = refl

-- with one argument less than it takes, it does not await its scrutinee yet
takes-more : (S : Signature) (h : Term) (args : List Term) (count : ℕ) → Takes S h count → length args + 1 ≤ count
    → (awaits_scrutinee S h args ≡ false) × Takes S h (length args)
takes-more S (Elim n m) args count (f, there, le) less =
    let few : fills args (Some f) ≡ false = grind (arith, nat_tests) in
    (ap (fills args) there ∙ few, (f, there, omega arith))
takes-more S (AxiomK i m) args count le less =
    let few : (length args == 4) ≡ false = grind (arith, nat_tests) in
    (and-none (has_k_at S i) (length args == 4) few, omega arith)
  where
    and-none : (a b : Bool) → b ≡ false → (a && b) ≡ false
    and-none true b e = e
    and-none false b e = refl
takes-more S (Var x) args count h less = absurd h
takes-more S (Sort i) args count h less = absurd h
takes-more S (Pi a b) args count h less = absurd h
takes-more S (Lam a b) args count h less = absurd h
takes-more S (App f a) args count h less = absurd h
takes-more S (Let a t b) args count h less = absurd h
takes-more S (Const n) args count h less = absurd h
takes-more S (Fam n) args count h less = absurd h
takes-more S (Con n number) args count h less = absurd h

pub takes-rests : (S : Signature) (delta : Bool) (t : Term) → Takes S (head_of t) (length (spine_of t)) → step_of S delta t ≡ None
takes-rests S delta (App f a) h =
    let (early, fewer) = takes-more S (head_of f) (spine_of f) (length (spine_of f ++ a ∷ [])) h (omega (arith, length-append (spine_of f) (a ∷ []))) in
    let none : elimination_step S f a (step_of S delta a) ≡ None =
    ap (λ test. cond test (scrutinee_step f (step_of S delta a) (contraction S (head_of f) (spine_of f) (head_of a) (spine_of a))) None) early in
    ap (λ outer. application_step S f a outer (step_of S delta a)) (takes-rests S delta f fewer)
    ∙ (ap (λ one. first_of one (elimination_step S f a (step_of S delta a))) (takes-no_beta S f a (length (spine_of f)) fewer) ∙ none)
takes-rests S delta (Elim n m) h = refl
takes-rests S delta (AxiomK i m) h = refl
takes-rests S delta (Var x) h = absurd h
takes-rests S delta (Sort i) h = absurd h
takes-rests S delta (Pi a b) h = absurd h
takes-rests S delta (Lam a b) h = absurd h
takes-rests S delta (Let a t b) h = absurd h
takes-rests S delta (Const n) h = absurd h
takes-rests S delta (Fam n) h = absurd h
takes-rests S delta (Con n number) h = absurd h

-- ---- contractions

-- a found term is found in the instance too
abbrev pub Keeps : (ℕ → Term) → Option Term → Option Term → Type 0
Keeps s here there = IfSome here (λ u. there ≡ Some (inst s u))

keeps-cond : (s : ℕ → Term) (test : Bool) (here there : Option Term) → Keeps s here there → Keeps s (cond test here None) (cond test there None)
keeps-cond s true here there h = h
keeps-cond s false here there h = tt

keeps-next : {A : Type 0} (s : ℕ → Term) (o : Option A) (here there : A → Option Term) → ((a : A) → Keeps s (here a) (there a))
    → Keeps s (option_and_then here o) (option_and_then there o)
keeps-next s (Some a) here there h = h a
keeps-next s None here there h = tt

keeps-get : (s : ℕ → Term) (args : List Term) (k : ℕ) → Keeps s (slice_get args k) (slice_get (map (inst s) args) k)
keeps-get s args k = by (slice_get args k) (slice_get-map (inst s) args k)
  where
    by : (o : Option Term) → slice_get (map (inst s) args) k ≡ option_map (inst s) o → Keeps s o (slice_get (map (inst s) args) k)
    by (Some t) e = e
    by None e = tt

keeps-method : (s : ℕ → Term) (n m number : ℕ) (f : Family) (c : Constructor) (us ps rest : List Term)
    → Keeps s (method_applied n m f number c us ps rest) (method_applied n m f number c (map (inst s) us) (map (inst s) ps) (map (inst s) rest))
keeps-method s n m number f c us ps [] = tt
keeps-method s n m number f c us ps (P ∷ rest) =
    by (slice_get (take (length f.constructors) rest) number)
    (ap (λ ms. slice_get ms number) (take-map (inst s) (length f.constructors) rest) ∙ slice_get-map (inst s) (take (length f.constructors) rest) number)
  where
    by : (o : Option Term) → slice_get (take (length f.constructors) (map (inst s) rest)) number ≡ option_map (inst s) o
        → Keeps s (option_map (λ method. iota_right n m ps P (take (length f.constructors) rest) c.arguments method us) o)
        (option_map (λ method. iota_right n m (map (inst s) ps) (inst s P) (take (length f.constructors) (map (inst s) rest)) c.arguments method (map (inst s) us))
        (slice_get (take (length f.constructors) (map (inst s) rest)) number))
    by None e = tt
    by (Some method) e =
        ap (option_map (λ method. iota_right n m (map (inst s) ps) (inst s P) (take (length f.constructors) (map (inst s) rest)) c.arguments method (map (inst s) us))) e
        ∙ ap Some
        (ap (λ ms. iota_right n m (map (inst s) ps) (inst s P) ms c.arguments (inst s method) (map (inst s) us)) (take-map (inst s) (length f.constructors) rest)
        ∙ sym (inst-iota_right s n m ps P (take (length f.constructors) rest) c.arguments method us))

keeps-iota : (s : ℕ → Term) (n m number : ℕ) (f : Family) (args us : List Term) (c : Constructor)
    → Keeps s (iota_at n m f args number us c) (iota_at n m f (map (inst s) args) number (map (inst s) us) c)
keeps-iota s n m number f args us c =
    transport (λ o. Keeps s (iota_at n m f args number us c) o)
    (ap₂ (λ count o. cond (count == length f.parameters + length c.arguments) o None) (sym (length-map us (inst s)))
    (ap₂ (λ vs ps. method_applied n m f number c vs ps (map (inst s) (drop (length f.parameters) args)))
    (sym (drop-map (inst s) (length f.parameters) us)) (sym (take-map (inst s) (length f.parameters) args))
    ∙ ap (method_applied n m f number c (drop (length f.parameters) (map (inst s) us)) (take (length f.parameters) (map (inst s) args)))
    (sym (drop-map (inst s) (length f.parameters) args))))
    (keeps-cond s (length us == length f.parameters + length c.arguments) _ _
    (keeps-method s n m number f c (drop (length f.parameters) us) (take (length f.parameters) args) (drop (length f.parameters) args)))

-- an instance of a constructor takes no step
constructor-rests : (S : Signature) (delta : Bool) (s : ℕ → Term) (a : Term) (n number : ℕ) → head_of a ≡ Con n number → step_of S delta (inst s a) ≡ None
constructor-rests S delta s a n number e =
    let (head, spine) = symbol-kept s a (transport IsSymbol (sym e) tt) in
    no-step S delta (inst s a) n number (head ∙ e)

iota-contracted : (S : Signature) (s : ℕ → Term) (n m : ℕ) (args : List Term) (a : Term) (f : Family) (k : Term) → head_of a ≡ k
    → IfSome (iota_step n m args k (spine_of a) f)
    (λ u. (iota_step n m (map (inst s) args) (head_of (inst s a)) (spine_of (inst s a)) f ≡ Some (inst s u)) × ((delta : Bool) → step_of S delta (inst s a) ≡ None))
iota-contracted S s n m args a f (Con g number) e =
    let (head, spine) = symbol-kept s a (transport IsSymbol (sym e) tt) in
    both (cond (g == n) (option_and_then (iota_at n m f args number (spine_of a)) (slice_get f.constructors number)) None)
    (iota_step n m (map (inst s) args) (head_of (inst s a)) (spine_of (inst s a)) f)
    (transport (λ o. Keeps s (iota_step n m args (Con g number) (spine_of a) f) o)
    (ap₂ (λ h us. iota_step n m (map (inst s) args) h us f) (sym (head ∙ e)) (sym spine))
    (keeps-cond s (g == n) _ _ (keeps-next s (slice_get f.constructors number) _ _ (λ c. keeps-iota s n m number f args (spine_of a) c))))
    (λ delta. constructor-rests S delta s a g number e)
  where
    both : (o there : Option Term) → Keeps s o there → ((delta : Bool) → step_of S delta (inst s a) ≡ None)
        → IfSome o (λ u. (there ≡ Some (inst s u)) × ((delta : Bool) → step_of S delta (inst s a) ≡ None))
    both (Some u) there h k = (h, k)
    both None there h k = tt
iota-contracted S s n m args a f (Var x) e = tt
iota-contracted S s n m args a f (Sort i) e = tt
iota-contracted S s n m args a f (Pi b c) e = tt
iota-contracted S s n m args a f (Lam b c) e = tt
iota-contracted S s n m args a f (App g b) e = tt
iota-contracted S s n m args a f (Let b t c) e = tt
iota-contracted S s n m args a f (Const g) e = tt
iota-contracted S s n m args a f (Fam g) e = tt
iota-contracted S s n m args a f (Elim g k) e = tt
iota-contracted S s n m args a f (AxiomK i k) e = tt

k-contracted : (S : Signature) (s : ℕ → Term) (i : ℕ) (args : List Term) (a k : Term) → head_of a ≡ k
    → IfSome (k_step i args k (spine_of a))
    (λ u. (k_step i (map (inst s) args) (head_of (inst s a)) (spine_of (inst s a)) ≡ Some (inst s u)) × ((delta : Bool) → step_of S delta (inst s a) ≡ None))
k-contracted S s i args a (Con g number) e =
    let (head, spine) = symbol-kept s a (transport IsSymbol (sym e) tt) in
    both (k_step i args (Con g number) (spine_of a))
    (k_step i (map (inst s) args) (head_of (inst s a)) (spine_of (inst s a)))
    (transport (λ o. Keeps s (k_step i args (Con g number) (spine_of a)) o)
    (ap₂ (λ h us. k_step i (map (inst s) args) h us) (sym (head ∙ e)) (sym spine))
    (transport (λ count. Keeps s (k_step i args (Con g number) (spine_of a))
    (cond ((g == equality i) && ((number == 0) && (count == 2))) (slice_get (map (inst s) args) 3) None))
    (sym (length-map (spine_of a) (inst s)))
    (keeps-cond s ((g == equality i) && ((number == 0) && (length (spine_of a) == 2))) _ _ (keeps-get s args 3))))
    (λ delta. constructor-rests S delta s a g number e)
  where
    both : (o there : Option Term) → Keeps s o there → ((delta : Bool) → step_of S delta (inst s a) ≡ None)
        → IfSome o (λ u. (there ≡ Some (inst s u)) × ((delta : Bool) → step_of S delta (inst s a) ≡ None))
    both (Some u) there h k = (h, k)
    both None there h k = tt
k-contracted S s i args a (Var x) e = tt
k-contracted S s i args a (Sort j) e = tt
k-contracted S s i args a (Pi b c) e = tt
k-contracted S s i args a (Lam b c) e = tt
k-contracted S s i args a (App g b) e = tt
k-contracted S s i args a (Let b t c) e = tt
k-contracted S s i args a (Const g) e = tt
k-contracted S s i args a (Fam g) e = tt
k-contracted S s i args a (Elim g k) e = tt
k-contracted S s i args a (AxiomK j k) e = tt

pub contracted : (S : Signature) (s : ℕ → Term) (h : Term) (args : List Term) (a : Term)
    → IfSome (contraction S h args (head_of a) (spine_of a))
    (λ u. (contraction S h (map (inst s) args) (head_of (inst s a)) (spine_of (inst s a)) ≡ Some (inst s u)) × ((delta : Bool) → step_of S delta (inst s a) ≡ None))
contracted S s (Elim n m) args a = by (family_at S n)
  where
    by : (o : Option Family) → IfSome (option_and_then (iota_step n m args (head_of a) (spine_of a)) o)
        (λ u. (option_and_then (iota_step n m (map (inst s) args) (head_of (inst s a)) (spine_of (inst s a))) o ≡ Some (inst s u))
        × ((delta : Bool) → step_of S delta (inst s a) ≡ None))
    by (Some f) = iota-contracted S s n m args a f (head_of a) refl
    by None = tt
contracted S s (AxiomK i m) args a = k-contracted S s i args a (head_of a) refl
contracted S s (Var x) args a = tt
contracted S s (Sort i) args a = tt
contracted S s (Pi b c) args a = tt
contracted S s (Lam b c) args a = tt
contracted S s (App g b) args a = tt
contracted S s (Let b t c) args a = tt
contracted S s (Const n) args a = tt
contracted S s (Fam n) args a = tt
contracted S s (Con n number) args a = tt

-- ---- steps

takes-symbol : (S : Signature) (h : Term) (count : ℕ) → Takes S h count → IsSymbol h
takes-symbol S (Elim n m) count h = tt
takes-symbol S (AxiomK i m) count h = tt
takes-symbol S (Var x) count h = absurd h
takes-symbol S (Sort i) count h = absurd h
takes-symbol S (Pi a b) count h = absurd h
takes-symbol S (Lam a b) count h = absurd h
takes-symbol S (App f a) count h = absurd h
takes-symbol S (Let a t b) count h = absurd h
takes-symbol S (Const n) count h = absurd h
takes-symbol S (Fam n) count h = absurd h
takes-symbol S (Con n number) count h = absurd h

awaits-length : (S : Signature) (h : Term) (args others : List Term) → length args ≡ length others → awaits_scrutinee S h args ≡ awaits_scrutinee S h others
awaits-length S (Elim n m) args others e = by (family_at S n)
  where
    by : (o : Option Family) → fills args o ≡ fills others o
    by (Some f) = ap (λ count. count == length f.parameters + (1 + (length f.constructors + length f.indices))) e
    by None = refl
awaits-length S (AxiomK i m) args others e = ap (λ count. has_k_at S i && (count == 4)) e
awaits-length S (Var x) args others e = refl
awaits-length S (Sort i) args others e = refl
awaits-length S (Pi a b) args others e = refl
awaits-length S (Lam a b) args others e = refl
awaits-length S (App f a) args others e = refl
awaits-length S (Let a t b) args others e = refl
awaits-length S (Const n) args others e = refl
awaits-length S (Fam n) args others e = refl
awaits-length S (Con n number) args others e = refl

-- the step of a term that awaits its scrutinee a, which steps to `inner`
scrutinee-kept : (S : Signature) (delta : Bool) (s : ℕ → Term) (f a : Term) (inner : Option Term) → Keeps s inner (step_of S delta (inst s a))
    → (head_of (inst s f) ≡ head_of f) × (spine_of (inst s f) ≡ map (inst s) (spine_of f))
    → Keeps s (scrutinee_step f inner (contraction S (head_of f) (spine_of f) (head_of a) (spine_of a)))
    (scrutinee_step (inst s f) (step_of S delta (inst s a)) (contraction S (head_of (inst s f)) (spine_of (inst s f)) (head_of (inst s a)) (spine_of (inst s a))))
scrutinee-kept S delta s f a (Some v) h same =
    ap (λ o. scrutinee_step (inst s f) o (contraction S (head_of (inst s f)) (spine_of (inst s f)) (head_of (inst s a)) (spine_of (inst s a)))) h
scrutinee-kept S delta s f a None h (head, spine) =
    by (contraction S (head_of f) (spine_of f) (head_of a) (spine_of a)) (contracted S s (head_of f) (spine_of f) a)
  where
    by : (o : Option Term)
        → IfSome o (λ u. (contraction S (head_of f) (map (inst s) (spine_of f)) (head_of (inst s a)) (spine_of (inst s a)) ≡ Some (inst s u))
        × ((delta : Bool) → step_of S delta (inst s a) ≡ None))
        → Keeps s o
        (scrutinee_step (inst s f) (step_of S delta (inst s a)) (contraction S (head_of (inst s f)) (spine_of (inst s f)) (head_of (inst s a)) (spine_of (inst s a))))
    by None k = tt
    by (Some u) (there, rests) =
        ap (λ o. scrutinee_step (inst s f) o (contraction S (head_of (inst s f)) (spine_of (inst s f)) (head_of (inst s a)) (spine_of (inst s a)))) (rests delta)
        ∙ (ap₂ (λ h us. contraction S h us (head_of (inst s a)) (spine_of (inst s a))) head spine ∙ there)

-- where f awaits its scrutinee, so does its instance, which takes no step
elimination-kept : (S : Signature) (delta : Bool) (s : ℕ → Term) (f a : Term) → Keeps s (step_of S delta a) (step_of S delta (inst s a))
    → Keeps s (elimination_step S f a (step_of S delta a)) (step_of S delta (App (inst s f) (inst s a)))
elimination-kept S delta s f a h = by (awaits_scrutinee S (head_of f) (spine_of f)) refl
  where
    by : (test : Bool) → awaits_scrutinee S (head_of f) (spine_of f) ≡ test
        → Keeps s (cond test (scrutinee_step f (step_of S delta a) (contraction S (head_of f) (spine_of f) (head_of a) (spine_of a))) None)
        (step_of S delta (App (inst s f) (inst s a)))
    by false e = tt
    by true e =
        let takes = awaits-takes S (head_of f) (spine_of f) e in
        let (head, spine) = symbol-kept s f (takes-symbol S (head_of f) (length (spine_of f)) takes) in
        let takes' : Takes S (head_of (inst s f)) (length (spine_of (inst s f))) =
        transport (λ h. Takes S h (length (spine_of (inst s f)))) (sym head)
        (transport (Takes S (head_of f)) (sym (ap length spine ∙ length-map (spine_of f) (inst s))) takes) in
        let awaits : awaits_scrutinee S (head_of (inst s f)) (spine_of (inst s f)) ≡ true =
        ap (λ h. awaits_scrutinee S h (spine_of (inst s f))) head
        ∙ (awaits-length S (head_of f) (spine_of (inst s f)) (spine_of f) (ap length spine ∙ length-map (spine_of f) (inst s)) ∙ e) in
        let whole : step_of S delta (App (inst s f) (inst s a))
        ≡ scrutinee_step (inst s f) (step_of S delta (inst s a)) (contraction S (head_of (inst s f)) (spine_of (inst s f)) (head_of (inst s a)) (spine_of (inst s a))) =
        ap (λ outer. application_step S (inst s f) (inst s a) outer (step_of S delta (inst s a))) (takes-rests S delta (inst s f) takes')
        ∙ (ap (λ one. first_of one (elimination_step S (inst s f) (inst s a) (step_of S delta (inst s a))))
        (takes-no_beta S (inst s f) (inst s a) (length (spine_of (inst s f))) takes')
        ∙ ap (λ test. cond test (scrutinee_step (inst s f) (step_of S delta (inst s a)) (contraction S (head_of (inst s f)) (spine_of (inst s f)) (head_of (inst s a)) (spine_of (inst s a)))) None) awaits) in
        transport (Keeps s (scrutinee_step f (step_of S delta a) (contraction S (head_of f) (spine_of f) (head_of a) (spine_of a)))) (sym whole)
        (scrutinee-kept S delta s f a (step_of S delta a) h (head, spine))

put-kept : (s : ℕ → Term) (b u : Term) → subst (inst (ups s) b) 0 (inst s u) ≡ inst s (subst b 0 u)
put-kept s b u = sym (put-is_subst (inst s u) (inst (ups s) b)) ∙ (sym (inst-put s b u) ∙ ap (inst s) (put-is_subst u b))

-- f steps to `outer`, or else it is a function or awaits its scrutinee
application-kept : (S : Signature) (delta : Bool) (s : ℕ → Term) (f a : Term) (outer : Option Term) → Keeps s outer (step_of S delta (inst s f))
    → Keeps s (step_of S delta a) (step_of S delta (inst s a))
    → Keeps s (application_step S f a outer (step_of S delta a)) (step_of S delta (App (inst s f) (inst s a)))
application-kept S delta s f a (Some g) h k = ap (λ o. application_step S (inst s f) (inst s a) o (step_of S delta (inst s a))) h
application-kept S delta s (Lam b c) a None h k = ap Some (put-kept s c a)
application-kept S delta s (App g c) a None h k = elimination-kept S delta s (App g c) a k
application-kept S delta s (Var x) a None h k = tt
application-kept S delta s (Sort i) a None h k = tt
application-kept S delta s (Pi b c) a None h k = tt
application-kept S delta s (Let b t c) a None h k = tt
application-kept S delta s (Const n) a None h k = tt
application-kept S delta s (Fam n) a None h k = tt
application-kept S delta s (Con n number) a None h k = tt
application-kept S delta s (Elim n m) a None h k = elimination-kept S delta s (Elim n m) a k
application-kept S delta s (AxiomK i m) a None h k = elimination-kept S delta s (AxiomK i m) a k

constant-kept : (S : Signature) (delta : Bool) (s : ℕ → Term) (n : ℕ) → HasClosedBodies S → Keeps s (cond delta (body_at S n) None) (cond delta (body_at S n) None)
constant-kept S false s n closed = tt
constant-kept S true s n closed = by (body_at S n) refl
  where
    by : (o : Option Term) → body_at S n ≡ o → Keeps s o o
    by None e = tt
    by (Some body) e =
        let found = body-in n (slice_get S.entries n) body e in
        ap Some (sym (inst-closed s body (closed n found.0 found.1 body found.2)))

-- the head step of an instance
pub step-stays : (S : Signature) (delta : Bool) (s : ℕ → Term) → HasClosedBodies S → (t : Term) → Keeps s (step_of S delta t) (step_of S delta (inst s t))
step-stays S delta s closed (App f a) =
    application-kept S delta s f a (step_of S delta f) (step-stays S delta s closed f) (step-stays S delta s closed a)
step-stays S delta s closed (Let a t b) = ap Some (put-kept s b t)
step-stays S delta s closed (Const n) = constant-kept S delta s n closed
step-stays S delta s closed (Var x) = tt
step-stays S delta s closed (Sort i) = tt
step-stays S delta s closed (Pi a b) = tt
step-stays S delta s closed (Lam a b) = tt
step-stays S delta s closed (Fam n) = tt
step-stays S delta s closed (Con n number) = tt
step-stays S delta s closed (Elim n m) = tt
step-stays S delta s closed (AxiomK i m) = tt
