-- The constructor that the code holds is that of the family in the signature.
use Rattle.std.proofs.Common.{◌≡◌, ℕ, zero, suc, ◌+◌, ◌<◌, max, List, [], ◌∷◌, map, length, get_or, slice_get, Result, Ok, Some, ap, sym, ◌∙◌, subst, arith}
use Rattle.std.proofs.lemmas.List.{length-map}
use Rattle.theory.specs.Families as pure
use Rattle.theory.specs.Signatures.{Signature, FamilyOf}
use Rattle.theory.specs.SignatureScopes.{IsConstructorNumber}
use Rattle.theory.specs.Terms.{Term, App, top}
use Rattle.core_terms.specs.Answers.{Gives}
use Rattle.core_terms.specs.Meanings.{tree_of}
use Rattle.core_terms.specs.declared.stop.Stop.{Stop}
use Rattle.core_terms.specs.declared.term.Term.{Term as TermOfCode}
use Rattle.case_below_gen.specs.CourseEntries.{applied_to_methods}
use Rattle.core_sig.specs.Drafts.{Draft, draft_of, drafted}
use Rattle.core_sig.specs.FamilyShapes.{family_shape}
use Rattle.core_sig.specs.Kinds.{HasKinds}
use Rattle.core_sig.specs.Meanings.{constructor_of, family_of}
use Rattle.core_sig.specs.Shapes.{ConstructorShape, Shape, constructor_shape, shape_of}
use Rattle.core_sig.specs.declared.entry.Draft.{Draft as DraftOfCode}
use Rattle.core_sig.specs.declared.family.Constructor.{Constructor}
use Rattle.core_sig.specs.declared.family.Family.{Family}
use Rattle.core_sig.proofs.ShapesOfCode.{shape-is}
use Rattle.generators.specs.noconf_gen.Fitting.{HasConfusionLevel}
use Rattle.generators.specs.noconf_gen.NoConfusionTypes.{constructor_at, constructor_name}

there : {A B : Type 0} (f : A → B) (xs : List A) (i : ℕ) (x : A) (d : B) → slice_get xs i ≡ Some x → get_or (map f xs) i d ≡ f x
there f [] i x d at = absurd cc
there f (y ∷ xs) zero x d at = let same : y ≡ x = cc in ap f same
there f (y ∷ xs) (suc i) x d at = there f xs i x d at

named : (p : ℕ) (cons : List Constructor) (i : ℕ) (con : Constructor) → slice_get cons i ≡ Some con → get_or (map (λ (c : pure.Constructor). c.name) (map (constructor_of p) cons)) i [] ≡ con.name
named p [] i con at = absurd cc
named p (c ∷ cons) zero con at = let same : c ≡ con = cc in ap (λ (c : Constructor). c.name) same
named p (c ∷ cons) (suc i) con at = named p cons i con at

pub entry-is : (D : (name constructor : List ℕ) → Shape → ConstructorShape → Result Draft Stop) (result : Result DraftOfCode Stop) (n : ℕ) (f : pure.Family) (code : Family) (number : ℕ) (con : Constructor) → HasKinds n code
    → slice_get code.cons number ≡ Some con → Some (FamilyOf (family_of code)) ≡ Some (FamilyOf f) → Gives draft_of result (D code.name con.name (shape_of code) (constructor_shape con))
    → Gives draft_of result (D f.name (constructor_name f number) (family_shape n f) (constructor_at (family_shape n f).constructors number))
entry-is D result n f code number con kinds at same given =
    let is : family_of code ≡ f = cc in
    subst (λ g. Gives draft_of result (D g.name (constructor_name g number) (family_shape n g) (constructor_at (family_shape n g).constructors number))) is
    (subst (λ s. Gives draft_of result (D code.name (constructor_name (family_of code) number) s (constructor_at s.constructors number))) (sym (shape-is n code kinds))
    (subst (λ name. Gives draft_of result (D code.name name (shape_of code) (constructor_at (shape_of code).constructors number))) (sym (named (length code.params) code.cons number con at))
    (subst (λ d. Gives draft_of result (D code.name con.name (shape_of code) d)) (sym (there constructor_shape code.cons number con _ at)) given)))

-- an entry that is made from the code's own parts is that of the definition
pub confusion-entry : (E : (base : ℕ) (name : List ℕ) (n : ℕ) (f : Shape) (number : ℕ) (constructor : List ℕ) → ConstructorShape → (m : ℕ) → Result Draft Stop) (result : Result DraftOfCode Stop)
    (base' base n' n number' number m : ℕ) (f : pure.Family) (code' code : Family) (con : Constructor) → HasKinds n code → base' ≡ base → n' ≡ n → number' ≡ number → code' ≡ code
    → slice_get code.cons number ≡ Some con → Some (FamilyOf (family_of code)) ≡ Some (FamilyOf f)
    → Gives draft_of result (E base' code'.name n' (shape_of code') number' con.name (constructor_shape con) m)
    → Gives draft_of result (E base f.name n (family_shape n f) number (constructor_name f number) (constructor_at (family_shape n f).constructors number) m)
confusion-entry E result base' base n' n number' number m f code' code con kinds base-is n-is number-is code-is at same given =
    entry-is (λ name constructor shape c. E base name n shape number constructor c m) result n f code number con kinds at same
    (subst (λ g. Gives draft_of result (E base g.name n (shape_of g) number con.name (constructor_shape con) m)) code-is
    (subst (λ b. Gives draft_of result (E b code'.name n (shape_of code') number con.name (constructor_shape con) m)) base-is
    (subst (λ i. Gives draft_of result (E base' code'.name i (shape_of code') number con.name (constructor_shape con) m)) n-is
    (subst (λ i. Gives draft_of result (E base' code'.name n' (shape_of code') i con.name (constructor_shape con) m)) number-is given))))

-- the constructor is there, and the levels fit
pub number-in : (S : Signature) (n number : ℕ) (code : Family) → Some (FamilyOf (family_of code)) ≡ slice_get S.entries n → IsConstructorNumber S n number → number < length code.cons
number-in S n number code found has =
    let f : pure.Family = has.0 in
    let there : slice_get S.entries n ≡ Some (FamilyOf f) = has.1 in
    let low : number < length f.constructors = has.2 in
    let is : family_of code ≡ f = cc in
    let count : length (family_of code).constructors ≡ length f.constructors = ap (λ (g : pure.Family). length g.constructors) is in
    omega (arith, length-map code.cons (constructor_of (length code.params)))

pub level-fits : (S : Signature) (n m : ℕ) (code' code : Family) → Some (FamilyOf (family_of code)) ≡ slice_get S.entries n → code' ≡ code → HasConfusionLevel S n m → max code'.level (m + 1) + 1 < top
level-fits S n m code' code found is levels = subst (λ (g : Family). max g.level (m + 1) + 1 < top) (sym is) (levels (family_of code) (sym found))

-- a spine of methods with its first one
pub next-method : (M : ℕ → ConstructorShape → Term) (r : Result TermOfCode Stop) (at : ℕ) (head more method : Term) (con : Constructor) (rest cons : List Constructor) → more ≡ App head method → method ≡ M at (constructor_shape con)
    → Gives tree_of r (Ok (applied_to_methods M (at + 1) more (map constructor_shape rest))) → cons ≡ con ∷ rest → Gives tree_of r (Ok (applied_to_methods M at head (map constructor_shape cons)))
next-method M r at head more method con rest cons more-is method-is given split =
    subst (λ cs. Gives tree_of r (Ok (applied_to_methods M at head (map constructor_shape cs)))) (sym split)
    (subst (λ h. Gives tree_of r (Ok (applied_to_methods M (at + 1) h (map constructor_shape rest)))) (more-is ∙ ap (App head) method-is) given)

-- the draft from equal parts
pub draft-same : (r : Result DraftOfCode Stop) (name' name : List ℕ) (base : ℕ) (names' names : List (List ℕ)) (type' type term' term : Term) → name' ≡ name → names' ≡ names → type' ≡ type → term' ≡ term
    → Gives draft_of r (drafted name' base names' type' term') → Gives draft_of r (drafted name base names type term)
draft-same r name' name base names' names type' type term' term p q t u given =
    subst (λ x. Gives draft_of r (drafted x base names type term)) p
    (subst (λ x. Gives draft_of r (drafted name' base x type term)) q
    (subst (λ x. Gives draft_of r (drafted name' base names' x term)) t (subst (λ x. Gives draft_of r (drafted name' base names' type' x)) u given)))
