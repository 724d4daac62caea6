-- Entries that enter a settled signature are scoped, and so are denials.
use Rattle.std.proofs.Common.{◌≡◌, ℕ, suc, ◌+◌, ◌<◌, ◌≤◌, Bool, true, false, cond, nat_le, Some, None, Result, Ok, Err, IfOk, List, [], ◌∷◌, length, zip, All, refl, sym, ap, subst as transport, arith}
use Rattle.std.proofs.lemmas.Bool.Decides.{nat_tests}
use Rattle.std.proofs.lemmas.List.Elements.{All-nil, All-cons, All-head, All-tail}
use Rattle.theory.specs.Terms.{Term, top}
use Rattle.theory.specs.Terms.Term.{Sort, Const}
use Rattle.theory.specs.Telescopes.{Context, Telescope, context_behind}
use Rattle.theory.specs.Families.{Family, index_types}
use Rattle.theory.specs.Signatures.{FamilyOf, Signature}
use Rattle.theory.specs.WellFormed.{pushed, first_entries}
use Rattle.theory.specs.SignatureScopes.{IsScoped, IsScopedTelescope, IsScopedContext, IsScopedFamily, IsScopedSignature}
use Rattle.theory.proofs.ScopedTerms.{context-scoped}
use Rattle.core_terms.specs.Answers.{Spent}
use Rattle.core_terms.specs.Verdicts.{Denial, Verdict}
use Rattle.core_terms.specs.Verdicts.Verdict.{Yes, No}
use Rattle.core_terms.specs.declared.stop.Stop.{Stop}
use Rattle.core_sig.specs.Raw.{RawFamily}
use Rattle.kernel_reduce.specs.Reduction.{nesting}
use Rattle.kernel_check.specs.Checking.{infer_sort_of}
use Rattle.kernel_check.specs.Laws.{IfYes, IsScopedDenial, IsScopedVerdict}
use Rattle.kernel_check.proofs.Scoped.{infer_sort-scoped}
use Rattle.family_check.specs.Outcomes.{Site, OfType, FamilyStop, TooLarge, ended, on_part, granted}
use Rattle.family_check.specs.Asking.{sort_in}
use Rattle.core_terms.specs.Telescopes.{domains_of, end_of}
use Rattle.family_check.specs.Families.{Role, site_of, fitting, sort_level, level_in, levels_of, family_level, family_without, declare_type}
use Rattle.family_check.specs.Families.Role.{Parameter, Index, ArgumentOf}
use Rattle.family_check.specs.Scopes.{IsSettled, IsScopedRaw, site_signature, IsScopedStop}
use Rattle.family_check.proofs.EndLevels.{EndsBelow, sort-ends}
use Rattle.core_terms.proofs.Answers.{Splits, and_next-splits}
use Rattle.family_check.proofs.ScopedShapes.{domains-scoped}
use Rattle.family_check.proofs.Settling.{first-all}
use Rattle.family_check.proofs.Zips.{zip-firsts}

-- A granted part has P, and the denial is scoped: over T, and also over the signature U that the refusal is read over.
pub granted-splits : (P : Term → Type 0) (over : Site → Signature) (T : Signature) (site : Site) (n : ℕ) (asked : Spent Verdict)
    → ((denial : Denial) → IsScopedDenial T denial → IsScopedDenial (over site) denial) → IfOk asked.0 (IsScopedVerdict T n)
    → IfOk asked.0 (λ verdict. IfYes verdict P) → Splits P (IsScopedStop over) (granted site asked).0
granted-splits P over T site n asked move scoped h = by_case asked.0 scoped h
  where
    by_case : (r : Result Verdict Stop) → IfOk r (IsScopedVerdict T n) → IfOk r (λ verdict. IfYes verdict P) → Splits P (IsScopedStop over) (on_part site r)
    by_case (Ok (Yes type)) s k = k
    by_case (Ok (No denial)) s k = move denial s
    by_case (Err e) s k = tt

abbrev pub Any : {A : Type 0} → A → Type 0
Any a = Unit {0}

pub any-type : (r : Result Verdict Stop) → IfOk r (λ verdict. IfYes verdict Any)
any-type (Ok (Yes type)) = tt
any-type (Ok (No denial)) = tt
any-type (Err e) = tt

-- a level is within the limit of its role
abbrev pub IsWithin : Role → ℕ → Type 0
IsWithin Parameter level = Unit {0}
IsWithin (Index limit) level = level ≤ limit
IsWithin (ArgumentOf number limit) level = level ≤ limit

limited : (over : Site → Signature) (limit level : ℕ) (e : FamilyStop) → IsScopedStop over e
    → Splits (λ i. i ≤ limit) (IsScopedStop over) (cond (nat_le level limit) (Ok level) (Err e))
limited over limit level e h = by_case (nat_le level limit) refl
  where
    by_case : (b : Bool) → nat_le level limit ≡ b → Splits (λ i. i ≤ limit) (IsScopedStop over) (cond b (Ok level) (Err e))
    by_case true test = grind (arith, nat_tests)
    by_case false test = h

fitting-within : (over : Site → Signature) (role : Role) (k level : ℕ) → Splits (IsWithin role) (IsScopedStop over) (fitting role k level)
fitting-within over Parameter k level = tt
fitting-within over (Index limit) k level = limited over limit level (TooLarge None k) tt
fitting-within over (ArgumentOf number limit) k level = limited over limit level (TooLarge (Some number) k) tt

-- the levels of a telescope are as many, and within their limit
pub record AreWithin (role : Role) (tele : Telescope) (levels : List ℕ) : Type 0 where
  pub counted : length levels ≡ length tele
  pub within : All (IsWithin role) levels

-- a role whose denials over T are scoped where they are read
abbrev pub Reads : (Site → Signature) → Signature → Role → Type 0
Reads over T role = (k : ℕ) (denial : Denial) → IsScopedDenial T denial → IsScopedDenial (over (site_of role k)) denial

pub levels-within : (over : Site → Signature) (T : Signature) (role : Role) → IsScopedSignature T → Reads over T role
    → (count : ℕ) (G : Context) (tele : Telescope) (left : ℕ) → IsScopedContext T G → IsScopedTelescope T (length G) tele
    → Splits (AreWithin role tele) (IsScopedStop over) (levels_of T role count G tele left).0
unfolding sort_in
levels-within over T role scoped reads count G [] left ctx h = record { counted = refl; within = All-nil (IsWithin role) }
levels-within over T role scoped reads count G (a ∷ tele) left ctx h =
    and_next-splits (IsWithin role) (AreWithin role (a ∷ tele)) (IsScopedStop over) (level_in T role (count + 1) G a left) _
    (and_next-splits Any (IsWithin role) (IsScopedStop over) (granted (site_of role (count + 1)) (infer_sort_of T nesting G a left)) _
    (granted-splits Any over T (site_of role (count + 1)) (length G) (infer_sort_of T nesting G a left) (reads (count + 1))
    (infer_sort-scoped T nesting G a left scoped ctx h.0) (any-type (infer_sort_of T nesting G a left).0)) (λ sort rest u.
    fitting-within over role (count + 1) (sort_level sort))) (λ level rest within.
    and_next-splits (AreWithin role tele) (AreWithin role (a ∷ tele)) (IsScopedStop over) (levels_of T role (count + 1) (a ∷ G) tele rest) _
    (levels-within over T role scoped reads (count + 1) (a ∷ G) tele rest (h.0, ctx)
    (transport (λ n. IsScopedTelescope T n tele) (let e : length G + 1 ≡ length (a ∷ G) = omega arith in e) h.1)) (λ levels end k.
    record { counted = ap suc k.counted; within = All-cons (IsWithin role) level levels within k.within }))

pub length-behind : (G : Context) (tele : Telescope) → length (context_behind G tele) ≡ length G + length tele
length-behind G [] = omega arith
length-behind G (a ∷ tele) = omega (arith, length-behind (a ∷ G) tele)

-- the levels that are kept beside index types
seconds-low : (ts : List Term) (is : List ℕ) (limit : ℕ) → limit < top → All (λ i. i ≤ limit) is → All (λ i. i.1 < top) (zip ts is)
seconds-low [] is limit low h = All-nil _
seconds-low (t ∷ ts) [] limit low h = All-nil _
seconds-low (t ∷ ts) (i ∷ is) limit low h =
    All-cons (λ i. i.1 < top) (t, i) (zip ts is) (let le = All-head (λ i. i ≤ limit) i is h in omega arith)
    (seconds-low ts is limit low (All-tail (λ i. i ≤ limit) i is h))

-- a family without constructors that is scoped at the end of the signature
pub record IsBareScoped (S : Signature) (raw : RawFamily) (f : Family) : Type 0 where
  pub bare : f.constructors ≡ []
  pub parameters : f.parameters ≡ raw.parameters
  pub scoped : IsScopedFamily (pushed S (FamilyOf f)) (length S.entries) f

family-ends : (over : Site → Signature) (t : Term) → Splits (λ level. t ≡ Sort level) (IsScopedStop over) (family_level t)
family-ends over (Sort level) = refl
family-ends over (Const n) = tt
family-ends over _ = tt

bare-scoped : (S : Signature) (raw : RawFamily) (levels : List ℕ) (level : ℕ) → IsScopedRaw S raw → level < top
    → AreWithin (Index level) (domains_of raw.type) levels → IsBareScoped S raw (family_without raw levels level)
bare-scoped S raw levels level h low within = record { bare = refl; parameters = refl; scoped = scoped }
  where
    f : Family
    f = family_without raw levels level

    p : ℕ
    p = length raw.parameters

    before : S ≡ first_entries (pushed S (FamilyOf f)) (length S.entries)
    before = first-all S (FamilyOf f)

    scoped : IsScopedFamily (pushed S (FamilyOf f)) (length S.entries) f
    scoped = record {
      parameters = transport (λ T. IsScopedTelescope T 0 raw.parameters) before h.parameters;
      indices = transport (λ T. IsScopedTelescope T p (index_types f)) before
          (transport (IsScopedTelescope S p) (sym (zip-firsts (domains_of raw.type) levels within.counted)) (domains-scoped S p raw.type h.type).0);
      level = low;
      index_levels = seconds-low (domains_of raw.type) levels level low within.within;
      constructors = All-nil _;
    }

pub type-scoped : (S : Signature) → IsSettled S → (raw : RawFamily) (left : ℕ) → IsScopedRaw S raw
    → Splits (IsBareScoped S raw) (IsScopedStop (site_signature S raw)) (declare_type S raw left).0
unfolding sort_in
type-scoped S settled raw left h =
    and_next-splits (AreWithin Parameter raw.parameters) (IsBareScoped S raw) (IsScopedStop over) (levels_of S Parameter 0 [] raw.parameters left) _
    (levels-within over S Parameter settled.scoped (λ k denial d. d) 0 [] raw.parameters left tt h.parameters) (λ parameter_levels left1 w.
    and_next-splits (EndsBelow raw.type) (IsBareScoped S raw) (IsScopedStop over) (granted OfType (infer_sort_of S nesting G raw.type left1)) _
    (granted-splits (EndsBelow raw.type) over S OfType (length G) (infer_sort_of S nesting G raw.type left1) (λ denial d. d)
    (infer_sort-scoped S nesting G raw.type left1 settled.scoped context type) (sort-ends S nesting G raw.type left1)) (λ sort left2 low.
    and_next-splits (λ level. end_of raw.type ≡ Sort level) (IsBareScoped S raw) (IsScopedStop over) (ended (family_level (end_of raw.type)) left2) _
    (family-ends over (end_of raw.type)) (λ level left3 ends.
    and_next-splits (AreWithin (Index level) (domains_of raw.type)) (IsBareScoped S raw) (IsScopedStop over) (levels_of S (Index level) 0 G (domains_of raw.type) left3) _
    (levels-within over S (Index level) settled.scoped (λ k denial d. d) 0 G (domains_of raw.type) left3 context (domains-scoped S (length G) raw.type type).0) (λ levels end within.
    bare-scoped S raw levels level h (low level ends) within))))
  where
    over : Site → Signature
    over = site_signature S raw

    G : Context
    G = context_behind [] raw.parameters

    context : IsScopedContext S G
    context = (context-scoped S raw.parameters).0 h.parameters

    type : IsScoped S (length G) raw.type
    type = transport (λ n. IsScoped S n raw.type) (let e : length raw.parameters ≡ length G = omega (arith, length-behind [] raw.parameters) in e) h.type
