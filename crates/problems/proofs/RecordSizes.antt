-- The parts of a family's record, at parameters, are over the parameters' variables and, for a telescope, its own.
use Rattle.std.proofs.Common.{◌≡◌, ℕ, suc, ◌+◌, ◌≤◌, List, [], ◌∷◌, ◌++◌, length, map, slice_get, Option, Some, None, option_and_then, All, refl, ap, arith}
use Rattle.std.proofs.lemmas.List.{length-map}
use Rattle.std.proofs.lemmas.List.Elements.{All-append, All-cons, All-nil, All-tail, All-head, All-weaker}
use Rattle.std.proofs.lemmas.Bool.Decides.{nat_tests}
use Rattle.theory.specs.Terms.{Term, Fam, Con, free_of, lift}
use Rattle.theory.specs.Substitutions.{inst, ups, fill}
use Rattle.theory.specs.Telescopes.{Telescope, applied, variables, weaken_by, inst_telescope}
use Rattle.theory.specs.Eliminators.{no_variable}
use Rattle.theory.specs.Families.{Argument, Plain, Recursive, Constructor, Family, argument_types, level_of, index_types}
use Rattle.theory.specs.Scopes.{IsTelescopeOver, IsArgumentOver, AreArgumentsOver, IsConstructorOver}
use Rattle.theory.specs.Signatures.{Signature, Entry, FamilyOf}
use Rattle.theory.specs.SignatureScopes.{IsScoped, IsScopedTelescope, IsScopedArgument, IsScopedArguments, IsScopedConstructor, IsScopedFamily, IsScopedSignature}
use Rattle.theory.proofs.FreeInstances.{free_of-ups, free_of-inst, free_of-fill, free_of-map_inst, free_of-variables, free_of-weaken_by}
use Rattle.theory.proofs.FreeVariables.{free_of-lift}
use Rattle.theory.proofs.Scopes.{Scoped, Places, scoped-applied, scoped-arguments, length-argument_types}
use Rattle.theory.proofs.ScopedTypes.{length-variables}
use Rattle.kernel_reduce.specs.Entries.{family_at, family_in}
use Rattle.unification.specs.Injecting.{lifted}
use Rattle.problems.specs.Conditions.{HaveFewVariables, HasFewVariables, AreOver, most_depth}
use Rattle.unification.specs.Records.{items_at, argument_items, family_items, constructor_terms}

-- ---- the records of a scoped signature

pub scoped-over : (T : Signature) (n : ℕ) (tele : Telescope) → IsScopedTelescope T n tele → IsTelescopeOver n tele
scoped-over T n [] h = tt
scoped-over T n (a ∷ tele) h = (h.0.variables, scoped-over T (n + 1) tele h.1)

argument-over : (T : Signature) (n : ℕ) (a : Argument) → IsScopedArgument T n a → IsArgumentOver n a
argument-over T n (Plain type level) h = h.0.variables
argument-over T n (Recursive inner targets level) h =
    (scoped-over T n inner h.0, All-weaker (IsScoped T (n + length inner)) (λ t. free_of t ≤ n + length inner) (λ t k. k.variables) targets h.1)

arguments-over : (T : Signature) (n : ℕ) (arguments : List Argument) → IsScopedArguments T n arguments → AreArgumentsOver n arguments
arguments-over T n [] h = tt
arguments-over T n (a ∷ arguments) h = (argument-over T n a h.0, arguments-over T (n + 1) arguments h.1)

pub constructor-over : (T : Signature) (n count : ℕ) (c : Constructor) → IsScopedConstructor T n count c → IsConstructorOver n c
constructor-over T n count c h = record {
  arguments = arguments-over T n c.arguments h.arguments;
  targets = All-weaker (IsScoped T (n + length c.arguments)) (λ t. free_of t ≤ n + length c.arguments) (λ t k. k.variables) c.targets h.targets;
}

pub family-entry : (o : Option Entry) (f : Family) → option_and_then family_in o ≡ Some f → o ≡ Some (FamilyOf f)
family-entry None f e = absurd (cc)
family-entry (Some (FamilyOf g)) f e = cc
family-entry (Some _) f e = absurd (cc)

pub family-scoped : (S : Signature) (n : ℕ) (f : Family) → IsScopedSignature S → family_at S n ≡ Some f → IsScopedFamily S n f
family-scoped S n f scoped e = scoped n (FamilyOf f) (family-entry (slice_get S.entries n) f e)

-- ---- terms at parameters

-- parameters over n variables stand for the record's
pub places-at : (ps : List Term) (n : ℕ) → All (Scoped n) ps → Places (fill no_variable ps) (length ps) n
places-at ps n all i lt = free_of-fill no_variable ps 0 n (λ k none. omega arith) all i (omega arith)

inst-over : (s : ℕ → Term) (tele : Telescope) (k n : ℕ) → Places s k n → IsTelescopeOver k tele → IsTelescopeOver n (inst_telescope s tele)
inst-over s [] k n each h = tt
inst-over s (a ∷ tele) k n each h = (free_of-inst s a k n h.0 each, inst-over (ups s) tele (k + 1) (n + 1) (free_of-ups s k n each) h.1)

over-few : (tele : Telescope) (n : ℕ) → IsTelescopeOver n tele → n + length tele ≤ 2147483648 → HaveFewVariables tele
over-few [] n h le = tt
over-few (a ∷ tele) n h le = let k = h.0 in (omega arith, over-few tele (n + 1) h.1 (omega arith))

items-few : (tele : Telescope) (levels : List ℕ) → HaveFewVariables tele → HasFewVariables (items_at tele levels)
items-few [] levels h = tt
items-few (a ∷ tele) [] h = tt
items-few (a ∷ tele) (i ∷ levels) h = (h.0, items-few tele levels h.1)

few-append : (ts us : List Term) → HaveFewVariables ts → HaveFewVariables us → HaveFewVariables (ts ++ us)
few-append [] us h k = k
few-append (t ∷ ts) us h k = (h.0, few-append ts us h.1 k)

few-all : (ts : List Term) (n : ℕ) → n ≤ 2147483648 → All (Scoped n) ts → HaveFewVariables ts
few-all [] n le all = tt
few-all (t ∷ ts) n le all = let k = All-head (Scoped n) t ts all in (omega arith, few-all ts n le (All-tail (Scoped n) t ts all))

head-over : (h : Term) (ps : List Term) (n : ℕ) → free_of h ≡ 0 → All (Scoped n) ps → free_of (applied h ps) ≤ n
head-over h ps n e all = scoped-applied h ps n (omega arith) all

nearest-over : (h : Term) (ps : List Term) (n count : ℕ) → free_of h ≡ 0 → All (Scoped n) ps
    → free_of (applied (weaken_by count (applied h ps)) (variables count)) ≤ n + count
nearest-over h ps n count e all =
    scoped-applied (weaken_by count (applied h ps)) (variables count) (n + count)
    (free_of-weaken_by count (applied h ps) n (head-over h ps n e all)) (free_of-variables count (n + count) (omega arith))

pub over-all : (n m : ℕ) (ps : List Term) → n ≤ m → AreOver n ps → All (Scoped m) ps
over-all n m [] le h = All-nil (Scoped m)
over-all n m (p ∷ ps) le h = let k = h.0.1 in All-cons (Scoped m) p ps (omega arith) (over-all n m ps le h.1)

-- the arguments have few variables
pub arguments-few : (n : ℕ) (ps : List Term) (c : Constructor) → AreOver most_depth ps → AreArgumentsOver (length ps) c.arguments → length c.arguments ≤ 2000
    → HasFewVariables (argument_items n ps c)
arguments-few n ps c over h le =
    let all = over-all most_depth most_depth ps (omega arith) over in
    let types = argument_types (fill no_variable ps) (applied (Fam n) ps) c.arguments in
    let count = length-argument_types (fill no_variable ps) (applied (Fam n) ps) c.arguments in
    items-few types (map level_of c.arguments)
    (over-few types most_depth
    (scoped-arguments (fill no_variable ps) (applied (Fam n) ps) c.arguments (length ps) most_depth (places-at ps most_depth all)
    (head-over (Fam n) ps most_depth refl all) h)
    (omega arith))

length-inst : (s : ℕ → Term) (tele : Telescope) → length (inst_telescope s tele) ≡ length tele
length-inst s [] = refl
length-inst s (a ∷ tele) = ap suc (length-inst (ups s) tele)

-- and so have the indices with the family
pub family-few : (n : ℕ) (f : Family) (ps : List Term) → AreOver most_depth ps → IsTelescopeOver (length ps) (index_types f) → length f.indices ≤ 2000
    → HasFewVariables (family_items n f ps)
family-few n f ps over h le =
    let all = over-all most_depth most_depth ps (omega arith) over in
    let s = fill no_variable ps in
    let count = length f.indices in
    let types = inst_telescope s (index_types f) in
    let many = length-inst s (index_types f) in
    let indices = length-map f.indices (λ (i : Term × ℕ). i.0) in
    let whole = nearest-over (Fam n) ps most_depth count refl all in
    items-few (types ++ applied (weaken_by count (applied (Fam n) ps)) (variables count) ∷ []) (map (λ i. i.1) f.indices ++ f.level ∷ [])
    (few-append types (applied (weaken_by count (applied (Fam n) ps)) (variables count) ∷ [])
    (over-few types most_depth (inst-over s (index_types f) (length ps) most_depth (places-at ps most_depth all) h) (omega arith))
    (omega arith, tt))

-- and the targets with the constructor
pub terms-few : (n number : ℕ) (ps : List Term) (c : Constructor) → AreOver most_depth ps
    → All (λ t. free_of t ≤ length ps + length c.arguments) c.targets → length c.arguments ≤ 2000
    → HaveFewVariables (constructor_terms n number ps c)
terms-few n number ps c over h le =
    let all = over-all most_depth most_depth ps (omega arith) over in
    let count = length c.arguments in
    let s : ℕ → Term = λ v. weaken_by count (fill no_variable ps v) in
    let each : Places s (length ps) (most_depth + count) = λ v lt. free_of-weaken_by count (fill no_variable ps v) most_depth (places-at ps most_depth all v lt) in
    let filled : Places (fill s (variables count)) (length ps + count) (most_depth + count) =
    λ i lt. free_of-fill s (variables count) (length ps) (most_depth + count) each (free_of-variables count (most_depth + count) (omega arith)) i
    (omega (arith, length-variables count)) in
    let targets = map (inst (fill s (variables count))) c.targets in
    let whole = nearest-over (Con n number) ps most_depth count refl all in
    few-append targets (applied (weaken_by count (applied (Con n number) ps)) (variables count) ∷ [])
    (few-all targets (most_depth + count) (omega arith) (free_of-map_inst (fill s (variables count)) c.targets (length ps + count) (most_depth + count) filled h))
    (omega arith, tt)

pub lifted-free : (t : Term) (by n m : ℕ) → n + by ≤ m → free_of t ≤ n → free_of (lift t by 0) ≤ m
lifted-free t by n m le h = let e = free_of-lift t by 0 in grind (arith, nat_tests)

-- terms that are further in, before the variables there
lifted-all : (n by m : ℕ) (ps : List Term) → n + by ≤ m → AreOver n ps → All (Scoped m) (lifted by ps)
lifted-all n by m [] le h = All-nil (Scoped m)
lifted-all n by m (p ∷ ps) le h =
    All-cons (Scoped m) (lift p by 0) (lifted by ps) (lifted-free p by n m le h.0.1) (lifted-all n by m ps le h.1)

pub values-few : (count : ℕ) (ps : List Term) → AreOver most_depth ps → count ≤ 2000
    → All (λ t. free_of t ≤ 3221225472) (lifted count ps ++ variables count)
values-few count ps h le =
    All-append (Scoped 3221225472) (lifted count ps) (variables count)
    (lifted-all most_depth count 3221225472 ps (omega arith) h) (free_of-variables count 3221225472 (omega arith))
