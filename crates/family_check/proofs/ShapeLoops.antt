-- The parts of a family and of a constructor, as far as a loop along their types has come.
use Rattle.std.proofs.Common.{◌≡◌, ℕ, ◌+◌, ◌<◌, ◌≤◌, true, false, cond, Bool, Option, Some, None, IfSome, Ok, Err, List, [], ◌∷◌, ◌++◌, map, length, drop, get_or, zip, refl, ap, ap₂, sym, ◌∙◌, append_assoc, subst as transport, arith}
use Rattle.std.specs.Option.{is_some}
use Rattle.std.proofs.lemmas.List.{length-append, map-append}
use Rattle.theory.specs.Terms.{Term}
use Rattle.theory.specs.Spines.{spine_of}
use Rattle.theory.specs.Telescopes.{Telescope, weaken_by}
use Rattle.theory.specs.Families as pure
use Rattle.theory.specs.Families.{Family, family_head}
use Rattle.core_terms.specs.Meanings.{tree_of}
use Rattle.core_terms.specs.declared.term.Term as code
use Rattle.core_sig.specs.Kinds.{HasKind, HaveKinds}
use Rattle.core_sig.specs.Meanings.{argument_of, argument_with}
use Rattle.core_sig.specs.declared.family.Arg.{Arg}
use Rattle.core_sig.specs.declared.family.ArgKind.{ArgKind}
use Rattle.core_sig.specs.declared.family.ArgKind.TheVariants.{Plain, Recursive}
use Rattle.core_sig.proofs.Arguments.{length-spine_of-head, spine_of-applied}
use Rattle.family_check.specs.Families.{on_targets, with_constructors}
use Rattle.family_check.specs.Kinds.{is_recursive}
use Rattle.family_check.specs.Outcomes.{NotPositive}
use Rattle.core_terms.specs.Telescopes.{domains_of, end_of}
use Rattle.family_check.specs.Shapes.{targets_of, arguments, is_positive, first_offender, unless_offender, constructor_targets}
use Rattle.core_terms.proofs.LeadingProducts.{not-product}
use Rattle.family_check.proofs.KindShapes.{kind-takes, end-tells, targets-behind}
use Rattle.core_terms.proofs.Lists.{drop-at, get-any, count-more}
use Rattle.family_check.proofs.Shapes.{IsEnd, targets-found}

-- an index and the level of its type
abbrev pub index_parts : Arg → Term × ℕ
index_parts i = (tree_of i.ty, i.level)

pub offender-step : (n : ℕ) (f : Family) (types : Telescope) (k : ℕ) (a : Term) → k < length types → a ≡ get_or types k a
    → first_offender n f k (drop k types) ≡ cond (is_positive n f k a) (first_offender n f (k + 1) (drop (k + 1) types)) (Some (k + 1))
offender-step n f types k a lt is = ap (first_offender n f k) (drop-at types k a lt is)

-- an argument more, with the kind of its type
pub arguments-step : (n : ℕ) (f : Family) (types : Telescope) (levels : List ℕ) (k : ℕ) (a : Term) (level : ℕ) (kind : ArgKind) (xs : List pure.Argument)
    → k < length types → a ≡ get_or types k a → k < length levels → level ≡ get_or levels k level → HasKind n f k kind a
    → xs ++ arguments n f k (drop k types) (drop k levels)
    ≡ (xs ++ argument_with (length f.parameters) a level kind ∷ []) ++ arguments n f (k + 1) (drop (k + 1) types) (drop (k + 1) levels)
arguments-step n f types levels k a level kind xs lt is lt' is' h =
    ap (λ ys. xs ++ ys)
    (ap₂ (arguments n f k) (drop-at types k a lt is) (drop-at levels k level lt' is')
    ∙ ap (λ x. x ∷ arguments n f (k + 1) (drop (k + 1) types) (drop (k + 1) levels)) (sym (kind-takes n f k kind a level h)))
    ∙ sym (append_assoc xs (argument_with (length f.parameters) a level kind ∷ []) (arguments n f (k + 1) (drop (k + 1) types) (drop (k + 1) levels)))

-- an index more
pub zip-step : (types : Telescope) (levels : List ℕ) (k : ℕ) (a : Term) (level : ℕ) (xs : List (Term × ℕ))
    → k < length types → a ≡ get_or types k a → k < length levels → level ≡ get_or levels k level
    → xs ++ zip (drop k types) (drop k levels) ≡ (xs ++ (a, level) ∷ []) ++ zip (drop (k + 1) types) (drop (k + 1) levels)
zip-step types levels k a level xs lt is lt' is' =
    ap (λ ys. xs ++ ys) (ap₂ zip (drop-at types k a lt is) (drop-at levels k level lt' is'))
    ∙ sym (append_assoc xs ((a, level) ∷ []) (zip (drop (k + 1) types) (drop (k + 1) levels)))

pub kinds-push : (n : ℕ) (f : Family) (at : ℕ) (args : List Arg) (a : Arg) → HaveKinds n f at args → HasKind n f (at + length args) a.kind (tree_of a.ty)
    → HaveKinds n f at (args ++ a ∷ [])
kinds-push n f at [] a h k = (transport (λ m. HasKind n f m a.kind (tree_of a.ty)) (let e : at + length {A = Arg} [] ≡ at = omega arith in e) k, tt)
kinds-push n f at (x ∷ args) a h k = (
  h.0,
  kinds-push n f (at + 1) args a h.1
      (transport (λ m. HasKind n f m a.kind (tree_of a.ty)) (let e : at + length (x ∷ args) ≡ at + 1 + length args = omega arith in e) k),
)

-- kinds do not depend on the constructors of the family
kind-whole : (n : ℕ) (f : Family) (cs : List pure.Constructor) (at : ℕ) (kind : ArgKind) (t : Term) → HasKind n f at kind t → HasKind n (with_constructors f cs) at kind t
kind-whole n f cs at Plain t h = λ inner targets is.
    h inner targets (record { form = is.form; inner_lacks = is.inner_lacks; targets_lack = is.targets_lack; target_count = is.target_count })
kind-whole n f cs at (Recursive count) t h =
    let is = h.3 in
    (h.0, h.1, h.2, record { form = is.form; inner_lacks = is.inner_lacks; targets_lack = is.targets_lack; target_count = is.target_count })

pub kinds-whole : (n : ℕ) (f : Family) (cs : List pure.Constructor) (at : ℕ) (args : List Arg) → HaveKinds n f at args → HaveKinds n (with_constructors f cs) at args
kinds-whole n f cs at [] h = tt
kinds-whole n f cs at (a ∷ args) h = (kind-whole n f cs at a.kind (tree_of a.ty) h.0, kinds-whole n f cs (at + 1) args h.1)

-- the targets of a constructor whose type has the given parts
pub targets-by : (n : ℕ) (f : Family) (t : Term) (types : Telescope) (end : Term) (o : Option ℕ) (found : Option (List Term)) → domains_of t ≡ types → end_of t ≡ end
    → first_offender n f 0 types ≡ o → targets_of n f (length types) end ≡ found → constructor_targets n f t ≡ unless_offender o found
targets-by n f t types end o found domains ends offends at =
    ap₂ (λ ts e. unless_offender (first_offender n f 0 ts) (targets_of n f (length ts) e)) domains ends ∙ ap₂ unless_offender offends at

-- the family at its parameters and targets has as many arguments at least
pub end-long : (n : ℕ) (f : Family) (k : ℕ) (t : Term) → is_some (targets_of n f k t) ≡ true → length f.parameters ≤ length (spine_of t)
end-long n f k t h = by_case (targets_of n f k t) (targets-found n f k t) h
  where
    by_case : (o : Option (List Term)) → IfSome o (IsEnd n f k t) → is_some o ≡ true → length f.parameters ≤ length (spine_of t)
    by_case (Some targets) is test =
        let e = ap (λ u. length (spine_of u)) is.form in
        let s = ap length (spine_of-applied (weaken_by k (family_head n f)) targets) in
        omega (arith, length-append (spine_of (weaken_by k (family_head n f))) targets, length-spine_of-head n f k)
    by_case None is test = absurd (grind arith)

-- the first offender, as far as a loop has come
pub offender-on : (n : ℕ) (f : Family) (types : Telescope) (k : ℕ) (a : Term) (whole : Option ℕ) → whole ≡ first_offender n f k (drop k types) → k < length types → a ≡ get_or types k a
    → is_positive n f k a ≡ true → whole ≡ first_offender n f (k + 1) (drop (k + 1) types)
offender-on n f types k a whole before lt is test =
    before ∙ (offender-step n f types k a lt is ∙ ap (λ b. cond b (first_offender n f (k + 1) (drop (k + 1) types)) (Some (k + 1))) test)

pub offender-here : (n : ℕ) (f : Family) (types : Telescope) (k : ℕ) (a : Term) (whole : Option ℕ) → whole ≡ first_offender n f k (drop k types) → k < length types → a ≡ get_or types k a
    → is_positive n f k a ≡ false → Some (k + 1) ≡ whole
offender-here n f types k a whole before lt is test =
    sym (before ∙ (offender-step n f types k a lt is ∙ ap (λ b. cond b (first_offender n f (k + 1) (drop (k + 1) types)) (Some (k + 1))) test))

none-of : {A : Type 0} (o : Option A) → is_some o ≡ false → o ≡ None
none-of None h = refl
none-of (Some a) h = absurd (grind arith)

-- a constructor whose type has the given domains and end, where no argument offends
pub record IsSplit (n : ℕ) (f : Family) (t : Term) (types : Telescope) (end : Term) : Type 0 where
  pub domains : domains_of t ≡ types
  pub ends : end_of t ≡ end
  pub none_offends : first_offender n f 0 types ≡ None

end-is : (n : ℕ) (f : Family) (k : ℕ) (kind : ArgKind) (end : Term) (test : Bool) → domains_of end ≡ [] → HasKind n f k kind end → is_recursive kind ≡ test
    → is_some (targets_of n f k end) ≡ test
end-is n f k kind end test ended h is = end-tells n f k kind end (not-product end ended) h ∙ is

-- its end is not the family at its parameters and targets,
pub no-targets : (n : ℕ) (f : Family) (number : ℕ) (t : Term) (types : Telescope) (end : Term) (k : ℕ) (kind : ArgKind) → IsSplit n f t types end → length types ≡ k
    → domains_of end ≡ [] → HasKind n f k kind end → is_recursive kind ≡ false → Err (NotPositive number 0) ≡ on_targets number (constructor_targets n f t)
no-targets n f number t types end k kind s counted ended h is =
    sym (ap (on_targets number) (targets-by n f t types end None None s.domains s.ends s.none_offends
    (ap (λ j. targets_of n f j end) counted ∙ none-of (targets_of n f k end) (end-is n f k kind end false ended h is))))

-- or it is
pub all-targets : (n : ℕ) (f : Family) (number : ℕ) (t : Term) (types : Telescope) (end : Term) (k : ℕ) (kind : ArgKind) → IsSplit n f t types end → length types ≡ k
    → domains_of end ≡ [] → HasKind n f k kind end → is_recursive kind ≡ true
    → Ok (drop (length f.parameters) (spine_of end)) ≡ on_targets number (constructor_targets n f t)
all-targets n f number t types end k kind s counted ended h is =
    sym (ap (on_targets number) (targets-by n f t types end None (Some (drop (length f.parameters) (spine_of end))) s.domains s.ends s.none_offends
    (ap (λ j. targets_of n f j end) counted ∙ targets-behind n f k end (end-is n f k kind end true ended h is))))

pub long-end : (n : ℕ) (f : Family) (k : ℕ) (kind : ArgKind) (end : Term) → domains_of end ≡ [] → HasKind n f k kind end → is_recursive kind ≡ true
    → length f.parameters ≤ length (spine_of end)
long-end n f k kind end ended h is = end-long n f k end (end-is n f k kind end true ended h is)

pub arguments-on : (n : ℕ) (f : Family) (types : Telescope) (levels : List ℕ) (whole : List pure.Argument) (args view more : List Arg) (ty : code.Term) (kind : ArgKind) (p : ℕ)
    → p ≡ length f.parameters → whole ≡ map (argument_of p) args ++ arguments n f (length args) (drop (length args) types) (drop (length args) levels)
    → view ≡ args → more ≡ args ++ record { ty = ty; level = get_or levels (length view) 0; kind = kind } ∷ [] → length args < length types
    → tree_of ty ≡ get_or types (length args) (tree_of ty) → length levels ≡ length types → HasKind n f (length view) kind (tree_of ty)
    → whole ≡ map (argument_of p) more ++ arguments n f (length more) (drop (length more) types) (drop (length more) levels)
arguments-on n f types levels whole args view more ty kind p counted before viewed is lt at same h =
    let k = length args in
    let level = get_or levels k 0 in
    let level_at : get_or levels (length view) 0 ≡ level = ap (λ v. get_or levels (length v) 0) viewed in
    let made : more ≡ args ++ record { ty = ty; level = level; kind = kind } ∷ [] = is ∙ ap (λ i. args ++ record { ty = ty; level = i; kind = kind } ∷ []) level_at in
    let kind_at : HasKind n f k kind (tree_of ty) = transport (λ v. HasKind n f (length v) kind (tree_of ty)) viewed h in
    before
    ∙ (arguments-step n f types levels k (tree_of ty) level kind (map (argument_of p) args) lt at (omega arith) (get-any levels k 0 level (omega arith)) kind_at
    ∙ (ap (λ q. (map (argument_of p) args ++ argument_with q (tree_of ty) level kind ∷ []) ++ arguments n f (k + 1) (drop (k + 1) types) (drop (k + 1) levels)) (sym counted)
    ∙ ap₂ (λ xs j. xs ++ arguments n f j (drop j types) (drop j levels))
    (sym (map-append (argument_of p) args (record { ty = ty; level = level; kind = kind } ∷ [])) ∙ ap (map (argument_of p)) (sym made))
    (count-more args more _ made)))

pub zip-on : (types : Telescope) (levels : List ℕ) (whole : List (Term × ℕ)) (args view more : List Arg) (i : Arg) (ty : code.Term)
    → whole ≡ map index_parts args ++ zip (drop (length args) types) (drop (length args) levels)
    → view ≡ args → more ≡ args ++ i ∷ [] → i.ty ≡ ty → i.level ≡ get_or levels (length view) 0 → length args < length types
    → tree_of ty ≡ get_or types (length args) (tree_of ty) → length levels ≡ length types
    → whole ≡ map index_parts more ++ zip (drop (length more) types) (drop (length more) levels)
zip-on types levels whole args view more i ty before viewed is typed leveled lt at same =
    let k = length args in
    let level_is : i.level ≡ get_or levels k 0 = leveled ∙ ap (λ v. get_or levels (length v) 0) viewed in
    let parts : index_parts i ≡ (tree_of ty, get_or levels k 0) = ap₂ (λ t l. (tree_of t, l)) typed level_is in
    before
    ∙ (zip-step types levels k (tree_of ty) (get_or levels k 0) (map index_parts args) lt at (omega arith) (get-any levels k 0 (get_or levels k 0) (omega arith))
    ∙ ap₂ (λ xs j. xs ++ zip (drop j types) (drop j levels))
    (ap (λ x. map index_parts args ++ x ∷ []) (sym parts) ∙ (sym (map-append index_parts args (i ∷ [])) ∙ ap (map index_parts) (sym is)))
    (count-more args more i is))

pub kinds-on : (n : ℕ) (f : Family) (args view more : List Arg) (a : Arg) → view ≡ args → more ≡ args ++ a ∷ [] → HaveKinds n f 0 args → HasKind n f (length view) a.kind (tree_of a.ty)
    → HaveKinds n f 0 more
kinds-on n f args view more a viewed is h k =
    transport (HaveKinds n f 0) (sym is)
    (kinds-push n f 0 args a h
    (transport (λ m. HasKind n f m a.kind (tree_of a.ty)) (let e : length args ≡ 0 + length args = omega arith in e)
    (transport (λ v. HasKind n f (length v) a.kind (tree_of a.ty)) viewed k)))
