-- A record that is made of a line's types shows that line.
use Rattle.std.proofs.Common.{◌≡◌, ℕ, suc, ◌+◌, Bool, true, false, List, [], ◌∷◌, ◌++◌, map, length, refl, sym, ap, ap₂, ◌∙◌, subst, arith}
use Rattle.std.specs.Prelude.{if◌then◌else◌, ◌&&◌, Some, None, Result, Ok, Err, OnOk, All, nat_lt}
use Rattle.std.specs.List.{list_all}
use Rattle.std.specs.Option.{is_some}
use Rattle.std.proofs.lemmas.Bool.{false≢true}
use Rattle.std.proofs.lemmas.List.{length-map, map-append}
use Rattle.std.proofs.lemmas.List.Folds.{list_all-append}
use Rattle.std.proofs.lemmas.List.Elements.{All-nil, All-cons, All-head, All-tail, All-map, All-weaker}
use Rattle.theory.specs.Terms.{Term, Var, Sort, Pi, App, Fam, top}
use Rattle.theory.specs.Telescopes.{Telescope, products, applied, variables, weaken_by}
use Rattle.theory.specs.Families as pure
use Rattle.theory.specs.Families.{level_of}
use Rattle.theory.proofs.ScopedTypes.{length-variables}
use Rattle.core_terms.specs.Meanings.{tree_of, tele_of}
use Rattle.core_terms.specs.declared.term.Term as code
use Rattle.core_sig.specs.KindTests.{is_at_parameters, inner_count}
use Rattle.core_sig.specs.Kinds.{HasKind, HaveKinds}
use Rattle.core_sig.specs.Meanings.{argument_of, argument_with, constructor_of, family_of}
use Rattle.core_sig.specs.Raw.{RawConstructor, RawFamily, raw_constructor_of, raw_of}
use Rattle.core_sig.specs.declared.raw.RawCon.{RawCon}
use Rattle.core_sig.specs.declared.raw.RawFamily.{RawFamily as RawFamilyOfCode}
use Rattle.core_sig.specs.declared.family.Family.{Family}
use Rattle.core_sig.specs.declared.family.Arg.{Arg}
use Rattle.core_sig.specs.declared.family.ArgKind.{ArgKind}
use Rattle.core_sig.specs.declared.family.ArgKind.TheVariants.{Plain, Recursive}
use Rattle.core_sig.specs.declared.family.Constructor.{Constructor}
use Rattle.core_sig.proofs.Arguments.{index_types-of}
use Rattle.core_sig.proofs.KindLists.{kinds-push, kinds-moved}
use Rattle.core_sig.proofs.RecursiveForms.{kind-found, head-is}
use Rattle.core_terms.proofs.Builders.{applied-push}
use Rattle.core_terms.specs.Telescopes.{domains_of, end_of}
use Rattle.core_terms.proofs.LeadingProducts.{products-of_parts}
use Rattle.core_text.specs.RawEntries.{constructor_line, end_level, is_at_targets, ends_in_family, shows_record, family_shown}
use Rattle.core_text.specs.Records.{HasLevelsZero, typed, with_level_zero, type_of_constructor, constructor_shown}
use Rattle.core_text.proofs.ConstructorTexts.{shown-is}

both : (a b : Bool) → (a && b) ≡ true → (a ≡ true) × (b ≡ true)
both true b e = (refl, e)
both false b e = absurd (false≢true e)

abbrev raw_with : List ℕ → Term → RawConstructor
raw_with name type = record { name = name; type = type }

abbrev raw_family : List ℕ → Telescope → Term → List RawConstructor → RawFamily
raw_family name parameters type constructors = record { name = name; parameters = parameters; type = type; constructors = constructors }

same-raw : (a b : List ℕ) (ps qs : Telescope) (t u : Term) (cs ds : List RawConstructor) → a ≡ b → ps ≡ qs → t ≡ u → cs ≡ ds → raw_family a ps t cs ≡ raw_family b qs u ds
same-raw a b ps qs t u cs ds name parameters type constructors =
    ap₂ (λ n ts. raw_family n ts t cs) name parameters ∙ ap₂ (raw_family b qs) type constructors

-- ---- the family at its parameters

only_parameters : List Term → pure.Family
only_parameters parameters = record { name = []; parameters = parameters; indices = []; level = 0; constructors = [] }

nothing : {A : Type 0} (xs : List A) → length xs ≡ 0 → xs ≡ []
nothing [] e = refl
nothing (x ∷ xs) e = absurd (omega (arith, e))

counts_none : (n p at : ℕ) (t : Term) → is_at_parameters n p at t ≡ true → Some 0 ≡ inner_count n p 0 at t
counts_none n p at (Pi a b) e = absurd (false≢true e)
counts_none n p at _ e = sym (ap (λ b. if b then Some 0 else None) e)

at_parameters-is : (n at : ℕ) (parameters : List Term) (t : Term) → is_at_parameters n (length parameters) at t ≡ true → t ≡ applied (Fam n) (map (weaken_by at) (variables (length parameters)))
unfolding only_parameters
at_parameters-is n at parameters t e =
    let f = only_parameters parameters in
    let kind = kind-found n f at (length parameters) 0 (Some 0) t (counts_none n (length parameters) at t e) refl refl in
    kind.3.form
    ∙ (ap₂ (λ inner targets. pure.recursive_type Var (weaken_by at (pure.family_head n f)) inner targets) (nothing kind.0 kind.2) (nothing kind.1 kind.3.target_count)
    ∙ head-is n f at)

-- ---- products and what is after them

pub end_level-is : (t : Term) (level : ℕ) → end_level t ≡ Some level → end_of t ≡ Sort level
end_level-is (Pi a b) level e = end_level-is b level e
end_level-is (Sort k) level e = by (nat_lt k top) refl
  where
    by : (b : Bool) → nat_lt k top ≡ b → Sort k ≡ Sort level
    by true is = ap Sort (some_is (sym (ap (λ b. if b then Some k else None) is) ∙ e))
      where
        some_is : Some k ≡ Some level → k ≡ level
        some_is same = cc
    by false is = let no : None ≡ Some level = sym (ap (λ b. if b then Some k else None) is) ∙ e in absurd (cc)
end_level-is _ level e = absurd (cc)

step : (at k : ℕ) → (at + 1) + k ≡ at + suc k
step at k = omega arith

none : (at : ℕ) → at ≡ at + 0
none at = omega arith

pub ends-in : (n p i at : ℕ) (t : Term) → ends_in_family n p i at t ≡ is_at_targets n p i (at + length (domains_of t)) (end_of t)
ends-in n p i at (Pi a b) =
    ends-in n p i (at + 1) b ∙ ap (λ k. is_at_targets n p i k (end_of b)) (step at (length (domains_of b)))
ends-in n p i at t = ap (λ k. is_at_targets n p i k t) (none at)

-- ---- lists of arguments with levels 0

pub types-read : (args : List Arg) (types : List Term) → map typed args ≡ map with_level_zero types → map (λ a. tree_of a.ty) args ≡ types
types-read [] [] e = refl
types-read [] (t ∷ types) e = absurd (cc)
types-read (a ∷ args) [] e = absurd (cc)
types-read (a ∷ args) (t ∷ types) e =
    let first : typed a ≡ with_level_zero t = cc in
    let rest : map typed args ≡ map with_level_zero types = cc in
    ap₂ ◌∷◌ (ap (λ p. p.0) first) (types-read args types rest)

pub levels-read : (args : List Arg) (types : List Term) → map typed args ≡ map with_level_zero types → All (λ a. a.level ≡ 0) args
levels-read [] types e = All-nil (λ a. a.level ≡ 0)
levels-read (a ∷ args) [] e = absurd (cc)
levels-read (a ∷ args) (t ∷ types) e =
    let first : typed a ≡ with_level_zero t = cc in
    let rest : map typed args ≡ map with_level_zero types = cc in
    All-cons (λ a. a.level ≡ 0) a args (ap (λ p. p.1) first) (levels-read args types rest)

-- ---- a whole constructor

at_parameters-of : (n at p : ℕ) (t : Term) → is_at_parameters n p at t ≡ true → t ≡ applied (Fam n) (map (weaken_by at) (variables p))
at_parameters-of n at p t e =
    at_parameters-is n at (variables p) t (ap (λ k. is_at_parameters n k at t) (length-variables p) ∙ e)
    ∙ ap (λ k. applied (Fam n) (map (weaken_by at) (variables k))) (length-variables p)

pub constructor-type : (n i p : ℕ) (c : Constructor) (type head : Term) → map typed c.args ≡ map with_level_zero (domains_of type) → applied head (tele_of c.targets) ≡ end_of type → ((m k at : ℕ) → is_at_targets m k i at (end_of type) ≡ true → is_at_parameters m k at head ≡ true) → ends_in_family n p i 0 type ≡ true → type_of_constructor n p c ≡ type
constructor-type n i p c type head args whole found ends =
    ap₂ products types (ap (λ h. applied h (tele_of c.targets)) (sym head-found) ∙ whole) ∙ products-of_parts type
  where
    types : map (λ a. tree_of a.ty) c.args ≡ domains_of type
    types = types-read c.args (domains_of type) args

    counted : length (domains_of type) ≡ length c.args
    counted = sym (ap length types) ∙ length-map c.args (λ a. tree_of a.ty)

    placed : 0 + length (domains_of type) ≡ length c.args
    placed = omega (arith, counted)

    head-found : head ≡ applied (Fam n) (map (weaken_by (length c.args)) (variables p))
    head-found =
        at_parameters-of n (length c.args) p head
        (found n p (length c.args)
        (ap (λ k. is_at_targets n p i k (end_of type)) (sym placed) ∙ (sym (ends-in n p i 0 type) ∙ ends)))

pub constructor-is : (n i p : ℕ) (c : Constructor) (raw : RawCon) (head : Term) → c.name ≡ raw.name → map typed c.args ≡ map with_level_zero (domains_of (tree_of raw.ty)) → applied head (tele_of c.targets) ≡ end_of (tree_of raw.ty) → ((m k at : ℕ) → is_at_targets m k i at (end_of (tree_of raw.ty)) ≡ true → is_at_parameters m k at head ≡ true) → ends_in_family n p i 0 (tree_of raw.ty) ≡ true → constructor_shown n p c ≡ raw_constructor_of raw
constructor-is n i p c raw head name args whole found ends =
    ap₂ raw_with name (constructor-type n i p c (tree_of raw.ty) head args whole found ends)

-- ---- a whole family

-- one constructor more
pub constructors-more : (n p : ℕ) (test : RawConstructor → Bool) (raws : List RawCon) (raw : RawCon) (cons : List Constructor) (c : Constructor) → (list_all test (map raw_constructor_of raws) ≡ true → map (constructor_shown n p) cons ≡ map raw_constructor_of raws) → (test (raw_constructor_of raw) ≡ true → constructor_shown n p c ≡ raw_constructor_of raw) → list_all test (map raw_constructor_of (raws ++ raw ∷ [])) ≡ true → map (constructor_shown n p) (cons ++ c ∷ []) ≡ map raw_constructor_of (raws ++ raw ∷ [])
constructors-more n p test raws raw cons c before last tests =
    let front : (list_all test (map raw_constructor_of raws) && list_all test (raw_constructor_of raw ∷ [])) ≡ true =
    sym (list_all-append test (map raw_constructor_of raws) (raw_constructor_of raw ∷ [])) ∙ (ap (list_all test) (sym (map-append raw_constructor_of raws (raw ∷ []))) ∙ tests) in
    let parts = both _ _ front in
    map-append (constructor_shown n p) cons (c ∷ [])
    ∙ (ap₂ ◌++◌ (before parts.0) (ap (λ k. k ∷ []) (last (both _ _ parts.1).0)) ∙ sym (map-append raw_constructor_of raws (raw ∷ [])))

pub constructors-shown : (n : ℕ) (f : Family) (cons : List Constructor) → All (λ c. HaveKinds n (family_of f) 0 c.args) cons → map (constructor_line n (family_of f)) (map (constructor_of (length f.params)) cons) ≡ map (constructor_shown n (length f.params)) cons
constructors-shown n f [] kinds = refl
constructors-shown n f (c ∷ cons) kinds =
    ap₂ ◌∷◌ (ap (raw_with c.name) (shown-is n f c (All-head Kinds c cons kinds))) (constructors-shown n f cons (All-tail Kinds c cons kinds))
  where
    Kinds : Constructor → Type 0
    Kinds c = HaveKinds n (family_of f) 0 c.args

pub family-shown : (n : ℕ) (f : Family) (raw : RawFamilyOfCode) → f.name ≡ raw.name → f.params ≡ raw.params → map typed f.indices ≡ map with_level_zero (domains_of (tree_of raw.ty)) → end_level (tree_of raw.ty) ≡ Some f.level → All (λ c. HaveKinds n (family_of f) 0 c.args) f.cons → map (constructor_shown n (length f.params)) f.cons ≡ map raw_constructor_of raw.cons → family_shown n (family_of f) ≡ raw_of raw
family-shown n f raw name params indices level kinds cons =
    same-raw f.name raw.name (tele_of f.params) (tele_of raw.params) _ (tree_of raw.ty) _ (map raw_constructor_of raw.cons)
    name (ap tele_of params)
    (ap₂ products (index_types-of f ∙ types-read f.indices (domains_of (tree_of raw.ty)) indices) (sym (end_level-is (tree_of raw.ty) f.level level)) ∙ products-of_parts (tree_of raw.ty))
    (constructors-shown n f f.cons kinds ∙ cons)

pub shows-record : (n : ℕ) (f : Family) (raw : RawFamilyOfCode) (level : ℕ) (b : Bool) → f.params ≡ raw.params → map typed f.indices ≡ map with_level_zero (domains_of (tree_of raw.ty)) → end_level (tree_of raw.ty) ≡ Some level → b ≡ list_all (λ c. ends_in_family n (length f.params) (length f.indices) 0 c.type) (map raw_constructor_of raw.cons) → shows_record n (raw_of raw) ≡ b
shows-record n f raw level b params indices ends tests =
    ap (λ o. is_some o && list_all (λ c. ends_in_family n (length (tele_of raw.params)) (length (domains_of (tree_of raw.ty))) 0 c.type) (map raw_constructor_of raw.cons)) ends
    ∙ (ap₂ (λ p i. list_all (λ c. ends_in_family n p i 0 c.type) (map raw_constructor_of raw.cons)) (length-map raw.params tree_of ∙ ap length (sym params)) (sym counted) ∙ sym tests)
  where
    counted : length f.indices ≡ length (domains_of (tree_of raw.ty))
    counted = sym (length-map f.indices (λ a. tree_of a.ty)) ∙ ap length (types-read f.indices (domains_of (tree_of raw.ty)) indices)

-- ---- levels

level_of-argument : (p : ℕ) (t : Term) (level : ℕ) (kind : ArgKind) → level_of (argument_with p t level kind) ≡ level
level_of-argument p t level Plain = refl
level_of-argument p t level (Recursive count) = refl

pub levels-zero : (f : Family) (types : List Term) → map typed f.indices ≡ map with_level_zero types → All (λ c. All (λ a. a.level ≡ 0) c.args) f.cons → HasLevelsZero (family_of f)
levels-zero f types indices cons = record {
  indices = All-map (λ (i : Term × ℕ). i.1 ≡ 0) (λ (a : Arg). (tree_of a.ty, a.level)) f.indices (levels-read f.indices types indices);
  arguments = All-map (λ (c : pure.Constructor). All (λ a. level_of a ≡ 0) c.arguments) (constructor_of (length f.params)) f.cons
      (All-weaker (λ (c : Constructor). All (λ a. a.level ≡ 0) c.args) (λ c. All (λ a. level_of a ≡ 0) (map (argument_of (length f.params)) c.args)) arguments f.cons cons);
}
  where
    arguments : (c : Constructor) → All (λ a. a.level ≡ 0) c.args → All (λ a. level_of a ≡ 0) (map (argument_of (length f.params)) c.args)
    arguments c levels =
        All-map (λ (a : pure.Argument). level_of a ≡ 0) (argument_of (length f.params)) c.args
        (All-weaker (λ (a : Arg). a.level ≡ 0) (λ a. level_of (argument_of (length f.params) a) ≡ 0) (λ a zero. level_of-argument (length f.params) (tree_of a.ty) a.level a.kind ∙ zero) c.args levels)

-- ---- a family with other constructors

pub kinds-kept : (n : ℕ) (f g : Family) (cons : List Constructor) → g.params ≡ f.params → g.indices ≡ f.indices → All (λ c. HaveKinds n (family_of f) 0 c.args) cons → All (λ c. HaveKinds n (family_of g) 0 c.args) cons
kinds-kept n f g cons params indices kinds =
    All-weaker (λ (c : Constructor). HaveKinds n (family_of f) 0 c.args) (λ c. HaveKinds n (family_of g) 0 c.args)
    (λ c. kinds-moved n (family_of f) (family_of g) 0 c.args (ap (λ ps. length (tele_of ps)) params) (ap (λ is. length (map typed is)) indices)) cons kinds

-- one argument more, whose kind is right
pub kinds-on : (n : ℕ) (f : pure.Family) (args slice new : List Arg) (a : Arg) → slice ≡ args → new ≡ args ++ a ∷ [] → HaveKinds n f 0 args → HasKind n f (length slice) a.kind (tree_of a.ty) → HaveKinds n f 0 new
kinds-on n f args slice new a same is kinds kind =
    subst (HaveKinds n f 0) (sym is) (kinds-push n f 0 args a kinds (subst (λ k. HasKind n f k a.kind (tree_of a.ty)) (ap length same ∙ from (length args)) kind))
  where
    from : (k : ℕ) → k ≡ 0 + k
    from k = omega arith

-- one target more
pub targets-on : (h : Term) (xs ys : List code.Term) (a : code.Term) (f whole : Term) → ys ≡ xs ++ a ∷ [] → applied h (tele_of xs) ≡ f → App f (tree_of a) ≡ whole → applied h (tele_of ys) ≡ whole
targets-on h xs ys a f whole is front last =
    ap (λ ts. applied h (tele_of ts)) is
    ∙ (ap (applied h) (map-append tree_of xs (a ∷ [])) ∙ (applied-push h (tele_of xs) (tree_of a) ∙ (ap (λ g. App g (tree_of a)) front ∙ last)))

pub on-ok : {A E : Type 0} {P Q : Type 0} (r : Result A E) → (P → Q) → OnOk r P → OnOk r Q
on-ok (Ok a) f h = f h
on-ok (Err e) f h = tt
