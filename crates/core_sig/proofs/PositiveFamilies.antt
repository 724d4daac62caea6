-- Offenders against positivity, where arguments have the kinds of their types.
use Rattle.std.proofs.Common.{◌≡◌, ℕ, ◌+◌, Bool, true, false, ◌||◌, if◌then◌else◌, List, [], ◌∷◌, length, Option, Some, None, IsNone, All, refl, ap, ap₂, sym, ◌∙◌, ◌↔◌, true≢false}
use Rattle.std.specs.Option.{option_map_or}
use Rattle.std.specs.List.{list_any}
use Rattle.std.proofs.lemmas.List.Elements.{All-head, All-tail, All-nil, All-cons}
use Rattle.theory.specs.Terms.{Term}
use Rattle.theory.specs.Families as pure
use Rattle.theory.specs.Families.{Lacks, mentions, IsPositive, IsPositiveArgument, IsPositiveConstructor}
use Rattle.core_sig.specs.Kinds.{HasKind}
use Rattle.core_sig.specs.Meanings.{argument_with}
use Rattle.core_sig.specs.Offenders.{offends, offender_in, offender_among, first_offender}
use Rattle.core_sig.specs.declared.family.ArgKind.TheVariants.{Recursive}
use Rattle.core_sig.specs.declared.family.Constructor.{Constructor}
use Rattle.core_sig.proofs.Arguments.{argument_with-recursive}

-- terms that all lack the family
lacks-any : (n : ℕ) (ts : List Term) → All (Lacks n) ts → list_any (mentions n) ts ≡ false
lacks-any n [] all = refl
lacks-any n (t ∷ ts) all = ap₂ ◌||◌ (All-head (Lacks n) t ts all) (lacks-any n ts (All-tail (Lacks n) t ts all))

neither : (a b : Bool) → (a || b) ≡ false → (a ≡ false) × (b ≡ false)
neither true b e = absurd (true≢false e)
neither false b e = (refl, e)

any-lacks : (n : ℕ) (ts : List Term) → list_any (mentions n) ts ≡ false → All (Lacks n) ts
any-lacks n [] none = All-nil (Lacks n)
any-lacks n (t ∷ ts) none =
    let both = neither (mentions n t) (list_any (mentions n) ts) none in
    All-cons (Lacks n) t ts both.0 (any-lacks n ts both.1)

-- a recursive argument does not offend
pub recursive-fits : (n : ℕ) (f : pure.Family) (at count : ℕ) (t : Term) (level : ℕ) → HasKind n f at (Recursive count) t → offends n (argument_with (length f.parameters) t level (Recursive count)) ≡ false
recursive-fits n f at count t level kind =
    ap (offends n) (argument_with-recursive n f at count kind.0 kind.1 t level kind.2 kind.3)
    ∙ ap₂ ◌||◌ (lacks-any n kind.0 (kind.3).inner_lacks) (lacks-any n kind.1 (kind.3).targets_lack)

-- an argument that does not offend is positive
fits-positive : (n : ℕ) (a : pure.Argument) → offends n a ≡ false → IsPositiveArgument n a
fits-positive n (pure.Plain type level) e = e
fits-positive n (pure.Recursive inner targets level) e =
    let both = neither (list_any (mentions n) inner) (list_any (mentions n) targets) e in
    (any-lacks n inner both.0, any-lacks n targets both.1)

positive-fits : (n : ℕ) (a : pure.Argument) → IsPositiveArgument n a → offends n a ≡ false
positive-fits n (pure.Plain type level) h = h
positive-fits n (pure.Recursive inner targets level) h = ap₂ ◌||◌ (lacks-any n inner h.0) (lacks-any n targets h.1)

otherwise : {X : Type 0} (b : Bool) (x : X) (r : Option X) → (if b then Some x else r) ≡ None → (b ≡ false) × (r ≡ None)
otherwise true x r e = absurd (cc)
otherwise false x r e = (refl, e)

none-fits : (n : ℕ) (args : List pure.Argument) (number : ℕ) (c : pure.Constructor) → offender_in n args number c ≡ None → All (IsPositiveArgument n) args × All (Lacks n) c.targets
none-fits n [] number c none = (All-nil (IsPositiveArgument n), any-lacks n c.targets (otherwise (list_any (mentions n) c.targets) 0 None none).0)
none-fits n (a ∷ args) number c none =
    let both = otherwise (offends n a) number (offender_in n args (number + 1) c) none in
    let rest = none-fits n args (number + 1) c both.1 in
    (All-cons (IsPositiveArgument n) a args (fits-positive n a both.0) rest.0, rest.1)

fits-none : (n : ℕ) (args : List pure.Argument) (number : ℕ) (c : pure.Constructor) → All (IsPositiveArgument n) args → All (Lacks n) c.targets → offender_in n args number c ≡ None
fits-none n [] number c all lacks = ap (λ b. if b then Some 0 else None) (lacks-any n c.targets lacks)
fits-none n (a ∷ args) number c all lacks =
    ap (λ b. if b then Some number else offender_in n args (number + 1) c) (positive-fits n a (All-head (IsPositiveArgument n) a args all))
    ∙ fits-none n args (number + 1) c (All-tail (IsPositiveArgument n) a args all) lacks

neither_option : {X Y : Type 0} (f : X → Y) (o : Option X) (r : Option Y) → option_map_or (λ x. Some (f x)) o r ≡ None → (o ≡ None) × (r ≡ None)
neither_option f None r e = (refl, e)
neither_option f (Some x) r e = absurd (cc)

-- no constructor offends exactly where all are positive
none-positive : (n number : ℕ) (cs : List pure.Constructor) → offender_among n number cs ≡ None → All (IsPositiveConstructor n) cs
none-positive n number [] none = All-nil (IsPositiveConstructor n)
none-positive n number (c ∷ cs) none =
    let both = neither_option (λ a. (number, a)) (offender_in n c.arguments 1 c) (offender_among n (number + 1) cs) none in
    let fits = none-fits n c.arguments 1 c both.0 in
    All-cons (IsPositiveConstructor n) c cs (record { arguments = fits.0; targets = fits.1 }) (none-positive n (number + 1) cs both.1)

positive-none : (n number : ℕ) (cs : List pure.Constructor) → All (IsPositiveConstructor n) cs → offender_among n number cs ≡ None
positive-none n number [] all = refl
positive-none n number (c ∷ cs) all =
    let here = All-head (IsPositiveConstructor n) c cs all in
    ap₂ (λ o r. option_map_or (λ a. Some (number, a)) o r) (fits-none n c.arguments 1 c here.arguments here.targets) (positive-none n (number + 1) cs (All-tail (IsPositiveConstructor n) c cs all))

pub offender-positive : (n : ℕ) (f : pure.Family) (r : Option (ℕ × ℕ)) → r ≡ first_offender n f → IsNone r ↔ IsPositive n f
offender-positive n f None is = (λ _. none-positive n 0 f.constructors (sym is), λ _. refl)
offender-positive n f (Some x) is = (λ no. absurd (true≢false no), λ positive. let none = is ∙ positive-none n 0 f.constructors positive in absurd (cc))
