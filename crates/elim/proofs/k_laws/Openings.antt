-- The telescope of a helper, abstracted over a scrutinee, holds no K where the context and the scrutinee's type hold none.
use Rattle.std.proofs.Common.{ℕ, ◌+◌, ◌-◌, false, List, [], ◌∷◌, ◌++◌, length}
use Rattle.theory.specs.Terms.{Term, lift, lift_var}
use Rattle.theory.specs.Terms.Term.{Var, Sort, Pi, Lam, App, Let, Const, Fam, Con, Elim, AxiomK}
use Rattle.theory.specs.Telescopes.{Telescope}
use Rattle.theory.specs.Signatures.{Signature}
use Rattle.theory.specs.AxiomKLaws.{LacksAxiomK}
use Rattle.kernel_reduce.specs.Reduction.{nesting, normal_of}
use Rattle.tele_eq.specs.Items.{term_at}
use Rattle.tele_eq.specs.Levels.{is_among}
use Rattle.unification.specs.Solving.{reordered}
use Rattle.with_abstraction.specs.Abstractions.{Abstracted, abstract_over_of, abstracted, opened, opened_types}
use Rattle.with_abstraction.specs.Needed.{needed, widened}
use Rattle.with_abstraction.specs.NormalForms.{NormalForms, normal_forms_of, plain_normals_of}
use Rattle.with_abstraction.specs.Occurrences.{is_occurrence, without, without_under}
use Rattle.with_abstraction.specs.Orders.{arranged, behind, in_front}
use Rattle.elim.specs.k_laws.Lacking.{Lack, SignatureLacks}
use Rattle.elim.proofs.k_laws.Runs.{Ends, Any, anyhow, done, next, if-low}
use Rattle.elim.proofs.k_laws.Terms.{one, lifted, placed, appended, at-position}
use Rattle.elim.proofs.k_laws.Kernel.{normal}
use Rattle.elim.proofs.k_laws.States.{reordered-lacks}

-- ---- terms without a term

left-out : (t : Term) (under : ℕ) (u : Term) → LacksAxiomK u → LacksAxiomK (without_under t under u)
left-out t under (Var n) h = one (is_occurrence t under (Var n)) (Var under) (Var (lift_var n 1 under)) tt tt
left-out t under (Sort i) h = one (is_occurrence t under (Sort i)) (Var under) (Sort i) tt tt
left-out t under (Pi a b) h =
    one (is_occurrence t under (Pi a b)) (Var under) (Pi (without_under t under a) (without_under t (under + 1) b)) tt
    (left-out t under a h.0, left-out t (under + 1) b h.1)
left-out t under (Lam a b) h =
    one (is_occurrence t under (Lam a b)) (Var under) (Lam (without_under t under a) (without_under t (under + 1) b)) tt
    (left-out t under a h.0, left-out t (under + 1) b h.1)
left-out t under (App f a) h =
    one (is_occurrence t under (App f a)) (Var under) (App (without_under t under f) (without_under t under a)) tt
    (left-out t under f h.0, left-out t under a h.1)
left-out t under (Let a u b) h =
    one (is_occurrence t under (Let a u b)) (Var under) (Let (without_under t under a) (without_under t under u) (without_under t (under + 1) b)) tt
    (left-out t under a h.0, left-out t under u h.1, left-out t (under + 1) b h.2)
left-out t under (Const c) h = one (is_occurrence t under (Const c)) (Var under) (Const c) tt tt
left-out t under (Fam f) h = one (is_occurrence t under (Fam f)) (Var under) (Fam f) tt tt
left-out t under (Con f c) h = one (is_occurrence t under (Con f c)) (Var under) (Con f c) tt tt
left-out t under (Elim f m) h = one (is_occurrence t under (Elim f m)) (Var under) (Elim f m) tt tt
left-out t under (AxiomK i m) h = one (is_occurrence t under (AxiomK i m)) (Var under) (AxiomK i m) tt h

-- ---- types

all-widened : (n j : ℕ) (types : Telescope) → Lack types → Lack (widened n j types)
all-widened n j [] h = tt
all-widened n j (a ∷ types) h = (lifted a (n - j) 0 h.0, all-widened n (j + 1) types h.1)

all-opened : (t : Term) (kept : List ℕ) (j : ℕ) (types : List Term) → Lack types → Lack (opened t kept j types)
all-opened t kept j [] h = tt
all-opened t kept j (a ∷ types) h =
    (one (is_among j kept) (lift a 1 0) (without t a) (lifted a 1 0 h.0) (left-out t 0 a h.0), all-opened t kept (j + 1) types h.1)

all-arranged : (order : List ℕ) (n : ℕ) (types : List Term) (depth : ℕ) (levels : List ℕ) → Lack types → Lack (arranged order n types depth levels)
all-arranged order n types depth [] h = tt
all-arranged order n types depth (j ∷ levels) h =
    (placed (reordered order) (n + 1) depth (term_at types j) (reordered-lacks order) (at-position types j h), all-arranged order n types (depth + 1) levels h)

telescope-lacks : (m : NormalForms) (type : Term) → Lack m.types → LacksAxiomK type → Lack (abstracted m type).telescope
telescope-lacks m type h k =
    let n = length m.types in
    let types = opened_types n m.scrutinee type (widened n 0 m.types) in
    let all = types ++ lift type 1 0 ∷ [] in
    let order = in_front n types ++ n ∷ behind n types in
    all-arranged order n all 0 order
    (appended types (lift type 1 0 ∷ [])
    (all-opened m.scrutinee (needed n (widened n 0 m.types) type) 0 (widened n 0 m.types) (all-widened n 0 m.types h)) (lifted type 1 0 k, tt))

-- ---- normal forms

normals : (S : Signature) → SignatureLacks S → (types : Telescope) (left : ℕ) → Lack types → Ends Lack (plain_normals_of S types left)
normals S all [] left h = done tt
normals S all (a ∷ types) left h =
    next (normal S false nesting a left all h.0) (λ b rest k. next (normals S all types rest h.1) (λ others end l. done (k, l)))

abbrev FormsLack : NormalForms → Type 0
FormsLack m = Lack m.types

forms : (S : Signature) → SignatureLacks S → (context : Telescope) (goal t : Term) (left : ℕ) → Lack context → Ends FormsLack (normal_forms_of S context goal t left)
forms S all context goal t left h =
    next {P = Any} (anyhow (normal_of S false nesting goal left)) (λ G rest p.
    next (normals S all context rest h) (λ types more k. next {P = Any} (anyhow (normal_of S false nesting t more)) (λ u end q. done k)))

abbrev pub AbstractedLacks : Abstracted → Type 0
AbstractedLacks a = Lack a.telescope

pub abstracts : (S : Signature) → SignatureLacks S → (context : Telescope) (goal t type : Term) (left : ℕ) → Lack context → LacksAxiomK type
    → Ends AbstractedLacks (abstract_over_of S context goal t type left)
abstracts S all context goal t type left h k =
    next (forms S all context goal t left h) (λ m rest l. if-low _ (λ end. done (telescope-lacks m type l k)) rest)
