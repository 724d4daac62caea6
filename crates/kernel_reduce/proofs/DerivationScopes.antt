-- A term with a derivation is scoped: each number in it was looked up.
use Rattle.std.proofs.Common.{ℕ, List, [], ◌∷◌, map}
use Rattle.std.proofs.lemmas.List.Elements.{All-nil, All-cons, All-head, All-tail}
use Rattle.std.proofs.lemmas.Option.{slice_get_within}
use Rattle.std.specs.List.{All}
use Rattle.theory.specs.Terms.{Term}
use Rattle.theory.specs.Terms.Term.{Var, Sort, Pi, Lam, App, Let}
use Rattle.theory.specs.Substitutions.{weaken, ups, inst, extend}
use Rattle.theory.specs.Telescopes.{Context, Telescope, products, applied}
use Rattle.theory.specs.Families.{recursive_type}
use Rattle.theory.specs.Signatures.{Signature, TypeOf}
use Rattle.theory.specs.Signatures.TypeOf.{constant, family, constructor, eliminator, axiom_k}
use Rattle.theory.specs.SignatureScopes.{HasEntries}
use Rattle.theory.specs.Typing.{Has}
use Rattle.theory.specs.Typing.IsContext.{empty, bind}
use Rattle.theory.specs.Typing.Has.{variable, sort, product, function, application, local, symbol, below, below_sort}
use Rattle.theory.proofs.Scoping.{term_scoped}
use Rattle.kernel_reduce.specs.SignatureLaws.{TypedTermScoped, TypedContextScoped}

-- an instance keeps the numbers of its term
pub entries-before_inst : (S : Signature) (s : ℕ → Term) (t : Term) → HasEntries S (inst s t) → HasEntries S t
entries-before_inst S s (Var v) h = tt
entries-before_inst S s (Pi a b) h = (entries-before_inst S s a h.0, entries-before_inst S (ups s) b h.1)
entries-before_inst S s (Lam a b) h = (entries-before_inst S s a h.0, entries-before_inst S (ups s) b h.1)
entries-before_inst S s (App f a) h = (entries-before_inst S s f h.0, entries-before_inst S s a h.1)
entries-before_inst S s (Let a t b) h =
    (entries-before_inst S s a h.0, entries-before_inst S s t h.1, entries-before_inst S (ups s) b h.2)
entries-before_inst S s _ h = h

symbol-entries : {S : Signature} {t a : Term} → TypeOf S t a → HasEntries S t
symbol-entries (constant n at) = (_, _, _, at)
symbol-entries (family n at) = (_, at)
symbol-entries (constructor n number {f} {c} at chosen) = (f, at, slice_get_within f.constructors number c chosen)
symbol-entries (eliminator n m place at made) = (_, at)
symbol-entries (axiom_k i m place made) = tt

pub derivation-entries : {S : Signature} {G : Context} {t a : Term} → Has S G t a → HasEntries S t
derivation-entries (variable n context at) = tt
derivation-entries (sort i context limit) = tt
derivation-entries (product i j da db) = (derivation-entries da, derivation-entries db)
derivation-entries (function i j da db dc) = (derivation-entries da, derivation-entries db)
derivation-entries (application df du) = (derivation-entries df, derivation-entries du)
derivation-entries {S} (local {t = t} {b = b} i da dt db) = (
  derivation-entries da,
  derivation-entries dt,
  entries-before_inst S (extend Var t) b (derivation-entries db),
)
derivation-entries (symbol context type) = symbol-entries type
derivation-entries (below i dt le db) = derivation-entries dt
derivation-entries (below_sort i dt le) = derivation-entries dt

pub typed_term-scoped : TypedTermScoped
typed_term-scoped S G t a d = record { variables = term_scoped d; entries = derivation-entries d }

pub typed_context-scoped : TypedContextScoped
typed_context-scoped S G empty = tt
typed_context-scoped S G (bind {G = H} {a = a} i context da) = (typed_term-scoped S H a (Sort i) da, typed_context-scoped S H context)

-- the parts of products, and the arguments of a spine

pub products-entries : (S : Signature) (tele : Telescope) (body : Term) → HasEntries S (products tele body)
    → All (HasEntries S) tele × HasEntries S body
products-entries S [] body h = (All-nil (HasEntries S), h)
products-entries S (a ∷ tele) body h =
    let rest = products-entries S tele body h.1 in
    (All-cons (HasEntries S) a tele h.0 rest.0, rest.1)

pub applied-entries : (S : Signature) (head : Term) (us : List Term) → HasEntries S (applied head us)
    → HasEntries S head × All (HasEntries S) us
applied-entries S head [] h = (h, All-nil (HasEntries S))
applied-entries S head (u ∷ us) h =
    let rest = applied-entries S (App head u) us h in
    (rest.0.0, All-cons (HasEntries S) u us rest.0.1 rest.1)

map_inst-entries : (S : Signature) (s : ℕ → Term) (us : List Term) → All (HasEntries S) (map (inst s) us) → All (HasEntries S) us
map_inst-entries S s [] h = All-nil (HasEntries S)
map_inst-entries S s (u ∷ us) h =
    All-cons (HasEntries S) u us (entries-before_inst S s u (All-head (HasEntries S) (inst s u) (map (inst s) us) h))
    (map_inst-entries S s us (All-tail (HasEntries S) (inst s u) (map (inst s) us) h))

-- the record of a recursive argument has the numbers of its type
pub recursive-entries : (S : Signature) (s : ℕ → Term) (head : Term) (inner : Telescope) (targets : List Term)
    → HasEntries S (recursive_type s head inner targets) → All (HasEntries S) inner × All (HasEntries S) targets
recursive-entries S s head [] targets h =
    (All-nil (HasEntries S), map_inst-entries S s targets (applied-entries S head (map (inst s) targets) h).1)
recursive-entries S s head (a ∷ inner) targets h =
    let rest = recursive-entries S (ups s) (weaken head) inner targets h.1 in
    (All-cons (HasEntries S) a inner (entries-before_inst S s a h.0) rest.0, rest.1)
