-- The points of walks and trees, and the pairs of clauses: their terms, whatever they were compared with, hold no K.
use Rattle.std.proofs.Common.{◌≡◌, ℕ, true, Option, Some, None, IfSome, IfOk, List, [], ◌∷◌, ◌++◌, map, sym, subst as transport}
use Rattle.std.proofs.lemmas.List.{map-append}
use Rattle.theory.specs.Terms.{Term}
use Rattle.theory.specs.Terms.Term.{Con}
use Rattle.theory.specs.Substitutions.{fill}
use Rattle.theory.specs.Telescopes.{Telescope, applied}
use Rattle.theory.specs.Eliminators.{no_variable}
use Rattle.theory.specs.Signatures.{Signature}
use Rattle.theory.specs.AxiomKLaws.{LacksAxiomK}
use Rattle.core_terms.specs.Patterns as pattern
use Rattle.core_terms.specs.Patterns.{Pat, Pats}
use Rattle.unification.specs.Built.{Built, built_of}
use Rattle.case_trees.specs.Pairs.{Pair, Pairs, Waits, Binds, Passes, Keeps, Builds, Clashes, nil, cons, waiting, term_in, terms_in, unbound, all_unbound, bound_in, all_bound}
use Rattle.case_trees.specs.Keeping.{kept_over, unless_built, keep, keep_all}
use Rattle.case_trees.specs.Points.{Point, bounded_point, bounded_pairs, moved_point, moved_pairs, point_keeping, under_solution}
use Rattle.case_trees.specs.Working.{Rooms, work_pairs}
use Rattle.case_trees.specs.OwnWalks.{or_none}
use Rattle.case_trees.proofs.Shapes.{terms-moved}
use Rattle.case_trees.proofs.Workings as work
use Rattle.case_trees.proofs.Workings.{ReducesTo, Works, WorkAll, Becomes, AllBecome, all-become}
use Rattle.elim.specs.k_laws.Lacking.{Lack, SignatureLacks}
use Rattle.elim.proofs.k_laws.Runs.{Gives, Ends, ok, no, either, weaker}
use Rattle.elim.proofs.k_laws.Terms.{instantiated, solved, mapped, appended, applies, spine-in}
use Rattle.elim.proofs.k_laws.Kernel.{whnf}
use Rattle.elim.proofs.k_laws.Trials.{BuiltLacks, built}

-- ---- terms for variables

pub put-in : (solution : List Term) (t : Term) → Lack solution → LacksAxiomK t → LacksAxiomK (under_solution solution t)
put-in solution t h k = instantiated (fill no_variable solution) t (solved solution h) k

pub all-put : (solution ts : List Term) → Lack solution → Lack ts → Lack (map (under_solution solution) ts)
all-put solution ts h k = mapped (under_solution solution) ts (λ t l. put-in solution t h l) k

-- ---- pairs

-- the last of several terms
pub later : (ts us : List Term) → Lack (ts ++ us) → Lack us
later [] us h = h
later (t ∷ ts) us h = later ts us h.1

pub earlier : (ts us : List Term) → Lack (ts ++ us) → Lack ts
earlier [] us h = tt
earlier (t ∷ ts) us h = (h.0, earlier ts us h.1)

parts : (S : Signature) (w : Term) (b : Built) → built_of S w ≡ Some b → LacksAxiomK w → BuiltLacks b
parts S w b e h = transport (λ o. IfSome o BuiltLacks) e (built S w h).is

inside : (n number : ℕ) (ps us : List Term) → LacksAxiomK (applied (Con n number) (ps ++ us)) → Lack us
inside n number ps us h = later ps us (spine-in (Con n number) (ps ++ us) h).1

again : (n number : ℕ) (ps us vs : List Term) → LacksAxiomK (applied (Con n number) (ps ++ us)) → Lack vs → LacksAxiomK (applied (Con n number) (ps ++ vs))
again n number ps us vs h k =
    applies (Con n number) (ps ++ vs) tt (appended ps vs (earlier ps us (spine-in (Con n number) (ps ++ us) h).1) k)

pub reduced : (S : Signature) → SignatureLacks S → (t w : Term) → ReducesTo S t w → LacksAxiomK t → LacksAxiomK w
reduced S all t w to h = transport (λ r. IfOk r LacksAxiomK) to.run (whnf S true to.units t all h).only.is

pub waits : (pats : Pats) (ts : List Term) → Lack ts → Lack (terms_in (waiting pats ts))
waits pattern.nil ts h = tt
waits (pattern.cons pat pats) [] h = tt
waits (pattern.cons pat pats) (t ∷ ts) h = (h.0, waits pats ts h.1)

mutual
  works : (S : Signature) → SignatureLacks S → (pat : Pat) (t : Term) (pair : Pair) → Works S pat t pair → LacksAxiomK t → LacksAxiomK (term_in pair)
  works S all _ _ _ (work.binds t) h = h
  works S all _ _ _ (work.passes t) h = h
  works S all _ _ _ (work.keeps written t) h = h
  works S all _ _ _ (work.stays m k pats t w to e) h = h
  works S all _ _ _ (work.builds m k pats t w b pairs to e same each) h =
      let p = parts S w b e (reduced S all t w to h) in
      applies (Con b.n b.number) (b.parameters ++ terms_in pairs) tt
      (appended b.parameters (terms_in pairs) p.parameters (work-all S all pats b.arguments pairs each p.arguments))
  works S all _ _ _ (work.clash m k pats t w b to e other) h = reduced S all t w to h
  works S all _ _ _ (work.absurd_stays t w to e) h = h
  works S all _ _ _ (work.absurd_clash t w b to e) h = reduced S all t w to h

  work-all : (S : Signature) → SignatureLacks S → (pats : Pats) (ts : List Term) (pairs : Pairs) → WorkAll S pats ts pairs → Lack ts → Lack (terms_in pairs)
  work-all S all _ _ _ (work.no_patterns terms) h = tt
  work-all S all _ _ _ (work.no_terms pat pats) h = tt
  work-all S all _ _ _ (work.more pat pats t terms pair pairs one clean each) h =
      (works S all pat t pair one h.0, work-all S all pats terms pairs each h.1)
  work-all S all _ _ _ (work.ends pat pats t terms pair one clash) h = (works S all pat t pair one h.0, waits pats terms h.1)

mutual
  becomes : (S : Signature) → SignatureLacks S → (pair new : Pair) → Becomes S pair new → LacksAxiomK (term_in pair) → LacksAxiomK (term_in new)
  becomes S all _ _ (work.worked pat t new one) h = works S all pat t new one h
  becomes S all _ _ (work.inside m k ps pairs new each) h =
      again m k ps (terms_in pairs) (terms_in new) h (become S all pairs new each (inside m k ps (terms_in pairs) h))
  becomes S all _ _ (work.bound t) h = h
  becomes S all _ _ (work.passed t) h = h
  becomes S all _ _ (work.kept written t) h = h
  becomes S all _ _ (work.clashed pat t) h = h

  become : (S : Signature) → SignatureLacks S → (pairs new : Pairs) → AllBecome S pairs new → Lack (terms_in pairs) → Lack (terms_in new)
  become S all _ _ work.none h = h
  become S all _ _ (work.more pair new pairs others one clean each) h = (becomes S all pair new one h.0, become S all pairs others each h.1)
  become S all _ _ (work.ends pair new pairs one clash) h = (becomes S all pair new one h.0, h.1)

-- pairs with terms without K
abbrev pub PairsLack : Pairs → Type 0
PairsLack pairs = Lack (terms_in pairs)

pub worked-pairs : (S : Signature) → SignatureLacks S → (rooms : Rooms) (pairs : Pairs) (left : ℕ) → PairsLack pairs
    → Ends PairsLack (work_pairs S rooms pairs left)
worked-pairs S all rooms pairs left h =
    record { only = weaker {P = AllBecome S pairs} (λ new each. become S all pairs new each h) (record { is = all-become S rooms pairs left }) }

pub pairs-moved : (solution : List Term) (pairs : Pairs) → Lack solution → PairsLack pairs → PairsLack (moved_pairs solution pairs)
pairs-moved solution pairs h k =
    transport Lack (sym (terms-moved (fill no_variable solution) pairs)) (all-put solution (terms_in pairs) h k)

-- ---- the comparisons that are kept

kept : (S : Signature) (n number : ℕ) (ps : List Term) (pairs : Pairs) → ((ts : List Term) → Lack ts → Lack (keep_all S pairs ts)) → (b : Option Built)
    → LacksAxiomK (applied (Con n number) (ps ++ terms_in pairs)) → IfSome b BuiltLacks
    → LacksAxiomK (kept_over (keep_all S pairs) (applied (Con n number) (ps ++ terms_in pairs)) b)
kept S n number ps pairs l None h k = h
kept S n number ps pairs l (Some b) h k =
    applies (Con b.n b.number) (b.parameters ++ keep_all S pairs b.arguments) tt
    (appended b.parameters (keep_all S pairs b.arguments) k.parameters (l b.arguments k.arguments))

unless : (new old : Term) (b : Option Built) → LacksAxiomK new → LacksAxiomK old → LacksAxiomK (unless_built new old b)
unless new old None h k = h
unless new old (Some b) h k = k

mutual
  keeps : (S : Signature) (pair : Pair) (t : Term) → LacksAxiomK (term_in pair) → LacksAxiomK t → LacksAxiomK (keep S pair t)
  keeps S (Builds n number ps pairs) t h k =
      kept S n number ps pairs (λ ts l. keeps-all S pairs ts (inside n number ps (terms_in pairs) h) l) (built_of S t) h (built S t k).is
  keeps S (Clashes pat w) t h k = unless w t (built_of S t) h k
  keeps S (Waits pat u) t h k = k
  keeps S (Binds u) t h k = k
  keeps S (Passes u) t h k = k
  keeps S (Keeps written u) t h k = k

  keeps-all : (S : Signature) (pairs : Pairs) (ts : List Term) → Lack (terms_in pairs) → Lack ts → Lack (keep_all S pairs ts)
  keeps-all S (cons pair pairs) (t ∷ ts) h k = (keeps S pair t h.0 k.0, keeps-all S pairs ts h.1 k.1)
  keeps-all S (cons pair pairs) [] h k = k
  keeps-all S nil ts h k = k

-- ---- the terms of a clause's variables

both : (one other : List (Option Term)) → Lack (map or_none one) → Lack (map or_none other) → Lack (map or_none (one ++ other))
both one other h k = transport Lack (sym (map-append or_none one other)) (appended (map or_none one) (map or_none other) h k)

mutual
  unbound-lacks : (pat : Pat) → Lack (map or_none (unbound pat))
  unbound-lacks pattern.Bind = (tt, tt)
  unbound-lacks pattern.Wild = tt
  unbound-lacks (pattern.Dot written) = tt
  unbound-lacks (pattern.Con n number pats) = all-unbound pats
  unbound-lacks pattern.Absurd = tt

  all-unbound : (pats : Pats) → Lack (map or_none (all_unbound pats))
  all-unbound pattern.nil = tt
  all-unbound (pattern.cons pat pats) = both (unbound pat) (all_unbound pats) (unbound-lacks pat) (all-unbound pats)

mutual
  bound-lacks : (pair : Pair) → LacksAxiomK (term_in pair) → Lack (map or_none (bound_in pair))
  bound-lacks (Waits pat t) h = unbound-lacks pat
  bound-lacks (Binds t) h = (h, tt)
  bound-lacks (Passes t) h = tt
  bound-lacks (Keeps written t) h = tt
  bound-lacks (Builds n number ps pairs) h = all-bound pairs (inside n number ps (terms_in pairs) h)
  bound-lacks (Clashes pat t) h = unbound-lacks pat

  pub all-bound : (pairs : Pairs) → PairsLack pairs → Lack (map or_none (all_bound pairs))
  all-bound nil h = tt
  all-bound (cons pair pairs) h = both (bound_in pair) (all_bound pairs) (bound-lacks pair h.0) (all-bound pairs h.1)

-- ---- points

-- the context and the terms; its goal is never put into them
pub record PointLacks (p : Point) : Type 0 where
  pub context : Lack p.context
  pub terms : Lack p.terms

pub low-point : (p : Point) → PointLacks p → Gives PointLacks (bounded_point p)
low-point p h = either _ (ok h) no

pub low-pairs : (pairs : Pairs) → PairsLack pairs → Gives PairsLack (bounded_pairs pairs)
low-pairs pairs h = either _ (ok h) no

pub keeping : (S : Signature) (p : Point) (pairs : Pairs) → PointLacks p → PairsLack pairs → Gives PointLacks (point_keeping S p pairs)
keeping S p pairs h k = low-point (record p { terms = keep_all S pairs p.terms }) (record { context = h.context; terms = keeps-all S pairs p.terms k h.terms })

pub point-moved : (p : Point) (context : Telescope) (solution : List Term) → PointLacks p → Lack context → Lack solution
    → PointLacks (moved_point p context solution)
point-moved p context solution h k l = record { context = k; terms = all-put solution p.terms l h.terms }
