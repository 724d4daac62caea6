-- The states of unification after a rule: a context, sides of equations and a solution without K. The types of equations and of their
-- places are never put into any of these.
use Rattle.std.proofs.Common.{ℕ, zero, suc, ◌+◌, ◌==◌, List, [], ◌∷◌, ◌++◌, length, drop}
use Rattle.theory.specs.Terms.{Term}
use Rattle.theory.specs.Telescopes.{Telescope}
use Rattle.theory.specs.Families.{Family, Constructor}
use Rattle.theory.specs.Signatures.{reflexivity}
use Rattle.theory.specs.AxiomKLaws.{LacksAxiomK}
use Rattle.core_terms.specs.Levels.{variable}
use Rattle.tele_eq.specs.Items.{Item, term_at}
use Rattle.tele_eq.specs.Environments.{Environment, put}
use Rattle.tele_eq.specs.TelescopicEquality.{equations}
use Rattle.unification.specs.States.{Equation, State, Problem, equations_at, starting}
use Rattle.unification.specs.Moving.{over_first, behind, moved}
use Rattle.unification.specs.Occurrences.{order_without}
use Rattle.unification.specs.Solving.{reordered, solved, new_context, solved_state, deleted_state}
use Rattle.unification.specs.Injecting.{group_proofs, injected_state}
use Rattle.unification.specs.Records.{argument_items, constructor_terms}
use Rattle.elim.specs.k_laws.Lacking.{Lack}
use Rattle.elim.specs.k_laws.Walking.{ProblemLacks}
use Rattle.elim.proofs.k_laws.Terms.{PlacesLack, one, placed, mapped, at-position, nearest}

abbrev pub SidesLack : List Equation → Type 0
SidesLack [] = Unit {0}
SidesLack (e ∷ equations) = (LacksAxiomK e.left × LacksAxiomK e.right) × SidesLack equations

pub record StateLacks (s : State) : Type 0 where
  pub context : Lack s.context
  pub sides : SidesLack s.equations
  pub solution : Lack s.solution

-- ---- equations

pub sides-moved : (items types : Environment) (side : Term → Term) (size depth : ℕ) (es : List Equation)
    → ((t : Term) → LacksAxiomK t → LacksAxiomK (side t)) → SidesLack es → SidesLack (moved items types side size depth es)
sides-moved items types side size depth [] k h = tt
sides-moved items types side size depth (e ∷ es) k h =
    ((k e.left h.0.0, k e.right h.0.1), sides-moved items types side (size + 1) (depth + 1) es k h.1)

sides-after : (n : ℕ) (es : List Equation) → SidesLack es → SidesLack (drop n es)
sides-after zero es h = h
sides-after (suc n) [] h = tt
sides-after (suc n) (e ∷ es) h = sides-after n es h.1

both-sides : (es ds : List Equation) → SidesLack es → SidesLack ds → SidesLack (es ++ ds)
both-sides [] ds h k = k
both-sides (e ∷ es) ds h k = (h.0, both-sides es ds h.1 k)

pub sides-at : (X : List Item) (types : Telescope) (us vs : List Term) → Lack us → Lack vs → SidesLack (equations_at X types us vs)
sides-at [] types us vs h k = tt
sides-at (x ∷ X) [] us vs h k = tt
sides-at (x ∷ X) (a ∷ types) [] vs h k = tt
sides-at (x ∷ X) (a ∷ types) (u ∷ us) [] h k = tt
sides-at (x ∷ X) (a ∷ types) (u ∷ us) (v ∷ vs) h k = ((h.0, k.0), sides-at X types us vs h.1 k.1)

-- ---- contexts

pub reordered-lacks : (order : List ℕ) → PlacesLack (reordered order)
reordered-lacks order depth position = tt

solved-lacks : (n : ℕ) (order : List ℕ) (p : ℕ) (u : Term) → LacksAxiomK u → PlacesLack (solved n order p u)
solved-lacks n order p u h depth j =
    one (j == p) (put (reordered order) n depth u) (reordered order depth j) (placed (reordered order) n depth u (reordered-lacks order) h) tt

pub context-lacks : (context : Telescope) (s : Environment) (depth : ℕ) (order : List ℕ) → PlacesLack s → Lack context → Lack (new_context context s depth order)
context-lacks context s depth [] k h = tt
context-lacks context s depth (j ∷ order) k h =
    (placed s j depth (term_at context j) k (at-position context j h), context-lacks context s (depth + 1) order k h)

-- ---- the rules

pub solves : (s : State) (i p : ℕ) (A u : Term) → StateLacks s → LacksAxiomK u → StateLacks (solved_state s i p A u)
solves s i p A u h k =
    let n = length s.context in
    let order = order_without s.context p in
    let m = length order in
    let places = solved-lacks n order p u k in
    let A' = put (reordered order) n m A in
    let u' = put (reordered order) n m u in
    let items = behind n 1 m (solved n order p u) (over_first m (u' ∷ [])) in
    let types = behind n 1 m (solved n order p u) (over_first m (reflexivity i A' u' ∷ [])) in
    record {
      context = context-lacks s.context (solved n order p u) 0 order places h.context;
      sides =
          sides-moved items types (put (solved n order p u) n m) (n + 1) m (drop 1 s.equations) (λ t l. placed (solved n order p u) n m t places l)
          (sides-after 1 s.equations h.sides);
      solution = mapped (put (solved n order p u) n m) s.solution (λ t l. placed (solved n order p u) n m t places l) h.solution;
    }

pub deletes : (s : State) (i : ℕ) (A u : Term) → StateLacks s → StateLacks (deleted_state s i A u)
deletes s i A u h =
    let n = length s.context in
    let items = behind n 1 n variable (over_first n (u ∷ [])) in
    let types = behind n 1 n variable (over_first n (reflexivity i A u ∷ [])) in
    record {
      context = h.context;
      sides = sides-moved items types (λ t. t) (n + 1) n (drop 1 s.equations) (λ t l. l) (sides-after 1 s.equations h.sides);
      solution = h.solution;
    }

pub injects : (s : State) (g n number : ℕ) (f : Family) (c : Constructor) (ps us vs : List Term) → StateLacks s → Lack us → Lack vs
    → StateLacks (injected_state s g n number f c ps us vs)
injects s g n number f c ps us vs h hu hv =
    let m = length s.context in
    let new = m + length c.arguments in
    let X = argument_items n ps c in
    let items = behind m g new variable (over_first new (constructor_terms n number ps c)) in
    let types = behind m g new variable (over_first new (group_proofs n number f c ps us vs)) in
    record {
      context = h.context;
      sides =
          both-sides (equations_at X (equations X us vs) us vs) (moved items types (λ t. t) (m + g) new (drop g s.equations))
          (sides-at X (equations X us vs) us vs hu hv)
          (sides-moved items types (λ t. t) (m + g) new (drop g s.equations) (λ t l. l) (sides-after g s.equations h.sides));
      solution = h.solution;
    }

pub starts : (p : Problem) (types : Telescope) → ProblemLacks p → StateLacks (starting p types)
starts p types h = record {
  context = h.context;
  sides = sides-at p.telescope types p.left p.right h.left h.right;
  solution = nearest (length p.context);
}
