-- The plan of a function holds no K: none is in the walks of its clauses, or at the leaves of its trees.
use Rattle.std.proofs.Common.{ℕ, zero, suc, ◌+◌, Option, List, [], ◌∷◌, length, get_or}
use Rattle.theory.specs.Terms.{Term}
use Rattle.theory.specs.Terms.Term.{Var, Sort, Pi, Lam, App, Let, Const, Fam, Con, Elim, AxiomK}
use Rattle.theory.specs.Signatures.{Signature}
use Rattle.theory.specs.WellFormed.{provisional}
use Rattle.theory.specs.AxiomKLaws.{LacksAxiomK}
use Rattle.core_terms.specs.CaseTrees.{Tree}
use Rattle.core_terms.specs.Levels.{variable}
use Rattle.resolve.specs.Functions.{Function}
use Rattle.tree_translation.specs.structural_rec.Choices.{choose}
use Rattle.tele_eq.specs.Items.{each_position}
use Rattle.tele_eq.specs.Levels.{place_in}
use Rattle.unification.specs.Solving.{reordered}
use Rattle.tree_translation.specs.Entries.{ordered_variables}
use Rattle.tree_translation.specs.Plans.{Part, Plan, no_part}
use Rattle.tree_translation.specs.Recursion.{Recursion, order_of, ordered_telescope, ordered_term}
use Rattle.tree_translation.specs.Naming.{part_named}
use Rattle.clause_reports.specs.elaboration.Functions.{finished, first_domains, helper_level, helpers_finished, own_finished, own_part, plan_of, position_chosen, recursion_in}
use Rattle.clause_reports.specs.elaboration.Refusals.{answers}
use Rattle.clause_reports.specs.elaboration.Walking.{Session, Walked}
use Rattle.elim.specs.k_laws.Lacking.{Lack, SignatureLacks}
use Rattle.elim.specs.k_laws.Walking.{TreeLacks}
use Rattle.elim.proofs.k_laws.Runs.{Ends, Any, anyhow, done, next}
use Rattle.elim.proofs.k_laws.Terms.{nearest}
use Rattle.elim.proofs.k_laws.Signatures.{provisional-lacks}
use Rattle.elim.proofs.k_laws.States.{context-lacks, reordered-lacks}
use Rattle.elim.proofs.k_laws.Trees.{tree-grows}
use Rattle.elim.proofs.k_laws.Resolved.{FunctionLacks}
use Rattle.elim.proofs.k_laws.Clauses.{HelpersLack, OpenedLacks, WalkedLacks, WalksLack, all-clauses, walked}

-- the tree and the walks of a part
pub record PartLacks (part : Part) : Type 0 where
  pub tree : TreeLacks part.tree
  pub walks : WalksLack part.walks

abbrev pub PartsLack : List Part → Type 0
PartsLack [] = Unit {0}
PartsLack (part ∷ parts) = PartLacks part × PartsLack parts

-- a part by its number
pub a-part : (parts : List Part) (k : ℕ) → PartsLack parts → PartLacks (get_or parts k no_part)
a-part [] k h = record { tree = (tt, tt); walks = tt }
a-part (part ∷ parts) zero h = h.0
a-part (part ∷ parts) (suc k) h = a-part parts k h.1

-- ---- the start

domains : (count : ℕ) (type : Term) → LacksAxiomK type → Lack (first_domains count type)
domains zero type h = tt
domains (suc count) (Pi a b) h = (h.0, domains count b h.1)
domains (suc count) (Var n) h = tt
domains (suc count) (Sort i) h = tt
domains (suc count) (Lam a b) h = tt
domains (suc count) (App f a) h = tt
domains (suc count) (Let a t b) h = tt
domains (suc count) (Const n) h = tt
domains (suc count) (Fam n) h = tt
domains (suc count) (Con n c) h = tt
domains (suc count) (Elim n m) h = tt
domains (suc count) (AxiomK i m) h = tt

positions : (f : ℕ → Term) (j count : ℕ) → ((i : ℕ) → LacksAxiomK (f i)) → Lack (each_position f j count)
positions f j zero k = tt
positions f j (suc count) k = (k j, positions f (j + 1) count k)

in-order : (order : List ℕ) (depth : ℕ) → Lack (ordered_variables order depth)
in-order order depth = positions (λ i. variable depth (place_in order i)) 0 (length order) (λ i. tt)

-- ---- trees

with-tree : (level : ℕ) (w : Walked) (t : Tree) → WalkedLacks w → TreeLacks t → PartLacks (finished level w t)
with-tree level w t h k = record { tree = k; walks = h.walks }

own : (s : Session) → SignatureLacks s.signature → (r : Option Recursion) (w : Walked) (left : ℕ) → WalkedLacks w → Ends PartLacks (own_finished s r w left)
own s all r w left h =
    let count = length w.part.tele in
    let order = order_of count r in
    next
    (walked s.signature s.name
    (tree-grows s.signature all (ordered_telescope w.part.tele order) (ordered_term count order w.part.goal) (ordered_variables order count) w.clauses left
    (context-lacks w.part.tele (reordered order) 0 order (reordered-lacks order) h.part.tele) (in-order order count)))
    (λ t rest k. done (with-tree w.part.level w t h k))

helpers : (s : Session) → SignatureLacks s.signature → (r : Option Recursion) (level number : ℕ) (ws : List Walked) (left : ℕ) → HelpersLack ws
    → Ends PartsLack (helpers_finished s r level number ws left)
helpers s all r level number [] left h = done tt
helpers s all r level number (w ∷ ws) left h =
    next
    (walked s.signature (part_named s.name number)
    (tree-grows s.signature all w.part.tele w.part.goal w.part.terms w.clauses left h.0.part.tele h.0.part.terms)) (λ t rest k.
    next (helpers s all r level (number + 1) ws rest h.1) (λ parts end l.
    done (with-tree (helper_level r level w.part.level) w t h.0 k, l)))

-- ---- the plan

abbrev pub PlanLacks : Plan → Type 0
PlanLacks plan = PartsLack plan.parts

pub planned : (S : Signature) → SignatureLacks S → (f : Function) (level left : ℕ) → FunctionLacks f → Ends PlanLacks (plan_of S f level left)
planned S all f level left h =
    let s : Session = record { signature = provisional S f.name f.type; name = f.name; own = length S.entries } in
    let part = own_part f level in
    let each = provisional-lacks S all f.name f.type h.type in
    let start : OpenedLacks part = record { tele = domains f.arity f.type h.type; terms = nearest f.arity } in
    next (all-clauses s each 0 part 0 1 f.clauses left start h.clauses) (λ given rest k.
    next {P = Any} (anyhow (answers (position_chosen s (choose S part.tele s.own given.uses)) rest)) (λ position more p.
    next
    (own s each (recursion_in S part.tele position) (record { part = part; clauses = f.clauses; walks = given.walks; sides = given.sides }) more
    (record { part = start; walks = k.walks })) (λ one end l.
    next (helpers s each (recursion_in S part.tele position) level 1 given.helpers end k.helpers) (λ others last q. done (l, q)))))
