-- The problem of a constructor is over terms without K, and so is its solution.
use Rattle.std.proofs.Common.{ℕ, ◌+◌, ◌-◌, ◌==◌, Option, IfSome, Result, Ok, Err, IfOk, List, [], ◌∷◌, length, map, sym, ap, subst as transport}
use Rattle.theory.specs.Terms.{Term, lift}
use Rattle.theory.specs.Terms.Term.{Var, Fam}
use Rattle.theory.specs.Spines.{head_of, spine_of}
use Rattle.theory.specs.Telescopes.{Telescope}
use Rattle.theory.specs.Families.{Family, Constructor}
use Rattle.theory.specs.Signatures.{Signature}
use Rattle.theory.specs.AxiomKLaws.{LacksAxiomK}
use Rattle.core_terms.specs.CaseTrees.{Step}
use Rattle.core_terms.specs.declared.stop.Stop.{Stop}
use Rattle.tele_eq.specs.Items.{Item, term_at}
use Rattle.tele_eq.specs.TelescopicEquality.{equations}
use Rattle.unification.specs.Injecting.{lifted}
use Rattle.unification.specs.Outcomes as outcome
use Rattle.unification.specs.Outcomes.{Outcome, before}
use Rattle.unification.specs.Records.{argument_items}
use Rattle.unification.specs.Runs as run
use Rattle.unification.specs.Runs.{Run, behind_step, end_of, run_of, unify_of}
use Rattle.unification.specs.States.{State, Problem}
use Rattle.unification.specs.Turns.{Turn, Done, Goes, Fails, Sticks}
use Rattle.unification.proofs.RunLaws.{runs-end}
use Rattle.unification.proofs.RunProperties.{unify-has}
use Rattle.unification.proofs.ScopedEquations.{start-is}
use Rattle.case_trees.specs.Problems.{Member, member_with, member_at, member_of, type_of_variable, problem_of}
use Rattle.elim.specs.k_laws.Lacking.{Lack, ConstructorLacks, ConstructorsLack, SignatureLacks}
use Rattle.elim.specs.k_laws.Walking.{OutcomeLacks, ProblemLacks}
use Rattle.elim.proofs.k_laws.Runs.{Ends, Found, some, none, either-found}
use Rattle.elim.proofs.k_laws.Terms as term
use Rattle.elim.proofs.k_laws.Terms.{appended, mapped, first, rest, spine, at-position}
use Rattle.elim.proofs.k_laws.Records.{argument-types, terms-over}
use Rattle.elim.proofs.k_laws.Kernel.{and-found, family}
use Rattle.elim.proofs.k_laws.States.{StateLacks, starts}
use Rattle.elim.proofs.k_laws.Trials.{MayGo, turns}

-- ---- outcomes

before-lacks : (step : Step) (o : Outcome) → OutcomeLacks o → OutcomeLacks (before step o)
before-lacks step (outcome.Solved steps context solution) h = h
before-lacks step (outcome.Absurd steps context u v) h = tt
before-lacks step (outcome.Stuck steps context u v why) h = tt

run-lacks : (S : Signature) → SignatureLacks S → (s : State) (left end : ℕ) (result : Result Outcome Stop) → StateLacks s → Run S s left result end
    → IfOk result OutcomeLacks
run-lacks S all s left end result h (run.ends _ _ rest turn o is e) = transport (λ x. IfSome x OutcomeLacks) e (by turn)
  where
    by : (turn : Turn) → IfSome (end_of s turn) OutcomeLacks
    by Done = (h.context, h.solution)
    by (Goes step t) = tt
    by (Fails step u v) = tt
    by (Sticks why u v) = tt
run-lacks S all s left end result h (run.refused _ _ rest x is) = tt
run-lacks S all s left end result h (run.goes _ t _ rest _ step result' is further) =
    behind result'
    (run-lacks S all t rest end result'
    (transport (λ r. IfOk r MayGo) (ap (λ (r : Result (Option Turn) Stop × ℕ). r.0) is) (turns S all s h left).only.is) further)
  where
    behind : (r : Result Outcome Stop) → IfOk r OutcomeLacks → IfOk (behind_step step r) OutcomeLacks
    behind (Ok o) k = before-lacks step o k
    behind (Err d) k = tt

pub unify : (S : Signature) → SignatureLacks S → (p : Problem) (left : ℕ) → ProblemLacks p → Ends OutcomeLacks (unify_of S p left)
unify S all p left h = record {
  only = record {
    is = unify-has S p left OutcomeLacks (λ s start.
        run-lacks S all s left (run_of S s left).1 (run_of S s left).0
        (transport StateLacks (sym (start-is p s start)) (starts p (equations p.telescope p.left p.right) h)) (runs-end S s left));
  };
}

-- ---- members

pub record MemberLacks (m : Member) : Type 0 where
  pub parameters : Lack m.parameters
  pub indices : Lack m.indices
  pub constructors : ConstructorsLack m.family.constructors

with-spine : (n : ℕ) (us : List Term) (f : Family) → Lack us → ConstructorsLack f.constructors → Found MemberLacks (member_with n us f)
with-spine n us f h k =
    let count = length f.parameters in
    either-found (length us == count + length f.indices)
    (some (record { parameters = first count us h; indices = rest count us h; constructors = k })) none

at-head : (S : Signature) → SignatureLacks S → (h : Term) (us : List Term) → Lack us → Found MemberLacks (member_at S h us)
at-head S all (Fam n) us k = and-found (family S n all) (λ f hf. with-spine n us f k hf)
at-head S all (Var x) us k = none
at-head S all _ us k = none

pub member : (S : Signature) → SignatureLacks S → (t : Term) → LacksAxiomK t → Found MemberLacks (member_of S t)
member S all t h = at-head S all (head_of t) (spine_of t) (spine t h)

pub variable-type : (context : Telescope) (x : ℕ) → Lack context → LacksAxiomK (type_of_variable context x)
variable-type context x h =
    term.lifted (term_at context (length context - (x + 1))) (x + 1) 0 (at-position context (length context - (x + 1)) h)

pub problem : (context : Telescope) (x : ℕ) (m : Member) (number : ℕ) (c : Constructor) → Lack context → MemberLacks m → ConstructorLacks c
    → ProblemLacks (problem_of context x m number c)
problem context x m number c h k l =
    let count = length c.arguments in
    record {
      context = appended context (map (λ (item : Item). item.type) (argument_items m.n m.parameters c)) h (argument-types m.n m.parameters c k.parameters l);
      left = terms-over m.n number m.parameters c k.parameters l;
      right = appended (lifted count m.indices) (Var (x + count) ∷ [])
          (mapped (λ t. lift t count 0) m.indices (λ t p. term.lifted t count 0 p) k.indices) (tt, tt);
    }
