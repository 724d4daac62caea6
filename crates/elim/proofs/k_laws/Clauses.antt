-- The walks of all clauses of a function, and its helpers, are over terms without K.
use Rattle.std.proofs.Common.{◌≡◌, ℕ, ◌+◌, ◌-◌, Result, Ok, Err, List, [], ◌∷◌, ◌++◌, length, map, reverse, refl, sym, subst as transport}
use Rattle.theory.specs.Terms.{Term}
use Rattle.theory.specs.Terms.Term.{Var}
use Rattle.theory.specs.Substitutions.{inst}
use Rattle.theory.specs.Telescopes.{Telescope, products}
use Rattle.theory.specs.Signatures.{Signature}
use Rattle.theory.specs.AxiomKLaws.{LacksAxiomK}
use Rattle.core_terms.specs.Answers.{Spent, bounded}
use Rattle.core_terms.specs.CaseTrees.{Walk}
use Rattle.core_terms.specs.Clauses as clause
use Rattle.core_terms.specs.Clauses.{Clause, Clauses, Right, Is}
use Rattle.core_terms.specs.Verdicts.{Verdict}
use Rattle.core_terms.specs.Verdicts.Verdict.{Yes, No}
use Rattle.core_terms.specs.declared.stop.Stop.{Stop}
use Rattle.kernel_check.specs.Checking.{check_of, infer_sort_of}
use Rattle.kernel_reduce.specs.Reduction.{nesting}
use Rattle.case_trees.specs.Points.{under_solution}
use Rattle.case_trees.specs.Stops.{Stopping, TreeStop}
use Rattle.with_abstraction.specs.Abstractions.{Abstracted}
use Rattle.tree_translation.specs.Naming.{part_named}
use Rattle.clause_reports.specs.elaboration.Refusals.{Elaborating, OfGoal, OfSide, OfWith, Owner, Part, Refusal, answers, granted, halting, or_ends, or_halts, or_ill_typed, owner_of, walking}
use Rattle.clause_reports.specs.elaboration.Walking.{Given, Opened, Opening, Session, Walked, after_dots, and_level, check_dot, if_low_level, joined, open_over, opened, variable_in, walk_clause, walk_clauses, walk_right, with_given, without_self}
use Rattle.elim.specs.k_laws.Lacking.{Lack, SignatureLacks}
use Rattle.elim.specs.k_laws.Walking.{VerdictLacks, WalkLacks}
use Rattle.elim.proofs.k_laws.Runs.{Gives, Ends, Any, anyhow, ok, no, now, done, next, either, low}
use Rattle.elim.proofs.k_laws.Terms.{instantiated, mapped, appended, flipped}
use Rattle.elim.proofs.k_laws.Checker.{infer}
use Rattle.elim.proofs.k_laws.Points.{put-in}
use Rattle.elim.proofs.k_laws.Walks.{own-walk}
use Rattle.elim.proofs.k_laws.Openings.{AbstractedLacks, abstracts}
use Rattle.elim.proofs.k_laws.Resolved.{ClauseLacks, ClausesLack, RightLacks}

-- ---- answers of other calls

pub halted : {A : Type 0} {P : A → Type 0} {r : Result A Stop} → Gives P r → Gives P (or_halts r)
halted {A} {P} {r} h = by r h
  where
    by : (x : Result A Stop) → Gives P x → Gives P (or_halts x)
    by (Ok a) k = ok k.is
    by (Err e) k = no

pub halts : {A : Type 0} {P : A → Type 0} {spent : Spent A} → Ends P spent → Ends P (halting spent)
halts h = now (halted h.only)

pub walked : {A : Type 0} {P : A → Type 0} (S : Signature) (name : List ℕ) {outcome : Stopping A} → Ends P outcome → Ends P (walking S name outcome)
walked {A} {P} S name {outcome} h = now (by outcome.0 h.only)
  where
    by : (r : Result A TreeStop) → Gives P r → Gives P (or_ends S name r)
    by (Ok a) k = ok k.is
    by (Err e) k = no

typed : (S : Signature) (part : Part) {asked : Spent Verdict} → Ends VerdictLacks asked → Ends LacksAxiomK (granted S part asked)
typed S part {asked} h = now (by asked.0 h.only)
  where
    by : (r : Result Verdict Stop) → Gives VerdictLacks r → Gives LacksAxiomK (or_ill_typed S part r)
    by (Ok (Yes type)) k = ok k.is
    by (Ok (No d)) k = no
    by (Err e) k = no

-- ---- helpers

-- the telescope and the terms of the columns
pub record OpenedLacks (part : Opened) : Type 0 where
  pub tele : Lack part.tele
  pub terms : Lack part.terms

abbrev pub WalksLack : List Walk → Type 0
WalksLack [] = Unit {0}
WalksLack (w ∷ walks) = WalkLacks w × WalksLack walks

pub record WalkedLacks (w : Walked) : Type 0 where
  pub part : OpenedLacks w.part
  pub walks : WalksLack w.walks

abbrev pub HelpersLack : List Walked → Type 0
HelpersLack [] = Unit {0}
HelpersLack (w ∷ helpers) = WalkedLacks w × HelpersLack helpers

pub record GivenLacks (given : Given) : Type 0 where
  pub walks : WalksLack given.walks
  pub helpers : HelpersLack given.helpers

both-walks : (one other : List Walk) → WalksLack one → WalksLack other → WalksLack (one ++ other)
both-walks [] other h k = k
both-walks (w ∷ one) other h k = (h.0, both-walks one other h.1 k)

both-helpers : (one other : List Walked) → HelpersLack one → HelpersLack other → HelpersLack (one ++ other)
both-helpers [] other h k = k
both-helpers (w ∷ one) other h k = (h.0, both-helpers one other h.1 k)

both : (one other : Given) → GivenLacks one → GivenLacks other → GivenLacks (joined one other)
both one other h k = record {
  walks = both-walks one.walks other.walks h.walks k.walks;
  helpers = both-helpers one.helpers other.helpers h.helpers k.helpers;
}

abbrev OpeningLacks : Opening → Type 0
OpeningLacks o = AbstractedLacks o.abstraction

opened-lacks : (o : Opening) (w : Walk) → OpeningLacks o → WalkLacks w → OpenedLacks (opened o w)
opened-lacks o w h k = record {
  tele = h;
  terms = appended (map (inst (variable_in o.abstraction)) w.terms) (Var (length o.abstraction.order - o.abstraction.place) ∷ [])
      (mapped (inst (variable_in o.abstraction)) w.terms (λ t l. instantiated (variable_in o.abstraction) t (λ n. tt) l) k.terms) (tt, tt);
}

selfless : (own : ℕ) (owner : Owner) (t : Term) → LacksAxiomK t → Gives LacksAxiomK (without_self own owner t)
selfless own owner t h = either _ no (ok h)

and-level : (a : Abstracted) (r : Result ℕ Refusal) → AbstractedLacks a → Gives OpeningLacks (and_level a r)
and-level a (Ok J) h = ok h
and-level a (Err e) h = no

opens : (s : Session) → SignatureLacks s.signature → (owner : Owner) (w : Walk) (t : Term) (left : ℕ) → WalkLacks w → LacksAxiomK t
    → Ends OpeningLacks (open_over s owner w t left)
opens s all owner w t left h k =
    let S = s.signature in
    next (typed S (OfWith owner) (infer S all nesting (reverse w.ctx) t left (flipped w.ctx h.context) k)) (λ found rest l.
    next (now {left = rest} (selfless s.own owner found l)) (λ type rest q.
    next (halts (abstracts S all w.ctx w.goal t type rest h.context q)) (λ a more r.
    next {P = Any} (anyhow (answers (without_self s.own owner a.goal) more)) (λ goal more p.
    next {P = Any} (anyhow (granted S (OfGoal owner) (infer_sort_of S nesting [] (products a.telescope goal) more))) (λ sort end p.
    now (and-level a (if_low_level S owner sort) r))))))

-- ---- clauses

after : {A : Type 0} {P : A → Type 0} (S : Signature) (owner : Owner) (context : Telescope) (dots : List (Term × Term)) {go : ℕ → Elaborating A}
    → ((left : ℕ) → Ends P (go left)) → (left : ℕ) → Ends P (after_dots S owner context dots go left)
after S owner context [] h left = h left
after S owner context (d ∷ dots) h left = next {P = Any} (anyhow (check_dot S owner context d left)) (λ written rest p. after S owner context dots h rest)

alone : (given : Given) (w : Walk) → given.walks ≡ w ∷ [] → given.helpers ≡ [] → WalkLacks w → GivenLacks given
alone given w one none h = record {
  walks = transport WalksLack (sym one) (h, tt);
  helpers = transport HelpersLack (sym none) tt;
}

with-helper : (s : Session) (k number helper : ℕ) (w : Walk) (t : Term) (o : Opening) (inner : Clauses) (given : Given) → WalkLacks w → OpenedLacks (opened o w)
    → GivenLacks given → GivenLacks (with_given s k number helper w t o inner given)
with-helper s k number helper w t o inner given h l q =
    record { walks = (h, tt); helpers = (record { part = l; walks = q.walks }, q.helpers) }

mutual
  one-clause : (s : Session) → SignatureLacks s.signature → (k : ℕ) (part : Opened) (number further : ℕ) (c : Clause) (left : ℕ) → OpenedLacks part → ClauseLacks c
      → Ends GivenLacks (walk_clause s k part number further c left)
  one-clause s all k part number further (Is pats binds right) left h l =
      let S = s.signature in
      let name = part_named s.name k in
      let owner = owner_of name number in
      next (walked S name (own-walk S all part.tele part.goal part.terms (Is pats binds right) number left h.tele h.terms)) (λ w rest q.
      after S owner w.ctx w.dots (λ more. after-walk s all k number further owner w right more q l) rest)

  after-walk : (s : Session) → SignatureLacks s.signature → (k number further : ℕ) (owner : Owner) (w : Walk) (right : Right) (left : ℕ) → WalkLacks w → RightLacks right
      → Ends GivenLacks (walk_right s k number further owner w right left)
  after-walk s all k number further owner w (clause.Side side) left h l =
      let S = s.signature in
      next {P = Any} (anyhow (answers (or_halts (bounded (under_solution w.binds side))) left)) (λ body rest p.
      next {P = Any} (anyhow (granted S (OfSide owner) (check_of S nesting (reverse w.ctx) body w.goal rest))) (λ type end p.
      done (alone _ w refl refl h)))
  after-walk s all k number further owner w (clause.With scrutinee inner) left h l =
      next (now {left = left} (halted (low (under_solution w.binds scrutinee) (put-in w.binds scrutinee h.binds l.0)))) (λ t rest q.
      next (opens s all owner w t rest h q) (λ o more r.
      next (all-clauses s all further (opened o w) 0 (further + 1) inner more (opened-lacks o w r h) l.1) (λ given end b.
      done (with-helper s k number further w t o inner given h (opened-lacks o w r h) b))))
  after-walk s all k number further owner w clause.Absurd left h l = done (alone _ w refl refl h)

  pub all-clauses : (s : Session) → SignatureLacks s.signature → (k : ℕ) (part : Opened) (number further : ℕ) (cs : Clauses) (left : ℕ) → OpenedLacks part
      → ClausesLack cs → Ends GivenLacks (walk_clauses s k part number further cs left)
  all-clauses s all k part number further clause.nil left h l = done (record { walks = tt; helpers = tt })
  all-clauses s all k part number further (clause.cons c cs) left h l =
      next (one-clause s all k part number further c left h l.0) (λ given rest q.
      next (all-clauses s all k part (number + 1) (further + length given.helpers) cs rest h l.1) (λ others end r. done (both given others q r)))
