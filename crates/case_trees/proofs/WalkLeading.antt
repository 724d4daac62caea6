-- The substitution of a walk leads from the start to where it ends.
use Rattle.std.proofs.Common.{ℕ, sym, subst as transport}
use Rattle.theory.specs.Signatures.{Signature, HasClosedBodies}
use Rattle.core_terms.specs.Patterns.{Pats}
use Rattle.core_terms.specs.Clauses.{Is}
use Rattle.case_trees.specs.pattern_vectors.Columns.{AreWhole}
use Rattle.unification.proofs.UnderInstances.{closed-bodies}
use Rattle.case_trees.specs.Pairs.{Pairs, waiting, terms_in, all_open, all_left}
use Rattle.case_trees.specs.Keeping.{keep_all}
use Rattle.case_trees.specs.Points.{Point, bounded_point, start_at, solution_for}
use Rattle.case_trees.specs.Stops.{or_halts, answers}
use Rattle.case_trees.specs.OwnWalks.{own_walk_of}
use Rattle.case_trees.specs.Laws.{LeadsTo, WalkLeads}
use Rattle.case_trees.proofs.Answered.{and_next-holds, answer-of}
use Rattle.case_trees.proofs.Workings.{AllBecome}
use Rattle.case_trees.proofs.Looks.{any-pairs}
use Rattle.case_trees.specs.Kept.{KeptAll}
use Rattle.case_trees.proofs.SharedTerms.{all-own-kept}
use Rattle.case_trees.proofs.Comparing.{all-compare}
use Rattle.case_trees.proofs.Leading.{Leads, leads-start, leads-kept, leads-moved}
use Rattle.case_trees.proofs.OwnWalkLaws.{IsOwn, IsOwnWorked, own-starts, own-works, own-moves}
use Rattle.case_trees.proofs.WalkTurns.{Claims, Turns, keeping-holds, walk-holds}
use Rattle.case_trees.proofs.WalkLooks.{Outcomes, look-holds}

-- the terms of a walk are kept from those before they were compared
pub own-kept_on : (S : Signature) (pats : Pats) (p : Point) (pairs new : Pairs) → AreWhole S pats → IsOwn S pats p pairs → AllBecome S pairs new
    → KeptAll S p.terms (keep_all S new p.terms)
own-kept_on S pats p pairs new whole h all =
    transport (λ us. KeptAll S us (keep_all S new us)) (sym h.terms)
    (all-compare S pats pairs new (terms_in pairs) all (all-own-kept S pats pairs h.shapes) whole).1

leading-claims : Signature → Point → Pats → Claims
leading-claims S start pats = record {
  Before = λ p pairs. IsOwn S pats p pairs × Leads S start p;
  Then = λ p pairs. IsOwnWorked S pats p pairs × Leads S start p;
  Good = λ w. LeadsTo S start w.goal w.subst w.terms;
  Cause = λ e. Unit {0};
  Open = λ p pair. Unit {0};
}

leading-outcomes : (S : Signature) (start : Point) (clause : ℕ) (pats : Pats) → HasClosedBodies S → Outcomes S clause (leading-claims S start pats)
unfolding leading-claims
leading-outcomes S start clause pats closed = record {
  halts = λ e. tt;
  wrong = λ p pairs pair x type h o tidy to none. tt;
  no_number = λ p pairs pair x found n number qs h at is none. tt;
  solved = λ p pairs pair x found n number qs c steps context solution h at is there runs. (
    own-moves S pats p pairs context (solution_for p solution) h.0.own,
    leads-moved S start p context (solution_for p solution) closed h.1,
  );
  impossible = λ p pairs pair x found n number qs c steps context u v h at is there runs. tt;
  stuck = λ p pairs pair x found number c steps context u v why h at tried there runs. tt;
  not_absurd = λ p pairs pair x found number c steps context solution h at other there runs. tt;
  ends = λ p pairs pair x found h at other all. h.1;
}

leading-turns : (S : Signature) (start : Point) (clause : ℕ) (pats : Pats) → HasClosedBodies S → AreWhole S pats → Turns S clause (leading-claims S start pats)
unfolding leading-claims
leading-turns S start clause pats closed whole = record {
  halts = λ e. tt;
  works = λ p pairs new h all clean. (
    own-works S pats p pairs new whole h.0 all clean,
    leads-kept S start p (keep_all S new p.terms) h.1 (own-kept_on S pats p pairs new whole h.0 all),
  );
  drops = λ p pairs new clash h all e. tt;
  opens = λ p pairs h. any-pairs (all_open pairs);
  ends = λ p pairs h e. h.1;
  looks = look-holds S clause (leading-claims S start pats) (leading-outcomes S start clause pats closed);
  forced = λ p pairs h pair u o to e. tt;
}

pub walk_leads : WalkLeads
unfolding leading-claims
walk_leads = λ S context goal terms pats binds right number left given for.
    let start = start_at context goal terms in
    answer-of (λ w. LeadsTo S start w.goal w.subst w.terms) (λ w. LeadsTo S start w.goal w.subst w.terms) (λ e. Unit {0})
    (own_walk_of S context goal terms (Is pats binds right) number left).0 (λ w h. h)
    (and_next-holds (λ (p : Point). IsOwn S pats p (waiting pats terms) × Leads S start p) (λ w. LeadsTo S start w.goal w.subst w.terms) (λ e. Unit {0})
    (answers (or_halts (bounded_point start)) left) _
    (keeping-holds S (λ (p : Point). IsOwn S pats p (waiting pats terms) × Leads S start p) (λ e. Unit {0}) start (λ e. tt)
    (own-starts S context goal terms pats binds for, leads-start S context goal terms given.scoped))
    (λ p rest h.
    walk-holds S number (leading-claims S start pats) (leading-turns S start number pats (closed-bodies S given.ready.scoped) for.whole)
    (all_left (waiting pats terms)) p (waiting pats terms) rest h))
