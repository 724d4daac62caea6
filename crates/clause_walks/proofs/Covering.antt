-- Where a pair has a constructor, so has the shared term: at the start, after working, and after a solution.
use Rattle.std.proofs.Common.{◌≡◌, ℕ, ◌+◌, Option, Some, None, Result, Ok, Err, IfOk, List, [], ◌∷◌, map, refl, sym, ap, ◌∙◌, subst as transport}
use Rattle.theory.specs.Terms.{Term}
use Rattle.theory.specs.Substitutions.{inst, fill}
use Rattle.theory.specs.Eliminators.{no_variable}
use Rattle.theory.specs.Signatures.{Signature}
use Rattle.core_terms.specs.Patterns as pattern
use Rattle.core_terms.specs.Patterns.{Pat, Pats}
use Rattle.core_terms.specs.Clauses as clause
use Rattle.core_terms.specs.Clauses.{Clauses, Is}
use Rattle.core_terms.specs.declared.stop.Stop.{Stop}
use Rattle.unification.specs.Built.{Built, built_of}
use Rattle.unification.proofs.Constructors.{instance_of, built-instance}
use Rattle.case_trees.specs.pattern_vectors.Columns.{IsWhole, AreWhole}
use Rattle.case_trees.specs.Pairs.{Pair, Pairs, Waits, Binds, Passes, Keeps, Builds, Clashes, nil, cons, waiting, term_in, terms_in, with_terms, all_with_terms}
use Rattle.case_trees.specs.Keeping.{kept_over, keep, keep_all}
use Rattle.case_trees.specs.Points.{under_solution, moved_pairs}
use Rattle.case_trees.specs.Scoped.{AreClausesFor}
use Rattle.case_trees.specs.Trees.{Live, all_live}
use Rattle.case_trees.specs.Working.{Rooms, work_pairs}
use Rattle.case_trees.proofs.Arguments.{built-with}
use Rattle.case_trees.proofs.Shapes as shape
use Rattle.case_trees.proofs.Shapes.{HasShape, HaveShapes, works-shape}
use Rattle.case_trees.proofs.Workings as work
use Rattle.case_trees.proofs.Workings.{Works, Becomes, AllBecome, all-become}
use Rattle.clause_walks.specs.Forgetting.{forget, forget_all, Covers, CoverAll, CoverLive}
use Rattle.clause_walks.proofs.AlikePairs.{keep-length, built-kept}

-- ---- the start

-- whatever the shared terms are
pub waiting-covered : (S : Signature) (pats : Pats) (ts us : List Term) → AreWhole S pats → CoverAll S (waiting pats ts) us
waiting-covered S pattern.nil ts us whole = tt
waiting-covered S (pattern.cons pat pats) [] us whole = tt
waiting-covered S (pattern.cons pat pats) (t ∷ ts) [] whole = tt
waiting-covered S (pattern.cons pat pats) (t ∷ ts) (u ∷ us) whole = (whole.0, waiting-covered S pats ts us whole.1)

-- ---- shared terms after later comparisons

mutual
  covered-on : (S : Signature) (pair : Pair) (u : Term) (over : Pair) → Covers S pair u → Covers S pair (keep S over u)
  covered-on S (Waits pat t) u over h = h
  covered-on S (Binds t) u over h = tt
  covered-on S (Passes t) u over h = tt
  covered-on S (Keeps written t) u over h = tt
  covered-on S (Builds n number ps pairs) u over (b, e, all) =
      let (overs, is) = built-kept S over u b e in
      (record b { arguments = keep_all S overs b.arguments }, is, all-covered-on S pairs b.arguments overs all)
  covered-on S (Clashes pat t) u over h = tt

  -- where the pairs of any clause are kept over the shared terms
  pub all-covered-on : (S : Signature) (pairs : Pairs) (us : List Term) (overs : Pairs) → CoverAll S pairs us → CoverAll S pairs (keep_all S overs us)
  all-covered-on S nil us overs h = tt
  all-covered-on S (cons pair pairs) us nil h = h
  all-covered-on S (cons pair pairs) [] (cons over overs) h = tt
  all-covered-on S (cons pair pairs) (u ∷ us) (cons over overs) h = (covered-on S pair u over h.0, all-covered-on S pairs us overs h.1)

-- the shared terms after later comparisons cover all clauses
pub live-covered-on : (S : Signature) (live : List Live) (us : List Term) (overs : Pairs) → CoverLive S live us → CoverLive S live (keep_all S overs us)
live-covered-on S [] us overs h = tt
live-covered-on S (c ∷ live) us overs h = (all-covered-on S c.pairs us overs h.0, live-covered-on S live us overs h.1)

-- ---- working

mutual
  own-covered : (S : Signature) (pat : Pat) (pair : Pair) → HasShape S pat pair → IsWhole S pat → Covers S pair (term_in pair)
  own-covered S _ _ (shape.waits pat t) whole = whole
  own-covered S _ _ (shape.binds t) whole = tt
  own-covered S _ _ (shape.passes t) whole = tt
  own-covered S _ _ (shape.keeps written t) whole = tt
  own-covered S _ _ (shape.builds n number pats b pairs e same args shapes) whole =
      (b, e, transport (CoverAll S pairs) (sym args) (all-own-covered S pats pairs shapes whole.1))
  own-covered S _ _ (shape.apart pat t far) whole = tt

  -- by the terms of the pairs themselves
  all-own-covered : (S : Signature) (pats : Pats) (pairs : Pairs) → HaveShapes S pats pairs → AreWhole S pats → CoverAll S pairs (terms_in pairs)
  all-own-covered S _ _ shape.none whole = tt
  all-own-covered S _ _ (shape.more pat pats pair pairs one others) whole =
      (own-covered S pat pair one whole.0, all-own-covered S pats pairs others whole.1)

mutual
  kept-covered : (S : Signature) (pat : Pat) (pair : Pair) (u : Term) → HasShape S pat pair → IsWhole S pat → Covers S pair (keep S pair u)
  kept-covered S _ _ u (shape.waits pat t) whole = whole
  kept-covered S _ _ u (shape.binds t) whole = tt
  kept-covered S _ _ u (shape.passes t) whole = tt
  kept-covered S _ _ u (shape.keeps written t) whole = tt
  kept-covered S _ _ u (shape.builds n number pats b pairs e same args shapes) whole =
      by (built_of S u) refl (own-covered S (pattern.Con n number pats) (Builds b.n b.number b.parameters pairs)
      (shape.builds n number pats b pairs e same args shapes) whole) (λ us. all-kept-covered S pats pairs us shapes whole.1)
    where
      by : (o : Option Built) → built_of S u ≡ o → Covers S (Builds b.n b.number b.parameters pairs) (term_in (Builds b.n b.number b.parameters pairs))
          → ((us : List Term) → CoverAll S pairs (keep_all S pairs us))
          → Covers S (Builds b.n b.number b.parameters pairs) (kept_over (keep_all S pairs) (term_in (Builds b.n b.number b.parameters pairs)) o)
      by None is own inner = own
      by (Some c) is own inner = (
        record c { arguments = keep_all S pairs c.arguments },
        built-with S u c (keep_all S pairs c.arguments) is (keep-length S pairs c.arguments),
        inner c.arguments,
      )
  kept-covered S _ _ u (shape.apart pat t far) whole = tt

  -- by what is kept of them, over any shared terms
  all-kept-covered : (S : Signature) (pats : Pats) (pairs : Pairs) (us : List Term) → HaveShapes S pats pairs → AreWhole S pats
      → CoverAll S pairs (keep_all S pairs us)
  all-kept-covered S _ _ us shape.none whole = tt
  all-kept-covered S _ _ [] (shape.more pat pats pair pairs one others) whole = tt
  all-kept-covered S _ _ (u ∷ us) (shape.more pat pats pair pairs one others) whole =
      (kept-covered S pat pair u one whole.0, all-kept-covered S pats pairs us others whole.1)

mutual
  become-covered : (S : Signature) (pair new : Pair) (u : Term) → Becomes S pair new → Covers S pair u → Covers S new (keep S new u)
  become-covered S _ _ u (work.worked pat t new one) h = kept-covered S pat new u (works-shape S pat t new one h) h
  become-covered S _ _ u (work.inside n number ps pairs new all) (b, e, inner) = (
    record b { arguments = keep_all S new b.arguments },
    ap (built_of S) (ap (kept_over (keep_all S new) (term_in (Builds n number ps new))) e)
        ∙ built-with S u b (keep_all S new b.arguments) e (keep-length S new b.arguments),
    all-become-covered S pairs new b.arguments all inner,
  )
  become-covered S _ _ u (work.bound t) h = tt
  become-covered S _ _ u (work.passed t) h = tt
  become-covered S _ _ u (work.kept written t) h = tt
  become-covered S _ _ u (work.clashed pat t) h = tt

  -- where the shared terms cover pairs, they cover the worked pairs after these are kept
  pub all-become-covered : (S : Signature) (pairs new : Pairs) (us : List Term) → AllBecome S pairs new → CoverAll S pairs us
      → CoverAll S new (keep_all S new us)
  all-become-covered S _ _ us work.none h = tt
  all-become-covered S _ _ [] (work.more pair new pairs others one clean all) h = tt
  all-become-covered S _ _ (u ∷ us) (work.more pair new pairs others one clean all) h =
      (become-covered S pair new u one h.0, all-become-covered S pairs others us all h.1)
  all-become-covered S _ _ [] (work.ends pair new pairs one clash) h = tt
  all-become-covered S _ _ (u ∷ us) (work.ends pair new pairs one clash) h =
      (become-covered S pair new u one h.0, all-covered-on S pairs us pairs h.1)

-- so are the pairs that working answers
pub worked-covered : (S : Signature) (rooms : Rooms) (pairs : Pairs) (left : ℕ) (us : List Term) → CoverAll S pairs us
    → IfOk (work_pairs S rooms pairs left).0 (λ new. CoverAll S new (keep_all S new us))
worked-covered S rooms pairs left us h = by (work_pairs S rooms pairs left).0 (all-become S rooms pairs left)
  where
    by : (r : Result Pairs Stop) → IfOk r (AllBecome S pairs) → IfOk r (λ new. CoverAll S new (keep_all S new us))
    by (Ok new) all = all-become-covered S pairs new us all h
    by (Err e) all = tt

-- ---- solutions

mutual
  moved-covered : (S : Signature) (s : ℕ → Term) (pair : Pair) (u : Term) → Covers S pair u → Covers S (with_terms (inst s) pair) (inst s u)
  moved-covered S s (Waits pat t) u h = h
  moved-covered S s (Binds t) u h = tt
  moved-covered S s (Passes t) u h = tt
  moved-covered S s (Keeps written t) u h = tt
  moved-covered S s (Builds n number ps pairs) u (b, e, all) =
      (instance_of s b, built-instance S s u b e, all-moved-covered S s pairs b.arguments all)
  moved-covered S s (Clashes pat t) u h = tt

  -- whatever is put for the variables
  pub all-moved-covered : (S : Signature) (s : ℕ → Term) (pairs : Pairs) (us : List Term) → CoverAll S pairs us
      → CoverAll S (all_with_terms (inst s) pairs) (map (inst s) us)
  all-moved-covered S s nil us h = tt
  all-moved-covered S s (cons pair pairs) [] h = tt
  all-moved-covered S s (cons pair pairs) (u ∷ us) h = (moved-covered S s pair u h.0, all-moved-covered S s pairs us h.1)

mutual
  forget-covered : (S : Signature) (pair : Pair) (u : Term) → Covers S pair u → Covers S (forget pair) u
  forget-covered S (Waits pat t) u h = h
  forget-covered S (Binds t) u h = tt
  forget-covered S (Passes t) u h = tt
  forget-covered S (Keeps written t) u h = tt
  forget-covered S (Builds n number ps pairs) u (b, e, all) = (b, e, all-forget-covered S pairs b.arguments all)
  forget-covered S (Clashes pat t) u h = tt

  -- without the terms of wildcards
  pub all-forget-covered : (S : Signature) (pairs : Pairs) (us : List Term) → CoverAll S pairs us → CoverAll S (forget_all pairs) us
  all-forget-covered S nil us h = tt
  all-forget-covered S (cons pair pairs) [] h = tt
  all-forget-covered S (cons pair pairs) (u ∷ us) h = (forget-covered S pair u h.0, all-forget-covered S pairs us h.1)

-- where a walk goes on: after a solution, without the terms of wildcards
pub solved-covered : (S : Signature) (solution : List Term) (pairs : Pairs) (us : List Term) → CoverAll S pairs us
    → CoverAll S (forget_all (moved_pairs solution pairs)) (map (under_solution solution) us)
solved-covered S solution pairs us h =
    all-forget-covered S (moved_pairs solution pairs) (map (under_solution solution) us)
    (all-moved-covered S (fill no_variable solution) pairs us h)

-- ---- the clauses of a tree

pub live-start-covered : (S : Signature) (number : ℕ) (terms us : List Term) (clauses : Clauses) → AreClausesFor S terms clauses
    → CoverLive S (all_live number terms clauses) us
live-start-covered S number terms us clause.nil for = tt
live-start-covered S number terms us (clause.cons (Is pats binds right) clauses) for =
    (waiting-covered S pats terms us for.0.whole, live-start-covered S (number + 1) terms us clauses for.1)
