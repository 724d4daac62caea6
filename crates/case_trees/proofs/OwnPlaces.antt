-- The variables and the dots of a clause are found at their places in the terms of its pairs.
use Rattle.std.proofs.Common.{◌≡◌, false, cond, Option, Some, None, List, [], ◌∷◌, ◌++◌, map, refl, ap, ap₂, sym, ◌∙◌, arith}
use Rattle.std.proofs.lemmas.Bool.{true≢false, or_parts}
use Rattle.std.proofs.lemmas.List.{map-append}
use Rattle.theory.specs.Terms.{Term}
use Rattle.theory.specs.Signatures.{Signature}
use Rattle.core_terms.specs.Patterns as pattern
use Rattle.core_terms.specs.Patterns.{Pat, Pats}
use Rattle.unification.specs.Built.{built_of}
use Rattle.case_trees.specs.Pairs.{Pair, Pairs, Waits, Binds, Passes, Keeps, Builds, Clashes, nil, cons, term_in, terms_in, clashes, some_clashes, unbound, all_unbound, bound_in, all_bound, dots_in, all_dots}
use Rattle.case_trees.specs.OwnWalks.{or_none, mentions_unbound, walked_dots}
use Rattle.case_trees.specs.Points.{under_solution}
use Rattle.case_trees.specs.Places.{in_arguments, variable_places, all_variable_places, variables_found, all_variables_found, dot_places, all_dot_places}
use Rattle.case_trees.proofs.Workings as work
use Rattle.case_trees.proofs.Workings.{ReducesTo, Works, WorkAll, Becomes, AllBecome}
use Rattle.case_trees.proofs.Shapes as shape
use Rattle.case_trees.proofs.Shapes.{HasShape, HaveShapes, IsDone, AreDone, done-parts}
use Rattle.case_trees.proofs.OwnTerms.{no-built}

-- a pattern that asks for a constructor
abbrev pub IsAsking : Pat → Type 0
IsAsking (pattern.Con n number pats) = Unit {0}
IsAsking pattern.Absurd = Unit {0}
IsAsking _ = ⊥

-- the head form of the term is no constructor
pub record HasNone (S : Signature) (t : Term) : Type 0 where
  pub form : Term
  pub reduces : ReducesTo S t form
  pub none : built_of S form ≡ None

-- nor is the term one itself
pub is-none : (S : Signature) (t : Term) → HasNone S t → built_of S t ≡ None
is-none S t h = no-built S t h.form h.reduces h.none

abbrev mutual
  -- a pair that is still open asks for a constructor, and the head form of its term is none
  pub IsWorked : Signature → Pair → Type 0
  IsWorked S (Waits pat t) = IsAsking pat × HasNone S t
  IsWorked S (Builds n number ps pairs) = AreWorked S pairs
  IsWorked S _ = Unit {0}

  pub AreWorked : Signature → Pairs → Type 0
  AreWorked S nil = Unit {0}
  AreWorked S (cons pair pairs) = IsWorked S pair × AreWorked S pairs

mutual
  works-worked : (S : Signature) (pat : Pat) (t : Term) (pair : Pair) → Works S pat t pair → clashes pair ≡ false → IsWorked S pair
  works-worked S _ _ _ (work.binds t) clean = tt
  works-worked S _ _ _ (work.passes t) clean = tt
  works-worked S _ _ _ (work.keeps written t) clean = tt
  works-worked S _ _ _ (work.stays n number pats t w to none) clean = (tt, record { form = w; reduces = to; none = none })
  works-worked S _ _ _ (work.builds n number pats t w b pairs to e same all) clean = work-worked S pats b.arguments pairs all clean
  works-worked S _ _ _ (work.clash n number pats t w b to e other) clean = tt
  works-worked S _ _ _ (work.absurd_stays t w to none) clean = (tt, record { form = w; reduces = to; none = none })
  works-worked S _ _ _ (work.absurd_clash t w b to e) clean = tt

  work-worked : (S : Signature) (pats : Pats) (terms : List Term) (pairs : Pairs) → WorkAll S pats terms pairs → some_clashes pairs ≡ false → AreWorked S pairs
  work-worked S _ _ _ (work.no_patterns terms) clean = tt
  work-worked S _ _ _ (work.no_terms pat pats) clean = tt
  work-worked S _ _ _ (work.more pat pats t terms pair pairs h first all) clean =
      (works-worked S pat t pair h first, work-worked S pats terms pairs all (or_parts (clashes pair) (some_clashes pairs) clean).1)
  work-worked S _ _ _ (work.ends pat pats t terms pair h clash) clean =
      absurd (true≢false (sym clash ∙ (or_parts (clashes pair) _ clean).0))

mutual
  becomes-worked : (S : Signature) (pair new : Pair) → Becomes S pair new → clashes new ≡ false → IsWorked S new
  becomes-worked S _ _ (work.worked pat t new h) clean = works-worked S pat t new h clean
  becomes-worked S _ _ (work.inside n number ps pairs new all) clean = all-worked S pairs new all clean
  becomes-worked S _ _ (work.bound t) clean = tt
  becomes-worked S _ _ (work.passed t) clean = tt
  becomes-worked S _ _ (work.kept written t) clean = tt
  becomes-worked S _ _ (work.clashed pat t) clean = tt

  pub all-worked : (S : Signature) (pairs new : Pairs) → AllBecome S pairs new → some_clashes new ≡ false → AreWorked S new
  all-worked S _ _ work.none clean = tt
  all-worked S _ _ (work.more pair new pairs others h first all) clean =
      (becomes-worked S pair new h first, all-worked S pairs others all (or_parts (clashes new) (some_clashes others) clean).1)
  all-worked S _ _ (work.ends pair new pairs h clash) clean =
      absurd (true≢false (sym clash ∙ (or_parts (clashes new) (some_clashes pairs) clean).0))

-- ---- variables

waits-places : (S : Signature) (pat : Pat) (t : Term) → IsAsking pat → built_of S t ≡ None → variable_places S pat t ≡ map or_none (unbound pat)
waits-places S pattern.Bind t asks none = absurd asks
waits-places S pattern.Wild t asks none = absurd asks
waits-places S (pattern.Dot written) t asks none = absurd asks
waits-places S (pattern.Con n number pats) t asks none = ap (in_arguments (all_variable_places S pats) (map or_none (all_unbound pats))) none
waits-places S pattern.Absurd t asks none = refl

mutual
  places : (S : Signature) (pat : Pat) (pair : Pair) → HasShape S pat pair → IsWorked S pair → clashes pair ≡ false
      → variable_places S pat (term_in pair) ≡ map or_none (bound_in pair)
  places S _ _ (shape.waits pat t) worked clean = waits-places S pat t worked.0 (is-none S t worked.1)
  places S _ _ (shape.binds t) worked clean = refl
  places S _ _ (shape.passes t) worked clean = refl
  places S _ _ (shape.keeps written t) worked clean = refl
  places S _ _ (shape.builds n number pats b pairs e same args shapes) worked clean =
      ap (in_arguments (all_variable_places S pats) (map or_none (all_unbound pats))) e
      ∙ (ap (all_variable_places S pats) args ∙ all-places S pats pairs shapes worked clean)
  places S _ _ (shape.apart pat t far) worked clean = absurd (true≢false clean)

  -- the terms of the clause's variables
  pub all-places : (S : Signature) (pats : Pats) (pairs : Pairs) → HaveShapes S pats pairs → AreWorked S pairs → some_clashes pairs ≡ false
      → all_variable_places S pats (terms_in pairs) ≡ map or_none (all_bound pairs)
  all-places S _ _ shape.none worked clean = refl
  all-places S _ _ (shape.more pat pats pair pairs is are) worked clean =
      let (first, rest) = or_parts (clashes pair) (some_clashes pairs) clean in
      ap₂ (λ us vs. us ++ vs) (places S pat pair is worked.0 first) (all-places S pats pairs are worked.1 rest)
      ∙ sym (map-append or_none (bound_in pair) (all_bound pairs))

waits-found : (S : Signature) (pat : Pat) (t : Term) → IsAsking pat → built_of S t ≡ None → variables_found S pat t ≡ unbound pat
waits-found S pattern.Bind t asks none = absurd asks
waits-found S pattern.Wild t asks none = absurd asks
waits-found S (pattern.Dot written) t asks none = absurd asks
waits-found S (pattern.Con n number pats) t asks none = ap (in_arguments (all_variables_found S pats) (all_unbound pats)) none
waits-found S pattern.Absurd t asks none = refl

mutual
  finds : (S : Signature) (pat : Pat) (pair : Pair) → HasShape S pat pair → IsWorked S pair → clashes pair ≡ false
      → variables_found S pat (term_in pair) ≡ bound_in pair
  finds S _ _ (shape.waits pat t) worked clean = waits-found S pat t worked.0 (is-none S t worked.1)
  finds S _ _ (shape.binds t) worked clean = refl
  finds S _ _ (shape.passes t) worked clean = refl
  finds S _ _ (shape.keeps written t) worked clean = refl
  finds S _ _ (shape.builds n number pats b pairs e same args shapes) worked clean =
      ap (in_arguments (all_variables_found S pats) (all_unbound pats)) e
      ∙ (ap (all_variables_found S pats) args ∙ all-finds S pats pairs shapes worked clean)
  finds S _ _ (shape.apart pat t far) worked clean = absurd (true≢false clean)

  -- the variables of the clause that have a term
  pub all-finds : (S : Signature) (pats : Pats) (pairs : Pairs) → HaveShapes S pats pairs → AreWorked S pairs → some_clashes pairs ≡ false
      → all_variables_found S pats (terms_in pairs) ≡ all_bound pairs
  all-finds S _ _ shape.none worked clean = refl
  all-finds S _ _ (shape.more pat pats pair pairs is are) worked clean =
      let (first, rest) = or_parts (clashes pair) (some_clashes pairs) clean in
      ap₂ (λ us vs. us ++ vs) (finds S pat pair is worked.0 first) (all-finds S pats pairs are worked.1 rest)

-- ---- dots

waits-dots : (S : Signature) (pat : Pat) (t : Term) → IsAsking pat → built_of S t ≡ None → dot_places S pat t ≡ []
waits-dots S pattern.Bind t asks none = absurd asks
waits-dots S pattern.Wild t asks none = absurd asks
waits-dots S (pattern.Dot written) t asks none = absurd asks
waits-dots S (pattern.Con n number pats) t asks none = ap (in_arguments (all_dot_places S pats) []) none
waits-dots S pattern.Absurd t asks none = refl

mutual
  dots : (S : Signature) (pat : Pat) (pair : Pair) → HasShape S pat pair → IsWorked S pair → clashes pair ≡ false
      → dot_places S pat (term_in pair) ≡ dots_in pair
  dots S _ _ (shape.waits pat t) worked clean = waits-dots S pat t worked.0 (is-none S t worked.1)
  dots S _ _ (shape.binds t) worked clean = refl
  dots S _ _ (shape.passes t) worked clean = refl
  dots S _ _ (shape.keeps written t) worked clean = refl
  dots S _ _ (shape.builds n number pats b pairs e same args shapes) worked clean =
      ap (in_arguments (all_dot_places S pats) []) e ∙ (ap (all_dot_places S pats) args ∙ all-dots S pats pairs shapes worked clean)
  dots S _ _ (shape.apart pat t far) worked clean = absurd (true≢false clean)

  -- the written terms at the dots, and the terms there
  pub all-dots : (S : Signature) (pats : Pats) (pairs : Pairs) → HaveShapes S pats pairs → AreWorked S pairs → some_clashes pairs ≡ false
      → all_dot_places S pats (terms_in pairs) ≡ all_dots pairs
  all-dots S _ _ shape.none worked clean = refl
  all-dots S _ _ (shape.more pat pats pair pairs is are) worked clean =
      let (first, rest) = or_parts (clashes pair) (some_clashes pairs) clean in
      ap₂ (λ us vs. us ++ vs) (dots S pat pair is worked.0 first) (all-dots S pats pairs are worked.1 rest)

-- each variable has a term
abbrev pub AllThere : List (Option Term) → Type 0
AllThere [] = Unit {0}
AllThere (None ∷ bound) = ⊥
AllThere (Some t ∷ bound) = AllThere bound

there-append : (first rest : List (Option Term)) → AllThere first → AllThere rest → AllThere (first ++ rest)
there-append [] rest h k = k
there-append (None ∷ first) rest h k = absurd h
there-append (Some t ∷ first) rest h k = there-append first rest h k

mutual
  done-there : (pair : Pair) → IsDone pair → AllThere (bound_in pair)
  done-there (Waits pat t) done = absurd (grind arith)
  done-there (Binds t) done = tt
  done-there (Passes t) done = tt
  done-there (Keeps written t) done = tt
  done-there (Builds n number ps pairs) done = all-done-there pairs done
  done-there (Clashes pat t) done = absurd (true≢false done.1)

  pub all-done-there : (pairs : Pairs) → AreDone pairs → AllThere (all_bound pairs)
  all-done-there nil done = tt
  all-done-there (cons pair pairs) done =
      let (first, rest) = done-parts pair pairs done in
      there-append (bound_in pair) (all_bound pairs) (done-there pair first) (all-done-there pairs rest)

none-mentioned : (bound : List (Option Term)) (t : Term) → AllThere bound → mentions_unbound bound t ≡ false
none-mentioned [] t h = refl
none-mentioned (None ∷ bound) t h = absurd h
none-mentioned (Some u ∷ bound) t h = none-mentioned bound t h

-- where each variable has a term all dots are kept
pub all-kept-dots : (bound : List (Option Term)) (written : List (Term × Term)) → AllThere bound
    → walked_dots bound written ≡ map (λ d. (under_solution (map or_none bound) d.0, d.1)) written
all-kept-dots bound [] h = refl
all-kept-dots bound (d ∷ written) h =
    ap (λ test. cond test (walked_dots bound written) ((under_solution (map or_none bound) d.0, d.1) ∷ walked_dots bound written)) (none-mentioned bound d.0 h)
    ∙ ap (λ ds. (under_solution (map or_none bound) d.0, d.1) ∷ ds) (all-kept-dots bound written h)
