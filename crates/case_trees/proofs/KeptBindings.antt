-- Among the shared terms, those at the variables of a clause are kept from its bindings.
use Rattle.std.proofs.Common.{List, [], ◌++◌, map, sym, ap, subst as transport, arith}
use Rattle.std.proofs.lemmas.Bool.{true≢false}
use Rattle.std.proofs.lemmas.List.{map-append}
use Rattle.theory.specs.Terms.{Term}
use Rattle.theory.specs.Signatures.{Signature}
use Rattle.core_terms.specs.Patterns.{Pat, Pats}
use Rattle.case_trees.specs.Pairs.{Pair, Pairs, bound_in, all_bound, all_unbound}
use Rattle.case_trees.specs.OwnWalks.{or_none}
use Rattle.case_trees.specs.Places.{in_arguments, variable_places, all_variable_places}
use Rattle.case_trees.specs.Kept as kept
use Rattle.case_trees.specs.Kept.{KeptFrom, KeptAll}
use Rattle.case_trees.proofs.Shapes.{IsDone, AreDone, done-parts}
use Rattle.case_trees.proofs.SharedTerms as shared
use Rattle.case_trees.proofs.SharedTerms.{HasKept, HaveKept}

kept-append : (S : Signature) (ts us ts' us' : List Term) → KeptAll S ts us → KeptAll S ts' us' → KeptAll S (ts ++ ts') (us ++ us')
kept-append S _ _ ts' us' kept.none k = k
kept-append S _ _ ts' us' (kept.more t u ts us h all) k = kept.more t u (ts ++ ts') (us ++ us') h (kept-append S ts us ts' us' all k)

mutual
  bound-kept : (S : Signature) (pat : Pat) (pair : Pair) (u : Term) → HasKept S pat pair u → IsDone pair
      → KeptAll S (map or_none (bound_in pair)) (variable_places S pat u)
  bound-kept S _ _ u (shared.waits pat t _ h) done = absurd (grind arith)
  bound-kept S _ _ u (shared.binds t _ h) done = kept.more t u [] [] h kept.none
  bound-kept S _ _ u (shared.passes t _ h) done = kept.none
  bound-kept S _ _ u (shared.keeps written t _ h) done = kept.none
  bound-kept S _ _ u (shared.builds n number pats m k ps pairs _ b e is all) done =
      transport (KeptAll S (map or_none (all_bound pairs)))
      (sym (ap (in_arguments (all_variable_places S pats) (map or_none (all_unbound pats))) e))
      (all-bound-kept S pats pairs b.arguments all done)
  bound-kept S _ _ u (shared.clashes_at pat t _ far) done = absurd (true≢false done.1)

  pub all-bound-kept : (S : Signature) (pats : Pats) (pairs : Pairs) (us : List Term) → HaveKept S pats pairs us → AreDone pairs
      → KeptAll S (map or_none (all_bound pairs)) (all_variable_places S pats us)
  all-bound-kept S _ _ _ shared.none done = kept.none
  all-bound-kept S _ _ _ (shared.more pat pats pair pairs u us h all) done =
      let (first, rest) = done-parts pair pairs done in
      transport (λ bs. KeptAll S bs (variable_places S pat u ++ all_variable_places S pats us)) (sym (map-append or_none (bound_in pair) (all_bound pairs)))
      (kept-append S (map or_none (bound_in pair)) (variable_places S pat u) (map or_none (all_bound pairs)) (all_variable_places S pats us)
      (bound-kept S pat pair u h first) (all-bound-kept S pats pairs us all rest))
