-- One pattern or one clause more of a list.
use Rattle.std.proofs.Common.{◌≡◌, ℕ, ◌+◌, ◌<◌, ◌≤◌, List, [], ◌∷◌, ◌++◌, map, drop, length, get_or, Option, Result, Ok, ap, ap₂, sym, ◌∙◌, append_assoc, subst as transport, rules}
use Rattle.std.proofs.Math.ListN.{drop_of_length-le}
use Rattle.std.proofs.lemmas.List.{length-map, map-append}
use Rattle.theory.specs.Signatures.{Signature}
use Rattle.core_terms.specs.Answers.{and_then}
use Rattle.core_terms.specs.Clauses as core
use Rattle.core_terms.specs.PatternMeanings.{pat_of, pats_of, clause_of, clauses_of}
use Rattle.core_terms.specs.declared.pattern.Pat.{Pat}
use Rattle.core_terms.specs.declared.pattern.Clause.{Clause}
use Rattle.surface_syntax.specs.Trees as surf
use Rattle.surface_syntax.specs.TreeMeanings as written
use Rattle.surface_syntax.specs.declared.tree.SurfPat.{SurfPat}
use Rattle.surface_syntax.specs.declared.tree.SurfClause.{SurfClause}
use Rattle.surface_syntax.specs.declared.tree.SurfRight.TheFolds.{the_lemmas}
use Rattle.resolve.specs.Answers.{Gives}
use Rattle.resolve.specs.declared.stop.ResolveStop.{ResolveStop}
use Rattle.resolve.specs.Names.{Known, Scope, scope_of}
use Rattle.resolve.specs.Functions as function
use Rattle.resolve.specs.Patterns as spec
use Rattle.core_terms.proofs.Lists.{drop-at}
use Rattle.resolve.proofs.Vectors.{ahead, patterns_step, joined_all, ahead_clauses, clauses_step, joined_clauses_all}

pub patterns_next : (S : Signature) (known : Known) (scope : Scope) (before after : List (List ℕ)) (pats : List SurfPat) (i : ℕ) (p : SurfPat) (qs more : List Pat) (q : Pat)
    → i < length pats → p ≡ get_or pats i p → Ok (pat_of q) ≡ spec.pattern S known scope before (written.pat_of p)
    → after ≡ before ++ spec.bound S (written.pat_of p) → more ≡ qs ++ q ∷ []
    → ahead (map pat_of qs) (spec.patterns S known scope before (surf.pats (map written.pat_of (drop i pats))))
    ≡ ahead (map pat_of more) (spec.patterns S known scope after (surf.pats (map written.pat_of (drop (i + 1) pats))))
patterns_next S known scope before after pats i p qs more q lt is answer bound pushed =
    ap (λ ps. ahead (map pat_of qs) (spec.patterns S known scope before (surf.pats (map written.pat_of ps)))) (drop-at pats i p lt is)
    ∙ (patterns_step S known scope before (written.pat_of p) (surf.pats (map written.pat_of (drop (i + 1) pats))) (map pat_of qs) (pat_of q) answer
    ∙ (ap (λ b. ahead (map pat_of qs ++ pat_of q ∷ []) (spec.patterns S known scope b (surf.pats (map written.pat_of (drop (i + 1) pats))))) (sym bound)
    ∙ ap (λ zs. ahead zs (spec.patterns S known scope after (surf.pats (map written.pat_of (drop (i + 1) pats))))) (sym (ap (map pat_of) pushed ∙ map-append pat_of qs (q ∷ [])))))

pub bound_next : (S : Signature) (before after : List (List ℕ)) (pats : List SurfPat) (i : ℕ) (p : SurfPat)
    → i < length pats → p ≡ get_or pats i p → after ≡ before ++ spec.bound S (written.pat_of p)
    → before ++ spec.bound_all S (surf.pats (map written.pat_of (drop i pats))) ≡ after ++ spec.bound_all S (surf.pats (map written.pat_of (drop (i + 1) pats)))
bound_next S before after pats i p lt is bound =
    ap (λ ps. before ++ spec.bound_all S (surf.pats (map written.pat_of ps))) (drop-at pats i p lt is)
    ∙ (sym (append_assoc before (spec.bound S (written.pat_of p)) (spec.bound_all S (surf.pats (map written.pat_of (drop (i + 1) pats)))))
    ∙ ap (λ b. b ++ spec.bound_all S (surf.pats (map written.pat_of (drop (i + 1) pats)))) (sym bound))

pub patterns_done : (S : Signature) (known : Known) (scope : Scope) (before : List (List ℕ)) (pats : List SurfPat) (i : ℕ) (qs : List Pat) → length pats ≤ i
    → ahead (map pat_of qs) (spec.patterns S known scope before (surf.pats (map written.pat_of (drop i pats)))) ≡ Ok (pats_of qs)
patterns_done S known scope before pats i qs end =
    ap (λ ps. ahead (map pat_of qs) (spec.patterns S known scope before (surf.pats (map written.pat_of ps)))) (drop_of_length-le pats end)
    ∙ ap (λ ps. Ok ps) (joined_all (map pat_of qs))

pub clauses_next : (S : Signature) (known : Known) (own : List ℕ) (allowed : Option ℕ) (list : List SurfClause) (i : ℕ) (w : SurfClause) (cs more : List Clause) (c : Clause)
    → i < length list → w ≡ get_or list i w → Ok (clause_of c) ≡ function.clause S known own allowed (written.clause_of w) → more ≡ cs ++ c ∷ []
    → ahead_clauses (map clause_of cs) (function.clauses S known own allowed (surf.clauses (map written.clause_of (drop i list))))
    ≡ ahead_clauses (map clause_of more) (function.clauses S known own allowed (surf.clauses (map written.clause_of (drop (i + 1) list))))
clauses_next S known own allowed list i w cs more c lt is answer pushed =
    ap (λ ws. ahead_clauses (map clause_of cs) (function.clauses S known own allowed (surf.clauses (map written.clause_of ws)))) (drop-at list i w lt is)
    ∙ (clauses_step S known own allowed (written.clause_of w) (surf.clauses (map written.clause_of (drop (i + 1) list))) (map clause_of cs) (clause_of c) answer
    ∙ ap (λ zs. ahead_clauses zs (function.clauses S known own allowed (surf.clauses (map written.clause_of (drop (i + 1) list))))) (sym (ap (map clause_of) pushed ∙ map-append clause_of cs (c ∷ []))))

pub clauses_done : (S : Signature) (known : Known) (own : List ℕ) (allowed : Option ℕ) (list : List SurfClause) (i : ℕ) (cs : List Clause) → length list ≤ i
    → ahead_clauses (map clause_of cs) (function.clauses S known own allowed (surf.clauses (map written.clause_of (drop i list)))) ≡ Ok (clauses_of cs)
clauses_done S known own allowed list i cs end =
    ap (λ ws. ahead_clauses (map clause_of cs) (function.clauses S known own allowed (surf.clauses (map written.clause_of ws)))) (drop_of_length-le list end)
    ∙ ap (λ cs. Ok cs) (joined_clauses_all (map clause_of cs))

clause_parts : (g : SurfClause) → written.clause_of g ≡ surf.Is g.head (map written.pat_of g.pats) (written.right_of g.right)
clause_parts g = search (rules, the_lemmas)

-- a clause from its patterns and its right side over its variables
pub clause_gives : (S : Signature) (known : Known) (own : List ℕ) (allowed : Option ℕ) (g : SurfClause) (count : ℕ) (view : List SurfPat) (names : List (List ℕ)) (r : Result Clause ResolveStop)
    → view ≡ g.pats → Ok count ≡ function.clause_head own allowed (length view) g.head → names ≡ spec.bound_all S (surf.pats (map written.pat_of view))
    → Gives clause_of r (and_then (spec.patterns S known (scope_of names) [] (surf.pats (map written.pat_of view))) (λ qs. and_then (function.right_side S known own (scope_of names) count (written.right_of g.right)) (λ r. Ok (core.Is qs (length names) r))))
    → Gives clause_of r (function.clause S known own allowed (written.clause_of g))
clause_gives S known own allowed g count view names r viewed headed named h =
    let pats = surf.pats (map written.pat_of g.pats) in
    let same : surf.pats (map written.pat_of view) ≡ pats = ap (λ ps. surf.pats (map written.pat_of ps)) viewed in
    let head : function.clause_head own allowed (length (map written.pat_of g.pats)) g.head ≡ Ok count =
    ap (λ k. function.clause_head own allowed k g.head) (length-map g.pats written.pat_of ∙ ap length (sym viewed)) ∙ sym headed in
    transport (Gives clause_of r)
    (ap₂ (λ ps ns. over ps ns count) same (named ∙ ap (spec.bound_all S) same)
    ∙ sym (ap (function.clause S known own allowed) (clause_parts g) ∙ ap (λ n. and_then n (over pats (spec.bound_all S pats))) head)) h
  where
    over : surf.Pats → List (List ℕ) → ℕ → Result core.Clause ResolveStop
    over ps ns n = and_then (spec.patterns S known (scope_of ns) [] ps) (λ qs. and_then (function.right_side S known own (scope_of ns) n (written.right_of g.right)) (λ r. Ok (core.Is qs (length ns) r)))
