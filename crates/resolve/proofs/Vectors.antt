-- Patterns and clauses that are resolved one after the other, where the first ones are resolved already.
use Rattle.std.proofs.Common.{◌≡◌, ℕ, List, [], ◌∷◌, ◌++◌, Option, Result, Ok, Err, refl, ap, sym, ◌∙◌}
use Rattle.theory.specs.Signatures.{Signature}
use Rattle.core_terms.specs.Patterns as pattern
use Rattle.core_terms.specs.Clauses as clause
use Rattle.surface_syntax.specs.Trees as surf
use Rattle.resolve.specs.declared.stop.ResolveStop.{ResolveStop}
use Rattle.core_terms.specs.Answers.{and_then}
use Rattle.resolve.specs.Names.{Known, Scope}
use Rattle.resolve.specs.Patterns as spec
use Rattle.resolve.specs.Functions as function

abbrev pub joined : List pattern.Pat → pattern.Pats → pattern.Pats
joined [] rest = rest
joined (q ∷ qs) rest = pattern.cons q (joined qs rest)

abbrev pub ahead : List pattern.Pat → Result pattern.Pats ResolveStop → Result pattern.Pats ResolveStop
ahead qs (Ok rest) = Ok (joined qs rest)
ahead qs (Err e) = Err e

joined_more : (qs : List pattern.Pat) (q : pattern.Pat) (rest : pattern.Pats) → joined qs (pattern.cons q rest) ≡ joined (qs ++ q ∷ []) rest
joined_more [] q rest = refl
joined_more (p ∷ qs) q rest = ap (pattern.cons p) (joined_more qs q rest)

pub joined_all : (qs : List pattern.Pat) → joined qs pattern.nil ≡ pattern.vector qs
joined_all [] = refl
joined_all (q ∷ qs) = ap (pattern.cons q) (joined_all qs)

ahead_more : (qs : List pattern.Pat) (q : pattern.Pat) (rest : Result pattern.Pats ResolveStop) → ahead qs (and_then rest (λ qs. Ok (pattern.cons q qs))) ≡ ahead (qs ++ q ∷ []) rest
ahead_more qs q (Ok rest) = ap (λ qs. Ok qs) (joined_more qs q rest)
ahead_more qs q (Err e) = refl

pub patterns_step : (S : Signature) (known : Known) (scope : Scope) (before : List (List ℕ)) (p : surf.Pat) (ps : surf.Pats) (qs : List pattern.Pat) (q : pattern.Pat)
    → Ok q ≡ spec.pattern S known scope before p
    → ahead qs (spec.patterns S known scope before (surf.arg p ps)) ≡ ahead (qs ++ q ∷ []) (spec.patterns S known scope (before ++ spec.bound S p) ps)
patterns_step S known scope before p ps qs q is =
    ap (λ r. ahead qs (and_then r (λ q. and_then (spec.patterns S known scope (before ++ spec.bound S p) ps) (λ qs. Ok (pattern.cons q qs))))) (sym is)
    ∙ ahead_more qs q (spec.patterns S known scope (before ++ spec.bound S p) ps)

abbrev pub joined_clauses : List clause.Clause → clause.Clauses → clause.Clauses
joined_clauses [] rest = rest
joined_clauses (c ∷ cs) rest = clause.cons c (joined_clauses cs rest)

abbrev pub ahead_clauses : List clause.Clause → Result clause.Clauses ResolveStop → Result clause.Clauses ResolveStop
ahead_clauses cs (Ok rest) = Ok (joined_clauses cs rest)
ahead_clauses cs (Err e) = Err e

joined_clauses_more : (cs : List clause.Clause) (c : clause.Clause) (rest : clause.Clauses) → joined_clauses cs (clause.cons c rest) ≡ joined_clauses (cs ++ c ∷ []) rest
joined_clauses_more [] c rest = refl
joined_clauses_more (d ∷ cs) c rest = ap (clause.cons d) (joined_clauses_more cs c rest)

pub joined_clauses_all : (cs : List clause.Clause) → joined_clauses cs clause.nil ≡ clause.clauses cs
joined_clauses_all [] = refl
joined_clauses_all (c ∷ cs) = ap (clause.cons c) (joined_clauses_all cs)

ahead_clauses_more : (cs : List clause.Clause) (c : clause.Clause) (rest : Result clause.Clauses ResolveStop) → ahead_clauses cs (and_then rest (λ cs. Ok (clause.cons c cs))) ≡ ahead_clauses (cs ++ c ∷ []) rest
ahead_clauses_more cs c (Ok rest) = ap (λ cs. Ok cs) (joined_clauses_more cs c rest)
ahead_clauses_more cs c (Err e) = refl

pub clauses_step : (S : Signature) (known : Known) (own : List ℕ) (allowed : Option ℕ) (w : surf.Clause) (ws : surf.Clauses) (cs : List clause.Clause) (c : clause.Clause)
    → Ok c ≡ function.clause S known own allowed w
    → ahead_clauses cs (function.clauses S known own allowed (surf.also w ws)) ≡ ahead_clauses (cs ++ c ∷ []) (function.clauses S known own allowed ws)
clauses_step S known own allowed w ws cs c is =
    ap (λ r. ahead_clauses cs (and_then r (λ c. and_then (function.clauses S known own allowed ws) (λ cs. Ok (clause.cons c cs))))) (sym is)
    ∙ ahead_clauses_more cs c (function.clauses S known own allowed ws)
