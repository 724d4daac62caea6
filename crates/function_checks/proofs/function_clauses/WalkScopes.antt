-- The terms that are scoped in the context of a walk.
use Rattle.std.proofs.Common.{◌≡◌, ℕ, List, [], ◌∷◌, length, map, Ok, sym, subst as transport, arith}
use Rattle.std.proofs.lemmas.List.Elements.{All-nil, All-cons, All-head, All-tail}
use Rattle.std.specs.List.{All}
use Rattle.theory.specs.Terms.{Term, free_of}
use Rattle.theory.specs.Telescopes.{Telescope}
use Rattle.theory.specs.Signatures.{Signature}
use Rattle.theory.specs.SignatureScopes.{HasEntries, IsScoped}
use Rattle.core_terms.specs.Answers.{bounded}
use Rattle.core_terms.specs.CaseTrees as pure
use Rattle.core_terms.specs.Meanings.{tree_of, tele_of}
use Rattle.core_terms.specs.TreeMeanings.{walk_of}
use Rattle.core_terms.specs.declared.case_tree.Walk.{Walk}
use Rattle.core_terms.specs.declared.term.Term as code
use Rattle.case_trees.proofs.ScopedPoints.{under-scoped}
use Rattle.case_trees.specs.Points.{under_solution}
use Rattle.function_checks.specs.function_clauses.Conditions.{IsWalkOver}
use Rattle.kernel_reduce.specs.WellScoped.{AreScoped, AreWellScoped}
use Rattle.tree_translation.proofs.Drafting.{bounded-ok}

-- terms that are scoped in a walk's context
pub over-walk : (S : Signature) (w : pure.Walk) (ts : List Term) → IsWalkOver S w → AreScoped S (length w.ctx) ts → AreWellScoped S w.ctx ts
over-walk S w ts h scoped =
    record { signature = h.ready.scoped; context = h.scoped.context; few = omega (arith, h.few); terms = scoped }

-- a term of a clause, with the bindings for the clause's variables
pub bound-scoped : (S : Signature) (w : pure.Walk) (t : Term) → IsWalkOver S w → HasEntries S t
    → IsScoped S (length w.ctx) (under_solution w.binds t)
bound-scoped S w t h entries =
    under-scoped S (free_of t) (length w.ctx) w.binds t h.scoped.binds (record { variables = omega arith; entries = entries })

-- such a term is scoped where the code makes it, which it does if it is not too high
pub made-scoped : (S : Signature) (w : pure.Walk) (t u : Term) → IsWalkOver S w → HasEntries S t → Ok u ≡ bounded (under_solution w.binds t)
    → IsScoped S (length w.ctx) u
made-scoped S w t u h entries e =
    transport (IsScoped S (length w.ctx)) (sym (bounded-ok (under_solution w.binds t) u (sym e))) (bound-scoped S w t h entries)

-- both terms of a dot are scoped, and those of a dot in code are
abbrev AreBoth : Signature → (n : ℕ) → Term × Term → Type 0
AreBoth S n d = IsScoped S n d.0 × IsScoped S n d.1

abbrev AreBothWell : Signature → Telescope → code.Term × code.Term → Type 0
AreBothWell S context d = AreWellScoped S context (tree_of d.0 ∷ tree_of d.1 ∷ [])

abbrev pub dot_of : code.Term × code.Term → Term × Term
dot_of d = (tree_of d.0, tree_of d.1)

pairs-scoped : (S : Signature) (w : pure.Walk) (dots : List (code.Term × code.Term)) → IsWalkOver S w
    → All (AreBoth S (length w.ctx)) (map dot_of dots) → All (AreBothWell S w.ctx) dots
pairs-scoped S w [] h all = All-nil (AreBothWell S w.ctx)
pairs-scoped S w (d ∷ dots) h all =
    let first = All-head (AreBoth S (length w.ctx)) (dot_of d) (map dot_of dots) all in
    All-cons (AreBothWell S w.ctx) d dots (over-walk S w (tree_of d.0 ∷ tree_of d.1 ∷ []) h (first.0, (first.1, tt)))
    (pairs-scoped S w dots h (All-tail (AreBoth S (length w.ctx)) (dot_of d) (map dot_of dots) all))

pub dots-scoped : (S : Signature) (w : Walk) (dots : List (code.Term × code.Term)) → dots ≡ w.dots → IsWalkOver S (walk_of w)
    → All (λ (d : code.Term × code.Term). AreWellScoped S (tele_of w.ctx) (tree_of d.0 ∷ tree_of d.1 ∷ [])) dots
dots-scoped S w dots is h =
    transport (All (AreBothWell S (tele_of w.ctx))) (sym is) (pairs-scoped S (walk_of w) w.dots h h.scoped.dots)
