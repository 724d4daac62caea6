-- The arguments that a shadowed clause shows: terms without K, reduced as far as two clauses look into them.
use Rattle.std.proofs.Common.{ℕ, true, Option, Some, None, IfSome, List, [], ◌∷◌, ◌++◌}
use Rattle.theory.specs.Terms.{Term}
use Rattle.theory.specs.Terms.Term.{Con}
use Rattle.theory.specs.Signatures.{Signature}
use Rattle.theory.specs.AxiomKLaws.{LacksAxiomK}
use Rattle.core_terms.specs.Answers.{Spent}
use Rattle.core_terms.specs.Patterns as pattern
use Rattle.core_terms.specs.Patterns.{Pat, Pats}
use Rattle.unification.specs.Built.{Built, built_of}
use Rattle.case_trees.specs.Kept.{at_arguments}
use Rattle.clause_reports.specs.Shadows.{all_reduced, reduced_arguments, reduced_by, vector_of}
use Rattle.elim.specs.k_laws.Lacking.{Lack, SignatureLacks}
use Rattle.elim.proofs.k_laws.Runs.{Ends, now, done, next, either-ends, low}
use Rattle.elim.proofs.k_laws.Terms.{applies, appended}
use Rattle.elim.proofs.k_laws.Kernel.{whnf}
use Rattle.elim.proofs.k_laws.Trials.{BuiltLacks, built}

arguments : (n number : ℕ) {reduce : List Term → ℕ → Spent (List Term)} → ((us : List Term) (left : ℕ) → Lack us → Ends Lack (reduce us left)) → (w : Term)
    (b : Option Built) (left : ℕ) → LacksAxiomK w → IfSome b BuiltLacks → Ends LacksAxiomK (reduced_arguments n number reduce w b left)
arguments n number k w None left h l = done h
arguments n number k w (Some b) left h l =
    either-ends _
    (next (k b.arguments left l.arguments) (λ us rest q.
    now (low (at_arguments b us) (applies (Con b.n b.number) (b.parameters ++ us) tt (appended b.parameters us l.parameters q)))))
    (done h)

mutual
  reduces : (S : Signature) → SignatureLacks S → (pat : Pat) (t : Term) (left : ℕ) → LacksAxiomK t → Ends LacksAxiomK (reduced_by S pat t left)
  reduces S all (pattern.Con n number pats) t left h =
      next (whnf S true left t all h) (λ w rest k.
      arguments n number (λ us end l. all-reduce S all pats us end l) w (built_of S w) rest k (built S w k).is)
  reduces S all pattern.Bind t left h = done h
  reduces S all pattern.Wild t left h = done h
  reduces S all (pattern.Dot written) t left h = done h
  reduces S all pattern.Absurd t left h = done h

  all-reduce : (S : Signature) → SignatureLacks S → (pats : Pats) (ts : List Term) (left : ℕ) → Lack ts → Ends Lack (all_reduced S pats ts left)
  all-reduce S all (pattern.cons pat pats) (t ∷ ts) left h =
      next (reduces S all pat t left h.0) (λ u rest k. next (all-reduce S all pats ts rest h.1) (λ us end l. done (k, l)))
  all-reduce S all (pattern.cons pat pats) [] left h = done h
  all-reduce S all pattern.nil ts left h = done h

pub vector : (S : Signature) → SignatureLacks S → (own earlier : Pats) (ts : List Term) (left : ℕ) → Lack ts → Ends Lack (vector_of S own earlier ts left)
vector S all own earlier ts left h = next (all-reduce S all own ts left h) (λ us rest k. all-reduce S all earlier us rest k)
