-- Places along a walk are kept.
use Rattle.std.proofs.Common.{◌≡◌, ℕ, zero, suc, ◌≤◌, ◌+◌, ◌-◌, ◌&&◌, Bool, true, false, cond, Result, Ok, Err, IfOk, List, [], ◌∷◌, ◌++◌, length, map, take, slice_get, sym, ap, ◌∙◌, subst as transport, arith}
use Rattle.std.proofs.lemmas.List.{length-map}
use Rattle.std.proofs.lemmas.List.Elements.{All-head, All-tail, All-nil, All-cons, All-take}
use Rattle.std.specs.List.{All}
use Rattle.theory.specs.Prelude.{prelude, equality_family}
use Rattle.theory.specs.Signatures.{Signature, FamilyOf, equality}
use Rattle.theory.specs.SignatureScopes.{IsScoped}
use Rattle.theory.specs.Telescopes.{Telescope}
use Rattle.theory.specs.Terms.{Term, top}
use Rattle.theory.proofs.Lists.{slice_get-longer}
use Rattle.theory.proofs.PreludeWellFormed.{equality_at}
use Rattle.theory.proofs.ScopedTerms.{sort-scoped}
use Rattle.core_terms.specs.Answers.{Gives, is_low, are_low}
use Rattle.core_terms.specs.Meanings.{tree_of, tele_of}
use Rattle.core_terms.specs.declared.case_tree.Origin.{Origin}
use Rattle.core_terms.specs.declared.case_tree.Origin.TheVariants.{Old, Arg}
use Rattle.core_terms.specs.declared.stop.Stop.{Stop}
use Rattle.core_terms.specs.declared.stop.Stop.TheVariants.{Deep}
use Rattle.core_terms.specs.declared.term.Term as term
use Rattle.core_terms.proofs.Builders.{ok_is}
use Rattle.kernel_reduce.specs.Reduction.{most_variables}
use Rattle.kernel_reduce.specs.WellScoped.{AreScoped}
use Rattle.kernel_reduce.proofs.WellScoped.{all-scoped, scoped-all, scoped-more}
use Rattle.tele_eq.specs.Items.{term_at}
use Rattle.problems.specs.Conditions.{most_levels}
use Rattle.case_trees.proofs.ScopedPoints.{under-scoped, all-under-scoped}
use Rattle.clause_walks.specs.PairConditions.{IsSolvedIn}
use Rattle.clause_reports.specs.ProofWalks.{Place, Proof, Ends, Splits, Proofs, nil, cons, value_at, at_origin, moved_place, bounded_place, leaves_in, all_leaves}
use Rattle.proof_walks.specs.proof_terms.ProofMeanings.{place_of, proofs}
use Rattle.proof_walks.specs.declared.proof_terms.proof.Place as code
use Rattle.proof_walks.specs.Laws.{KeptReduces, OpenIsReady}
use Rattle.proof_walks.specs.PlaceScopes.{IsScopedPlace, IsKeptPlace, IsKeptProof, AreKeptProofs, AreKeptLeaves}

pub kept-reduces : KeptReduces
kept-reduces S p ready h = record {
  signature = ready.scoped;
  terms = scoped-more S (length p.context) most_variables p.terms (omega (arith, h.few)) (scoped-all S (length p.context) p.terms h.scoped.terms);
}

pub open-ready : OpenIsReady
open-ready S h = record {
  scoped = h.settled.scoped;
  identities = λ i low. record {
    level = low;
    entry = ap (λ es. slice_get es (equality i)) h.prelude.entries
        ∙ slice_get-longer (prelude S.has_k).entries h.prelude.more (equality i) (FamilyOf (equality_family i)) (equality_at top i low);
  };
}

-- ---- terms for variables

term-at-scoped : (S : Signature) (n : ℕ) (ts : List Term) (j : ℕ) → All (IsScoped S n) ts → IsScoped S n (term_at ts j)
term-at-scoped S n [] j all = sort-scoped 0
term-at-scoped S n (t ∷ ts) zero all = All-head (IsScoped S n) t ts all
term-at-scoped S n (t ∷ ts) (suc j) all = term-at-scoped S n ts j (All-tail (IsScoped S n) t ts all)

pub value-scoped : (S : Signature) (n : ℕ) (values : List Term) (x : ℕ) → All (IsScoped S n) values → IsScoped S n (value_at values x)
value-scoped S n values x all = term-at-scoped S n values (length values - (x + 1)) all

module _ (S : Signature) (n : ℕ) (values arguments : List Term) (all : All (IsScoped S n) values) (us : All (IsScoped S n) arguments) where
  origin-scoped : (o : Origin) → IsScoped S n (at_origin values arguments o)
  origin-scoped (Old x) = value-scoped S n values x all
  origin-scoped (Arg j) = term-at-scoped S n arguments j us

  pub origins-scoped : (origins : List Origin) → All (IsScoped S n) (map (at_origin values arguments) origins)
  origins-scoped [] = All-nil (IsScoped S n)
  origins-scoped (o ∷ origins) =
      All-cons (IsScoped S n) (at_origin values arguments o) (map (at_origin values arguments) origins) (origin-scoped o) (origins-scoped origins)

-- ---- the next places

-- in the branch of a constructor
pub branch-kept : (S : Signature) (p q : code.Place) (arguments old values : List term.Term) (origins : List Origin) → IsKeptPlace S (place_of p)
    → AreScoped S (length p.ctx) (tele_of arguments) → old ≡ p.values
    → ◌≡◌ {A = Result (List Term) Stop} (Ok (tele_of values)) (Ok (map (at_origin (tele_of old) (tele_of arguments)) origins))
    → place_of q ≡ record (place_of p) { values = tele_of values } → IsKeptPlace S (place_of q)
branch-kept S p q arguments old values origins h us same made is =
    let n = length-map p.ctx tree_of in
    let m = length (tele_of p.ctx) in
    let next = origins-scoped S m (tele_of p.values) (tele_of arguments) h.scoped.values
    (all-scoped S m (tele_of arguments) (transport (λ k. AreScoped S k (tele_of arguments)) (sym n) us)) origins in
    let values = ok_is made ∙ ap (λ vs. map (at_origin (tele_of vs) (tele_of arguments)) origins) same in
    transport (IsKeptPlace S) (sym (is ∙ ap (λ vs. record (place_of p) { values = vs }) values))
    (record {
      scoped = record {
        context = h.scoped.context;
        type = h.scoped.type;
        left = h.scoped.left;
        right = h.scoped.right;
        terms = h.scoped.terms;
        values = next;
      };
      few = h.few;
    })

pub moved-scoped : (S : Signature) (p : Place) (context : Telescope) (solution : List Term) → IsScopedPlace S p → IsSolvedIn S context solution
    → IsScopedPlace S (moved_place p context solution)
moved-scoped S p context solution h new =
    let n = length p.context in
    let m = length context in
    let own = take n solution in
    let first = All-take (IsScoped S m) n solution new.solution in
    record {
      context = new.context;
      type = under-scoped S n m own p.type first h.type;
      left = under-scoped S n m own p.left first h.left;
      right = under-scoped S n m own p.right first h.right;
      terms = all-under-scoped S n m own p.terms first h.terms;
      values = all-under-scoped S n m own p.values first h.values;
    }

bounded-is : (p q : Place) → ◌≡◌ {A = Result Place Stop} (Ok p) (bounded_place q) → p ≡ q
bounded-is p q e = by (are_low q.context && (is_low q.type && (is_low q.left && (is_low q.right && (are_low q.terms && are_low q.values))))) e
  where
    by : (low : Bool) → ◌≡◌ {A = Result Place Stop} (Ok p) (cond low (Ok q) (Err Deep)) → p ≡ q
    by true h = cc
    by false h = absurd (cc)

-- after a solution
pub after-kept : (S : Signature) (p moved : Place) (context : Telescope) (solution : List Term) (r : Result code.Place Stop) → IsKeptPlace S p → IsSolvedIn S context solution
    → ◌≡◌ {A = Result Place Stop} (Ok moved) (bounded_place (moved_place p context solution)) → Gives place_of r (Ok moved)
    → IfOk r (λ q. length q.ctx ≤ most_levels) → IfOk r (λ q. IsKeptPlace S (place_of q))
after-kept S p moved context solution (Ok q) h new e is few = record {
  scoped = transport (IsScopedPlace S) (sym (ok_is is ∙ bounded-is moved (moved_place p context solution) e)) (moved-scoped S p context solution h.scoped new);
  few = omega (arith, few, length-map q.ctx tree_of);
}
after-kept S p moved context solution (Err x) h new e is few = tt

-- ---- proofs

pub kept-snoc : (S : Signature) (made : List Proof) (proof : Proof) → AreKeptProofs S (proofs made) → IsKeptProof S proof → AreKeptProofs S (proofs (made ++ proof ∷ []))
kept-snoc S [] proof h k = (k, tt)
kept-snoc S (first ∷ made) proof h k = (h.0, kept-snoc S made proof h.1 k)

leaves-append : (S : Signature) (first others : List (ℕ × Place)) → AreKeptLeaves S first → AreKeptLeaves S others → AreKeptLeaves S (first ++ others)
leaves-append S [] others h k = k
leaves-append S (leaf ∷ first) others h k = (h.0, leaves-append S first others h.1 k)

mutual
  pub kept-leaves : (S : Signature) (proof : Proof) → IsKeptProof S proof → AreKeptLeaves S (leaves_in proof)
  kept-leaves S (Ends clause p) h = (h, tt)
  kept-leaves S (Splits p x type runs all) h = kept-all S all h.1

  kept-all : (S : Signature) (all : Proofs) → AreKeptProofs S all → AreKeptLeaves S (all_leaves all)
  kept-all S nil h = tt
  kept-all S (cons proof all) h = leaves-append S (leaves_in proof) (all_leaves all) (kept-leaves S proof h.0) (kept-all S all h.1)

pub answer-leaves : {A E : Type 0} (S : Signature) (f : A → Proof) (r : Result A E) → IfOk r (λ a. IsKeptProof S (f a)) → IfOk r (λ a. AreKeptLeaves S (leaves_in (f a)))
answer-leaves S f (Ok a) h = kept-leaves S (f a) h
answer-leaves S f (Err e) h = tt
