-- A constructor pattern against a head form, as the code compares it.
use Rattle.std.proofs.Common.{◌≡◌, ℕ, Bool, true, cond, Result, Ok, Err, List, length, sym, ap, ◌∙◌, subst}
use Rattle.std.proofs.lemmas.List.{length-map}
use Rattle.theory.specs.Terms.{Term}
use Rattle.theory.specs.Signatures.{Signature}
use Rattle.core_terms.specs.Answers.{Spent, and_next}
use Rattle.core_terms.specs.Meanings.{tree_of, tele_of}
use Rattle.core_terms.specs.Patterns as pattern
use Rattle.core_terms.specs.Patterns.{Pats}
use Rattle.core_terms.specs.declared.stop.Stop.{Stop}
use Rattle.core_terms.specs.declared.term.Term as term
use Rattle.kernel_reduce.specs.Reduction.{answered}
use Rattle.unification.specs.Built.{built_of}
use Rattle.problems.specs.CodeBuilt.{IfThere, IsBuiltAs, split_of, teles_of}
use Rattle.problems.specs.declared.built.Built.{Built}
use Rattle.problems.proofs.BuiltArguments.{built-whole}
use Rattle.problems.proofs.BuiltCodes.{from_code, split-first, split-rest}
use Rattle.case_trees.specs.pattern_vectors.Matching.{is_constructor}
use Rattle.case_trees.specs.Pairs.{Pair, Pairs, Builds, Clashes}
use Rattle.case_trees.specs.Working.{of_arguments, builds, compared, work_patterns}
use Rattle.clause_walks.proofs.WorkingCodes.{refused-next, answered-next}

module _ (S : Signature) (w : Term) (b : Built) (there : IfThere (IsBuiltAs b) (built_of S w)) where
  module _ (n number : ℕ) (pats : Pats) (t : Term) where
    compared-there : (work : List Term → ℕ → Spent Pairs) (test : Bool) (left : ℕ) → is_constructor n number (from_code b w) ≡ test
        → compared n number pats t w work (built_of S w) left
        ≡ cond test (and_next (work (from_code b w).arguments left) (λ pairs rest. answered (Ok (builds (from_code b w) pairs)) rest))
        (answered (Ok (Clashes (pattern.Con n number pats) w)) left)
    compared-there work test left is =
        ap (λ o. compared n number pats t w work o left) (built-whole S w b there)
        ∙ ap (λ test. cond test (and_next (work (from_code b w).arguments left) (λ pairs rest. answered (Ok (builds (from_code b w) pairs)) rest))
        (answered (Ok (Clashes (pattern.Con n number pats) w)) left)) is

    module _ (room k : ℕ) (lists : List term.Term × List term.Term) (split : ◌≡◌ {A = Result (List Term × List Term) Stop} (Ok (teles_of lists)) (Ok (split_of k w)))
        (count : k ≡ length b.record.now.params) (own : is_constructor n number (from_code b w) ≡ true) where
      parameters : tele_of lists.0 ≡ (from_code b w).parameters
      parameters = split-first lists k _ w split (count ∙ counted)
        where
          counted : length b.record.now.params ≡ length (tele_of b.record.now.params)
          counted = sym (length-map b.record.now.params tree_of)

      arguments : tele_of lists.1 ≡ (from_code b w).arguments
      arguments = split-rest lists k _ w split (count ∙ counted)
        where
          counted : length b.record.now.params ≡ length (tele_of b.record.now.params)
          counted = sym (length-map b.record.now.params tree_of)

      pub built-refused : (left end : ℕ) (e : Stop) → ◌≡◌ {A = Spent Pairs} (Err e, end) (work_patterns S (of_arguments room) pats (tele_of lists.1) left)
          → ◌≡◌ {A = Spent Pair} (Err e, end) (compared n number pats t w (work_patterns S (of_arguments room) pats) (built_of S w) left)
      built-refused left end e is =
          let work = work_patterns S (of_arguments room) pats in
          refused-next (work (from_code b w).arguments left) (λ pairs rest. answered (Ok (builds (from_code b w) pairs)) rest) e end
          (subst (λ us. ◌≡◌ {A = Spent Pairs} (Err e, end) (work us left)) arguments is)
          ∙ sym (compared-there work true left own)

      pub built-go : (left end : ℕ) (pairs : Pairs) → ◌≡◌ {A = Spent Pairs} (Ok pairs, end) (work_patterns S (of_arguments room) pats (tele_of lists.1) left)
          → ◌≡◌ {A = Spent Pair} (Ok (Builds b.family b.number (tele_of lists.0) pairs), end) (compared n number pats t w (work_patterns S (of_arguments room) pats) (built_of S w) left)
      built-go left end pairs is =
          let work = work_patterns S (of_arguments room) pats in
          ap (λ ps. answered (Ok (Builds b.family b.number ps pairs)) end) parameters
          ∙ (answered-next (work (from_code b w).arguments left) (λ pairs rest. answered (Ok (builds (from_code b w) pairs)) rest) pairs end
          (subst (λ us. ◌≡◌ {A = Spent Pairs} (Ok pairs, end) (work us left)) arguments is)
          ∙ sym (compared-there work true left own))
