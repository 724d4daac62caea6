-- The terms that are kept of comparisons, as the code makes them.
use Rattle.std.proofs.Common.{◌≡◌, ℕ, ◌≤◌, true, Result, Ok, List, [], ◌∷◌, ◌++◌, length, drop, refl, sym, ap, ap₂, ◌∙◌, arith}
use Rattle.std.proofs.lemmas.List.{length-map}
use Rattle.theory.specs.Terms.{Term, Con, height}
use Rattle.theory.specs.Spines.{spine_of}
use Rattle.theory.specs.Telescopes.{applied}
use Rattle.theory.specs.Signatures.{Signature}
use Rattle.core_terms.specs.Answers.{are_low}
use Rattle.core_terms.specs.Meanings.{tree_of, tele_of}
use Rattle.core_terms.specs.declared.stop.Stop.{Stop}
use Rattle.core_terms.specs.declared.term.Term as code
use Rattle.core_terms.proofs.Builders.{ok_is}
use Rattle.unification.specs.Built.{built_of}
use Rattle.case_trees.specs.Keeping.{kept_over, keep_all}
use Rattle.case_trees.specs.Pairs.{Pairs}
use Rattle.problems.specs.CodeBuilt.{IfThere, IsBuiltAs, split_of, teles_of}
use Rattle.problems.specs.Conditions.{AreLow}
use Rattle.problems.specs.declared.built.Built.{Built}
use Rattle.problems.proofs.BuiltCodes.{code-of, of-built, split-first, split-rest}
use Rattle.problems.proofs.CycleForms.{AreLower, spine-lower}
use Rattle.problems.proofs.LowTerms.{terms-low, low-drop}

lower-low : (h : ℕ) (us : List Term) → AreLower h us → h ≤ 2000 → AreLow us
lower-low h [] lower low = tt
lower-low h (u ∷ us) lower low = (omega (arith, lower.0), lower-low h us lower.1 low)

-- the arguments of a low term are low
pub arguments-low : (lists : List code.Term × List code.Term) (slice : List code.Term) (n : ℕ) (t : Term) → height t ≤ 2000
    → ◌≡◌ {A = Result (List Term × List Term) Stop} (Ok (teles_of lists)) (Ok (split_of n t)) → slice ≡ lists.1 → are_low (tele_of slice) ≡ true
arguments-low lists slice n t low e same =
    ap (λ us. are_low (tele_of us)) same
    ∙ (ap are_low (split-rest lists n n t e refl) ∙ terms-low (drop n (spine_of t)) (low-drop n (spine_of t) (lower-low (height t) (spine_of t) (spine-lower t) low)))

-- the constructor with what its arguments keep
pub kept-made : (S : Signature) (t : Term) (b : Built) (pairs : Pairs) (new : Term) (lists : List code.Term × List code.Term) (slice kept whole : List code.Term) (n : ℕ)
    → IfThere (IsBuiltAs b) (built_of S t) → ◌≡◌ {A = Result (List Term × List Term) Stop} (Ok (teles_of lists)) (Ok (split_of n t))
    → n ≡ length b.record.now.params → slice ≡ lists.1 → ◌≡◌ {A = Result (List Term) Stop} (Ok (tele_of kept)) (Ok (tele_of lists.0 ++ keep_all S pairs (tele_of slice)))
    → whole ≡ kept → applied (Con b.family b.number) (tele_of whole) ≡ kept_over (keep_all S pairs) new (built_of S t)
kept-made S t b pairs new lists slice kept whole n there split count part made all =
    let m = length (tele_of b.record.now.params) in
    let at : n ≡ m = count ∙ sym (length-map b.record.now.params tree_of) in
    ap (λ us. applied (Con b.family b.number) (tele_of us)) all
    ∙ (ap (applied (Con b.family b.number))
    (ok_is made ∙ ap₂ (λ ps us. ps ++ keep_all S pairs us) (split-first lists n m t split at) (ap tele_of part ∙ split-rest lists n m t split at))
    ∙ ap (kept_over (keep_all S pairs) new) (sym (of-built S t b (code-of S t b there))))
