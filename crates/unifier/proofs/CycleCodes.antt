-- The code finds the same term around a variable, below constructors, as the definition.
use Rattle.std.proofs.Common.{◌≡◌, ℕ, zero, ◌<◌, ◌==◌, Bool, true, false, cond, Option, Some, None, Ok, Err, List, [], ◌∷◌, ◌++◌, length, drop, reverse, slice_get, refl, sym, ap, ap₂, ◌∙◌, subst, append_assoc, append-nil, arith}
use Rattle.std.proofs.lemmas.List.{length-map, map-append, reverse-append, reverse-reverse}
use Rattle.theory.specs.Terms.{Term}
use Rattle.theory.specs.Spines.{spine_of}
use Rattle.theory.specs.Families.{Argument}
use Rattle.theory.specs.Signatures.{Signature}
use Rattle.core_terms.specs.Answers.{Spent, and_next}
use Rattle.core_terms.specs.Meanings.{tree_of, tele_of}
use Rattle.core_terms.specs.declared.stop.Stop.{Stop}
use Rattle.core_terms.specs.declared.term.Term as code
use Rattle.core_sig.specs.Meanings.{constructor_of}
use Rattle.unification.specs.Built as pure
use Rattle.unification.specs.Built.{built_of, is_direct}
use Rattle.problems.specs.CodeBuilt.{IsBuiltAs}
use Rattle.problems.specs.CodeCycles.{direct_among, direct_arguments, direct_in, go_below, is_direct_at, search_too_deep, search_within}
use Rattle.problems.specs.Conditions.{AreGiven, IsGiven}
use Rattle.problems.specs.declared.built.Built.{Built}
use Rattle.problems.proofs.BuiltCodes.{IsOf, from_code, of-built, of-pure}
use Rattle.problems.proofs.BuiltForms.{built-is}
use Rattle.problems.proofs.GivenTerms.{append-given, direct-given, drop-given, spine-given}
use Rattle.unifier.proofs.WaitingTerms.{turns_in, below-all, below-fewer, search-deep}

-- ---- direct arguments from the last one on

direct-last : (arguments : List Argument) (us : List Term) (u : Term)
    → direct_among arguments (us ++ u ∷ []) ≡ direct_among arguments us ++ cond (is_direct_at (slice_get arguments (length us))) (u ∷ []) []
direct-last [] [] u = refl
direct-last [] (v ∷ us) u = refl
direct-last (a ∷ arguments) [] u = refl-direct (is_direct a) arguments
  where
    refl-direct : (b : Bool) (arguments : List Argument) → cond b (u ∷ direct_among arguments []) (direct_among arguments []) ≡ cond b (u ∷ []) []
    refl-direct true [] = refl
    refl-direct true (a ∷ arguments) = refl
    refl-direct false [] = refl
    refl-direct false (a ∷ arguments) = refl
direct-last (a ∷ arguments) (v ∷ us) u = go (is_direct a) (direct-last arguments us u)
  where
    go : (b : Bool) → direct_among arguments (us ++ u ∷ []) ≡ direct_among arguments us ++ cond (is_direct_at (slice_get arguments (length us))) (u ∷ []) []
        → cond b (v ∷ direct_among arguments (us ++ u ∷ [])) (direct_among arguments (us ++ u ∷ []))
        ≡ cond b (v ∷ direct_among arguments us) (direct_among arguments us) ++ cond (is_direct_at (slice_get arguments (length us))) (u ∷ []) []
    go true h = ap (λ ws. v ∷ ws) h
    go false h = h

reverse-one : (b : Bool) (u : Term) → reverse (cond b (u ∷ []) []) ≡ cond b (u ∷ []) []
reverse-one true u = refl
reverse-one false u = refl

-- one more is put after those that wait
pub one-waits : (arguments : List Argument) (us rest : List code.Term) (u : code.Term) (direct : Bool) (made more whole : List Term) → us ≡ rest ++ u ∷ []
    → direct ≡ is_direct_at (slice_get arguments (length rest)) → more ≡ made ++ cond direct (tree_of u ∷ []) [] → made ++ reverse (direct_among arguments (tele_of us)) ≡ whole
    → more ++ reverse (direct_among arguments (tele_of rest)) ≡ whole
one-waits arguments us rest u direct made more whole popped is pushed before =
    let one = cond (is_direct_at (slice_get arguments (length rest))) (tree_of u ∷ []) [] in
    let D = direct_among arguments (tele_of rest) in
    let tele : tele_of us ≡ tele_of rest ++ tree_of u ∷ [] = ap tele_of popped ∙ map-append tree_of rest (u ∷ []) in
    let last : direct_among arguments (tele_of us) ≡ D ++ one =
    ap (direct_among arguments) tele
    ∙ (direct-last arguments (tele_of rest) (tree_of u) ∙ ap (λ n. D ++ cond (is_direct_at (slice_get arguments n)) (tree_of u ∷ []) []) (length-map rest tree_of)) in
    ap (λ xs. xs ++ reverse D) (pushed ∙ ap (λ b. made ++ cond b (tree_of u ∷ []) []) is)
    ∙ (append_assoc made one (reverse D)
    ∙ (ap (λ xs. made ++ xs) (sym (ap reverse last ∙ (reverse-append D one ∙ ap (λ xs. xs ++ reverse D) (reverse-one (is_direct_at (slice_get arguments (length rest))) (tree_of u))))) ∙ before))

-- none is left
pub none-waits : (arguments : List Argument) (us : List code.Term) (made whole : List Term) → length us ≡ 0 → made ++ reverse (direct_among arguments (tele_of us)) ≡ whole → made ≡ whole
none-waits arguments us made whole none h =
    sym (append-nil made) ∙ (ap (λ us. made ++ reverse us) (sym (nothing arguments)) ∙ (ap (λ us. made ++ reverse (direct_among arguments (tele_of us))) (sym (empty us none)) ∙ h))
  where
    nothing : (arguments : List Argument) → direct_among arguments [] ≡ []
    nothing [] = refl
    nothing (a ∷ arguments) = refl

    empty : (us : List code.Term) → length us ≡ 0 → us ≡ []
    empty [] e = refl
    empty (u ∷ us) e = absurd (omega arith)

-- those of a constructor that was found
direct-found : (S : Signature) (t : Term) (b : Built) → IsOf S t b → direct_among (from_code b t).constructor.arguments (from_code b t).arguments ≡ direct_in b t
direct-found S t b h =
    ap (λ n. direct_among (constructor_of (length b.record.now.params) b.con.now).arguments (drop n (spine_of t))) (length-map b.record.now.params tree_of)

pub direct-same : (S : Signature) (t : Term) (b : Built) (p : pure.Built) → built_of S t ≡ Some p → IsBuiltAs b p → direct_among p.constructor.arguments p.arguments ≡ direct_in b t
direct-same S t b p e is =
    let h = of-pure S t b p e is in
    let same : p ≡ from_code b t = some-is (sym e ∙ of-built S t b h) in
    ap (λ (p : pure.Built). direct_among p.constructor.arguments p.arguments) same ∙ direct-found S t b h
  where
    some-is : {A : Type 0} {a b : A} → ◌≡◌ {A = Option A} (Some a) (Some b) → a ≡ b
    some-is e = cc

-- they are given
pub direct_in-given : (S : Signature) (n : ℕ) (b : Built) (t : Term) → IsGiven S n t → AreGiven S n (direct_in b t)
direct_in-given S n b t h =
    direct-given S n (constructor_of (length b.record.now.params) b.con.now).arguments (drop (length b.record.now.params) (spine_of t))
    (drop-given S n (length b.record.now.params) (spine_of t) (spine-given S n t h))

pub arguments-given : (S : Signature) (k n : ℕ) (t : Term) → IsGiven S n t → AreGiven S n (direct_arguments k (built_of S t))
arguments-given S k n t h = of-option (built_of S t) refl
  where
    of-test : (p : pure.Built) (b : Bool) → built_of S t ≡ Some p → AreGiven S n (cond b (direct_among p.constructor.arguments p.arguments) [])
    of-test p true e =
        direct-given S n p.constructor.arguments p.arguments
        (subst (AreGiven S n) (sym (built-is S t p e).arguments) (drop-given S n (length p.family.parameters) (spine_of t) (spine-given S n t h)))
    of-test p false e = tt

    of-option : (o : Option pure.Built) → built_of S t ≡ o → AreGiven S n (direct_arguments k o)
    of-option None e = tt
    of-option (Some p) e = of-test p (p.n == k) e

pub reverse-given : (S : Signature) (n : ℕ) (us : List Term) → AreGiven S n us → AreGiven S n (reverse us)
reverse-given S n [] h = tt
reverse-given S n (u ∷ us) h =
    subst (AreGiven S n) (sym (reverse-append (u ∷ []) us)) (append-given S n (reverse us) (u ∷ []) (reverse-given S n us h.1) (h.0, tt))

-- ---- the terms that wait

pub popped-first : (old rest : List code.Term) (u : code.Term) → old ≡ rest ++ u ∷ [] → reverse (tele_of old) ≡ tree_of u ∷ reverse (tele_of rest)
popped-first old rest u e =
    ap reverse (ap tele_of e ∙ map-append tree_of rest (u ∷ [])) ∙ reverse-append (tele_of rest) (tree_of u ∷ [])

module _ (S : Signature) (n x : ℕ) (old rest : List code.Term) (u : code.Term) (left : ℕ) (popped : old ≡ rest ++ u ∷ []) where
  at-first : search_too_deep S n x (reverse (tele_of old)) left ≡ and_next (go_below S n x (tree_of u) (reverse (tele_of rest)) left) (λ made end. search_too_deep S n x made end)
  at-first =
      ap (λ ts. search_too_deep S n x ts left) (popped-first old rest u popped) ∙ below-all S n x (tree_of u) (reverse (tele_of rest)) left

  pub waiting-refused : (e : Stop) (end : ℕ) → ◌≡◌ {A = Spent (List Term)} (Err e, end) (go_below S n x (tree_of u) (reverse (tele_of rest)) left)
      → ◌≡◌ {A = Spent (Option Term)} (Err e, end) (search_too_deep S n x (reverse (tele_of old)) left)
  waiting-refused e end is = sym (at-first ∙ ap (λ r. and_next r (λ made end. search_too_deep S n x made end)) (sym is))

  pub waiting-on : (made : List Term) (end : ℕ) → ◌≡◌ {A = Spent (List Term)} (Ok made, end) (go_below S n x (tree_of u) (reverse (tele_of rest)) left)
      → search_too_deep S n x made end ≡ search_too_deep S n x (reverse (tele_of old)) left
  waiting-on made end is = sym (at-first ∙ ap (λ r. and_next r (λ made end. search_too_deep S n x made end)) (sym is))

  pub waiting-fewer : (made : List Term) (end : ℕ) → ◌≡◌ {A = Spent (List Term)} (Ok made, end) (go_below S n x (tree_of u) (reverse (tele_of rest)) left)
      → turns_in S n made end < turns_in S n (reverse (tele_of old)) left
  waiting-fewer made end is =
      subst (λ ts. turns_in S n made end < turns_in S n ts left) (sym (popped-first old rest u popped)) (below-fewer S n x (tree_of u) (reverse (tele_of rest)) made left end is)

pub nothing-deep : (S : Signature) (x : ℕ) (t : Term) (left : ℕ) (b : Built) (p : pure.Built) (terms : List Term) → built_of S t ≡ Some p → IsBuiltAs b p → terms ≡ reverse (direct_in b t)
    → search_too_deep S b.family x (reverse terms) left ≡ search_within S p.n x zero t left
nothing-deep S x t left b p terms e is made =
    sym (search-deep S x t left p e
    ∙ ap₂ (λ n ts. search_too_deep S n x ts left) is.n (direct-same S t b p e is ∙ sym (ap reverse made ∙ reverse-reverse (direct_in b t))))
