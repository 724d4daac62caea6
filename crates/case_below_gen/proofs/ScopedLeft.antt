-- `Eq.i!left.m` is scoped, over a signature that has the prelude.
use Rattle.std.proofs.Common.{ℕ, ◌+◌, ◌<◌, ◌++◌, max, [], IfOk, arith, codes}
use Rattle.theory.specs.Terms.{Term, top}
use Rattle.theory.specs.Terms.Term.{Var, App}
use Rattle.theory.specs.Prelude.{prelude, equality_family, level_text}
use Rattle.theory.specs.Signatures.{Signature, FamilyOf, IsEntryAt, IsPrefix, equality, equation}
use Rattle.theory.proofs.PreludeWellFormed.{equality_at}
use Rattle.theory.proofs.Widening.{prefix_keeps}
use Rattle.core_terms.specs.declared.levels.Binder.{Binder}
use Rattle.core_terms.specs.declared.levels.Binder.TheVariants.{Product, Function}
use Rattle.core_sig.specs.DraftScopes.{IsDraftTerm}
use Rattle.core_sig.specs.Drafts.{generated_name}
use Rattle.core_sig.specs.ScopedDrafts.{IsScopedDraft}
use Rattle.core_sig.proofs.PlacedDrafts.{pi-draft, lam-draft, app-draft, bind-draft, var-draft, sort-draft, draft-longer}
use Rattle.core_sig.proofs.ScopedDrafts.{drafted-scoped}
use Rattle.core_sig.proofs.ShapeScopes.{fam-draft, con-draft, elim-draft}
use Rattle.case_below_gen.specs.LeftEntries.{left_motive, at_reflexivity, left_over, left_type, turned_motive, turned_method, left_term, left_entry}

-- the signature has Eq.i
abbrev HasEquality : Signature → ℕ → Type 0
HasEquality T i = IsEntryAt T (equality i) (FamilyOf (equality_family i))

equation-draft : (T : Signature) (base count n i : ℕ) (A a b : Term) → HasEquality T i → IsDraftTerm T base count n A → IsDraftTerm T base count n a → IsDraftTerm T base count n b → IsDraftTerm T base count n (equation i A a b)
equation-draft T base count n i A a b has hA ha hb = app-draft (app-draft (app-draft (fam-draft (equality i) (equality_family i, has)) hA) ha) hb

left_motive-draft : (T : Signature) (base count n i m A a : ℕ) → HasEquality T i → A < n → a < n → IsDraftTerm T base count n (left_motive i m A a)
left_motive-draft T base count n i m A a has hA ha =
    pi-draft (var-draft A hA)
    (pi-draft
    (equation-draft T base count (n + 1) i (Var (A + 1)) (Var 0) (Var (a + 1)) has (var-draft (A + 1) (omega arith)) (var-draft 0 (omega arith)) (var-draft (a + 1) (omega arith)))
    (sort-draft m))

at_reflexivity-draft : (T : Signature) (base count n i P A a : ℕ) → HasEquality T i → P < n → A < n → a < n → IsDraftTerm T base count n (at_reflexivity i P A a)
at_reflexivity-draft T base count n i P A a has hP hA ha =
    app-draft (app-draft (var-draft P hP) (var-draft a ha))
    (app-draft (app-draft (con-draft (equality i) 0 (equality_family i, has, omega arith)) (var-draft A hA)) (var-draft a ha))

left_over-draft : (T : Signature) (base count : ℕ) (binder : Binder) (i m : ℕ) (end : Term) → HasEquality T i → IsDraftTerm T base count 6 end → IsDraftTerm T base count 0 (left_over binder i m end)
left_over-draft T base count binder i m end has h =
    bind-draft binder (sort-draft i)
    (bind-draft binder (var-draft 0 (omega arith))
    (bind-draft binder (left_motive-draft T base count 2 i m 1 0 has (omega arith) (omega arith))
    (bind-draft binder (at_reflexivity-draft T base count 3 i 0 2 1 has (omega arith) (omega arith) (omega arith))
    (bind-draft binder (var-draft 3 (omega arith))
    (bind-draft binder (equation-draft T base count 5 i (Var 4) (Var 0) (Var 3) has (var-draft 4 (omega arith)) (var-draft 0 (omega arith)) (var-draft 3 (omega arith))) h)))))

turned_motive-draft : (T : Signature) (base count i m : ℕ) → HasEquality T i → IsDraftTerm T base count 6 (turned_motive i m)
turned_motive-draft T base count i m has =
    lam-draft (var-draft 5 (omega arith))
    (lam-draft (equation-draft T base count 7 i (Var 6) (Var 2) (Var 0) has (var-draft 6 (omega arith)) (var-draft 2 (omega arith)) (var-draft 0 (omega arith)))
    (pi-draft (left_motive-draft T base count 8 i m 7 1 has (omega arith) (omega arith))
    (pi-draft (at_reflexivity-draft T base count 9 i 0 8 2 has (omega arith) (omega arith) (omega arith))
    (app-draft (app-draft (var-draft 1 (omega arith)) (var-draft 5 (omega arith))) (var-draft 2 (omega arith))))))

turned_method-draft : (T : Signature) (base count i m : ℕ) → HasEquality T i → IsDraftTerm T base count 6 (turned_method i m)
turned_method-draft T base count i m has =
    lam-draft (left_motive-draft T base count 6 i m 5 1 has (omega arith) (omega arith))
    (lam-draft (at_reflexivity-draft T base count 7 i 0 6 2 has (omega arith) (omega arith) (omega arith)) (var-draft 0 (omega arith)))

left_type-draft : (T : Signature) (base count i m : ℕ) → HasEquality T i → IsDraftTerm T base count 0 (left_type i m)
left_type-draft T base count i m has =
    left_over-draft T base count Product i m (App (App (Var 3) (Var 1)) (Var 0)) has
    (app-draft (app-draft (var-draft 3 (omega arith)) (var-draft 1 (omega arith))) (var-draft 0 (omega arith)))

left_term-draft : (T : Signature) (base count i m : ℕ) → HasEquality T i → IsDraftTerm T base count 0 (left_term i m)
left_term-draft T base count i m has =
    left_over-draft T base count Function i m _ has
    (app-draft (app-draft (app-draft (app-draft
    (app-draft (app-draft (app-draft (app-draft (elim-draft (equality i) (max i (m + 1)) (equality_family i, has)) (var-draft 5 (omega arith))) (var-draft 1 (omega arith)))
    (turned_motive-draft T base count i m has)) (turned_method-draft T base count i m has))
    (var-draft 4 (omega arith))) (var-draft 0 (omega arith))) (var-draft 3 (omega arith))) (var-draft 2 (omega arith)))

-- over each longer signature
pub left-scoped : (S T : Signature) (base i m : ℕ) → IsPrefix (prelude S.has_k) S → i < top → IsPrefix S T → IfOk (left_entry base i m) (IsScopedDraft T)
left-scoped S T base i m first low longer =
    let has = (prefix_keeps first).entry (equality i) (FamilyOf (equality_family i)) (equality_at top i low) in
    drafted-scoped T (generated_name (codes "Eq." ++ level_text i) (codes "!left.") m) base [] (left_type i m) (left_term i m)
    (draft-longer longer (left_type-draft S base 0 i m has)) (draft-longer longer (left_term-draft S base 0 i m has))
