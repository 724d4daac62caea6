-- Calls of the checker over a store that answer a type over the variables that arguments are to fill.
use Rattle.std.proofs.Common.{false, true, ◌≡◌, ◌≤◌, ◌+◌, ◌++◌, ◌∷◌, ℕ, IsTrue, List, [], Result, Ok, Err, IfOk, IfErr, refl, sym, ap, ◌∙◌, subst as transport, arith}
use Rattle.theory.specs.Terms.{Term, height, subst as put}
use Rattle.theory.specs.Terms.Term.{Var}
use Rattle.theory.specs.Substitutions.{fill, inst, ups}
use Rattle.core_terms.specs.Answers.{Spent, Unless}
use Rattle.core_terms.specs.declared.verdict.Denial.{Denial}
use Rattle.core_terms.specs.declared.stop.Stop.{Stop}
use Rattle.core_terms.specs.declared.stop.Stop.TheVariants.{Memory}
use Rattle.core_terms.specs.declared.units.Units.{Units}
use Rattle.core_terms.specs.Verdicts.{Verdict}
use Rattle.core_terms.specs.Verdicts as pure
use Rattle.kernel_reduce.specs.Reduction.{answered}
use Rattle.term_pool.specs.Held.{Held, Extends}
use Rattle.term_pool.specs.Instantiation.{trees_of}
use Rattle.core_sig.proofs.StandingEntries.{extends-then}
use Rattle.store_reduce.specs.Additions.{AddsOnly, IsFullOf}
use Rattle.store_reduce.specs.Runs.{RunsIn}
use Rattle.store_reduce.proofs.Adding.{adds-then, adds-more}
use Rattle.kernel_check.specs.Checking.{behind, if_typed}
use Rattle.kernel_check.specs.Decided.{Decides, instance_type}
use Rattle.kernel_check.specs.Opened.{IsFilledVerdict, Opens, WillFill, filled_tree}
use Rattle.kernel_check.specs.Verdicts.{IsLiveVerdict, verdict_in}
use Rattle.kernel_check.specs.declared.filled.Filled.{Filled}
use Rattle.kernel_check.specs.declared.verdict.VerdictIn.{VerdictIn}
use Rattle.kernel_check.specs.declared.verdict.VerdictIn.TheVariants.{Yes, No}
use Rattle.kernel_check.proofs.Deciding.{more-of}
use Rattle.kernel_check.proofs.Filling.{are_filled-none, filled-more, filled-none, filled-push, push-low}
use Rattle.kernel_check.proofs.TypedAnswers.{made-typed}

-- ---- answers in which no type is open

module _ {I : Type 0} {P : Term → Type 0} {old new : Held I} {u v : Units} {m : Spent Verdict} where
  pub opens-refusal : (f : Filled I) {r : Result (VerdictIn I) Stop} {e : Stop} → r ≡ Err e → Decides P old new u v r m → Opens P old new u v f r m
  opens-refusal f {r} {e} is d =
      let k : Decides P old new u v (Err e) m = transport (λ s. Decides P old new u v s m) is d in
      transport (λ s. Opens P old new u v f s m) (sym is)
      (record { answer = k.answer; live = tt; filled_with = tt; extends = k.extends; adds = k.adds; full = k.full; sum = k.sum; spends = k.spends })

  pub opens-denial : (f : Filled I) {denial : Denial} → Decides P old new u v (Ok (No denial)) m → Opens P old new u v f (Ok (No denial)) m
  opens-denial f k = record { answer = k.answer; live = tt; filled_with = tt; extends = k.extends; adds = k.adds; full = tt; sum = k.sum; spends = k.spends }

  decides-refusal : (f : Filled I) {r : Result (VerdictIn I) Stop} {e : Stop} → r ≡ Err e → Opens P old new u v f r m → Decides P old new u v (Err e) m
  decides-refusal f {r} {e} is d =
      let k : Opens P old new u v f (Err e) m = transport (λ s. Opens P old new u v f s m) is d in
      record { answer = k.answer; live = tt; extends = k.extends; adds = k.adds; full = k.full; sum = k.sum; spends = k.spends }

  decides-denial : (f : Filled I) {denial : Denial} → Opens P old new u v f (Ok (No denial)) m → Decides P old new u v (Ok (No denial)) m
  decides-denial f k = record { answer = k.answer; live = tt; extends = k.extends; adds = k.adds; full = tt; sum = k.sum; spends = k.spends }

  -- a verdict of which the form is known
  pub found-open : {f : Filled I} {r : Result (VerdictIn I) Stop} {w x : VerdictIn I} → Opens P old new u v f r m → r ≡ Ok w → w ≡ x → Opens P old new u v f (Ok x) m
  found-open {f} d was is = transport (λ s. Opens P old new u v f s m) (was ∙ ap Ok is) d

  pub refused-open : {f : Filled I} {r out : Result (VerdictIn I) Stop} {e : Stop} → Opens P old new u v f r m → r ≡ Err e → out ≡ Err e → Decides P old new u v out m
  refused-open {f} {r} {out} {e} d was is = transport (λ s. Decides P old new u v s m) (sym is) (decides-refusal f was d)

  pub denied-open : {f : Filled I} {r : Result (VerdictIn I) Stop} {w : VerdictIn I} {denial : Denial} → Opens P old new u v f r m → r ≡ Ok w → w ≡ No denial
      → Decides P old new u v (Ok (No denial)) m
  denied-open {f} d was is = decides-denial f (found-open d was is)

  -- a type that no argument fills
  pub opens-plain : (f : Filled I) (r : Result (VerdictIn I) Stop) → f.args.items ≡ [] → Decides P old new u v r m → Opens P old new u v f r m
  opens-plain f (Ok (Yes id)) none d =
      record {
        answer = ap (λ t. answered (Ok (pure.Yes t)) v.left) (filled-none new f.args.items (new.tree id) none) ∙ d.answer;
        live = d.live;
        filled_with = are_filled-none new f none;
        extends = d.extends;
        adds = d.adds;
        full = d.full;
        sum = d.sum;
        spends = d.spends;
      }
  opens-plain f (Ok (No denial)) none d = opens-denial f d
  opens-plain f (Err e) none d = opens-refusal f refl d

-- ---- one call after the other

module _ {I : Type 0} {P : Term → Type 0} {old new : Held I} {u v : Units} {f : Filled I} where
  pub opens-as : {r : Result (VerdictIn I) Stop} {m n : Spent Verdict} → m ≡ n → Opens P old new u v f r m → Opens P old new u v f r n
  opens-as {r} is d = transport (Opens P old new u v f r) is d

  -- of a child
  pub opens-behind : {m : Spent Verdict} {given : Result (VerdictIn I) Stop} (child : ℕ) (r : Result (VerdictIn I) Stop) → Opens P old new u v f given m
      → ((tree : I → Term) (left : ℕ) (meant : Spent Verdict) → RunsIn (verdict_in tree) given left meant → RunsIn (verdict_in tree) r left (behind child meant))
      → ((held : Held I) → IfOk given (IsLiveVerdict held) → IfOk r (IsLiveVerdict held)) → IfErr r (λ e. Unless (e ≡ Memory) (given ≡ Err e))
      → Opens P old new u v f r (behind child m)
  opens-behind {m} {given} child r d answers lives refuses =
      record {
        answer = answers (λ id. filled_tree new f.args.items (new.tree id)) v.left m d.answer;
        live = lives new d.live;
        filled_with = fills r given (lives nothing) d.filled_with;
        extends = d.extends;
        adds = d.adds;
        full = lacks r refuses;
        sum = d.sum;
        spends = d.spends;
      }
    where
      -- a store in which no id is live: there is a type behind a child only where the child has one
      nothing : Held I
      nothing = record new { live = λ id. false }

      fills : (s g : Result (VerdictIn I) Stop) → (IfOk g (IsLiveVerdict nothing) → IfOk s (IsLiveVerdict nothing)) → IfOk g (IsFilledVerdict new f) → IfOk s (IsFilledVerdict new f)
      fills (Err e) g k h = tt
      fills (Ok (No denial)) g k h = tt
      fills (Ok (Yes id)) (Ok (Yes given_id)) k h = h
      fills (Ok (Yes id)) (Ok (No denial)) k h = let dead : false ≡ true = k tt in absurd (grind (arith, dead))
      fills (Ok (Yes id)) (Err e) k h = let dead : false ≡ true = k tt in absurd (grind (arith, dead))

      lacks : (s : Result (VerdictIn I) Stop) → IfErr s (λ e. Unless (e ≡ Memory) (given ≡ Err e)) → IsFullOf P new s
      lacks (Ok w) h = tt
      lacks (Err e) h = λ is. transport (IsFullOf P new) (h (λ memory. let both = sym is ∙ memory in absurd (grind (arith, both)))) d.full is

-- units were spent before
pub opens-spent : {I : Type 0} {P : Term → Type 0} {old new : Held I} {u v w : Units} {f : Filled I} {m : Spent Verdict} {r : Result (VerdictIn I) Stop}
    → v.left + v.spent ≡ u.left + u.spent → v.left ≤ u.left → Opens P old new v w f r m → Opens P old new u w f r m
opens-spent sum spends d =
    record {
      answer = d.answer;
      live = d.live;
      filled_with = d.filled_with;
      extends = d.extends;
      adds = d.adds;
      full = d.full;
      sum = d.sum ∙ sum;
      spends = omega (arith, spends, d.spends);
    }

-- with more that may be added
pub opens-more : {I : Type 0} {P Q : Term → Type 0} {old new : Held I} {u v : Units} {f : Filled I} {m : Spent Verdict} (r : Result (VerdictIn I) Stop)
    → ((x : Term) → P x → Q x) → Opens P old new u v f r m → Opens Q old new u v f r m
opens-more {P} {Q} {old} {new} {f} (Ok (Yes id)) more d =
    record {
      answer = d.answer;
      live = d.live;
      filled_with = d.filled_with;
      extends = d.extends;
      adds = adds-more P Q old new more d.adds;
      full = tt;
      sum = d.sum;
      spends = d.spends;
    }
opens-more {P} {Q} {old} {new} {f} (Ok (No denial)) more d = opens-denial f (more-of more (decides-denial f d))
opens-more {P} {Q} {old} {new} {f} (Err e) more d = opens-refusal f refl (more-of more (decides-refusal f refl d))

-- a call goes on after one that added something
pub opens-after : {I : Type 0} {P Q R : Term → Type 0} {old mid new : Held I} {u v w : Units} {f : Filled I} {n whole : Spent Verdict} {r : Result (VerdictIn I) Stop} → Extends old mid
    → AddsOnly P old mid → v.left + v.spent ≡ u.left + u.spent → v.left ≤ u.left → Opens R mid new v w f r n → n ≡ whole → ((x : Term) → P x → Q x) → ((x : Term) → R x → Q x)
    → Opens Q old new u w f r whole
opens-after {I} {P} {Q} {R} {old} {mid} {new} {u} {v} {w} {f} {n} {whole} {r} extends adds sum spends next is p q =
    let k = opens-more r q (opens-as is next) in
    record {
      answer = k.answer;
      live = k.live;
      filled_with = k.filled_with;
      extends = extends-then old mid new extends k.extends;
      adds = adds-then Q old mid new (adds-more P Q old mid p adds) k.extends k.adds;
      full = k.full;
      sum = k.sum ∙ sum;
      spends = omega (arith, spends, k.spends);
    }

-- the argument of a function has the type of its domain, and is left to fill the codomain
pub opens-filled : {I : Type 0} {P : Term → Type 0} {old new : Held I} {u v : Units} {m : Spent Verdict} {found : I} (ids : List I) (arg b : I) (n : ℕ) (f : Filled I) (codomain : Term)
    (value : Term) → Decides P old new u v (Ok (Yes found)) m → f.args.items ≡ ids ++ arg ∷ [] → f.highest ≡ n → WillFill new ids arg b n → IsTrue (new.live arg) → IsTrue (new.live b)
    → inst (ups (fill Var (trees_of new ids))) (new.tree b) ≡ codomain → new.tree arg ≡ value → Opens P old new u v f (Ok (Yes b)) (if_typed m (instance_type codomain value))
opens-filled {I} {P} {old} {new} {u} {v} {m} ids arg b n f codomain value d args high w arg_live b_live is same =
    let put_is = ap (λ t. put t 0 (new.tree arg)) is ∙ ap (put codomain 0) same in
    let whole = ap (λ us. filled_tree new us (new.tree b)) args ∙ filled-push new ids arg b n w arg_live ∙ put_is in
    let low = transport (λ t. height t ≤ 2000) put_is (push-low new ids arg b n w arg_live) in
    record {
      answer = ap (λ r. answered r v.left) (made-typed (filled_tree new f.args.items (new.tree b)) (put codomain 0 value) whole low) ∙ ap (λ s. if_typed s (instance_type codomain value)) d.answer;
      live = b_live;
      filled_with = filled-more new ids arg b n w arg_live f args high;
      extends = d.extends;
      adds = d.adds;
      full = tt;
      sum = d.sum;
      spends = d.spends;
    }
