-- Calls of the checker over a store, one after the other.
use Rattle.std.proofs.Common.{◌≡◌, ◌≤◌, ◌+◌, ℕ, IsTrue, Result, Ok, Err, IfOk, IfErr, refl, sym, ap, ◌∙◌, subst as transport, arith}
use Rattle.theory.specs.Terms.{Term}
use Rattle.core_terms.specs.Answers.{Spent, Gives, Unless}
use Rattle.core_terms.specs.Verdicts.{Verdict}
use Rattle.core_terms.specs.Verdicts as pure
use Rattle.core_terms.specs.declared.verdict.Denial.{Denial}
use Rattle.core_terms.specs.declared.stop.Stop.{Stop}
use Rattle.core_terms.specs.declared.stop.Stop.TheVariants.{Memory, Deep, Fuel, PoolFull}
use Rattle.core_terms.specs.declared.units.Units.{Units}
use Rattle.kernel_reduce.specs.Reduction.{answered}
use Rattle.term_pool.specs.Held.{Held, Extends, AddsParts, IsFullFor}
use Rattle.term_pool.specs.Parts.{IsPart}
use Rattle.core_sig.proofs.StandingEntries.{extends-then, extends-none}
use Rattle.store_reduce.specs.Additions.{AddsOnly, LacksOne, IsFullOf}
use Rattle.store_reduce.specs.Runs.{RunsIn}
use Rattle.store_reduce.proofs.Adding.{adds-then, adds-more, adds-parts, adds-none, lacks-more, lacks-parts}
use Rattle.kernel_check.specs.Checking.{behind, if_typed}
use Rattle.kernel_check.specs.Decided.{Decides}
use Rattle.kernel_check.specs.Verdicts.{AnswersIn, IsLiveVerdict, verdict_in}
use Rattle.kernel_check.specs.declared.verdict.VerdictIn.{VerdictIn}
use Rattle.kernel_check.specs.declared.verdict.VerdictIn.TheVariants.{Yes, No}
use Rattle.kernel_check.proofs.StoredVerdicts.{answers-runs, gives-full, gives-runs}

module _ {I : Type 0} {P : Term → Type 0} {old new : Held I} {u v : Units} where
  -- the clauses of a call, put together
  pub decided : {m : Spent Verdict} (r : Result (VerdictIn I) Stop) → RunsIn (verdict_in new.tree) r v.left m → IfOk r (IsLiveVerdict new) → Extends old new → AddsOnly P old new
      → IsFullOf P new r → v.left + v.spent ≡ u.left + u.spent → v.left ≤ u.left → Decides P old new u v r m
  decided r a l e d f s t = record { answer = a; live = l; extends = e; adds = d; full = f; sum = s; spends = t }

  -- a verdict of which the form is known
  pub found : {r : Result (VerdictIn I) Stop} {m : Spent Verdict} {w x : VerdictIn I} → Decides P old new u v r m → r ≡ Ok w → w ≡ x → Decides P old new u v (Ok x) m
  found {r} {m} d was is = transport (λ s. Decides P old new u v s m) (was ∙ ap Ok is) d

  pub meant-as : {r : Result (VerdictIn I) Stop} {m n : Spent Verdict} → m ≡ n → Decides P old new u v r m → Decides P old new u v r n
  meant-as {r} is d = transport (Decides P old new u v r) is d

  -- the same with more that may be added
  pub more-of : {Q : Term → Type 0} {m : Spent Verdict} {r : Result (VerdictIn I) Stop} → ((x : Term) → P x → Q x) → Decides P old new u v r m → Decides Q old new u v r m
  more-of {Q} {m} {r} more d =
      record {
        answer = d.answer;
        live = d.live;
        extends = d.extends;
        adds = adds-more P Q old new more d.adds;
        full = lacks r d.full;
        sum = d.sum;
        spends = d.spends;
      }
    where
      lacks : (s : Result (VerdictIn I) Stop) → IsFullOf P new s → IsFullOf Q new s
      lacks (Ok w) h = tt
      lacks (Err e) h = λ is. lacks-more P Q new more (h is)

  -- a refusal, and a denial, end the whole
  pub refused : {Q : Term → Type 0} {m : Spent Verdict} {r out : Result (VerdictIn I) Stop} {e : Stop} (next : Term → ℕ → Spent Verdict) → Decides P old new u v r m → r ≡ Err e
      → out ≡ Err e → ((x : Term) → P x → Q x) → Decides Q old new u v out (if_typed m next)
  refused {Q} {m} {r} {out} {e} next d was is more =
      let k : Decides P old new u v (Err e) m = transport (λ s. Decides P old new u v s m) was d in
      transport (λ s. Decides Q old new u v s (if_typed m next)) (sym is)
      (more-of more
      (record {
        answer = λ memory full. ap (λ s. if_typed s next) (k.answer memory full);
        live = tt;
        extends = k.extends;
        adds = k.adds;
        full = k.full;
        sum = k.sum;
        spends = k.spends;
      }))

  pub denied-by : {Q : Term → Type 0} {m : Spent Verdict} {r : Result (VerdictIn I) Stop} {w : VerdictIn I} {denial : Denial} (next : Term → ℕ → Spent Verdict)
      → Decides P old new u v r m → r ≡ Ok w → w ≡ No denial → ((x : Term) → P x → Q x) → Decides Q old new u v (Ok (No denial)) (if_typed m next)
  denied-by {Q} {m} next d was is more =
      let k = found d was is in
      more-of more
      (record {
        answer = ap (λ s. if_typed s next) k.answer;
        live = tt;
        extends = k.extends;
        adds = k.adds;
        full = tt;
        sum = k.sum;
        spends = k.spends;
      })

  -- of a child
  pub decides-behind : {m : Spent Verdict} {given : Result (VerdictIn I) Stop} (child : ℕ) (r : Result (VerdictIn I) Stop) → Decides P old new u v given m
      → ((tree : I → Term) (left : ℕ) (meant : Spent Verdict) → RunsIn (verdict_in tree) given left meant → RunsIn (verdict_in tree) r left (behind child meant))
      → ((held : Held I) → IfOk given (IsLiveVerdict held) → IfOk r (IsLiveVerdict held)) → IfErr r (λ e. Unless (e ≡ Memory) (given ≡ Err e))
      → Decides P old new u v r (behind child m)
  decides-behind {m} {given} child r d answers lives refuses =
      record {
        answer = answers new.tree v.left m d.answer;
        live = lives new d.live;
        extends = d.extends;
        adds = d.adds;
        full = lacks r refuses;
        sum = d.sum;
        spends = d.spends;
      }
    where
      lacks : (s : Result (VerdictIn I) Stop) → IfErr s (λ e. Unless (e ≡ Memory) (given ≡ Err e)) → IsFullOf P new s
      lacks (Ok w) h = tt
      lacks (Err e) h = λ is. transport (IsFullOf P new) (h (λ memory. let both = sym is ∙ memory in absurd (grind (arith, both)))) d.full is

-- a call that spends nothing
module _ {I : Type 0} {old new : Held I} {u : Units} {meant : Result Verdict Stop} (r : Result (VerdictIn I) Stop) where
  pub decided-free : {P : Term → Type 0} → AnswersIn (verdict_in new.tree) r meant → IfOk r (IsLiveVerdict new) → Extends old new → AddsOnly P old new → IsFullOf P new r
      → Decides P old new u u r (answered meant u.left)
  decided-free a l e d f = decided r (answers-runs (verdict_in new.tree) r u.left meant a) l e d f refl (omega arith)

  pub decided-made : (whole : Term) → AnswersIn (verdict_in new.tree) r meant → IfOk r (IsLiveVerdict new) → Extends old new → AddsParts old new whole → IsFullFor new r whole
      → Decides (λ x. IsPart x whole) old new u u r (answered meant u.left)
  decided-made whole a l e d f = decided-free a l e (adds-parts (λ x. IsPart x whole) whole old new (λ x p. p) d) (lacks r f)
    where
      lacks : (s : Result (VerdictIn I) Stop) → IsFullFor new s whole → IsFullOf (λ x. IsPart x whole) new s
      lacks (Ok w) h = tt
      lacks (Err e) h = λ is. lacks-parts (λ x. IsPart x whole) whole new (λ x p. p) (h is)

-- a denial of the term itself
pub decided-denied : {I : Type 0} (P : Term → Type 0) (held : Held I) (u : Units) (r : Result (VerdictIn I) Stop) (m : Verdict) → Gives (verdict_in held.tree) r (Ok m)
    → IfOk r (IsLiveVerdict held) → Decides P held held u u r (answered (Ok m) u.left)
decided-denied P held u r m h l =
    decided r (gives-runs (verdict_in held.tree) r u.left (Ok m) h) l (extends-none held) (adds-none P held) (gives-full P held (verdict_in held.tree) r m h) refl (omega arith)

-- where no call more may be open
pub decided-deep : {I : Type 0} (P : Term → Type 0) (held : Held I) (u : Units) (m : Spent Verdict) → answered (Err Deep) u.left ≡ m → Decides {I = I} P held held u u (Err Deep) m
decided-deep {I} P held u m is =
    decided {I = I} (Err Deep) (λ memory full. is) tt (extends-none held) (adds-none P held) (λ full. absurd (grind (arith, full))) refl (omega arith)

abbrev are_equal : {A : Type 0} → Result A Stop → Result A Stop → Type 0
are_equal r s = r ≡ s

fuel-is : {A : Type 0} (e : Stop) → are_equal {A = A} (Err e) (Err Fuel) → e ≡ Fuel
fuel-is e h = cc

-- where no unit is left
pub decided-fuel : {I A : Type 0} (P : Term → Type 0) (held : Held I) (u v : Units) (r : Result (VerdictIn I) Stop) (e : Stop) → r ≡ Err e → are_equal {A = A} (Err e) (Err Fuel) → v ≡ u
    → Decides P held held u v r (answered (Err Fuel) u.left)
decided-fuel {I} {A} P held u v r e is fuel same =
    let stop : r ≡ Err Fuel = is ∙ (let k : e ≡ Fuel = fuel-is e fuel in ap Err k) in
    transport (λ s. Decides P held held u v s (answered (Err Fuel) u.left)) (sym stop)
    (transport (λ w. Decides {I = I} P held held u w (Err Fuel) (answered (Err Fuel) u.left)) (sym same)
    (decided {I = I} (Err Fuel) (λ memory full. refl) tt (extends-none held) (adds-none P held) (λ full. absurd (grind (arith, full))) refl (omega arith)))

-- the type that is answered where the store stays
pub yes-now : {I : Type 0} {P Q : Term → Type 0} {old new : Held I} {u v : Units} {m whole : Spent Verdict} {i : I} (j : I) → Decides P old new u v (Ok (Yes i)) m
    → IsTrue (new.live j) → answered (Ok (pure.Yes (new.tree j))) v.left ≡ whole → ((x : Term) → P x → Q x) → Decides Q old new u v (Ok (Yes j)) whole
yes-now j d live is more = decided (Ok (Yes j)) is live d.extends (adds-more _ _ _ _ more d.adds) tt d.sum d.spends

pub yes-given : {I : Type 0} (P : Term → Type 0) (held : Held I) (u : Units) (j : I) (m : Spent Verdict) → IsTrue (held.live j) → answered (Ok (pure.Yes (held.tree j))) u.left ≡ m
    → Decides P held held u u (Ok (Yes j)) m
yes-given P held u j m live is = decided (Ok (Yes j)) is live (extends-none held) (adds-none P held) tt refl (omega arith)

-- a call that answers no verdict is refused
pub stopped : {I : Type 0} {P Q : Term → Type 0} {old new : Held I} {u v : Units} {m : Spent Verdict} {out : Result (VerdictIn I) Stop} {e : Stop} → out ≡ Err e
    → Unless (e ≡ Memory) (Unless (e ≡ PoolFull) (answered (Err e) v.left ≡ m)) → Extends old new → AddsOnly P old new → (e ≡ PoolFull → LacksOne P new)
    → v.left + v.spent ≡ u.left + u.spent → v.left ≤ u.left → ((x : Term) → P x → Q x) → Decides Q old new u v out m
stopped {I} {P} {Q} {old} {new} {u} {v} {m} {out} {e} is meant extends adds full sum spends more =
    transport (λ s. Decides Q old new u v s m) (sym is) (more-of more (decided {P = P} (Err e) meant tt extends adds full sum spends))

-- units were spent before
pub spent-before : {I : Type 0} {P : Term → Type 0} {old new : Held I} {u v w : Units} {m : Spent Verdict} {r : Result (VerdictIn I) Stop}
    → v.left + v.spent ≡ u.left + u.spent → v.left ≤ u.left → Decides P old new v w r m → Decides P old new u w r m
spent-before sum spends d =
    record {
      answer = d.answer;
      live = d.live;
      extends = d.extends;
      adds = d.adds;
      full = d.full;
      sum = d.sum ∙ sum;
      spends = omega (arith, spends, d.spends);
    }

-- a call goes on after one that added something
pub goes-after : {I : Type 0} {P Q R : Term → Type 0} {old mid new : Held I} {u v w : Units} {n whole : Spent Verdict} {r : Result (VerdictIn I) Stop} → Extends old mid → AddsOnly P old mid
    → v.left + v.spent ≡ u.left + u.spent → v.left ≤ u.left → Decides R mid new v w r n → n ≡ whole → ((x : Term) → P x → Q x) → ((x : Term) → R x → Q x)
    → Decides Q old new u w r whole
goes-after {I} {P} {Q} {R} {old} {mid} {new} {u} {v} {w} {n} {whole} {r} extends adds sum spends next is p q =
    let k = more-of q (meant-as is next) in
    record {
      answer = k.answer;
      live = k.live;
      extends = extends-then old mid new extends k.extends;
      adds = adds-then Q old mid new (adds-more P Q old mid p adds) k.extends k.adds;
      full = k.full;
      sum = k.sum ∙ sum;
      spends = omega (arith, spends, k.spends);
    }

-- and after one that found a type
pub goes-on : {I : Type 0} {P Q R : Term → Type 0} {old mid new : Held I} {u v w : Units} {m n whole : Spent Verdict} {i : I} {r : Result (VerdictIn I) Stop}
    → Decides P old mid u v (Ok (Yes i)) m → Decides R mid new v w r n → n ≡ whole → ((x : Term) → P x → Q x) → ((x : Term) → R x → Q x) → Decides Q old new u w r whole
goes-on first next is p q = goes-after first.extends first.adds first.sum first.spends next is p q
