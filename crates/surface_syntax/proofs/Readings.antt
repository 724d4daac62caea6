-- The parser's loop, and a run of the machine.
use Rattle.std.proofs.Common.{◌≡◌, ◌≢◌, ℕ, Bool, List, [], ◌∷◌, ◌++◌, length, Ok, Err, refl, sym, ap, subst, ◌∙◌}
use Rattle.std.specs.Prelude.{Option, Some, None}
use Rattle.surface_syntax.specs.Trees as tree
use Rattle.surface_syntax.specs.Machine as m
use Rattle.surface_syntax.specs.Parsing.{Answer, Read, Wrong, Deep, behind, onward, finish, run}
use Rattle.surface_syntax.specs.Parses.{by_offset}
use Rattle.surface_syntax.specs.Taking.{So_far, taken, finished, with_whole, stop_at}
use Rattle.surface_syntax.specs.declared.lexeme.Lexeme.{Lexeme}
use Rattle.surface_syntax.specs.declared.lexeme.Lexeme.TheVariants.{End}
use Rattle.surface_syntax.specs.declared.halt.Halt.{Halt}
use Rattle.surface_syntax.specs.declared.halt.Halt.TheVariants as halt
use Rattle.surface_syntax.specs.declared.stop.SyntaxStop.TheVariants.{Memory}

-- the answer with declarations before it
abbrev pub after : List tree.Decl → Answer → Answer
after [] a = a
after (d ∷ ds) a = behind (Some d) (after ds a)

after_wrong : (ds : List tree.Decl) (n : ℕ) → after ds (Wrong n) ≡ Wrong n
after_wrong [] n = refl
after_wrong (d ∷ ds) n = ap (behind (Some d)) (after_wrong ds n)

after_deep : (ds : List tree.Decl) (n : ℕ) → after ds (Deep n) ≡ Deep n
after_deep [] n = refl
after_deep (d ∷ ds) n = ap (behind (Some d)) (after_deep ds n)

after_one : (ds : List tree.Decl) (d : tree.Decl) (a : Answer) → after (ds ++ d ∷ []) a ≡ after ds (behind (Some d) a)
after_one [] d a = refl
after_one (e ∷ ds) d a = ap (behind (Some e)) (after_one ds d a)

after_whole : (ds : List tree.Decl) (o : Option tree.Decl) (a : Answer) → after (with_whole ds o) a ≡ after ds (behind o a)
after_whole ds None a = refl
after_whole ds (Some d) a = after_one ds d a

module _ (allows : ℕ → ℕ → Bool) where
  -- the rest of the file, for a reading
  abbrev pub ahead : So_far → List Lexeme → Answer
  ahead r ts = after r.decls (run allows r.state ts)

  onward_taken : (n : ℕ) (ds : List tree.Decl) (ts : List Lexeme) (out : m.Outcome) (r : So_far) → taken ds out ≡ Ok r → after ds (onward n (λ s. run allows s ts) out) ≡ ahead r ts
  onward_taken n ds ts (m.Goes o s) r q =
      let e : record { decls = with_whole ds o; state = s } ≡ r = cc in
      subst (λ (v : So_far). after ds (behind o (run allows s ts)) ≡ ahead v ts) e (sym (after_whole ds o (run allows s ts)))
  onward_taken n ds ts (m.Ends o) r q = cc
  onward_taken n ds ts m.Stuck r q = cc
  onward_taken n ds ts (m.Over i) r q = cc

  onward_stuck : (n : ℕ) (ds : List tree.Decl) (rest : m.State → Answer) (out : m.Outcome) → taken ds out ≡ Err halt.Stuck → after ds (onward n rest out) ≡ Wrong n
  onward_stuck n ds rest (m.Goes o s) q = cc
  onward_stuck n ds rest (m.Ends o) q = after_wrong ds n
  onward_stuck n ds rest m.Stuck q = after_wrong ds n
  onward_stuck n ds rest (m.Over i) q = cc

  onward_over : (n i : ℕ) (ds : List tree.Decl) (rest : m.State → Answer) (out : m.Outcome) → taken ds out ≡ Err (halt.Over i) → after ds (onward n rest out) ≡ Deep i
  onward_over n i ds rest (m.Goes o s) q = cc
  onward_over n i ds rest (m.Ends o) q = cc
  onward_over n i ds rest m.Stuck q = cc
  onward_over n i ds rest (m.Over j) q = let e : j ≡ i = cc in rw e (after_deep ds i)

  -- one lexeme more
  pub ahead_taken : (n : ℕ) (r r' : So_far) (y : Lexeme) (ts : List Lexeme) → n ≡ length (y ∷ ts) → taken r.decls (m.step allows n r.state y) ≡ Ok r' → ahead r (y ∷ ts) ≡ ahead r' ts
  ahead_taken n r r' y ts e q = subst (λ (k : ℕ). taken r.decls (m.step allows k r.state y) ≡ Ok r' → ahead r (y ∷ ts) ≡ ahead r' ts) (sym e) (onward_taken (length (y ∷ ts)) r.decls ts (m.step allows (length (y ∷ ts)) r.state y) r') q

  halt_wrong : (n : ℕ) (r : So_far) (y : Lexeme) (ts : List Lexeme) → n ≡ length (y ∷ ts) → taken r.decls (m.step allows n r.state y) ≡ Err halt.Stuck → ahead r (y ∷ ts) ≡ Wrong n
  halt_wrong n r y ts e q = subst (λ (k : ℕ). taken r.decls (m.step allows k r.state y) ≡ Err halt.Stuck → ahead r (y ∷ ts) ≡ Wrong k) (sym e)
      (onward_stuck (length (y ∷ ts)) r.decls (λ s. run allows s ts) (m.step allows (length (y ∷ ts)) r.state y)) q

  halt_deep : (n i : ℕ) (r : So_far) (y : Lexeme) (ts : List Lexeme) → n ≡ length (y ∷ ts) → taken r.decls (m.step allows n r.state y) ≡ Err (halt.Over i) → ahead r (y ∷ ts) ≡ Deep i
  halt_deep n i r y ts e q = subst (λ (k : ℕ). taken r.decls (m.step allows k r.state y) ≡ Err (halt.Over i) → ahead r (y ∷ ts) ≡ Deep i) (sym e)
      (onward_over (length (y ∷ ts)) i r.decls (λ s. run allows s ts) (m.step allows (length (y ∷ ts)) r.state y)) q

  -- a halt, by its offset
  pub halt_answer : (at : ℕ → ℕ) (n : ℕ) (r : So_far) (y : Lexeme) (ts : List Lexeme) (e : Halt) → n ≡ length (y ∷ ts) → (e ≢ halt.Memory → Err e ≡ taken r.decls (m.step allows n r.state y)) →
      stop_at at n e ≢ Memory → Err (stop_at at n e) ≡ by_offset at (ahead r (y ∷ ts))
  halt_answer at n r y ts halt.Stuck len q k = sym (ap (by_offset at) (halt_wrong n r y ts len (sym (q (λ p. cc)))))
  halt_answer at n r y ts (halt.Over i) len q k = sym (ap (by_offset at) (halt_deep n i r y ts len (sym (q (λ p. cc)))))
  halt_answer at n r y ts halt.Memory len q k = absurd (k refl)

  after_all : (ds : List tree.Decl) → after ds (Read []) ≡ Read ds
  after_all [] = refl
  after_all (d ∷ ds) = ap (behind (Some d)) (after_all ds)

  done : (ds es : List tree.Decl) (out : m.Outcome) → finished ds out ≡ Ok es → after ds (finish out) ≡ Read es
  done ds es (m.Goes o s) q = cc
  done ds es (m.Ends o) q = let e : with_whole ds o ≡ es = cc in sym (after_whole ds o (Read [])) ∙ after_all (with_whole ds o) ∙ ap Read e
  done ds es m.Stuck q = cc
  done ds es (m.Over i) q = cc

  undone : (ds : List tree.Decl) (out : m.Outcome) → finished ds out ≡ Err halt.Stuck → after ds (finish out) ≡ Wrong 0
  undone ds (m.Goes o s) q = after_wrong ds 0
  undone ds (m.Ends o) q = cc
  undone ds m.Stuck q = after_wrong ds 0
  undone ds (m.Over i) q = cc

  over : (ds : List tree.Decl) (i : ℕ) (out : m.Outcome) → finished ds out ≡ Err (halt.Over i) → after ds (finish out) ≡ Deep i
  over ds i (m.Goes o s) q = cc
  over ds i (m.Ends o) q = cc
  over ds i m.Stuck q = cc
  over ds i (m.Over j) q = let e : j ≡ i = cc in after_deep ds j ∙ ap Deep e

  -- the end of the file
  pub end_answer : (at : ℕ → ℕ) (r : So_far) (ds : List tree.Decl) → Ok ds ≡ finished r.decls (m.step allows 0 r.state End) → Ok ds ≡ by_offset at (ahead r [])
  end_answer at r ds q = sym (ap (by_offset at) (done r.decls ds (m.step allows 0 r.state End) (sym q)))

  pub end_halt : (at : ℕ → ℕ) (r : So_far) (e : Halt) → (e ≢ halt.Memory → Err e ≡ finished r.decls (m.step allows 0 r.state End)) → stop_at at 0 e ≢ Memory → Err (stop_at at 0 e) ≡ by_offset at (ahead r [])
  end_halt at r halt.Stuck q k = sym (ap (by_offset at) (undone r.decls (m.step allows 0 r.state End) (sym (q (λ p. cc)))))
  end_halt at r (halt.Over i) q k = sym (ap (by_offset at) (over r.decls i (m.step allows 0 r.state End) (sym (q (λ p. cc)))))
  end_halt at r halt.Memory q k = absurd (k refl)
