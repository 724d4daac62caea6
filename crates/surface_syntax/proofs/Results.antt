-- The answer of a run, without the declarations, and the permissions that it depends on.
use Rattle.std.proofs.Common.{◌≡◌, ℕ, ◌<◌, suc, Bool, true, false, cond, List, [], ◌∷◌, ◌++◌, length, refl, sym, ap, subst, ◌∙◌, arith}
use Rattle.std.specs.Prelude.{Some, None}
use Rattle.surface_syntax.specs.Trees as tree
use Rattle.surface_syntax.specs.Machine as m
use Rattle.surface_syntax.specs.Parsing.{Answer, Read, Wrong, Deep, behind, finish, onward, run}
use Rattle.surface_syntax.specs.declared.tree.Word.{Word}
use Rattle.surface_syntax.specs.declared.lexeme.Lexeme.{Lexeme}
use Rattle.surface_syntax.specs.declared.lexeme.Lexeme.TheVariants as x
use Rattle.surface_syntax.proofs.Looks.{begun, placed, ahead, above, IsSteady, IsStill, Look, still, first_name, next_name, tested, look}

abbrev pub Allows : Type 0
Allows = ℕ → ℕ → Bool

-- an answer without its declarations
abbrev pub shape : Answer → Answer
shape (Read ds) = Read []
shape (Wrong n) = Wrong n
shape (Deep n) = Deep n

abbrev pub result : Allows → m.State → List Lexeme → Answer
result allows s ts = shape (run allows s ts)

-- the answer after an outcome, before the lexemes and at the end
abbrev pub found : Allows → List Lexeme → m.Outcome → Answer
found allows ts (m.Goes o s) = result allows s ts
found allows ts (m.Ends o) = Wrong (suc (length ts))
found allows ts m.Stuck = Wrong (suc (length ts))
found allows ts (m.Over i) = Deep i

abbrev pub ended : m.Outcome → Answer
ended (m.Goes o s) = Wrong 0
ended (m.Ends o) = Read []
ended m.Stuck = Wrong 0
ended (m.Over i) = Deep i

shape_behind : (d : tree.Decl) (a : Answer) → shape (behind (Some d) a) ≡ shape a
shape_behind d (Read ds) = refl
shape_behind d (Wrong n) = refl
shape_behind d (Deep n) = refl

shape_onward : (allows : Allows) (ts : List Lexeme) (out : m.Outcome) → shape (onward (suc (length ts)) (λ s. run allows s ts) out) ≡ found allows ts out
shape_onward allows ts (m.Goes None s) = refl
shape_onward allows ts (m.Goes (Some d) s) = shape_behind d (run allows s ts)
shape_onward allows ts (m.Ends o) = refl
shape_onward allows ts m.Stuck = refl
shape_onward allows ts (m.Over i) = refl

shape_finish : (out : m.Outcome) → shape (finish out) ≡ ended out
shape_finish (m.Goes o s) = refl
shape_finish (m.Ends None) = refl
shape_finish (m.Ends (Some d)) = refl
shape_finish m.Stuck = refl
shape_finish (m.Over i) = refl

pub found_step : (allows : Allows) (s : m.State) (y : Lexeme) (ts : List Lexeme) {out : m.Outcome} → m.step allows (suc (length ts)) s y ≡ out → result allows s (y ∷ ts) ≡ found allows ts out
found_step allows s y ts e = ap (λ (o : m.Outcome). shape (onward (suc (length ts)) (λ st. run allows st ts) o)) e ∙ shape_onward allows ts _

pub ended_step : (allows : Allows) (s : m.State) {out : m.Outcome} → m.step allows 0 s x.End ≡ out → result allows s [] ≡ ended out
ended_step allows s e = ap (λ (o : m.Outcome). shape (finish o)) e ∙ shape_finish _

-- the state after a still outcome
pub still_placed : (n : ℕ) (s : m.State) → IsSteady s → placed n s ≡ s
still_placed n m.Start h = refl
still_placed n (m.In_def s) h = refl
still_placed n (m.In_data s) h = refl
still_placed n (m.In_mutual s) h = refl
still_placed n (m.In_clause s) h = refl
still_placed n (m.In_term (m.Names d at w ws k)) h = absurd h
still_placed n (m.In_term (m.Term d k)) h = refl
still_placed n (m.In_term (m.Level d s k)) h = refl
still_placed n (m.In_term (m.Opened d k)) h = refl
still_placed n (m.In_term (m.BinderOpen b k)) h = refl
still_placed n (m.In_term (m.BinderNames b ns k)) h = refl
still_placed n (m.In_term (m.BinderNext b k)) h = refl
still_placed n (m.In_term (m.LetName d k)) h = refl
still_placed n (m.In_term (m.LetColon d w k)) h = refl
still_placed n (m.In_term (m.Atoms d s k)) h = refl

pub still_begun : (n : ℕ) (s : m.State) → IsSteady s → begun n s ≡ n
still_begun n m.Start h = refl
still_begun n (m.In_def s) h = refl
still_begun n (m.In_data s) h = refl
still_begun n (m.In_mutual s) h = refl
still_begun n (m.In_clause s) h = refl
still_begun n (m.In_term (m.Names d at w ws k)) h = absurd h
still_begun n (m.In_term (m.Term d k)) h = refl
still_begun n (m.In_term (m.Level d s k)) h = refl
still_begun n (m.In_term (m.Opened d k)) h = refl
still_begun n (m.In_term (m.BinderOpen b k)) h = refl
still_begun n (m.In_term (m.BinderNames b ns k)) h = refl
still_begun n (m.In_term (m.BinderNext b k)) h = refl
still_begun n (m.In_term (m.LetName d k)) h = refl
still_begun n (m.In_term (m.LetColon d w k)) h = refl
still_begun n (m.In_term (m.Atoms d s k)) h = refl

-- after a name more
name_more : (n : ℕ) (ws : List Word) (u : Word) → above (suc n) ws ≡ above n (ws ++ u ∷ [])
name_more n [] u = refl
name_more n (w ∷ ws) u = ap suc (name_more n ws u)

pub placed_more : (n d at : ℕ) (w u : Word) (ws : List Word) (k : m.Term_in) →
    m.In_term (m.Names d (above (suc n) ws) w (ws ++ u ∷ []) k) ≡ placed n (m.In_term (m.Names d at w (ws ++ u ∷ []) k))
placed_more n d at w u ws k = ap (λ (a : ℕ). m.In_term (m.Names d a w (ws ++ u ∷ []) k)) (name_more n ws u)

-- a production that may begin from now on: the one that is awaited, or one that begins where fewer lexemes are left
pub data Future (s : m.State) (n d p : ℕ) : Type 0 where
  now : ahead s ≡ Some d → begun n s ≡ p → Future s n d p
  later : p < n → Future s n d p

still_future : (s' s : m.State) (n d p : ℕ) → IsSteady s → Future s n d p → Future s' (suc n) d p
still_future s' s n d p h (now a e) = let b = still_begun n s h in later (omega arith)
still_future s' s n d p h (later l) = later (omega arith)

first_future : (n d p e : ℕ) (w : Word) (k : m.Term_in) → Future (m.In_term (m.Names e 0 w [] k)) n d p → Future (m.In_term (m.Opened e k)) (suc n) d p
first_future n d p e w k (now a q) = now a q
first_future n d p e w k (later l) = later (omega arith)

next_future : (n d p e at : ℕ) (w u : Word) (ws : List Word) (k : m.Term_in) → Future (m.In_term (m.Names e at w (ws ++ u ∷ []) k)) n d p → Future (m.In_term (m.Names e at w ws k)) (suc n) d p
next_future n d p e at w u ws k (now a q) = now a (name_more n ws u ∙ q)
next_future n d p e at w u ws k (later l) = later (omega arith)

-- permissions that agree on what may begin from now on lead to the same
module _ (a b : Allows) where
  abbrev Agree : m.State → ℕ → Type 0
  Agree s n = (d p : ℕ) → Future s n d p → a d p ≡ b d p

  agree_out : (ts : List Lexeme) (s' : m.State) (out : m.Outcome) → IsStill out → ((s : m.State) → Agree s (length ts) → result a (placed (length ts) s) ts ≡ result b (placed (length ts) s) ts) →
      ((d p : ℕ) → Future s' (suc (length ts)) d p → a d p ≡ b d p) → found a ts out ≡ found b ts out
  agree_out ts s' (m.Goes o s) h ih same =
      let e = still_placed (length ts) s h in
      subst (λ (st : m.State). result a st ts ≡ result b st ts) e (ih s (λ d p f. same d p (still_future s' s (length ts) d p h f)))
  agree_out ts s' (m.Ends o) h ih same = refl
  agree_out ts s' m.Stuck h ih same = refl
  agree_out ts s' (m.Over i) h ih same = refl

  agree_look : (s : m.State) (y : Lexeme) (ts : List Lexeme) → Look s y → ((s' : m.State) → Agree s' (length ts) → result a (placed (length ts) s') ts ≡ result b (placed (length ts) s') ts) →
      Agree s (suc (length ts)) → result a (placed (suc (length ts)) s) (y ∷ ts) ≡ result b (placed (suc (length ts)) s) (y ∷ ts)
  agree_look s y ts (still out h e) ih same =
      found_step a (placed (suc (length ts)) s) y ts (e a (suc (length ts))) ∙ agree_out ts s out h ih same ∙ sym (found_step b (placed (suc (length ts)) s) y ts (e b (suc (length ts))))
  agree_look s y ts (first_name {d = d} {k = k} {w = w}) ih same =
      found_step a s y ts refl ∙ ih (m.In_term (m.Names d 0 w [] k)) (λ e p f. same e p (first_future (length ts) e p d w k f)) ∙ sym (found_step b s y ts refl)
  agree_look s y ts (next_name {d = d} {at = at} {w = w} {u = u} {ws = ws} {k = k}) ih same =
      let q = placed_more (length ts) d at w u ws k in
      found_step a (placed (suc (length ts)) s) y ts refl ∙
      subst (λ (st : m.State). result a st ts ≡ result b st ts) (sym q) (ih (m.In_term (m.Names d at w (ws ++ u ∷ []) k)) (λ e p f. same e p (next_future (length ts) e p d at w u ws k f))) ∙
      sym (found_step b (placed (suc (length ts)) s) y ts refl)
  agree_look s y ts (tested d out h q e) ih same =
      let i = begun (suc (length ts)) s in
      found_step a (placed (suc (length ts)) s) y ts (e a (suc (length ts))) ∙ gate (b d i) (same d i (now q refl)) ∙
      sym (found_step b (placed (suc (length ts)) s) y ts (e b (suc (length ts))))
    where
      gate : (c : Bool) → a d (begun (suc (length ts)) s) ≡ c → found a ts (cond (a d (begun (suc (length ts)) s)) out (m.Over (begun (suc (length ts)) s))) ≡ found b ts (cond c out (m.Over (begun (suc (length ts)) s)))
      gate true e' = rw e' (agree_out ts s out h ih same)
      gate false e' = rw e' refl

  agree_end : (s : m.State) → Look s x.End → Agree s 0 → result a (placed 0 s) [] ≡ result b (placed 0 s) []
  agree_end s (still out h e) same = ended_step a (placed 0 s) (e a 0) ∙ sym (ended_step b (placed 0 s) (e b 0))
  agree_end s (tested d out h q e) same =
      ended_step a (placed 0 s) (e a 0) ∙ ap (λ (c : Bool). ended (cond c out (m.Over (begun 0 s)))) (same d (begun 0 s) (now q refl)) ∙ sym (ended_step b (placed 0 s) (e b 0))

  pub agree : (ts : List Lexeme) (s : m.State) → ((d p : ℕ) → Future s (length ts) d p → a d p ≡ b d p) → result a (placed (length ts) s) ts ≡ result b (placed (length ts) s) ts
  agree [] s same = agree_end s (look s x.End) same
  agree (y ∷ ts) s same = agree_look s y ts (look s y) (agree ts) same

-- lexemes that are read with less permission are read with more
module _ (a b : Allows) (more : (d p : ℕ) → a d p ≡ true → b d p ≡ true) where
  more_out : (ts : List Lexeme) (out : m.Outcome) → IsStill out → ((s : m.State) → result a (placed (length ts) s) ts ≡ Read [] → result b (placed (length ts) s) ts ≡ Read []) →
      found a ts out ≡ Read [] → found b ts out ≡ Read []
  more_out ts (m.Goes o s) h ih q =
      let e = still_placed (length ts) s h in
      subst (λ (st : m.State). result b st ts ≡ Read []) e (ih s (subst (λ (st : m.State). result a st ts ≡ Read []) (sym e) q))
  more_out ts (m.Ends o) h ih q = cc
  more_out ts m.Stuck h ih q = cc
  more_out ts (m.Over i) h ih q = cc

  more_gate : (ts : List Lexeme) (d i : ℕ) (c : Bool) (out : m.Outcome) → IsStill out → ((s : m.State) → result a (placed (length ts) s) ts ≡ Read [] → result b (placed (length ts) s) ts ≡ Read []) →
      a d i ≡ c → found a ts (cond c out (m.Over i)) ≡ Read [] → found b ts (cond (b d i) out (m.Over i)) ≡ Read []
  more_gate ts d i true out h ih e q = subst (λ (c : Bool). found b ts (cond c out (m.Over i)) ≡ Read []) (sym (more d i e)) (more_out ts out h ih q)
  more_gate ts d i false out h ih e q = cc

  more_look : (s : m.State) (y : Lexeme) (ts : List Lexeme) → Look s y → ((s' : m.State) → result a (placed (length ts) s') ts ≡ Read [] → result b (placed (length ts) s') ts ≡ Read []) →
      result a (placed (suc (length ts)) s) (y ∷ ts) ≡ Read [] → result b (placed (suc (length ts)) s) (y ∷ ts) ≡ Read []
  more_look s y ts (still out h e) ih q =
      found_step b (placed (suc (length ts)) s) y ts (e b (suc (length ts))) ∙ more_out ts out h ih (sym (found_step a (placed (suc (length ts)) s) y ts (e a (suc (length ts)))) ∙ q)
  more_look s y ts (first_name {d = d} {k = k} {w = w}) ih q = found_step b s y ts refl ∙ ih (m.In_term (m.Names d 0 w [] k)) (sym (found_step a s y ts refl) ∙ q)
  more_look s y ts (next_name {d = d} {at = at} {w = w} {u = u} {ws = ws} {k = k}) ih q =
      let e = placed_more (length ts) d at w u ws k in
      found_step b (placed (suc (length ts)) s) y ts refl ∙
      subst (λ (st : m.State). result b st ts ≡ Read []) (sym e) (ih (m.In_term (m.Names d at w (ws ++ u ∷ []) k))
      (subst (λ (st : m.State). result a st ts ≡ Read []) e (sym (found_step a (placed (suc (length ts)) s) y ts refl) ∙ q)))
  more_look s y ts (tested d out h r e) ih q =
      found_step b (placed (suc (length ts)) s) y ts (e b (suc (length ts))) ∙
      more_gate ts d (begun (suc (length ts)) s) (a d (begun (suc (length ts)) s)) out h ih refl (sym (found_step a (placed (suc (length ts)) s) y ts (e a (suc (length ts)))) ∙ q)

  end_gate : (d i : ℕ) (c : Bool) (out : m.Outcome) → a d i ≡ c → ended (cond c out (m.Over i)) ≡ Read [] → ended (cond (b d i) out (m.Over i)) ≡ Read []
  end_gate d i true out e q = subst (λ (c : Bool). ended (cond c out (m.Over i)) ≡ Read []) (sym (more d i e)) q
  end_gate d i false out e q = cc

  more_end : (s : m.State) → Look s x.End → result a (placed 0 s) [] ≡ Read [] → result b (placed 0 s) [] ≡ Read []
  more_end s (still out h e) q = ended_step b (placed 0 s) (e b 0) ∙ sym (ended_step a (placed 0 s) (e a 0)) ∙ q
  more_end s (tested d out h r e) q =
      ended_step b (placed 0 s) (e b 0) ∙ end_gate d (begun 0 s) (a d (begun 0 s)) out refl (sym (ended_step a (placed 0 s) (e a 0)) ∙ q)

  pub more_result : (ts : List Lexeme) (s : m.State) → result a (placed (length ts) s) ts ≡ Read [] → result b (placed (length ts) s) ts ≡ Read []
  more_result [] s q = more_end s (look s x.End) q
  more_result (y ∷ ts) s q = more_look s y ts (look s y) (more_result ts) q
