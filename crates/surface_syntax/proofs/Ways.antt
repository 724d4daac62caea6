-- The way of the machine through lexemes, as far as it goes within the limit.
use Rattle.std.proofs.Common.{◌≡◌, ℕ, suc, Bool, true, false, cond, List, [], ◌∷◌, ◌++◌, length, refl, sym, ap, ◌∙◌}
use Rattle.std.specs.Prelude.{Option, Some}
use Rattle.surface_syntax.specs.Trees as tree
use Rattle.surface_syntax.specs.Grammar.{File, limit}
use Rattle.surface_syntax.specs.Machine as m
use Rattle.surface_syntax.specs.Parsing.{Answer, Read, Wrong, Deep, run}
use Rattle.surface_syntax.specs.Viable.{every, Next, nothing, first}
use Rattle.surface_syntax.specs.declared.tree.Word.{Word}
use Rattle.surface_syntax.specs.declared.lexeme.Lexeme.{Lexeme}
use Rattle.surface_syntax.specs.declared.lexeme.Lexeme.TheVariants as x
use Rattle.surface_syntax.proofs.Rest as r
use Rattle.surface_syntax.proofs.Finishing as f
use Rattle.surface_syntax.proofs.Runs.{file_run, run_file, complete}
use Rattle.surface_syntax.proofs.Looks as l
use Rattle.surface_syntax.proofs.Looks.{begun, placed, ahead, IsSteady, IsStill, Look, look}
use Rattle.surface_syntax.proofs.Results.{Allows, shape, result, found_step, ended_step, still_placed, placed_more}

-- everything within the limit is allowed
abbrev pub Covers : Allows → Type 0
Covers allows = (d i : ℕ) → limit d i ≡ true → allows d i ≡ true

pub every_covers : Covers every
every_covers d i e = refl

pub limit_covers : Covers limit
limit_covers d i e = e

-- texts and results
pub data Text (allows : Allows) (ts : List Lexeme) : Type 0 where
  text : (ds : List tree.Decl) → File allows ts ds → Text allows ts

pub file_result : {allows : Allows} {ts : List Lexeme} {ds : List tree.Decl} → File allows ts ds → result allows m.Start ts ≡ Read []
file_result {allows} {ts} {ds} file = ap shape (file_run allows ts ds file)

result_by : (allows : Allows) (ts : List Lexeme) (a : Answer) → run allows m.Start ts ≡ a → shape a ≡ Read [] → Text allows ts
result_by allows ts (Read ds) e q = text ds (run_file allows ts ds e)
result_by allows ts (Wrong n) e q = cc
result_by allows ts (Deep n) e q = cc

pub result_file : (allows : Allows) (ts : List Lexeme) → result allows m.Start ts ≡ Read [] → Text allows ts
result_file allows ts e = result_by allows ts (run allows m.Start ts) refl e

-- a lexeme is read
pub data Onward : m.State → Lexeme → m.State → Type 0 where
  onto : {s s' : m.State} {y : Lexeme} (o : Option tree.Decl) → IsSteady s' → ((allows : Allows) → Covers allows → (i : ℕ) → m.step allows i (placed i s) y ≡ m.Goes o s') → Onward s y s'
  first_name : {d : ℕ} {w : Word} {k : m.Term_in} → Onward (m.In_term (m.Opened d k)) (x.Plain w) (m.In_term (m.Names d 0 w [] k))
  next_name : {d at : ℕ} {w u : Word} {ws : List Word} {k : m.Term_in} → Onward (m.In_term (m.Names d at w ws k)) (x.Plain u) (m.In_term (m.Names d at w (ws ++ u ∷ []) k))

pub data Passes : m.State → List Lexeme → m.State → Type 0 where
  stop : {s : m.State} → Passes s [] s
  go : {s s' s'' : m.State} {y : Lexeme} {ts : List Lexeme} → Onward s y s' → Passes s' ts s'' → Passes s (y ∷ ts) s''

onward_result : {s s' : m.State} {y : Lexeme} (allows : Allows) → Covers allows → (ts : List Lexeme) → Onward s y s' → result allows (placed (suc (length ts)) s) (y ∷ ts) ≡ result allows (placed (length ts) s') ts
onward_result {s} {s'} {y} allows h ts (onto o steady e) =
    found_step allows (placed (suc (length ts)) s) y ts (e allows h (suc (length ts))) ∙ ap (λ (st : m.State). result allows st ts) (sym (still_placed (length ts) s' steady))
onward_result {s} {y = y} allows h ts first_name = found_step allows s y ts refl
onward_result {s} {y = y} allows h ts (next_name {d = d} {at = at} {w = w} {u = u} {ws = ws} {k = k}) =
    found_step allows (placed (suc (length ts)) s) y ts refl ∙ ap (λ (st : m.State). result allows st ts) (placed_more (length ts) d at w u ws k)

pub passes_result : {s s' : m.State} {ts : List Lexeme} (allows : Allows) → Covers allows → (more : List Lexeme) → Passes s ts s' →
    result allows (placed (length (ts ++ more)) s) (ts ++ more) ≡ result allows (placed (length more) s') more
passes_result allows h more stop = refl
passes_result allows h more (go {ts = ts} on rest) = onward_result allows h (ts ++ more) on ∙ passes_result allows h more rest

-- the lexeme that is read next
abbrev pub front_of : List Lexeme → Lexeme
front_of [] = x.End
front_of (y ∷ ts) = y

-- with the lexeme a production begins inside `d` others
abbrev pub Tested : m.State → Lexeme → ℕ → m.Outcome → Type 0
Tested s y d out = (allows : Allows) (i : ℕ) → m.step allows i (placed i s) y ≡ cond (allows d (begun i s)) out (m.Over (begun i s))

-- where the way ends: at the end of a file, at what fits nowhere, or at what is too deep
pub data Halt : m.State → List Lexeme → Type 0 where
  over : {s : m.State} → ((allows : Allows) → Covers allows → result allows (placed 0 s) [] ≡ Read []) → Halt s []
  wrong : {s : m.State} {back : List Lexeme} → ((allows : Allows) → Covers allows → (more : List Lexeme) → Next back more → result allows (placed (length more) s) more ≡ Wrong (length more)) → Halt s back
  deep : {s : m.State} {back : List Lexeme} (d : ℕ) (out : m.Outcome) → ahead s ≡ Some d → limit d 0 ≡ false → Tested s (front_of back) d out → Halt s back

pub data Way (s : m.State) (ts : List Lexeme) : Type 0 where
  way : {s' : m.State} (front back : List Lexeme) → ts ≡ front ++ back → Passes s front s' → Halt s' back → Way s ts

-- at the end
end_fixed : (s : m.State) (out : m.Outcome) → IsStill out → ((allows : Allows) → Covers allows → (i : ℕ) → m.step allows i (placed i s) x.End ≡ out) → Halt s []
end_fixed s (m.Goes o s') still e = wrong (λ allows h more next. at_end allows h more next)
  where
    at_end : (allows : Allows) → Covers allows → (more : List Lexeme) → Next [] more → result allows (placed (length more) s) more ≡ Wrong (length more)
    at_end allows h more nothing = ended_step allows (placed 0 s) (e allows h 0)
end_fixed s (m.Ends o) still e = over (λ allows h. ended_step allows (placed 0 s) (e allows h 0))
end_fixed s m.Stuck still e = wrong (λ allows h more next. at_end allows h more next)
  where
    at_end : (allows : Allows) → Covers allows → (more : List Lexeme) → Next [] more → result allows (placed (length more) s) more ≡ Wrong (length more)
    at_end allows h more nothing = ended_step allows (placed 0 s) (e allows h 0)
end_fixed s (m.Over i) still e = absurd still

-- a tested step is the same where it is allowed, and is too deep where it isn't
module _ (s : m.State) (y : Lexeme) (d : ℕ) (out : m.Outcome) (e : Tested s y d out) where
  tested_fixed : limit d 0 ≡ true → (allows : Allows) → Covers allows → (i : ℕ) → m.step allows i (placed i s) y ≡ out
  tested_fixed h allows covers i = e allows i ∙ ap (λ (b : Bool). cond b out (m.Over (begun i s))) (covers d (begun i s) h)

  pub tested_over : (allows : Allows) (i : ℕ) → allows d (begun i s) ≡ false → m.step allows i (placed i s) y ≡ m.Over (begun i s)
  tested_over allows i h = e allows i ∙ ap (λ (b : Bool). cond b out (m.Over (begun i s))) h

pub deep_next : (s : m.State) (back : List Lexeme) (d : ℕ) (out : m.Outcome) → Tested s (front_of back) d out → (allows : Allows) (more : List Lexeme) → Next back more → allows d (begun (length more) s) ≡ false →
    result allows (placed (length more) s) more ≡ Deep (begun (length more) s)
deep_next s [] d out e allows more nothing h = ended_step allows (placed 0 s) (tested_over s x.End d out e allows 0 h)
deep_next s (y ∷ back) d out e allows more (first {more = ts}) h = found_step allows (placed (suc (length ts)) s) y ts (tested_over s y d out e allows (suc (length ts)) h)

end_look : (s : m.State) → Look s x.End → Halt s []
end_look s (l.still out st e) = end_fixed s out st (λ allows h i. e allows i)
end_look s (l.tested d out st q e) = by_limit (limit d 0) refl
  where
    by_limit : (b : Bool) → limit d 0 ≡ b → Halt s []
    by_limit true h = end_fixed s out st (tested_fixed s x.End d out e h)
    by_limit false h = deep d out q h e

further : {s s' : m.State} {y : Lexeme} {ts : List Lexeme} → Onward s y s' → Way s' ts → Way s (y ∷ ts)
further {y = y} on (way front back parts passes halt) = way (y ∷ front) back (ap (λ (us : List Lexeme). y ∷ us) parts) (go on passes) halt

next_fixed : (s : m.State) (y : Lexeme) (ts : List Lexeme) (out : m.Outcome) → IsStill out → ((allows : Allows) → Covers allows → (i : ℕ) → m.step allows i (placed i s) y ≡ out) →
    ((s' : m.State) → Way s' ts) → Way s (y ∷ ts)
next_fixed s y ts (m.Goes o s') still e ih = further (onto o still e) (ih s')
next_fixed s y ts (m.Ends o) still e ih = way [] (y ∷ ts) refl stop (wrong (λ allows h more next. at_next allows h more next))
  where
    at_next : (allows : Allows) → Covers allows → (more : List Lexeme) → Next (y ∷ ts) more → result allows (placed (length more) s) more ≡ Wrong (length more)
    at_next allows h more (first {more = us}) = found_step allows (placed (suc (length us)) s) y us (e allows h (suc (length us)))
next_fixed s y ts m.Stuck still e ih = way [] (y ∷ ts) refl stop (wrong (λ allows h more next. at_next allows h more next))
  where
    at_next : (allows : Allows) → Covers allows → (more : List Lexeme) → Next (y ∷ ts) more → result allows (placed (length more) s) more ≡ Wrong (length more)
    at_next allows h more (first {more = us}) = found_step allows (placed (suc (length us)) s) y us (e allows h (suc (length us)))
next_fixed s y ts (m.Over i) still e ih = absurd still

next_look : (s : m.State) (y : Lexeme) (ts : List Lexeme) → Look s y → ((s' : m.State) → Way s' ts) → Way s (y ∷ ts)
next_look s y ts (l.still out st e) ih = next_fixed s y ts out st (λ allows h i. e allows i) ih
next_look s y ts l.first_name ih = further first_name (ih _)
next_look s y ts l.next_name ih = further next_name (ih _)
next_look s y ts (l.tested d out st q e) ih = by_limit (limit d 0) refl
  where
    by_limit : (b : Bool) → limit d 0 ≡ b → Way s (y ∷ ts)
    by_limit true h = next_fixed s y ts out st (tested_fixed s y d out e h) ih
    by_limit false h = way [] (y ∷ ts) refl stop (deep d out q h e)

pub ways : (ts : List Lexeme) (s : m.State) → Way s ts
ways [] s = way [] [] refl stop (end_look s (look s x.End))
ways (y ∷ ts) s = next_look s y ts (look s y) (ways ts)

-- lexemes that finish a state
pub data Finish (s : m.State) : Type 0 where
  finish : (more : List Lexeme) → result every (placed (length more) s) more ≡ Read [] → Finish s

placed_rest : {s : m.State} {ts : List Lexeme} {ds : List tree.Decl} (n : ℕ) → r.Rest every s ts ds → r.Rest every (placed n s) ts ds
placed_rest n (r.start file) = r.start file
placed_rest n (r.in_def rest) = r.in_def rest
placed_rest n (r.in_data rest) = r.in_data rest
placed_rest n (r.in_mutual rest) = r.in_mutual rest
placed_rest n (r.in_clause rest) = r.in_clause rest
placed_rest n (r.in_term (r.names_binder more)) = r.in_term (r.names_binder more)
placed_rest n (r.in_term (r.names_term may more)) = r.in_term (r.names_term refl more)
placed_rest n (r.in_term (r.due s)) = r.in_term (r.due s)
placed_rest n (r.in_term (r.level s)) = r.in_term (r.level s)
placed_rest n (r.in_term (r.opened_binder s)) = r.in_term (r.opened_binder s)
placed_rest n (r.in_term (r.opened_term s)) = r.in_term (r.opened_term s)
placed_rest n (r.in_term (r.binder s)) = r.in_term (r.binder s)
placed_rest n (r.in_term (r.names s)) = r.in_term (r.names s)
placed_rest n (r.in_term (r.binders s)) = r.in_term (r.binders s)
placed_rest n (r.in_term (r.let_name s)) = r.in_term (r.let_name s)
placed_rest n (r.in_term (r.let_colon s)) = r.in_term (r.let_colon s)
placed_rest n (r.in_term (r.atoms s)) = r.in_term (r.atoms s)

left_finish : {s : m.State} → f.Left s → Finish s
left_finish {s} (f.finished ts ds rest) = finish ts (ap shape (complete every ts (placed (length ts) s) ds (placed_rest (length ts) rest)))

pub finishes : (s : m.State) → Finish s
finishes s = left_finish (f.left_in s)

-- the whole run of a file that goes some way
pub way_text : {s : m.State} {front : List Lexeme} (allows : Allows) → Covers allows → (more : List Lexeme) → Passes m.Start front s → result allows m.Start (front ++ more) ≡ result allows (placed (length more) s) more
way_text allows h more passes = passes_result allows h more passes
