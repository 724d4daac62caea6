-- A run of the machine, and the grammar.
use Rattle.std.proofs.Common.{◌≡◌, ℕ, Bool, List, [], ◌∷◌, length, refl, sym, ap, subst, ◌∙◌}
use Rattle.std.specs.Prelude.{Some, None}
use Rattle.surface_syntax.specs.Trees as tree
use Rattle.surface_syntax.specs.Grammar as g
use Rattle.surface_syntax.specs.Machine as m
use Rattle.surface_syntax.specs.Parsing.{Answer, Read, Wrong, Deep, behind, onward, run}
use Rattle.surface_syntax.specs.declared.lexeme.Lexeme.{Lexeme}
use Rattle.surface_syntax.proofs.Rest as r
use Rattle.surface_syntax.proofs.Complete as c
use Rattle.surface_syntax.proofs.Sound as s
use Rattle.surface_syntax.proofs.Ends as e

module _ (allows : ℕ → ℕ → Bool) where
  led_onward : (n : ℕ) (ts : List Lexeme) (out : m.Outcome) (ds : List tree.Decl) → ((st : m.State) (es : List tree.Decl) → r.Rest allows st ts es → run allows st ts ≡ Read es) → r.Led allows out ts ds →
      onward n (λ st. run allows st ts) out ≡ Read ds
  led_onward n ts out ds ih (r.goes rest) = ih _ _ rest
  led_onward n ts out ds ih (r.gives {d = d} rest) = ap (behind (Some d)) (ih _ _ rest)

  -- the machine reads every reading of the grammar
  pub complete : (ts : List Lexeme) (st : m.State) (ds : List tree.Decl) → r.Rest allows st ts ds → run allows st ts ≡ Read ds
  complete [] st ds rest = e.end_led allows st rest
  complete (y ∷ ts) st ds rest = led_onward (length (y ∷ ts)) ts (m.step allows (length (y ∷ ts)) st y) ds (complete ts) (c.led allows rest)

  data Behind_read (d : tree.Decl) (a : Answer) (ds : List tree.Decl) : Type 0 where
    behind_read : (es : List tree.Decl) → a ≡ Read es → d ∷ es ≡ ds → Behind_read d a ds

  behind_only : (d : tree.Decl) (a : Answer) (ds : List tree.Decl) → behind (Some d) a ≡ Read ds → Behind_read d a ds
  behind_only d (Read es) ds q = behind_read es refl (e.only_read allows q)
  behind_only d (Wrong n) ds q = cc
  behind_only d (Deep n) ds q = cc

  gives_read : (d : tree.Decl) (st : m.State) (ts : List Lexeme) {a : Answer} {ds : List tree.Decl} → run allows st ts ≡ a → ((es : List tree.Decl) → run allows st ts ≡ Read es → r.Rest allows st ts es) → Behind_read d a ds →
      r.Led allows (m.Goes (Some d) st) ts ds
  gives_read d st ts p ih (behind_read es q q') = subst (λ (l : List tree.Decl). r.Led allows (m.Goes (Some d) st) ts l) q' (r.gives (ih es (p ∙ q)))

  onward_led : (n : ℕ) (ts : List Lexeme) (out : m.Outcome) (ds : List tree.Decl) → ((st : m.State) (es : List tree.Decl) → run allows st ts ≡ Read es → r.Rest allows st ts es) →
      onward n (λ st. run allows st ts) out ≡ Read ds → r.Led allows out ts ds
  onward_led n ts (m.Goes None st) ds ih q = r.goes (ih st ds q)
  onward_led n ts (m.Goes (Some d) st) ds ih q = gives_read d st ts refl (ih st) (behind_only d (run allows st ts) ds q)
  onward_led n ts (m.Ends o) ds ih q = cc
  onward_led n ts m.Stuck ds ih q = cc
  onward_led n ts (m.Over i) ds ih q = cc

  -- each reading of the machine is one of the grammar
  pub sound : (ts : List Lexeme) (st : m.State) (ds : List tree.Decl) → run allows st ts ≡ Read ds → r.Rest allows st ts ds
  sound [] st ds q = e.end_sound allows st q
  sound (y ∷ ts) st ds q =
      s.sound allows st y (onward_led (length (y ∷ ts)) ts (m.step allows (length (y ∷ ts)) st y) ds (λ st' es. sound ts st' es) q)

  start_file : {ts : List Lexeme} {ds : List tree.Decl} → r.Rest allows m.Start ts ds → g.File allows ts ds
  start_file (r.start file) = file

  pub file_run : (ts : List Lexeme) (ds : List tree.Decl) → g.File allows ts ds → run allows m.Start ts ≡ Read ds
  file_run ts ds file = complete ts m.Start ds (r.start file)

  pub run_file : (ts : List Lexeme) (ds : List tree.Decl) → run allows m.Start ts ≡ Read ds → g.File allows ts ds
  run_file ts ds q = start_file (sound ts m.Start ds q)

  -- lexemes are the declarations of one list at most
  pub one_file : (ts : List Lexeme) (ds es : List tree.Decl) → g.File allows ts ds → g.File allows ts es → ds ≡ es
  one_file ts ds es a b = e.only_read allows (sym (file_run ts ds a) ∙ file_run ts es b)
