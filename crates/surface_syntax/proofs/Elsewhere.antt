-- The machine's step with a lexeme that is none of those which it looks for.
use Rattle.std.proofs.Common.{◌≡◌, ℕ, ◌+◌, Result, refl, subst}
use Rattle.std.specs.Result.{result_and}
use Rattle.std.specs.Prelude.{None}
use Rattle.surface_syntax.specs.Machine as m
use Rattle.surface_syntax.specs.Steps.{Follows, in_due}
use Rattle.surface_syntax.specs.declared.tree.Word.{Word}
use Rattle.surface_syntax.specs.declared.state.Step.{Step}
use Rattle.surface_syntax.specs.declared.halt.Halt.{Halt}
use Rattle.surface_syntax.specs.declared.lexeme.Lexeme.{Lexeme}
use Rattle.surface_syntax.specs.declared.lexeme.Lexeme.TheVariants as y

opened_none : (d i : ℕ) (k : m.Term_in) (x : Lexeme) → ((v : Word) → x ≡ y.Plain v → ⊥) → (x ≡ y.Underscore → ⊥) → m.may m.limit (d + 1) i (m.term_start (d + 1) (m.Parens d None k) x) ≡ m.opened m.limit d i k x
opened_none d i k (y.Plain v) h0 _ = absurd (h0 v refl)
opened_none d i k (y.Dotted v) _ _ = refl
opened_none d i k (y.Level v) _ _ = refl
opened_none d i k y.Number _ _ = refl
opened_none d i k y.Data _ _ = refl
opened_none d i k y.Def _ _ = refl
opened_none d i k y.Fun _ _ = refl
opened_none d i k y.With _ _ = refl
opened_none d i k y.Let _ _ = refl
opened_none d i k y.In _ _ = refl
opened_none d i k y.Type _ _ = refl
opened_none d i k y.Open _ _ = refl
opened_none d i k y.Close _ _ = refl
opened_none d i k y.OpenBrace _ _ = refl
opened_none d i k y.CloseBrace _ _ = refl
opened_none d i k y.Colon _ _ = refl
opened_none d i k y.Semicolon _ _ = refl
opened_none d i k y.Equals _ _ = refl
opened_none d i k y.Backslash _ _ = refl
opened_none d i k y.Arrow _ _ = refl
opened_none d i k y.Underscore _ h1 = absurd (h1 refl)
opened_none d i k y.Dot _ _ = refl
opened_none d i k y.End _ _ = refl

pub opened_else : (r : Result Step Halt) (d i : ℕ) (k : m.Term_in) (x : Lexeme) → ((v : Word) → x ≡ y.Plain v → ⊥) → (x ≡ y.Underscore → ⊥) → Follows r (m.may m.limit (d + 1) i (m.term_start (d + 1) (m.Parens d None k) x)) → Follows r (m.opened m.limit d i k x)
opened_else r d i k x h0 h1 f = subst (λ (o : m.Outcome). Follows r o) (opened_none d i k x h0 h1) f

-- a step that is taken where `in` comes
pub after_in : (step : Result Step Halt) (s : m.State) (x : Lexeme) → Follows step (m.to s) → Follows (result_and (in_due x) step) (m.«in» s x)
after_in step s y.In f = f
after_in step s x f = refl
