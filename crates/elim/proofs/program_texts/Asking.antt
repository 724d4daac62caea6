-- A source file gives its declarations or a refusal: the cases, in the order in which they are tested.
use Rattle.std.proofs.Common.{◌≡◌, ◌≢◌, ℕ, ◌<◌, ◌≤◌, Bool, true, false, nat_lt, List, length, map, Option, Some, None, Result, Ok, Err, refl, sym, ap, subst, ◌∙◌, arith}
use Rattle.std.specs.Prelude.{if◌then◌else◌}
use Rattle.std.proofs.lemmas.Bool.Decides.{nat_tests}
use Rattle.surface_syntax.specs.TreeMeanings.{decl_of}
use Rattle.surface_syntax.specs.Outcomes.{TokensSay}
use Rattle.surface_syntax.specs.Splitting.{AreTokens}
use Rattle.surface_syntax.specs.declared.token.Token.{Token}
use Rattle.surface_syntax.specs.declared.tree.Decl as code
use Rattle.surface_syntax.specs.declared.stop.SyntaxStop.{SyntaxStop}
use Rattle.surface_syntax.specs.declared.stop.SyntaxStop.TheVariants as syntax
use Rattle.surface_syntax.specs.Parses.{parsed, GivesAnswer}
use Rattle.elim.specs.declared.program_texts.text_stop.TextStop.{TextStop}
use Rattle.elim.specs.declared.program_texts.text_stop.TextStop.TheVariants as stop
use Rattle.elim.specs.program_texts.Texts.{Gives, too_long, not_utf8, bad_token, tokens, Says, limit, limited, is_memory, stop_of, read}

abbrev pub Failure : TextStop → Result (List code.Decl) TextStop
Failure e = Err e

abbrev pub Success : List code.Decl → Result (List code.Decl) TextStop
Success decls = Ok decls

pub no_tokens : (bytes : List ℕ) (e : SyntaxStop) (s : TextStop) → length bytes ≤ limit → TokensSay bytes (Err e) → s ≡ stop_of e → Says bytes (Failure s)
no_tokens bytes syntax.Memory s within says is = λ h. absurd (h is)
no_tokens bytes (syntax.NotUtf8 offset) s within says is = λ _. subst (λ x. Gives bytes (Err x)) (sym is) (not_utf8 offset within says)
no_tokens bytes (syntax.BadToken offset) s within says is = λ _. subst (λ x. Gives bytes (Err x)) (sym is) (bad_token offset within says)
no_tokens bytes (syntax.Nested offset) s within says is = absurd says
no_tokens bytes (syntax.Syntax offset) s within says is = absurd says

pub not_parsed : (bytes : List ℕ) (found : List Token) (e : SyntaxStop) (s : TextStop) (r : Result (List code.Decl) SyntaxStop) → length bytes ≤ limit → AreTokens bytes found
    → r ≡ Err e → GivesAnswer (map decl_of) r (parsed bytes found) → s ≡ stop_of e → Says bytes (Failure s)
not_parsed bytes found e s r within are failed gives is =
    λ h. subst (Gives bytes) (sym (ap Err is ∙ ap read (meant (λ m. h (is ∙ ap stop_of m))))) (tokens found within are)
  where
    meant : e ≢ syntax.Memory → Err e ≡ parsed bytes found
    meant = let P : Result (List code.Decl) SyntaxStop → Type 0 = λ x. GivesAnswer (map decl_of) x (parsed bytes found) in subst P failed gives

pub is_parsed : (bytes : List ℕ) (found : List Token) (decls : List code.Decl) (r : Result (List code.Decl) SyntaxStop) → length bytes ≤ limit → AreTokens bytes found
    → r ≡ Ok decls → GivesAnswer (map decl_of) r (parsed bytes found) → Says bytes (Success decls)
is_parsed bytes found decls r within are ok gives =
    subst (Gives bytes) (sym (ap read meant)) (tokens found within are)
  where
    meant : Ok (map decl_of decls) ≡ parsed bytes found
    meant = let P : Result (List code.Decl) SyntaxStop → Type 0 = λ x. GivesAnswer (map decl_of) x (parsed bytes found) in subst P ok gives

pub is_long : (bytes : List ℕ) → None ≡ limited bytes → Says bytes (Failure stop.TooLong)
is_long bytes e = λ _. too_long (go (nat_lt 1048576 (length bytes)) refl e)
  where
    go : (b : Bool) → nat_lt 1048576 (length bytes) ≡ b → None ≡ (if b then None else Some bytes) → limit < length bytes
    go true h e = grind (arith, nat_tests)
    go false h e = cc

pub none_found : {A : Type 0} (o : Option A) → ((x : A) → o ≡ Some x → ⊥) → o ≡ None
none_found None h = refl
none_found (Some x) h = absurd (h x refl)

pub not_memory : (s : TextStop) → is_memory s ≡ false → s ≢ stop.Memory
not_memory stop.Memory e h = cc
not_memory stop.TooLong e h = cc
not_memory (stop.NotUtf8 offset) e h = cc
not_memory (stop.BadToken offset) e h = cc
not_memory (stop.Nested offset) e h = cc
not_memory (stop.Syntax offset) e h = cc
not_memory (stop.NotCoreText offset) e h = cc
