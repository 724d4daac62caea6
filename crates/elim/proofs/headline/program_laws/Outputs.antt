-- For all words and bytes an output is defined.
use Rattle.std.proofs.Common.{◌≡◌, ℕ, ◌<◌, ◌≤◌, ◌⊎◌, inl, inr, List, length, Option, Some, None, refl}
use Rattle.std.specs.Str.{IsUtf8, IsValidUpTo}
use Rattle.std.proofs.lemmas.Bool.{cases_lt}
use Rattle.surface_syntax.specs.Splitting.{AreTokens, IsBadToken}
use Rattle.surface_syntax.specs.declared.token.Token.{Token}
use Rattle.elim.specs.elim_program.DefinedOutputs.{IsOutput, refused_words, compiles, verifies, works}
use Rattle.elim.specs.elim_program.Outputs.{Output}
use Rattle.elim.specs.program_texts.Texts.{Answer, Gives, too_long, not_utf8, bad_token, tokens, limit}
use Rattle.elim.specs.elim_program.WorkTexts.{work_text}
use Rattle.elim.specs.program_texts.Words.{asked, verify_asked, work_asked}
use Rattle.elim.specs.headline.program_laws.Laws.{HasOutput}
use Rattle.elim.proofs.headline.program_laws.FirstInvalid.{first_invalid}
use Rattle.elim.proofs.headline.program_laws.Splitting.{tokens_or_bad}

-- bytes give an answer
answered : (bytes : List ℕ) → (answer : Answer) × Gives bytes answer
answered bytes = by (cases_lt limit (length bytes))
  where
    split : length bytes ≤ limit → ((found : List Token) × AreTokens bytes found) ⊎ ((offset : ℕ) × IsBadToken bytes offset) → (answer : Answer) × Gives bytes answer
    split within (inl found) = (_, tokens found.0 within found.1)
    split within (inr bad) = (_, bad_token bad.0 within bad.1)

    valid : length bytes ≤ limit → IsUtf8 bytes ⊎ ((offset : ℕ) × IsValidUpTo bytes offset) → (answer : Answer) × Gives bytes answer
    valid within (inl utf8) = split within (tokens_or_bad bytes utf8)
    valid within (inr invalid) = (_, not_utf8 invalid.0 within invalid.1)

    by : (limit < length bytes) ⊎ (length bytes ≤ limit) → (answer : Answer) × Gives bytes answer
    by (inl long) = (_, too_long long)
    by (inr within) = valid within (first_invalid bytes)

by-option : {C : Type 0} (P : Type 0) (o : Option C) → ((c : C) → o ≡ Some c → P) → (o ≡ None → P) → P
by-option P (Some c) some none = some c refl
by-option P None some none = none refl

pub has_output : HasOutput
has_output words bytes =
    let P : Type 0 = (out : Output) × IsOutput words bytes out in
    by-option P (asked words) (λ command e. let a = answered bytes in (_, compiles command a.0 e a.1)) (λ e.
    by-option P (verify_asked words) (λ command f. (_, verifies command f)) (λ f.
    by-option P (work_asked words) (λ work g. let a = answered (work_text work.count) in (_, works work a.0 g a.1)) (λ g.
    (_, refused_words e f g))))
