use Rattle.std.proofs.Common.{◌≡◌, refl, ap, ◌∙◌}
use Rattle.std.specs.Str.{chars}
use Rattle.std.proofs.lemmas.Str.{is_utf8-from_IsUtf8}
use Rattle.surface_syntax.specs.Spelling.{piece}
use Rattle.core_text.specs.DeclaredNames.{shape_by}
use Rattle.core_text.proofs.RunSteps.{no_utf8}
use Rattle.core_text.proofs.declared_names.name_shape.Goals as goal

pub returns-in_default-clause-ok : goal.returns-in_default-clause-ok
returns-in_default-clause-ok c = rw (no_utf8 c.args.name.now c.in_default.ensures.cases.0) refl

pub returns-clause-ok : goal.returns-clause-ok
returns-clause-ok c =
    let text : c.as_slice.result.now ≡ chars c.args.name.now = c.as_slice.ensures.value ∙ (c.in_ok-text.ensures.ok ∙ ap chars c.in-Ok.ensures.cases.0) in
    rw (is_utf8-from_IsUtf8 c.args.name.now c.in-Ok.ensures.cases.1) (c.shape_by.ensures ∙ ap (λ t. shape_by (piece t) t) text)
