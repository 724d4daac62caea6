use Rattle.std.proofs.Common.{◌≡◌, ◌∙◌, rules, ap, ap₂, codes, true, Some}
use Rattle.std.proofs.lemmas.Result.{IfOk-weaker}
use Rattle.clap.specs.Words.{App, Rule, app_of, new_app, new_rule, rule_of, with_rule}
use Rattle.clap.specs.Simple.{app_of_fields}
use Rattle.clap.specs.declared.builder.value_parser.ValueParser.TheVariants.{Unsigned}
use Rattle.elim.specs.program_texts.CommandLine.{fuel_rule, k_rule, mode_rule}
use Rattle.elim.proofs.program_texts.command_line.command_line.Goals as goal

pub returns : goal.returns
returns c =
    let mode_is : rule_of c.required-mode.result ≡ mode_rule = search rules in
    let k_is : rule_of c.action-k.result ≡ k_rule = search rules in
    let long_is : rule_of c.long-2.result ≡ record (new_rule (codes "fuel")) { long = Some (codes "fuel") } = search rules in
    let given = c.value_parser-fuel.ensures.given in
    let parser_is : c.value_parser-fuel.result.value_parser ≡ Some (Unsigned 0 18446744073709551615) =
    given.1 ∙ ap Some (given.2 ∙ c.value_parser.ensures) in
    let fuel_is : rule_of c.value_parser-fuel.result ≡ fuel_rule =
    ap rule_of c.value_parser-fuel.ensures.others ∙ ap₂ (λ (r : Rule) p. record r { parser = p }) long_is parser_is in
    let named_is : app_of c.no_binary_name-named.result ≡ record (new_app (codes "elim")) { top = record (new_app (codes "elim")).top { no_binary_name = true } } =
    ap app_of_fields c.no_binary_name-named.ensures ∙ ap (λ (a : App). record a { top = record a.top { no_binary_name = true } }) c.new-4.ensures.app in
    IfOk-weaker c.arg-3.result _ _ (λ command added. added.shape (search rules)
    ∙ ap₂ with_rule (c.in_ok-arg-2.ensures.shape (search rules)
    ∙ ap₂ with_rule (c.in_ok-arg.ensures.shape (search rules) ∙ ap₂ with_rule named_is mode_is) k_is) fuel_is) c.arg-3.ensures
