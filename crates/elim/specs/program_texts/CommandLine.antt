-- The simple command that reads the values of accepted words.
use Rattle.std.specs.Prelude.{true, codes, Some}
use Rattle.clap.specs.Words.{App, Rule, new_app, new_rule, with_rule}
use Rattle.clap.specs.declared.builder.action.ArgAction.TheVariants.{SetTrue}
use Rattle.clap.specs.declared.builder.value_parser.ValueParser.TheVariants.{Unsigned}

abbrev pub mode_rule : Rule
mode_rule = record (new_rule (codes "mode")) { required = true }

abbrev pub k_rule : Rule
k_rule = record (new_rule (codes "k")) { long = Some (codes "k"); action = Some SetTrue }

abbrev pub fuel_rule : Rule
fuel_rule = record (new_rule (codes "fuel")) { long = Some (codes "fuel"); parser = Some (Unsigned 0 18446744073709551615) }

-- a mode, `--k`, and `--fuel` with a number; the first word is not the program's name
abbrev pub command_line : App
command_line =
    let named = new_app (codes "elim") in
    with_rule (with_rule (with_rule (record named { top = record named.top { no_binary_name = true } }) mode_rule) k_rule) fuel_rule
