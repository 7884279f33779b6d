-- The command line as clap gets it, and the command from clap's answer.
use Rattle.std.specs.Prelude.{ℕ, true, List, Option, Some, None, codes, option_and_then, if◌then◌else◌}
use Rattle.std.specs.Str.{bytes_eq}
use Rattle.clap.specs.Walk.{Row, Rule, Text, one_of}
use Rattle.clap.specs.Simple.{App, new_app, new_rule, new_shape, with_rule, with_subcommand}
use Rattle.clap.specs.declared.builder.value_parser.ValueParser.TheVariants as vp
use Rattle.script_play.specs.declared.TheConstants.{MOST_LINES}
use Rattle.script_runner.specs.Words.{most_seed, number_in, play_command}
use Rattle.script_runner.specs.declared.words.Words.{Words}
use Rattle.script_runner.specs.declared.words.Words.TheVariants.{Run, NoCommand}

-- a required number
abbrev pub number_rule : Text → Rule
number_rule id = record (new_rule id) { required = true; parser = Some (vp.Unsigned 0 18446744073709551615) }

abbrev pub play_line : App
play_line = with_rule (with_rule (new_app (codes "play")) (number_rule (codes "COUNT"))) (number_rule (codes "SEED"))

-- the program, without clap's help
abbrev pub program_line : App
program_line = record (new_app (codes "textmodel")) {
  top = record (new_shape (codes "textmodel")) {
    no_binary_name = true;
    disable_help_flag = true;
    disable_help_subcommand = true;
    subcommand_required = true;
  };
}

-- `run` and `play COUNT SEED`
abbrev pub command_line : App
command_line = with_subcommand (with_subcommand program_line (new_shape (codes "run"))) play_line.top

-- the number that the argument spells; None if it is invalid or above `most`
abbrev pub number_at : ℕ → Text → List Row → Option ℕ
number_at most id rows = option_and_then (number_in most) (one_of id rows)

abbrev pub played : List Row → Words
played rows = play_command (number_at MOST_LINES (codes "COUNT") rows) (number_at most_seed (codes "SEED") rows)

-- the command that clap found
abbrev pub command_found : Option (Text × List Row) → Words
command_found (Some found) = if bytes_eq found.0 (codes "run") then Run else played found.1
command_found None = NoCommand
