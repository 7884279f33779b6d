-- The command of the arguments.
use Rattle.std.specs.Prelude.{ℕ, ◌-◌, ◌^◌, if◌then◌else◌, List, [], ◌∷◌, map, Option, Some, None, codes, string_bytes}
use Rattle.std.specs.Str.{bytes_eq}
use Rattle.std.specs.Str.Parse.{digits_value, without_leading_plus}
use Rattle.std.specs.declared.string.String.{String}
use Rattle.std.specs.declared.alloc.Global.{Global}
use Rattle.clap.specs.ValueTests.{is_unsigned_in}
use Rattle.script_play.specs.declared.TheConstants.{MOST_LINES}
use Rattle.script_runner.specs.declared.words.Words.{Words}
use Rattle.script_runner.specs.declared.words.Words.TheVariants.{Run, Play, NoCommand}

-- the number that the word spells, in decimal digits after an optional `+`; None if it is invalid or above `most`
abbrev pub number_in : ℕ → List ℕ → Option ℕ
number_in most word = if is_unsigned_in 0 most word then Some (digits_value 10 (without_leading_plus word)) else None

abbrev pub most_seed : ℕ
most_seed = 2 ^ 64 - 1

abbrev pub play_command : Option ℕ → Option ℕ → Words
play_command (Some count) (Some seed) = Play count seed
play_command (Some count) None = NoCommand
play_command None seed = NoCommand

-- The arguments after a command. The first `--` ends the options and is not an argument itself (the guidelines for the syntax of utilities
-- in POSIX, which clap follows); there are no options here.
abbrev pub arguments : List (List ℕ) → List (List ℕ)
arguments [] = []
arguments (word ∷ words) = if bytes_eq word (codes "--") then words else word ∷ arguments words

-- `run`, or `play COUNT SEED`
abbrev pub command_with : List ℕ → List (List ℕ) → Words
command_with name [] = if bytes_eq name (codes "run") then Run else NoCommand
command_with name (count ∷ []) = NoCommand
command_with name (count ∷ seed ∷ []) =
    if bytes_eq name (codes "play") then play_command (number_in MOST_LINES count) (number_in most_seed seed) else NoCommand
command_with name (count ∷ seed ∷ other ∷ others) = NoCommand

-- the command of the words: its name comes first
abbrev pub words_command : List (List ℕ) → Words
words_command [] = NoCommand
words_command (name ∷ words) = command_with name (arguments words)

abbrev pub command_of : List (String Global) → Words
command_of words = words_command (map string_bytes words)
