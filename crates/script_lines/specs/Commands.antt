-- The parsing of a value as a command.
use Rattle.std.specs.Prelude.{List, [], ◌∷◌, Option, option_and_then, codes}
use Rattle.serde_json.specs.Data.{Data}
use Rattle.script_lines.specs.Fields.{string_at}
use Rattle.script_lines.specs.Rows.{Row, row, named_in, bare, of_number, of_two_numbers, of_span, of_position}
use Rattle.script_lines.specs.EditCommands.{open_in, edit_in, eol_in}
use Rattle.script_lines.specs.DecorationCommands.{decorate_in, decos_in}
use Rattle.script_lines.specs.SearchCommands.{find_in, replace_in}
use Rattle.script_lines.specs.declared.command.Command.{Command}
use Rattle.script_lines.specs.declared.command.Command.TheVariants.{Undo, Redo, Stop, Size, Version, Changes, Line, Stops, Value, Offset, Position, Deco, Brackets, Match, Level, Snapshot, Read, Close, Mirror, Send, Deliver, Mirrored}

-- the table of all commands
abbrev pub commands : List Row
commands =
    row (codes "edit") edit_in
    ∷ row (codes "undo") (bare Undo)
    ∷ row (codes "redo") (bare Redo)
    ∷ row (codes "stop") (bare Stop)
    ∷ row (codes "open") open_in
    ∷ row (codes "eol") eol_in
    ∷ row (codes "size") (bare Size)
    ∷ row (codes "version") (bare Version)
    ∷ row (codes "changes") (bare Changes)
    ∷ row (codes "line") (of_number Line (codes "n"))
    ∷ row (codes "stops") (of_number Stops (codes "n"))
    ∷ row (codes "value") (of_span Value (codes "at"))
    ∷ row (codes "offset") (of_position Offset)
    ∷ row (codes "position") (of_number Position (codes "offset"))
    ∷ row (codes "decorate") decorate_in
    ∷ row (codes "deco") (of_number Deco (codes "id"))
    ∷ row (codes "decos") decos_in
    ∷ row (codes "brackets") (of_two_numbers Brackets (codes "from") (codes "to"))
    ∷ row (codes "match") (of_position Match)
    ∷ row (codes "level") (of_position Level)
    ∷ row (codes "snapshot") (bare Snapshot)
    ∷ row (codes "read") (of_two_numbers Read (codes "id") (codes "count"))
    ∷ row (codes "close") (of_number Close (codes "id"))
    ∷ row (codes "find") find_in
    ∷ row (codes "replace") replace_in
    ∷ row (codes "mirror") (bare Mirror)
    ∷ row (codes "send") (bare Send)
    ∷ row (codes "deliver") (of_number Deliver (codes "n"))
    ∷ row (codes "mirrored") (of_number Mirrored (codes "n"))
    ∷ []

-- the command named by the field `cmd`
abbrev pub command_in : Data → Option Command
command_in d = option_and_then (λ name. named_in commands name d) (string_at (codes "cmd") d)
