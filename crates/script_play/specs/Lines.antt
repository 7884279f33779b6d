-- The bytes of each line of a script, with its LF.
use Rattle.std.specs.Prelude.{ℕ, List, ◌++◌, ◌==◌, if◌then◌else◌, codes, decimal}
use Rattle.script_play.specs.declared.line.Line.{Line}
use Rattle.script_play.specs.declared.line.Line.TheVariants.{Open, Edit, Undo, Redo, Stop, Decorate, Position, Level, Brackets, Decos, Size}

-- text number `text` as a JSON string
abbrev pub spelled : ℕ → List ℕ
spelled text =
    if text == 0 then codes "\"a\""
    else if text == 1 then codes "\"\\n\""
    else if text == 2 then codes "\"\\r\""
    else if text == 3 then codes "\"(\""
    else if text == 4 then codes "\")\""
    else if text == 5 then codes "\"[x]\""
    else if text == 6 then codes "\"bc d\""
    else codes "\"{\""

-- the number of units of text number `text`
abbrev pub units_of : ℕ → ℕ
units_of text = if text == 5 then 3 else if text == 6 then 4 else 1

-- two offsets as a JSON array
abbrev pub span : ℕ → ℕ → List ℕ
span start end = codes "[" ++ decimal start ++ codes "," ++ decimal end ++ codes "]"

abbrev pub line_bytes : Line → List ℕ
line_bytes Open = codes "{\"cmd\":\"open\",\"text\":\"\"}\n"
line_bytes (Edit start end text) =
    codes "{\"cmd\":\"edit\",\"ops\":[{\"at\":" ++ span start end ++ codes ",\"text\":" ++ spelled text ++ codes "}]}\n"
line_bytes Undo = codes "{\"cmd\":\"undo\"}\n"
line_bytes Redo = codes "{\"cmd\":\"redo\"}\n"
line_bytes Stop = codes "{\"cmd\":\"stop\"}\n"
line_bytes (Decorate start end stick) =
    codes "{\"cmd\":\"decorate\",\"owner\":1,\"remove\":[],\"add\":[{\"at\":" ++ span start end
    ++ codes ",\"stick\":" ++ decimal stick ++ codes "}]}\n"
line_bytes (Position offset) = codes "{\"cmd\":\"position\",\"offset\":" ++ decimal offset ++ codes "}\n"
line_bytes Level = codes "{\"cmd\":\"level\",\"line\":1,\"col\":1}\n"
line_bytes Brackets = codes "{\"cmd\":\"brackets\",\"from\":1,\"to\":1}\n"
line_bytes (Decos at) = codes "{\"cmd\":\"decos\",\"at\":" ++ span at at ++ codes "}\n"
line_bytes Size = codes "{\"cmd\":\"size\"}\n"
