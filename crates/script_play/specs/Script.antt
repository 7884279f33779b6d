-- The script of (COUNT, SEED): its first line opens an empty text, and the other lines are drawn.
use Rattle.std.specs.Prelude.{ℕ, zero, suc, ◌+◌, ◌-◌, min, ◌≤◌, ◌==◌, nat_lt, if◌then◌else◌, true, false, List, [], ◌++◌}
use Rattle.script_play.specs.declared.TheConstants.{MOST_LINES}
use Rattle.script_play.specs.declared.line.Line.{Line}
use Rattle.script_play.specs.declared.line.Line.TheVariants.{Open, Edit, Undo, Redo, Stop, Decorate, Position, Level, Brackets, Decos, Size}
use Rattle.script_play.specs.declared.play.Play.{Play}
use Rattle.script_play.specs.Draws.{next, drawn}
use Rattle.script_play.specs.Lines.{units_of, line_bytes}

-- A `Play` has the state of the random number generator, the number of units of the text, and whether the next line is a redo.

-- the start and the length of a drawn span of the text; the length is less than `below`
abbrev pub drawn_span : ℕ → Play → ℕ × ℕ
drawn_span below old =
    let start = drawn (next old.x) (old.units + 1) in
    (start, min (drawn (next (next old.x)) below) (old.units - start))

-- an edit that replaces at most 3 units by one of eight texts
abbrev pub edit_line : Play → Line × Play
edit_line old =
    let removed = drawn_span 4 old in
    let x₃ = next (next (next old.x)) in
    let text = drawn x₃ 8 in
    (Edit removed.0 (removed.0 + removed.1) text, record old { x = x₃; units = old.units - removed.1 + units_of text })

-- a new decoration of at most 7 units, with one of four modes
abbrev pub decorate_line : Play → Line × Play
decorate_line old =
    let taken = drawn_span 8 old in
    let x₃ = next (next (next old.x)) in
    (Decorate taken.0 (taken.0 + taken.1) (drawn x₃ 4), record old { x = x₃ })

-- a query for the position of an offset
abbrev pub position_line : Play → Line × Play
position_line old = (Position (drawn (next old.x) (old.units + 1)), record old { x = next old.x })

abbrev pub decos_line : Play → Line × Play
decos_line old = (Decos (drawn (next old.x) (old.units + 1)), record old { x = next old.x })

-- the line chosen by a number below 16, and the state after it; a redo follows each undo
abbrev pub chosen_line : ℕ → Play → Line × Play
chosen_line choice old =
    if nat_lt choice 8 then edit_line old
    else if choice == 8 then (Undo, record old { pending = true })
    else if choice == 9 then (Stop, old)
    else if choice == 10 then decorate_line old
    else if choice == 11 then position_line old
    else if choice == 12 then (Level, old)
    else if choice == 13 then (Brackets, old)
    else if choice == 14 then decos_line old
    else (Size, old)

-- the next line, and the state after it
abbrev pub next_line : Play → Line × Play
next_line old =
    if old.pending then (Redo, record old { pending = false })
    else chosen_line (drawn (next old.x) 16) (record old { x = next old.x })

-- the bytes of the next `count` lines
unfoldable pub lines_from : ℕ → Play → List ℕ
lines_from zero old = []
lines_from (suc count) old = line_bytes (next_line old).0 ++ lines_from count (next_line old).1

-- the bytes of a script of `count` lines
unfoldable pub script : ℕ → ℕ → List ℕ
script zero seed = []
script (suc count) seed = line_bytes Open ++ lines_from count (record { x = seed; units = 0; pending = false })

-- the allowed numbers of lines of a script
abbrev pub IsCount : ℕ → Type 0
IsCount count = count ≤ MOST_LINES
