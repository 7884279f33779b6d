-- Worked examples of the definitions.
use Rattle.std.specs.Prelude.{◌≡◌, ℕ, List, [], ◌∷◌, map, ◌++◌, true, false, refl, codes}
use Rattle.std.specs.Fmt.{digits}
use Rattle.script_play.specs.declared.play.Play.{Play}
use Rattle.script_play.specs.Draws.{next, drawn}
use Rattle.script_play.specs.Lines.{line_bytes}
use Rattle.script_play.specs.Script.{chosen_line, next_line, lines_from, script}

-- ---- whole scripts

first_number : next 0 ≡ 1442695040888963407
unfolding next
first_number = refl

first_draw : drawn 1442695040888963407 16 ≡ 15
first_draw = refl

one_line : script 1 5 ≡ codes "{\"cmd\":\"open\",\"text\":\"\"}\n"
unfolding script lines_from
one_line = refl

two_lines : script 2 0 ≡ codes "{\"cmd\":\"open\",\"text\":\"\"}\n{\"cmd\":\"size\"}\n"
unfolding script lines_from next
two_lines = refl

-- an edit, a decoration and a stop
four_lines : script 4 1
    ≡ codes "{\"cmd\":\"open\",\"text\":\"\"}\n"
    ++ codes "{\"cmd\":\"edit\",\"ops\":[{\"at\":[0,0],\"text\":\"bc d\"}]}\n"
    ++ codes "{\"cmd\":\"decorate\",\"owner\":1,\"remove\":[],\"add\":[{\"at\":[0,2],\"stick\":2}]}\n"
    ++ codes "{\"cmd\":\"stop\"}\n"
unfolding script lines_from next digits
four_lines = refl

-- a redo after the undo
four_other_lines : script 4 11
    ≡ codes "{\"cmd\":\"open\",\"text\":\"\"}\n"
    ++ codes "{\"cmd\":\"undo\"}\n"
    ++ codes "{\"cmd\":\"redo\"}\n"
    ++ codes "{\"cmd\":\"edit\",\"ops\":[{\"at\":[0,0],\"text\":\"bc d\"}]}\n"
unfolding script lines_from next digits
four_other_lines = refl

-- ---- a line of each kind, by the number that chooses it

-- a text of 20 units
abbrev play : Play
play = record { x = 50; units = 20; pending = false }

abbrev line_of : ℕ → List ℕ
line_of choice = line_bytes (chosen_line choice play).0

-- the draw of the number of units to remove gave 2
an_edit : line_of 0 ≡ codes "{\"cmd\":\"edit\",\"ops\":[{\"at\":[19,20],\"text\":\"bc d\"}]}\n"
unfolding next digits
an_edit = refl

after_an_edit : (chosen_line 7 play).1 ≡ record { x = 13966525962577543411; units = 23; pending = false }
unfolding next
after_an_edit = refl

after_an_undo : (chosen_line 8 play).1 ≡ record play { pending = true }
after_an_undo = refl

a_decoration : line_of 10
    ≡ codes "{\"cmd\":\"decorate\",\"owner\":1,\"remove\":[],\"add\":[{\"at\":[19,20],\"stick\":2}]}\n"
unfolding next digits
a_decoration = refl

a_position : line_of 11 ≡ codes "{\"cmd\":\"position\",\"offset\":19}\n"
unfolding next digits
a_position = refl

some_decorations : line_of 14 ≡ codes "{\"cmd\":\"decos\",\"at\":[19,19]}\n"
unfolding next digits
some_decorations = refl

lines_with_no_draw : map line_of (8 ∷ 9 ∷ 12 ∷ 13 ∷ 15 ∷ [])
    ≡ codes "{\"cmd\":\"undo\"}\n" ∷ codes "{\"cmd\":\"stop\"}\n" ∷ codes "{\"cmd\":\"level\",\"line\":1,\"col\":1}\n"
    ∷ codes "{\"cmd\":\"brackets\",\"from\":1,\"to\":1}\n" ∷ codes "{\"cmd\":\"size\"}\n" ∷ []
lines_with_no_draw = refl

a_redo : line_bytes (next_line (record play { pending = true })).0 ≡ codes "{\"cmd\":\"redo\"}\n"
a_redo = refl

after_a_redo : (next_line (record play { pending = true })).1 ≡ play
after_a_redo = refl
