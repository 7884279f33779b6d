-- The bytes of replies.
use Rattle.std.specs.Prelude.{ℕ, List, ◌∷◌, ◌++◌, codes, decimal}
use Rattle.std.specs.List.{flat_map}
use Rattle.unit_text.specs.Text.{quoted}
use Rattle.script_lines.specs.declared.reason.Refusal.{Refusal}
use Rattle.script_lines.specs.declared.reason.Refusal.TheVariants.{Syntax, Unknown, Range, Overlap, Limit, Memory, Gap, Joint}

-- a blank and the number in plain decimals
abbrev pub number_part : ℕ → List ℕ
number_part n = 32 ∷ decimal n

-- `ok` and the numbers
abbrev pub ok_reply : List ℕ → List ℕ
ok_reply numbers = codes "ok" ++ flat_map number_part numbers ++ codes "\n"

-- the reply if there is nothing to do or to show
abbrev pub none_reply : List ℕ
none_reply = codes "ok none\n"

-- the reply to an event that the mirror is already past
abbrev pub old_reply : List ℕ
old_reply = codes "ok old\n"

-- a blank and the units as a JSON string
abbrev pub text_part : List ℕ → List ℕ
text_part units = 32 ∷ quoted units

-- `ok` and a text
abbrev pub text_reply : List ℕ → List ℕ
text_reply units = codes "ok" ++ text_part units ++ codes "\n"

abbrev pub refusal_reply : Refusal → List ℕ
refusal_reply Syntax = codes "! syntax\n"
refusal_reply Unknown = codes "! unknown\n"
refusal_reply Range = codes "! range\n"
refusal_reply Overlap = codes "! overlap\n"
refusal_reply Limit = codes "! limit\n"
refusal_reply Memory = codes "! memory\n"
refusal_reply (Gap have need) = codes "! gap" ++ number_part have ++ number_part need ++ codes "\n"
refusal_reply (Joint doc) = codes "! joint" ++ number_part doc ++ codes "\n"
