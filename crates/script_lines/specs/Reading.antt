-- The meaning of the result of a parsing function, given the result of its rule.
use Rattle.std.specs.Prelude.{◌≡◌, Bool, true, false, Option, Some, None, Result, Ok, Err, option_and_then, ⊤}
use Rattle.script_lines.specs.declared.fields.LineFault.{LineFault}
use Rattle.script_lines.specs.declared.fields.LineFault.TheVariants.{Syntax, Memory}

-- The value read is that of the rule. `Syntax` means that the rule gives None; `Memory` is possible whatever the rule gives.
abbrev pub Reads : {X : Type 0} → Result X LineFault → Option X → Type 0
Reads (Ok x) rule = rule ≡ Some x
Reads (Err Syntax) rule = rule ≡ None
Reads (Err Memory) rule = ⊤

-- the check passes if the test is true, and fails with `Syntax` if it is false
abbrev pub Passes : Result Unit LineFault → Bool → Type 0
Passes (Ok done) test = test ≡ true
Passes (Err fault) test = (test ≡ false) × (fault ≡ Syntax)

infixl 10 ◌>>=◌
-- applies the second reading to the result of the first; None if the first gives None
abbrev pub ◌>>=◌ : {A B : Type 0} → Option A → (A → Option B) → Option B
o >>= f = option_and_then f o
