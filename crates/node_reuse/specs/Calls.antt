-- What the calls of a reader guarantee, whatever text it reads.
use Rattle.std.specs.Prelude.{◌≡◌, ℕ, ◌+◌, ◌≤◌, Bool, false, List, Result, IfOk, OnOk}
use Rattle.text_lengths.specs.declared.Length.{Length}
use Rattle.hiding_rules.specs.Hidden.{Scanner}
use Rattle.bracket_rules.specs.declared.TheConstants.{MOST_OPEN}
use Rattle.bracket_nodes.specs.declared.parser.Next.{Next}
use Rattle.bracket_nodes.specs.Source.{AsksOn}
use Rattle.bracket_nodes.specs.Paying.{HasRoom, PaysOn, PaysFor}
use Rattle.mark_rules.specs.declared.Mark.TheVariants.{New}
use Rattle.node_reuse.specs.declared.line.Line.{Line}
use Rattle.node_reuse.specs.OldText.{OldText}
use Rattle.node_reuse.specs.Reader.{Sight, mark_of, IsKept, IsLast, asked_so, asking_at, StandsAt, ReadsOn}
use Rattle.node_reuse.specs.Paying.{paying_at}

-- ---- line n is entered, which is new: these are the contents of the lines

-- if the reader's state was valid at a place in the line, it is still valid after success
abbrev pub StandsOnEntry : {A E : Type 0} → Scanner → List (List ℕ) → ℕ → Line → Line → Result A E → Type 0
StandsOnEntry by contents n line line' result = (s : Sight) (p : Length) → s.by ≡ by → s.contents ≡ contents → p.lines + 1 ≡ n
    → mark_of s p ≡ New → StandsAt s p line → OnOk result (StandsAt s p line')

-- the line is asked for, unless it already was
abbrev pub AsksOnEntry : ℕ → List ℕ → List ℕ → Line → Line → Type 0
AsksOnEntry n asked asked' line line' = (s : Sight) (p : Length) (borrows : List ℕ) → p.lines + 1 ≡ n → mark_of s p ≡ New
    → StandsAt s p line
    → AsksOn (asking_at s (asked_so asked borrows) p line) (asking_at s (asked_so asked' borrows) p line')

-- no step is taken
abbrev pub PaysOnEntry : {A E : Type 0} → Scanner → List (List ℕ) → ℕ → Line → Line → Result A E → Type 0
PaysOnEntry by contents n line line' result = (s : Sight) (p : Length) (steps : ℕ) → s.by ≡ by → s.contents ≡ contents
    → p.lines + 1 ≡ n → mark_of s p ≡ New → StandsAt s p line
    → OnOk result (PaysOn (paying_at s steps p line) (paying_at s steps p line'))

-- ---- from place p on to place p'

-- in a line that was scanned, the last one or not
abbrev pub ReadsNewLine : {E : Type 0} → Bool → Length → Line → Length → Line → Result Next E → Type 0
ReadsNewLine last p line p' line' result = (s : Sight) (kinds level : ℕ) → level ≤ MOST_OPEN → StandsAt s p line → IsLast s p last
    → IfOk result (ReadsOn s p line p' line' kinds level)

abbrev pub PaysForNewLine : {E : Type 0} → Length → Line → Length → Line → Result Next E → Type 0
PaysForNewLine p line p' line' result = (s : Sight) (steps : ℕ) → StandsAt s p line
    → IfOk result (PaysFor (paying_at s steps p line) (paying_at s steps p' line'))

-- in a kept line, where `level` brackets are open, of the kinds `kinds`
abbrev pub ReadsKeptLine : {E : Type 0} → OldText → Length → Length → ℕ → ℕ → Result Next E → Type 0
ReadsKeptLine old p p' kinds level result = (s : Sight) (line : Line) → s.old ≡ old → IsKept s p → line.scanned ≡ false → StandsAt s p line
    → IfOk result (ReadsOn s p line p' line kinds level)

-- ... with the steps rising from `steps` to `steps'`; `asked`, the steps taken before this call, is at most one more
-- than `steps`
abbrev pub PaysForKeptLine : {E : Type 0} → OldText → Length → ℕ → Length → ℕ → ℕ → Result Next E → Type 0
PaysForKeptLine old p asked p' steps' level result = (s : Sight) (line : Line) (steps : ℕ) → s.old ≡ old → IsKept s p
    → line.scanned ≡ false → StandsAt s p line → asked ≤ steps + 1 → HasRoom (paying_at s steps p line) level
    → IfOk result (PaysFor (paying_at s steps p line) (paying_at s steps' p' line))
