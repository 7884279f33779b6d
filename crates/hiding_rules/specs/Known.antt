-- The lines that are scanned again if a part of them was scanned before.
use Rattle.std.specs.Prelude.{◌≡◌, ℕ, suc, Bool, true, false, not, if◌then◌else◌, List, [], ◌∷◌, map, Option, Some, None, IfSome, ⊤}
use Rattle.hiding_rules.specs.declared.LineState.{LineState}
use Rattle.hiding_rules.specs.declared.LineState.TheVariants.{Code, Block}
use Rattle.hiding_rules.specs.Hidden.{Scanner, hidden_scan}

-- the state after the lines, the first of which begins in `state`
abbrev pub state_behind : Scanner → LineState → List (List ℕ) → LineState
state_behind by state [] = state
state_behind by state (x ∷ lines) = state_behind by (hidden_scan by state x).state lines

-- ---- lines some of which were scanned before

-- the states at the start and the end of a line when it was last scanned
pub record Known : Type 0 where
  pub begins : LineState
  pub ends : LineState

abbrev pub same_state : LineState → LineState → Bool
same_state Code Code = true
same_state Block Block = true
same_state Code Block = false
same_state Block Code = false

-- the line is not new, and begins in another state than when it was last scanned
abbrev pub is_restarted : Option Known → LineState → Bool
is_restarted None state = false
is_restarted (Some known) state = not (same_state known.begins state)

abbrev pub is_scanned : Option Known → LineState → Bool
is_scanned None state = true
is_scanned (Some known) state = is_restarted (Some known) state

abbrev pub numbered_if : Bool → ℕ → List ℕ → List ℕ
numbered_if wanted n rest = if wanted then n ∷ rest else rest

-- the numbers of the lines that are scanned; the first line has number n, `known` has None for a new line, and `states`
-- gives the states in which the lines begin
abbrev pub scanned_lines : ℕ → List (Option Known) → List LineState → List ℕ
scanned_lines n [] states = []
scanned_lines n (k ∷ known) [] = []
scanned_lines n (k ∷ known) (s ∷ states) = numbered_if (is_scanned k s) n (scanned_lines (suc n) known states)

-- for each known line, a scan from its start state ends in its end state
abbrev pub Lead : Scanner → List (Option Known) → List (List ℕ) → Type 0
Lead by [] lines = ⊤
Lead by (k ∷ known) [] = ⊤
Lead by (k ∷ known) (x ∷ lines) = IfSome k (λ l. (hidden_scan by l.begins x).state ≡ l.ends) × Lead by known lines

-- the state in which a line ends: the known one if the line begins as before, else that of a scan
abbrev pub end_of : Scanner → Option Known → LineState → List ℕ → LineState
end_of by None state x = (hidden_scan by state x).state
end_of by (Some known) state x = if same_state known.begins state then known.ends else (hidden_scan by state x).state

-- the states of the lines if only new and restarted lines are scanned
abbrev pub settled_from : Scanner → LineState → List (Option Known) → List (List ℕ) → List LineState
settled_from by state [] lines = []
settled_from by state (k ∷ known) [] = []
settled_from by state (k ∷ known) (x ∷ lines) =
    state ∷ settled_from by (end_of by k state x) known lines

-- the lines were scanned in sequence from state `from` to state `to`: each begins in the state in which the line before
-- it ended
abbrev pub AreChained : LineState → List Known → LineState → Type 0
AreChained from [] to = from ≡ to
AreChained from (k ∷ known) to = (k.begins ≡ from) × AreChained k.ends known to

abbrev pub all_known : List Known → List (Option Known)
all_known known = map (λ k. Some k) known
