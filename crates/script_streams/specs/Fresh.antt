-- Sources and sinks before their first call.
use Rattle.std.specs.Prelude.{ℕ, List, Option, None, false}
use Rattle.script_streams.specs.Streams.{SourceState, SinkState, Tally}

-- a source before its first read, with the bytes left, if known
abbrev pub fresh_source : Option (List ℕ) → SourceState
fresh_source left = record { left = left; given = 0; ended = false; faults = 0 }

-- a sink without tally before its first write, with its room, and the bytes that it holds, if known
abbrev pub fresh_sink : ℕ → Option (List ℕ) → SinkState
fresh_sink room taken = record { taken = taken; room = room; faults = 0; tally = None }

-- the tally of no bytes
abbrev pub no_tally : Tally
no_tally = record { count = 0; sum = 0 }
