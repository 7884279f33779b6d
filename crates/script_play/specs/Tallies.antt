-- The state, in contracts, of a sink that keeps only a tally.
use Rattle.std.specs.Prelude.{Some, None}
use Rattle.script_streams.specs.Streams.{SinkState, Tally}

-- the bytes taken are unknown, and no write has failed
abbrev pub tally_sink : Tally → SinkState
tally_sink tally = record { taken = None; room = 0; faults = 0; tally = Some tally }
