-- The ends over std's readers and writers as they are made.
use Rattle.vx_stream.specs.declared.host.HostSource.{HostSource}
use Rattle.vx_stream.specs.declared.host.HostSink.{HostSink}

-- a source over a reader, of which no call failed yet
abbrev pub new_source : {R : Type 0} → R → HostSource R
new_source inner = record { inner = inner; faults = 0 }

-- a sink over a writer, of which no call failed yet
abbrev pub new_sink : {W : Type 0} → W → HostSink W
new_sink inner = record { inner = inner; faults = 0 }
