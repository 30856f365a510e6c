-- A source and a sink over streams of the standard library.
use Rattle.plx_port.specs.declared.input.ReadSource.{ReadSource}
use Rattle.plx_port.specs.declared.output.WriteSink.{WriteSink}

-- a source over a reader, which has not failed
abbrev pub source_over : {B : Type 0} → B → ReadSource B
source_over reader = record { reader = reader; faults = 0 }

-- a sink over a writer, which has not failed
abbrev pub sink_over : {W : Type 0} → W → WriteSink W
sink_over writer = record { writer = writer; faults = 0 }
