use Rattle.cove_io.specs.declared.outside.ReadSource.{ReadSource}
use Rattle.cove_io.specs.declared.outside.WriteSink.{WriteSink}

-- the reader that a source adapts
abbrev pub reader_of : {R : Type 0} → ReadSource R → R
reader_of source = source.reader

-- the writer that a sink adapts
abbrev pub writer_of : {W : Type 0} → WriteSink W → W
writer_of sink = sink.writer
