-- What a record more does to the registers: it extends register 0 alone.
use Rattle.std.proofs.Common.{◌≡◌, List, [], ◌∷◌, ◌++◌}
use Rattle.std.proofs.lemmas.List.{map-append}
use Rattle.std.proofs.lemmas.List.Sums.{fold-append}
use Rattle.cove_base.specs.Measurement.{Record, Extension, record_bytes, registers_of, extended_at}

pub registers_of-record : (records : List Record) (extensions : List Extension) (record' : Record)
    → registers_of (records ++ record' ∷ []) extensions ≡ extended_at (registers_of records extensions) 0 (record_bytes record')
registers_of-record records extensions record' = simp (map-append, fold-append)
