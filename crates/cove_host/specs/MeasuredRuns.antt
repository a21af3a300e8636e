-- Pages that a TVM's registers are extended by, one after another, and that its guest pages are mapped to.
use Rattle.std.specs.Prelude.{◌≡◌, ℕ, ◌*◌, ◌++◌, false, List, [], map, slice_index_or}
use Rattle.std.specs.List.{range_with_len}
use Rattle.cove_base.specs.Measurement.{Extension, Record, registers_of}
use Rattle.cove_base.specs.Modes.{leaves_of}
use Rattle.cove_host.specs.Mapped.{MapsRun}
use Rattle.cove_model.specs.HostCalls.{page_records}
use Rattle.cove_stage2.specs.MapStores.{Pages}
use Rattle.cove_tvm.specs.declared.machines.Tvm.{Tvm}

-- the words of n pages from one on
abbrev pub frames_from : (first n : ℕ) (frames : List (List ℕ)) → List (List ℕ)
frames_from first n frames = map (λ p. slice_index_or frames p []) (range_with_len first n)

-- registers are extended by the n pages from one on, each at its guest page from g on
abbrev pub ExtendsBy : (g first n : ℕ) (frames old new : List (List ℕ)) → Type 0
ExtendsBy g first n frames old new =
    (records : List Record) (extensions : List Extension)
    → old ≡ registers_of records extensions
    → new ≡ registers_of (records ++ page_records (4096 * g) (frames_from first n frames)) extensions

-- a TVM whose run was measured and mapped: its registers are extended, its pool is what is left, and all else stays
pub record MeasuresIn (g p n : ℕ) (frames : List (List ℕ)) (words new : List ℕ) (old now : Tvm) : Type 0 where
  pub left : Pages
  pub measured : List (List ℕ)
  pub rest : now ≡ record old { pool = left; registers = measured }
  pub room : left.room ≡ old.pool.room
  pub mapped : MapsRun old.tables.pages old.tables.root.0 (leaves_of old.tables.mode) g p n n false words old.pool.pages new left.pages
  pub extended : ExtendsBy g p n frames old.registers measured
