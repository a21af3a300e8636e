-- The places of the files of a board.
use Rattle.std.proofs.Common.{◌≡◌, ◌≢◌, ◌<◌, ◌≤◌, ℕ, ◌+◌, ◌*◌, ◌-◌, ◌⊎◌, inl, inr, length, set, replicate, sym, ◌∙◌, ap, arith, get_or-set_other, length-set}
use Rattle.std.specs.Prelude.{Some, slice_get}
use Rattle.std.proofs.lemmas.Bool.Decides.{leb_tells}
use Rattle.std.proofs.lemmas.List.{get_or-replicate, length-replicate}
use Rattle.std.proofs.lemmas.Option.{slice_get-get_or}
use Rattle.std.proofs.Math.Nat.{mul-le-mul_right}
use Rattle.cove_base.specs.InterruptFiles.{InterruptFile, empty_file}
use Rattle.cove_imsic.specs.FileTables.{FileTable, HasFile, file_at}

-- the files of a hart stand before those of each later hart
pub row_before : (files hart later : ℕ) → hart < later → hart * files + files ≤ later * files
row_before files hart later before = let rows = mul-le-mul_right {m = hart + 1} {n = later} files (omega arith) in omega arith

pub place_within : (table : FileTable) (hart file : ℕ) → HasFile table hart file → hart * table.files + (file - 1) < table.harts * table.files
place_within table hart file there = let row = row_before table.files hart table.harts there.known in let above = there.above in let within = there.within in omega arith

pub places_differ : (table : FileTable) (hart file other_hart other : ℕ) → HasFile table hart file → HasFile table other_hart other
    → (other_hart ≢ hart) ⊎ (other ≢ file) → other_hart * table.files + (other - 1) ≢ hart * table.files + (file - 1)
places_differ table hart file other_hart other there there' differ same =
    let above = there.above in let within = there.within in let above' = there'.above in let within' = there'.within in
    elim (leb_tells hart other_hart) [
      | inl le ↦ elim (leb_tells other_hart hart) [
        | inl ge ↦
            let first : hart ≤ other_hart = le.1 in let second : other_hart ≤ hart = ge.1 in
            let one_hart : other_hart ≡ hart = omega arith in
            let one_row : other_hart * table.files ≡ hart * table.files = ap (λ n. n * table.files) one_hart in
            elim differ [ inl apart ↦ apart one_hart | inr apart ↦ apart (omega arith) ]
        | inr lt ↦ let row = row_before table.files hart other_hart lt.1 in omega arith
      ]
      | inr lt ↦ let row = row_before table.files other_hart hart lt.1 in omega arith
    ]

pub file_at-set_other : (table : FileTable) (hart file other_hart other : ℕ) (s : InterruptFile) → length table.states ≡ table.harts * table.files
    → HasFile table hart file → HasFile table other_hart other → (other_hart ≢ hart) ⊎ (other ≢ file)
    → slice_get (set table.states (hart * table.files + (file - 1)) s) (other_hart * table.files + (other - 1)) ≡ file_at table other_hart other
file_at-set_other table hart file other_hart other s whole there there' differ =
    slice_get-get_or (set table.states place s) other_place empty_file (simp length-set below)
    ∙ ap (λ x. Some x) (get_or-set_other table.states place other_place s empty_file apart)
    ∙ sym (slice_get-get_or table.states other_place empty_file below)
  where
    place : ℕ
    place = hart * table.files + (file - 1)

    other_place : ℕ
    other_place = other_hart * table.files + (other - 1)

    below : other_hart * table.files + (other - 1) < length table.states
    below = let inside = place_within table other_hart other there' in omega arith

    apart : other_hart * table.files + (other - 1) ≢ hart * table.files + (file - 1)
    apart = places_differ table hart file other_hart other there there' differ

pub file_at-replicate : (table : FileTable) (hart file : ℕ) → table.states ≡ replicate (table.harts * table.files) empty_file
    → HasFile table hart file → file_at table hart file ≡ Some empty_file
file_at-replicate table hart file empty there =
    ap (λ xs. slice_get xs (hart * table.files + (file - 1))) empty
    ∙ slice_get-get_or (replicate (table.harts * table.files) empty_file) (hart * table.files + (file - 1)) empty_file
    (simp length-replicate (place_within table hart file there))
    ∙ ap (λ x. Some x) (get_or-replicate (table.harts * table.files) (hart * table.files + (file - 1)) empty_file empty_file (place_within table hart file there))
