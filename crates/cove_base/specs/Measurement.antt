-- What measures a TVM, and its five registers of 48 bytes. A register is the fold of what extended it, by SHA-384
-- (FIPS 180-4), from zeros.
use Rattle.std.specs.Prelude.{ℕ, ◌+◌, ◌*◌, ◌==◌, List, [], ◌∷◌, ◌++◌, map, filter, fold, replicate, slice_index_or, slice_set}
use Rattle.std.specs.Int.{w64, to_le_bytes}
use Rattle.std.specs.List.{flat_map}
use Rattle.sha2.specs.Sha512.{sha384}

-- what extends register 0: the board that the TVM was created on, a page of 512 words at its guest address, a vCPU by its
-- number, and what the TVM was finalized with
pub data Record : Type 0 where
  BoardRecord : (board : ℕ) → Record
  PageRecord : (address : ℕ) (words : List ℕ) → Record
  VcpuRecord : (vcpu : ℕ) → Record
  FinalizeRecord : (pc argument : ℕ) → Record

-- what the record of a board says of its size: the numbers of pages, of harts and of interrupt files a hart
abbrev pub board_number : (pages harts files : ℕ) → ℕ
board_number pages harts files = pages + 65536 * harts + 16777216 * files

-- what a guest extends one of the registers 1 to 4 by: 48 bytes
pub record Extension : Type 0 where
  pub register : ℕ
  pub value : List ℕ

-- the bytes of words, in their order, each with its low byte first
abbrev pub bytes_of_words : List ℕ → List ℕ
bytes_of_words words = flat_map (to_le_bytes w64) words

-- a record in bytes: its kind and its numbers, low byte first; the words of a page stand there by their SHA-384
abbrev pub record_bytes : Record → List ℕ
record_bytes (BoardRecord board) = 4 ∷ to_le_bytes w64 board
record_bytes (PageRecord address words) = 1 ∷ to_le_bytes w64 address ++ sha384 (bytes_of_words words)
record_bytes (VcpuRecord vcpu) = 3 ∷ to_le_bytes w64 vcpu
record_bytes (FinalizeRecord pc argument) = 2 ∷ to_le_bytes w64 pc ++ to_le_bytes w64 argument

-- a register that nothing extended yet
abbrev pub fresh_register : List ℕ
fresh_register = replicate 48 0

-- a register after a value extended it
abbrev pub extended : (register value : List ℕ) → List ℕ
extended register value = sha384 (register ++ value)

-- a register after each value of a list extended it, in order
abbrev pub register_of : List (List ℕ) → List ℕ
register_of values = fold extended fresh_register values

-- the values that extended a register of the guest's, in order
abbrev pub values_for : (i : ℕ) → List Extension → List (List ℕ)
values_for i extensions = map (λ extension. extension.value) (filter (λ extension. extension.register == i) extensions)

-- the registers 0 to 4 of a TVM
abbrev pub registers_of : List Record → List Extension → List (List ℕ)
registers_of records extensions =
    register_of (map record_bytes records)
    ∷ register_of (values_for 1 extensions) ∷ register_of (values_for 2 extensions)
    ∷ register_of (values_for 3 extensions) ∷ register_of (values_for 4 extensions) ∷ []

-- registers after a value extended one of them
abbrev pub extended_at : List (List ℕ) → (i : ℕ) (value : List ℕ) → List (List ℕ)
extended_at registers i value = slice_set registers i (extended (slice_index_or registers i []) value)
