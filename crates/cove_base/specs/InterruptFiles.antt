-- An interrupt file: which identities are pending, which are enabled, and the registers that a guest reaches it by, a
-- part of those that the RISC-V Advanced Interrupt Architecture gives to an IMSIC's files.
use Rattle.std.specs.Prelude.{ℕ, ◌+◌, ◌*◌, ◌%◌, ◌^◌, ◌==◌, ◌&&◌, ◌||◌, Bool, false, not, nat_lt, List, [], filter, find, sum_by, Option, Some, None, unwrap_or, bit_or, bit_and, if◌then◌else◌}
use Rattle.std.specs.Int.{w64, bit_at, bit_not}
use Rattle.std.specs.List.{list_any, range_with_len}
use Rattle.std.specs.Option.{option_map, option_map_or}
use Rattle.cove_base.specs.declared.instructions.CsrMode.{CsrMode}
use Rattle.cove_base.specs.declared.instructions.CsrMode.TheVariants.{Write, Set, Clear}

-- a file: two sets of identities, each a rising list; and the threshold, the delivery bit and the select value
pub record InterruptFile : Type 0 where
  pub pending : List ℕ
  pub enabled : List ℕ
  pub threshold : ℕ
  pub delivery : Bool
  pub select : ℕ

-- the identities 1 to 63, the highest priority first
unfoldable pub identities : List ℕ
identities = range_with_len 1 63

-- the set of the identities that meet a test
unfoldable pub those : (ℕ → Bool) → List ℕ
those test = filter test identities

-- the least identity that meets a test, and 0 where none does
unfoldable pub least : (ℕ → Bool) → ℕ
least test = unwrap_or (find test identities) 0

-- an identity is in a set
abbrev pub has_id : List ℕ → (id : ℕ) → Bool
has_id set id = list_any (λ other. other == id) set

-- the set whose identities are the bits of a mask; bit 0 is no identity
abbrev pub set_of_mask : ℕ → List ℕ
set_of_mask mask = those (λ id. bit_at mask id == 1)

-- the mask of a set
abbrev pub mask_of_set : List ℕ → ℕ
mask_of_set set = sum_by (λ id. 2 ^ id) set

-- a file in which nothing is pending or enabled
abbrev pub empty_file : InterruptFile
empty_file = record { pending = []; enabled = []; threshold = 0; delivery = false; select = 0 }

-- a file in which one more identity is pending
abbrev pub raised : InterruptFile → (id : ℕ) → InterruptFile
raised file id = record file { pending = those (λ other. (other == id) || has_id file.pending other) }

-- an identity is pending and enabled, and the threshold, where there is one, is above it
abbrev pub is_signalled : InterruptFile → (id : ℕ) → Bool
is_signalled file id =
    has_id file.pending id && has_id file.enabled id && ((file.threshold == 0) || nat_lt id file.threshold)

-- the signalled identity of the highest priority, and 0 where there is none
abbrev pub top : InterruptFile → ℕ
top file = least (is_signalled file)

-- the same as an identity and its priority, which is its number
abbrev pub topei : InterruptFile → ℕ
topei file = 65536 * top file + top file

-- a file after its top identity was claimed, which is pending no more
abbrev pub claimed : InterruptFile → InterruptFile
claimed file = record file { pending = those (λ other. has_id file.pending other && not (other == top file)) }

-- a register of a file: what is read of it, and the file after a value was written to it
pub record FileRegister : Type 0 where
  pub value : ℕ
  pub written : ℕ → InterruptFile

-- the register behind sireg, by the select value: eidelivery, eithreshold, eip0, eie0
abbrev pub selected_register : InterruptFile → Option FileRegister
selected_register file =
    if file.select == 0x70 then Some (record { value = if file.delivery then 1 else 0; written = λ v. record file { delivery = bit_at v 0 == 1 } })
    else (if file.select == 0x72 then Some (record { value = file.threshold; written = λ v. record file { threshold = v % 64 } })
    else (if file.select == 0x80 then Some (record { value = mask_of_set file.pending; written = λ v. record file { pending = set_of_mask v } })
    else (if file.select == 0xC0 then Some (record { value = mask_of_set file.enabled; written = λ v. record file { enabled = set_of_mask v } })
    else None)))

-- the registers by their CSR numbers: siselect, sireg, stopei
abbrev pub file_register : InterruptFile → (csr : ℕ) → Option FileRegister
file_register file csr =
    if csr == 0x150 then Some (record { value = file.select; written = λ v. record file { select = v } })
    else (if csr == 0x151 then selected_register file
    else (if csr == 0x15C then Some (record { value = topei file; written = λ _. claimed file })
    else None))

-- what an instruction writes, by the old value and its source
abbrev pub new_value : CsrMode → (old source : ℕ) → ℕ
new_value Write old source = source
new_value Set old source = bit_or old source
new_value Clear old source = bit_and old (bit_not w64 source)

-- what an instruction reads of a register, where there is one
abbrev pub csr_read : InterruptFile → (csr : ℕ) → Option ℕ
csr_read file csr = option_map (λ register. register.value) (file_register file csr)

-- a file after a value was written to a register, where there is one
abbrev pub csr_written : InterruptFile → (csr value : ℕ) → InterruptFile
csr_written file csr value = option_map_or (λ register. register.written value) (file_register file csr) file

-- a file after an instruction that read a register, and wrote it where it writes
abbrev pub after_csr : InterruptFile → (csr : ℕ) → CsrMode → (source : ℕ) → (writes : Bool) → InterruptFile
after_csr file csr mode source writes =
    if writes then csr_written file csr (new_value mode (unwrap_or (csr_read file csr) 0) source) else file
