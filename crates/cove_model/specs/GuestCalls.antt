-- The rule of each call of a guest, what it is answered, and what a guest's access reads and writes.
use Rattle.std.specs.Prelude.{ℕ, ◌+◌, ◌-◌, ◌*◌, ◌/◌, ◌%◌, ◌^◌, Bool, true, ◌==◌, ◌&&◌, ◌||◌, not, nat_lt, if◌then◌else◌, List, [], ◌∷◌, ◌++◌, length, take, drop, map, slice_index, slice_index_or, ℤ, pos, negsuc, None}
use Rattle.std.specs.Int.{from_le_bytes, w64}
use Rattle.std.specs.List.{range_with_len}
use Rattle.std.specs.Option.{option_map_or}
use Rattle.cove_base.specs.Evidence.{evidence}
use Rattle.cove_base.specs.Measurement.{bytes_of_words, registers_of}
use Rattle.cove_base.specs.Registers.{written}
use Rattle.cove_base.specs.Statuses.{code_of}
use Rattle.cove_base.specs.declared.calls.GuestAct.{GuestAct}
use Rattle.cove_base.specs.declared.limits.TheConstants.{SHARED_RUN_LIMIT}
use Rattle.cove_base.specs.declared.statuses.Reply.{Reply}
use Rattle.cove_base.specs.declared.statuses.Status.TheVariants.{Failed, NotSupported, InvalidParam, InvalidAddress}
use Rattle.cove_model.specs.Owners.{without, words_of, page_at}
use Rattle.cove_model.specs.Refusals.{Check, plain, Aligned}
use Rattle.cove_model.specs.States.{page_of, word_place, State, harts_inside, on_tvm, tvm_at}
use Rattle.cove_model.specs.Checks.{Identity, is_mapped_by}
use Rattle.cove_model.specs.GuestPages.{are_of_one_region, is_among, is_private, is_shared, row_count, shared_with, shared_without}
use Rattle.cove_model.specs.HostCalls.{ForgetsGuests, Rule, forgetting, giving, simply}
use Rattle.cove_model.specs.Deeds.{next_place}
use Rattle.cove_model.specs.Mappings.{blocked_standing, is_own, is_present, mapping_of, restood}
use Rattle.cove_model.specs.Tvms.{Backing, OwnPage, HostPage, Mapping, Cpu, Tvm}

-- ---- words of guest memory

-- the words that a guest page shows
abbrev pub words_under : State → Backing → List ℕ
words_under S (OwnPage page words) = words
words_under S (HostPage page) = words_of (page_at S.pages page)

abbrev pub guest_words : State → (t g : ℕ) → List ℕ
guest_words S t g = option_map_or (λ mapping. words_under S mapping.backing) (mapping_of (tvm_at S t) g) []

-- the word at a guest address
abbrev pub guest_word : State → (t addr : ℕ) → ℕ
guest_word S t addr = slice_index (guest_words S t (page_of addr)) (word_place addr)

-- so many bytes from a guest address on, both multiples of 8, within a page
abbrev pub guest_bytes : State → (t addr size : ℕ) → List ℕ
guest_bytes S t addr size = bytes_of_words (take (size / 8) (drop (word_place addr) (guest_words S t (page_of addr))))

-- bytes as words
abbrev pub words_in : (bytes : List ℕ) → List ℕ
words_in bytes = map (λ i. from_le_bytes w64 (take 8 (drop (8 * i) bytes))) (range_with_len 0 (length bytes / 8))

-- the words of a page, of which those from a place on are others
abbrev pub overwritten : (place : ℕ) (new words : List ℕ) → List ℕ
overwritten place new words =
    map (λ i. if nat_lt i place then slice_index words i else slice_index_or new (i - place) (slice_index words i)) (range_with_len 0 (length words))

-- a page of the TVM's own with its words changed
abbrev pub reworded : (how : List ℕ → List ℕ) → Backing → Backing
reworded how (OwnPage page words) = OwnPage page (how words)
reworded how (HostPage page) = HostPage page

abbrev pub remembered : (g : ℕ) → (how : List ℕ → List ℕ) → Mapping → Mapping
remembered g how mapping = record mapping { backing = if mapping.guest == g then reworded how mapping.backing else mapping.backing }

-- a TVM with the words of a guest page of its own changed
abbrev pub with_words : (g : ℕ) → (how : List ℕ → List ℕ) → Tvm → Tvm
with_words g how tvm = record tvm { mappings = map (remembered g how) tvm.mappings }

-- ---- checks

-- 1 to 16 whole pages
abbrev pub ShareLength : (len : ℕ) → Check
ShareLength len = plain (len == 0 || nat_lt 65536 len) InvalidAddress

-- the guest pages lie in one region, and all are of a kind
abbrev pub OfOneRegion : State → (t : ℕ) → (kind : Tvm → ℕ → Bool) → (gpa n : ℕ) → Check
OfOneRegion S t kind gpa n = plain (not (are_of_one_region (tvm_at S t) (kind (tvm_at S t)) gpa n)) InvalidAddress

-- the shared guest pages then form no more rows than they may
abbrev pub RoomForRows : List ℕ → Check
RoomForRows shared = plain (nat_lt SHARED_RUN_LIMIT (row_count shared)) Failed

-- one of the registers that a guest extends
abbrev pub GuestRegister : (i : ℕ) → Check
GuestRegister i = plain (i == 0 || nat_lt 4 i) InvalidParam

-- the bytes begin at a multiple of 8, and lie in one page of the TVM's own that is present
abbrev pub InOwnPage : State → (t addr size : ℕ) → Check
InOwnPage S t addr size =
    plain (not (addr % 8 == 0 && page_of addr == page_of (addr + size - 1)
    && is_mapped_by (λ mapping. is_own mapping.backing && is_present mapping.standing) (tvm_at S t) (page_of addr))) InvalidAddress

-- ---- rules

-- mappings of some guest pages are blocked, for the harts inside but the one that asks
abbrev pub blocking : State → (h t gpa n : ℕ) → List Mapping → List Mapping
blocking S h t gpa n mappings = restood (is_among gpa n) (blocked_standing (without h (harts_inside S t))) mappings

-- the evidence of a TVM over the nonce at an address, which is of version 2
abbrev pub evidence_at : State → (t nonce : ℕ) → List ℕ
evidence_at S t nonce =
    evidence 2 (registers_of (tvm_at S t).records (tvm_at S t).extensions) (guest_bytes S t nonce 64) S.key

-- the rule of an act of the guest that a hart runs in a TVM, with its first two arguments
abbrev pub guest_rule : State → (hart t a0 a1 : ℕ) → GuestAct → Rule
guest_rule S h t a0 a1 (GuestAct.Share gpa len) =
    let shared = shared_with (tvm_at S t) gpa (len / 4096) in
    forgetting ForgetsGuests
    (Aligned gpa ∷ Aligned len ∷ ShareLength len ∷ OfOneRegion S t is_private gpa (len / 4096) ∷ RoomForRows shared ∷ [])
    (on_tvm t (λ tvm. record tvm { shared = shared; mappings = blocking S h t gpa (len / 4096) tvm.mappings }) S)
guest_rule S h t a0 a1 (GuestAct.Unshare gpa len) =
    let shared = shared_without (tvm_at S t) gpa (len / 4096) in
    forgetting ForgetsGuests
    (Aligned gpa ∷ Aligned len ∷ ShareLength len ∷ OfOneRegion S t is_shared gpa (len / 4096) ∷ RoomForRows shared ∷ [])
    (on_tvm t (λ tvm. record tvm { shared = shared; mappings = blocking S h t gpa (len / 4096) tvm.mappings }) S)
guest_rule S h t a0 a1 GuestAct.Extend = simply
    (GuestRegister a0 ∷ InOwnPage S t a1 48 ∷ [])
    (on_tvm t (λ tvm. record tvm {
      extensions = tvm.extensions ++ record { register = a0; value = guest_bytes S t a1 48 } ∷ [];
    }) S)
guest_rule S h t a0 a1 GuestAct.Evidence = giving 360
    (InOwnPage S t a0 64 ∷ InOwnPage S t a1 360 ∷ [])
    (on_tvm t (with_words (page_of a1) (overwritten (word_place a1) (words_in (evidence_at S t a0)))) S)
guest_rule S h t a0 a1 (GuestAct.Allow id) = simply
    (Identity id ∷ [])
    (on_tvm t (λ tvm. record tvm { allowed = id ∷ without id tvm.allowed }) S)
guest_rule S h t a0 a1 (GuestAct.Deny id) = simply
    (Identity id ∷ [])
    (on_tvm t (λ tvm. record tvm { allowed = without id tvm.allowed }) S)
guest_rule S h t a0 a1 GuestAct.Other = simply (plain true NotSupported ∷ []) S

-- a status as a register has it
abbrev pub status_word : ℤ → ℕ
status_word (pos n) = n
status_word (negsuc n) = 2 ^ 64 - (n + 1)

-- a vCPU whose instruction was executed
abbrev pub stepped : (pc : ℕ) → Cpu → Cpu
stepped pc cpu = record cpu { pc = pc; latched = None; fuel = cpu.fuel - 1 }

-- a vCPU that was answered, refused or not: the status in a0, the value in a1
abbrev pub with_reply : Reply → Cpu → Cpu
with_reply reply cpu = stepped (next_place cpu.pc) (record cpu {
  x = written (written cpu.x 10 (status_word (code_of reply.status))) 11 reply.value;
})
