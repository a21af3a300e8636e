-- What the monitor knows, and how it begins.
use Rattle.std.specs.Int.{from_le_bytes, w64}
use Rattle.std.specs.Prelude.{◌+◌, ◌-◌, ◌*◌, ◌/◌, ◌%◌, nat_lt, fold, slice_index_or, ℕ, ◌==◌, ◌&&◌, Bool, false, if◌then◌else◌, List, [], map, filter, find, flat_map, filter_map, length, replicate, slice_index, Option, Some, None, unwrap_or}
use Rattle.std.specs.List.{range_with_len}
use Rattle.std.specs.Option.{option_map_or}
use Rattle.cove_model.specs.Owners.{Owner, Host, page_at, words_of}
use Rattle.cove_model.specs.Types.{Fill, ScriptValue}
use Rattle.cove_base.specs.InterruptFiles.{empty_file}
use Rattle.cove_base.specs.Measurement.{board_number}
use Rattle.cove_base.specs.Modes.{guest_limit}
use Rattle.cove_base.specs.declared.modes.Mode.{Mode}
use Rattle.cove_model.specs.Keyed.{at, alter}
use Rattle.cove_model.specs.Tvms.{Backing, OwnPage, HostPage, Cpu, Tvm, new_tvm}

-- the first n harts
abbrev pub harts_below : ℕ → List ℕ
harts_below n = range_with_len 0 n

-- the page of a byte address
abbrev pub page_of : (addr : ℕ) → ℕ
page_of addr = addr / 4096

-- the place of the word of a byte address in its page
abbrev pub word_place : (addr : ℕ) → ℕ
word_place addr = addr / 8 % 512

-- where a hart is inside: a vCPU of a TVM
pub record Seat : Type 0 where
  pub tvm : ℕ
  pub cpu : ℕ

-- the state of the one-thread monitor; the first three fields never change
pub record State : Type 0 where
  pub harts : ℕ
  pub files : ℕ
  pub key : List ℕ
  pub pages : List Owner
  -- the harts that have not answered the last accepted global fence, rising
  pub unanswered : List ℕ
  -- for each hart the number of its lines that are ended
  pub ended : List ℕ
  -- the live TVMs, and how many were ever created
  pub tvms : List Tvm
  pub made : ℕ
  -- where each hart is inside, if it is
  pub seats : ℕ → Option Seat
  -- the harts for which a kick stands
  pub kicked : List ℕ

-- the size of the board, as its record has it
abbrev pub board_in : State → ℕ
board_in S = board_number (length S.pages) S.harts S.files

-- the number of lines that a hart has ended
abbrev pub ended_by : State → (hart : ℕ) → ℕ
ended_by S hart = slice_index S.ended hart

-- ---- TVMs and vCPUs by their numbers

abbrev pub find_tvm : State → (t : ℕ) → Option Tvm
find_tvm S t = at (λ tvm. tvm.number) t S.tvms

-- the TVM with a number, and a new one where none is live
abbrev pub tvm_at : State → (t : ℕ) → Tvm
tvm_at S t = unwrap_or (find_tvm S t) (new_tvm t)

-- the mode of a TVM's tables, and how many guest pages that has
abbrev pub mode_in : State → (t : ℕ) → Mode
mode_in S t = (tvm_at S t).mode

abbrev pub guests_in : State → (t : ℕ) → ℕ
guests_in S t = guest_limit (mode_in S t)

-- the state with a TVM changed
abbrev pub on_tvm : (t : ℕ) → (how : Tvm → Tvm) → State → State
on_tvm t how S = record S { tvms = alter (λ tvm. tvm.number) t how S.tvms }

-- a vCPU as it is created
abbrev pub new_cpu : (number : ℕ) → Cpu
new_cpu number = record {
  number = number;
  x = replicate 32 0;
  pc = 0;
  stopped = false;
  latched = None;
  fuel = 0;
  file = empty_file;
  binding = None;
}

abbrev pub find_cpu : Tvm → (v : ℕ) → Option Cpu
find_cpu tvm v = at (λ cpu. cpu.number) v tvm.cpus

-- the vCPU with a number, and a new one where there is none
abbrev pub cpu_at : Tvm → (v : ℕ) → Cpu
cpu_at tvm v = unwrap_or (find_cpu tvm v) (new_cpu v)

-- the TVM with a vCPU changed
abbrev pub on_cpu : (v : ℕ) → (how : Cpu → Cpu) → Tvm → Tvm
on_cpu v how tvm = record tvm { cpus = alter (λ cpu. cpu.number) v how tvm.cpus }

-- ---- seats

-- a seat is in a TVM; on a vCPU of it
abbrev pub is_in : (t : ℕ) → Seat → Bool
is_in t seat = seat.tvm == t

abbrev pub is_on : (t v : ℕ) → Seat → Bool
is_on t v seat = seat.tvm == t && seat.cpu == v

-- the harts inside a TVM, rising
abbrev pub harts_inside : State → (t : ℕ) → List ℕ
harts_inside S t = filter (λ h. option_map_or (is_in t) (S.seats h) false) (harts_below S.harts)

-- the hart that runs a vCPU, if one does
abbrev pub runner : State → (t v : ℕ) → Option ℕ
runner S t v = find (λ h. option_map_or (is_on t v) (S.seats h) false) (harts_below S.harts)

-- the seats with another one for a hart
abbrev pub seated : (hart : ℕ) → Option Seat → (ℕ → Option Seat) → ℕ → Option Seat
seated hart seat seats other = if other == hart then seat else seats other

-- ---- shared pages

-- the page of the host's that a mapping shows, if it does
abbrev pub shown_page : Backing → Option ℕ
shown_page (OwnPage page words) = None
shown_page (HostPage page) = Some page

-- the host's pages that are mapped in a TVM, each as often as it is
abbrev pub shared_pages : State → List ℕ
shared_pages S = flat_map (λ tvm. filter_map (λ mapping. shown_page mapping.backing) tvm.mappings) S.tvms

-- a byte of memory after a fill
abbrev pub byte_after : (addr before : ℕ) → Fill → ℕ
byte_after addr before fill =
    if nat_lt addr fill.addr then before else slice_index_or fill.bytes (addr - fill.addr) before

-- a byte of the opening memory: zero, but for the fills, of which a later one wins
abbrev pub opening_byte : (fills : List Fill) (addr : ℕ) → ℕ
opening_byte fills addr = fold (byte_after addr) 0 fills

-- the 512 words of a page of the opening memory, each little-endian
unfoldable pub opening_words : (fills : List Fill) (p : ℕ) → List ℕ
opening_words fills p =
    map (λ i. from_le_bytes w64 (map (opening_byte fills) (range_with_len (4096 * p + 8 * i) 8))) (range_with_len 0 512)

-- the state before any entry: every page is the host's, and there is no TVM
abbrev pub opening : ScriptValue → State
opening script = record {
  harts = script.harts;
  files = script.files;
  key = script.key;
  pages = map (λ p. Host (opening_words script.fills p)) (range_with_len 0 script.pages);
  unanswered = [];
  ended = replicate script.harts 0;
  tvms = [];
  made = 0;
  seats = λ hart. None;
  kicked = [];
}

-- the word that the host sees at an address
abbrev pub word_at : State → (addr : ℕ) → ℕ
word_at S addr = slice_index (words_of (page_at S.pages (page_of addr))) (word_place addr)
