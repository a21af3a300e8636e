-- What calls on a TVM do to its mappings, to the unbinding of a vCPU, and to what waits for a hart.
use Rattle.std.specs.Prelude.{ℕ, zero, suc, ◌+◌, Bool, true, false, not, if◌then◌else◌, List, [], ◌∷◌, ◌++◌, map, Option, Some, None}
use Rattle.std.specs.Option.{option_map}
use Rattle.cove_model.specs.Owners.{has, without}
use Rattle.cove_model.specs.Keyed.{at}
use Rattle.cove_model.specs.GuestPages.{is_private, is_shared, new_parts}
use Rattle.cove_model.specs.Tvms.{Backing, OwnPage, HostPage, Standing, Present, Blocked, Mapping, Unbinding, NotBegun, Begun, Binding, Cpu, Tvm}

-- the mapping of a guest page, if it has one
abbrev pub mapping_of : Tvm → (g : ℕ) → Option Mapping
mapping_of tvm g = at (λ mapping. mapping.guest) g tvm.mappings

-- new mappings, present, of the guest pages from one on: to pages of the TVM's own from another on, one for each list of
-- words; to n pages of the host's from another on
abbrev pub own_mappings : (g p : ℕ) → List (List ℕ) → List Mapping
own_mappings g p [] = []
own_mappings g p (words ∷ rest) =
    record { guest = g; backing = OwnPage p words; standing = Present } ∷ own_mappings (g + 1) (p + 1) rest

abbrev pub shared_mappings : (g p n : ℕ) → List Mapping
shared_mappings g p zero = []
shared_mappings g p (suc n) =
    record { guest = g; backing = HostPage p; standing = Present } ∷ shared_mappings (g + 1) (p + 1) n

-- a TVM after the n guest pages from an address on were mapped, with the table pages that they need
abbrev pub with_mappings : (gpa n : ℕ) → List Mapping → Tvm → Tvm
with_mappings gpa n new tvm = record tvm {
  mappings = tvm.mappings ++ new;
  prefixes = λ level. tvm.prefixes level ++ new_parts tvm gpa n level;
}

-- a mapping, which stands otherwise where it is of one of some guest pages
abbrev pub restand : (test : ℕ → Bool) → (how : Standing → Standing) → Mapping → Mapping
restand test how mapping =
    record mapping { standing = if test mapping.guest then how mapping.standing else mapping.standing }

-- the mappings, of which those of some guest pages stand otherwise
abbrev pub restood : (test : ℕ → Bool) → (how : Standing → Standing) → List Mapping → List Mapping
restood test how mappings = map (restand test how) mappings

-- a mapping that is present is blocked, with the harts that may hold a translation of it yet
abbrev pub blocked_standing : (held : List ℕ) → Standing → Standing
blocked_standing held Present = Blocked held None
blocked_standing held (Blocked others waiting) = Blocked others waiting

-- a mapping that is blocked is present again
abbrev pub unblocked_standing : Standing → Standing
unblocked_standing standing = Present

-- ---- fences of the TVM, and what waits for them

-- what waits after a fence that began with these harts inside
abbrev pub begun_waiting : (inside : List ℕ) → Option (List ℕ) → Option (List ℕ)
begun_waiting inside None = Some inside
begun_waiting inside (Some waiting) = Some waiting

abbrev pub fenced_standing : (inside : List ℕ) → Standing → Standing
fenced_standing inside Present = Present
fenced_standing inside (Blocked held waiting) = Blocked held (begun_waiting inside waiting)

abbrev pub fenced_unbinding : (inside : List ℕ) → Unbinding → Unbinding
fenced_unbinding inside NotBegun = NotBegun
fenced_unbinding inside (Begun waiting) = Begun (begun_waiting inside waiting)

-- what waits after a hart left the TVM
abbrev pub left_standing : (hart : ℕ) → Standing → Standing
left_standing hart Present = Present
left_standing hart (Blocked held waiting) = Blocked (without hart held) (option_map (without hart) waiting)

abbrev pub left_unbinding : (hart : ℕ) → Unbinding → Unbinding
left_unbinding hart NotBegun = NotBegun
left_unbinding hart (Begun waiting) = Begun (option_map (without hart) waiting)

-- a binding, a vCPU whose unbinding changed
abbrev pub rebound : (how : Unbinding → Unbinding) → Cpu → Cpu
rebound how cpu = record cpu { binding = option_map {T = Binding} (λ b. record b { unbinding = how b.unbinding }) cpu.binding }

-- a TVM after an accepted fence
abbrev pub fenced_tvm : (inside : List ℕ) → Tvm → Tvm
fenced_tvm inside tvm = record tvm {
  mappings = restood (λ g. true) (fenced_standing inside) tvm.mappings;
  cpus = map (rebound (fenced_unbinding inside)) tvm.cpus;
  yet = inside;
}

-- a TVM after a hart left it
abbrev pub left_tvm : (hart : ℕ) → Tvm → Tvm
left_tvm hart tvm = record tvm {
  mappings = restood (λ g. true) (left_standing hart) tvm.mappings;
  cpus = map (rebound (left_unbinding hart)) tvm.cpus;
  yet = without hart tvm.yet;
}

-- ---- tests

abbrev pub is_present : Standing → Bool
is_present Present = true
is_present (Blocked held waiting) = false

-- a fence came after it began to wait, and every hart that was inside then has left
abbrev pub is_waited : Option (List ℕ) → Bool
is_waited None = false
is_waited (Some []) = true
is_waited (Some (hart ∷ harts)) = false

abbrev pub is_fenced : Standing → Bool
is_fenced Present = false
is_fenced (Blocked held waiting) = is_waited waiting

-- a hart may use the mapping: it is present, or blocked and the hart may hold a translation of it yet
abbrev pub may_follow : (hart : ℕ) → Standing → Bool
may_follow hart Present = true
may_follow hart (Blocked held waiting) = has hart held

abbrev pub is_own : Backing → Bool
is_own (OwnPage page words) = true
is_own (HostPage page) = false

-- the board's page of a backing
abbrev pub page_under : Backing → ℕ
page_under (OwnPage page words) = page
page_under (HostPage page) = page

-- a guest page is of the kind that it is mapped as
abbrev pub is_kind_kept : Tvm → (g : ℕ) → Backing → Bool
is_kind_kept tvm g (OwnPage page words) = not (is_shared tvm g)
is_kind_kept tvm g (HostPage page) = not (is_private tvm g)

-- the words of the TVM's own that a backing has
abbrev pub own_words : Backing → Option (List ℕ)
own_words (OwnPage page words) = Some words
own_words (HostPage page) = None
