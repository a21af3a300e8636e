-- What calls on TVMs do to one page of the board.
use Rattle.std.specs.Prelude.{ℕ, Bool, false, ◌==◌, ◌&&◌, if◌then◌else◌, List, ◌++◌, map, take, drop, find, length, unwrap_or}
use Rattle.std.specs.List.{enumerate_from, range_with_len}
use Rattle.cove_model.specs.Owners.{Owner, Free, Given, Purpose, AsRoot, AsData, page_at}

-- the n pages from a first one on are changed, each by its place among them
abbrev pub change_each : (how : ℕ → Owner → Owner) (first n : ℕ) (pages : List Owner) → List Owner
change_each how first n pages =
    take first pages ++ map (λ item. how item.0 item.1) (enumerate_from 0 (take n (drop first pages))) ++ drop n (drop first pages)

-- a free page after it was given to a TVM
abbrev pub given_to : (t : ℕ) → Purpose → Owner → Owner
given_to t purpose Free = Given t purpose
given_to t purpose owner = owner

-- a page of the memory of a TVM is of a guest page that the test picks
abbrev pub is_data_of : (t : ℕ) → (test : ℕ → Bool) → Owner → Bool
is_data_of t test (Given tvm (AsData guest)) = tvm == t && test guest
is_data_of t test owner = false

-- a page after the mappings of some guest pages of a TVM were removed: it is free where it was of one of them
abbrev pub removed : (t : ℕ) → (test : ℕ → Bool) → Owner → Owner
removed t test owner = if is_data_of t test owner then Free else owner

-- a page of a TVM's
abbrev pub is_given : (t : ℕ) → Owner → Bool
is_given t (Given tvm purpose) = tvm == t
is_given t owner = false

-- a page after a TVM was destroyed
abbrev pub freed : (t : ℕ) → Owner → Owner
freed t owner = if is_given t owner then Free else owner

-- a page of a TVM's root
abbrev pub is_root_of : (t : ℕ) → Owner → Bool
is_root_of t (Given tvm AsRoot) = tvm == t
is_root_of t owner = false

-- the root of a TVM's tables: the first of the pages that are given to it as one
abbrev pub root_of : (pages : List Owner) → (t : ℕ) → ℕ
root_of pages t = unwrap_or (find (λ p. is_root_of t (page_at pages p)) (range_with_len 0 (length pages))) 0
