use Rattle.std.specs.Prelude.{ℕ, List, [], replicate, slice_index_or, slice_set}

-- the words of a page
abbrev pub frame : (frames : List (List ℕ)) (page : ℕ) → List ℕ
frame frames page = slice_index_or frames page []

-- a frame of zeros
unfoldable pub zero_frame : List ℕ
zero_frame = replicate 512 0

-- the frames after a store of a word
abbrev pub with_word : (frames : List (List ℕ)) (page word value : ℕ) → List (List ℕ)
with_word frames page word value = slice_set frames page (slice_set (frame frames page) word value)
