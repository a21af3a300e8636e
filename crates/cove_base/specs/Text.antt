use Rattle.std.specs.Prelude.{ℕ, Bool, ◌==◌, ◌||◌, List, [], ◌∷◌, ◌++◌, flat_map, if◌then◌else◌}

-- a space, a tab or a carriage return
abbrev pub is_blank : ℕ → Bool
is_blank byte = byte == 32 || byte == 9 || byte == 13

-- a line feed
abbrev pub is_line_end : ℕ → Bool
is_line_end byte = byte == 10

-- the piece that was read before an end, where it isn't empty
abbrev pub nonempty_piece : List ℕ → List (List ℕ)
nonempty_piece [] = []
nonempty_piece (byte ∷ bytes) = (byte ∷ bytes) ∷ []

-- the lines of a piece and the bytes after it: a line ends at a line feed, and a last one without it isn't empty
abbrev pub lines_from : (piece rest : List ℕ) → List (List ℕ)
lines_from piece [] = nonempty_piece piece
lines_from piece (byte ∷ rest) =
    if is_line_end byte then piece ∷ lines_from [] rest else lines_from (piece ++ byte ∷ []) rest

-- the lines of a text, without their line feeds
abbrev pub text_lines : List ℕ → List (List ℕ)
text_lines text = lines_from [] text

-- the words of a piece and the bytes after it: the pieces between blanks, none of them empty
abbrev pub words_from : (piece rest : List ℕ) → List (List ℕ)
words_from piece [] = nonempty_piece piece
words_from piece (byte ∷ rest) =
    if is_blank byte then nonempty_piece piece ++ words_from [] rest else words_from (piece ++ byte ∷ []) rest

-- the words of a line
abbrev pub text_words : List ℕ → List (List ℕ)
text_words line = words_from [] line

-- a word after a space
abbrev pub spaced : List ℕ → List ℕ
spaced word = 32 ∷ word

-- words with one space between them
abbrev pub joined : List (List ℕ) → List ℕ
joined [] = []
joined (first ∷ words) = first ++ flat_map spaced words
