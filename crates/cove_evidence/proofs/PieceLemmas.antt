-- The pieces of evidence, joined and taken apart.
use Rattle.std.proofs.Common.{◌≡◌, ◌+◌, ℕ, List, [], ◌∷◌, ◌++◌, take, drop, length, map, get_or, refl, sym, ◌∙◌, ap, arith}
use Rattle.std.specs.List.{concat}
use Rattle.std.proofs.lemmas.List.{take-append-drop, drop-drop, drop_all, append_assoc, append-nil, append_cancel_left}
use Rattle.std.proofs.Math.Seq.{take-append_seam}

-- the n bytes at a place
abbrev pub piece : List ℕ → (n place : ℕ) → List ℕ
piece bytes n place = take n (drop place bytes)

-- the bytes from a place on are the piece there, and those after it
pub drop-piece : (bytes : List ℕ) (n place : ℕ) → drop place bytes ≡ piece bytes n place ++ drop (place + n) bytes
drop-piece bytes n place =
    sym (take-append-drop n (drop place bytes)) ∙ ap (λ rest. piece bytes n place ++ rest) (drop-drop n place bytes)

-- the parts of 360 bytes
pub joined : (bytes : List ℕ) → length bytes ≡ 360
    → bytes ≡ (take 8 bytes
    ++ concat (piece bytes 48 8 ∷ piece bytes 48 56 ∷ piece bytes 48 104 ∷ piece bytes 48 152 ∷ piece bytes 48 200 ∷ [])
    ++ piece bytes 64 248) ++ piece bytes 48 312
joined bytes whole = split ∙ sym (simp (append_assoc, append-nil))
  where
    last : drop 312 bytes ≡ piece bytes 48 312
    last = drop-piece bytes 48 312 ∙ ap (λ rest. piece bytes 48 312 ++ rest) (drop_all 360 bytes (omega arith)) ∙ append-nil (piece bytes 48 312)

    split : bytes ≡ take 8 bytes ++ (piece bytes 48 8 ++ (piece bytes 48 56 ++ (piece bytes 48 104 ++ (piece bytes 48 152
        ++ (piece bytes 48 200 ++ (piece bytes 64 248 ++ piece bytes 48 312))))))
    split =
        sym (take-append-drop 8 bytes)
        ∙ ap (λ rest. take 8 bytes ++ rest) (drop-piece bytes 48 8
        ∙ ap (λ rest. piece bytes 48 8 ++ rest) (drop-piece bytes 48 56
        ∙ ap (λ rest. piece bytes 48 56 ++ rest) (drop-piece bytes 48 104
        ∙ ap (λ rest. piece bytes 48 104 ++ rest) (drop-piece bytes 48 152
        ∙ ap (λ rest. piece bytes 48 152 ++ rest) (drop-piece bytes 48 200
        ∙ ap (λ rest. piece bytes 48 200 ++ rest) (drop-piece bytes 64 248
        ∙ ap (λ rest. piece bytes 64 248 ++ rest) last))))))

-- lists that begin with as many elements are equal by parts
pub parts_are_equal : (a b r s : List ℕ) → length a ≡ length b → a ++ r ≡ b ++ s → (a ≡ b) × (r ≡ s)
parts_are_equal a b r s same e = (front, append_cancel_left b r s (ap (λ xs. xs ++ r) (sym front) ∙ e))
  where
    front : a ≡ b
    front = sym (take-append_seam a r) ∙ ap (take (length a)) e ∙ ap (λ n. take n (b ++ s)) same ∙ take-append_seam b s

-- lists of pieces of the same lengths are equal where what they join to is
pub pieces_are_equal : (xs ys : List (List ℕ)) (r s : List ℕ) → map length xs ≡ map length ys
    → concat xs ++ r ≡ concat ys ++ s → (xs ≡ ys) × (r ≡ s)
pieces_are_equal [] [] r s same e = (refl, e)
pieces_are_equal [] (y ∷ ys) r s same e = absurd (cc)
pieces_are_equal (x ∷ xs) [] r s same e = absurd (cc)
pieces_are_equal (x ∷ xs) (y ∷ ys) r s same e =
    let first : length x ≡ length y = cc in
    let others : map length xs ≡ map length ys = cc in
    let here : (x ≡ y) × (concat xs ++ r ≡ concat ys ++ s) =
    parts_are_equal x y (concat xs ++ r) (concat ys ++ s) first
    (sym (append_assoc x (concat xs) r) ∙ e ∙ append_assoc y (concat ys) s) in
    let rest : (xs ≡ ys) × (r ≡ s) = pieces_are_equal xs ys r s others here.1 in
    let head : x ≡ y = here.0 in
    let tail : xs ≡ ys = rest.0 in
    (cc, rest.1)

-- five lists, each by its place
pub five : (xs : List (List ℕ)) → length xs ≡ 5
    → xs ≡ get_or xs 0 [] ∷ get_or xs 1 [] ∷ get_or xs 2 [] ∷ get_or xs 3 [] ∷ get_or xs 4 [] ∷ []
five [] e = absurd (omega arith)
five (a ∷ []) e = absurd (omega arith)
five (a ∷ b ∷ []) e = absurd (omega arith)
five (a ∷ b ∷ c ∷ []) e = absurd (omega arith)
five (a ∷ b ∷ c ∷ d ∷ []) e = absurd (omega arith)
five (a ∷ b ∷ c ∷ d ∷ f ∷ []) e = refl
five (a ∷ b ∷ c ∷ d ∷ f ∷ g ∷ xs) e = absurd (omega arith)
