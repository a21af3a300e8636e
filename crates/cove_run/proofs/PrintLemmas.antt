-- What a sink took, piece by piece.
use Rattle.std.proofs.Common.{◌≡◌, ℕ, ◌+◌, ◌<◌, ◌≤◌, List, [], ◌++◌, length, get_or, take, drop, Option, sym, ap, subst, ◌∙◌, arith, append_assoc, length-append, append-nil}
use Rattle.std.specs.Prelude.{flat_map, OnErr, Result, Ok, Err}
use Rattle.std.specs.Io.KnownBytes.{Appends}
use Rattle.std.proofs.KnownBytes.{Appends-trans}
use Rattle.std.proofs.Math.Seq.{take-append-add}
use Rattle.std.proofs.lemmas.Grind.{flat_map-append}
use Rattle.std.proofs.lemmas.List.{take_more, drop_more, take-append-drop, take-append-le}
use Rattle.cove_io.specs.Ends.{AppendsFront}

-- a piece, and then a front of the next one: a front of both and what follows
pub appends_front : (old mid new : Option (List ℕ)) (xs ys zs : List ℕ) → Appends old mid xs → AppendsFront mid new ys → AppendsFront old new (xs ++ (ys ++ zs))
appends_front old mid new xs ys zs a b =
    let n = b.0 in
    let fits : n ≤ length ys = b.1 in
    let size : length xs + n ≤ length (xs ++ (ys ++ zs)) = omega (arith, length-append xs (ys ++ zs), length-append ys zs) in
    let front = take-append-add xs (ys ++ zs) n ∙ ap (λ piece. xs ++ piece) (take-append-le n ys zs fits) in
    (length xs + n, size, subst (Appends old new) (sym front) (Appends-trans old mid new xs (take n ys) a b.2))

-- the pieces of the items so far, of this one, and of the rest
pub pieces_at : {X : Type 0} (f : X → List ℕ) (xs : List X) (i : ℕ) (d : X) (end : List ℕ) → i < length xs → flat_map f xs ++ end ≡ flat_map f (take i xs) ++ (f (get_or xs i d) ++ (flat_map f (drop (i + 1) xs) ++ end))
pieces_at f xs i d end below =
    ap (λ items. flat_map f items ++ end) (sym (take-append-drop i xs) ∙ ap (λ rest. take i xs ++ rest) (drop_more xs i d below))
    ∙ simp (flat_map-append, append_assoc)

pub pieces_more : {X : Type 0} (f : X → List ℕ) (xs : List X) (i : ℕ) (d : X) → i < length xs → flat_map f (take (i + 1) xs) ≡ flat_map f (take i xs) ++ f (get_or xs i d)
pieces_more f xs i d below = rw (take_more xs i d below) (simp (flat_map-append, append-nil))

-- the text of a whole journal: the lines of the entries and the last line
pub last_front : (old mid new : Option (List ℕ)) (xs ys : List ℕ) → Appends old mid xs → AppendsFront mid new ys → AppendsFront old new (xs ++ ys)
last_front old mid new xs ys a b = subst (AppendsFront old new) (ap (λ end. xs ++ end) (append-nil ys)) (appends_front old mid new xs ys [] a b)

-- what holds is said of an error too
pub on_err : {T E P : Type 0} (r : Result T E) → P → OnErr r P
on_err (Ok x) p = tt
on_err (Err e) p = p
