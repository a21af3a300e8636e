-- What a hart's place in the lines of a script says of its next line.
use Rattle.std.proofs.Common.{◌≡◌, ℕ, ◌+◌, ◌<◌, Bool, true, List, [], ◌∷◌, IfSome, IsSome, length, drop, filter, slice_get, refl, sym, ◌∙◌, ap, arith}
use Rattle.std.proofs.lemmas.Bool.{eq-eqb}
use Rattle.std.proofs.lemmas.Grind.{common_steps}
use Rattle.std.proofs.lemmas.List.{drop-drop}
use Rattle.std.proofs.lemmas.Option.{IfSome_then, gets}
use Rattle.cove_base.specs.HartLines.{lines_of, next_line}
use Rattle.cove_base.specs.HartPlaces.{is_line_of, IsNextPlace}
use Rattle.cove_base.specs.Scripts.{ScriptValue}

first-drop : {X : Type 0} (xs : List X) (n : ℕ) → slice_get (drop n xs) 0 ≡ slice_get xs n
first-drop xs n = grind (arith, common_steps, gets)

module _ {X : Type 0} (p : X → Bool) where
  first-filter : (xs : List X) → IfSome (slice_get xs 0) (λ x. p x ≡ true) → slice_get (filter p xs) 0 ≡ slice_get xs 0
  first-filter [] passes = refl
  first-filter (x ∷ xs) passes = rw passes

  filter-rest : (xs : List X) → IfSome (slice_get xs 0) (λ x. p x ≡ true) → filter p (drop 1 xs) ≡ drop 1 (filter p xs)
  filter-rest [] passes = refl
  filter-rest (x ∷ xs) passes = rw passes

within-some : {X : Type 0} (xs : List X) (n : ℕ) → IsSome (slice_get xs n) → n < length xs
within-some xs n some = grind (arith, gets)

module _ (script : ScriptValue) (hart ended place : ℕ) (stands : IsNextPlace script hart ended place) where
  starts : IfSome (slice_get (drop place script.lines) 0) (λ l. is_line_of hart l ≡ true)
  starts =
      rw first-drop
      (IfSome_then (slice_get script.lines place) {P = λ l. l.hart.0 ≡ hart} {Q = λ l. is_line_of hart l ≡ true} stands.here (λ l. eq-eqb l.hart.0 hart))

  -- the line at the place is the hart's next line
  pub line_at_place : slice_get script.lines place ≡ next_line script hart ended
  line_at_place =
      sym (first-drop script.lines place)
      ∙ sym (first-filter (is_line_of hart) (drop place script.lines) starts)
      ∙ ap (λ lines. slice_get lines 0) stands.rest
      ∙ first-drop (lines_of script hart) ended

  -- one place on stand all that the hart has not ended once it has ended its next line
  pub after_place : filter (is_line_of hart) (drop (place + 1) script.lines) ≡ drop (ended + 1) (lines_of script hart)
  after_place =
      ap (filter (is_line_of hart)) (sym (drop-drop 1 place script.lines))
      ∙ filter-rest (is_line_of hart) (drop place script.lines) starts
      ∙ ap (drop 1) stands.rest
      ∙ drop-drop 1 ended (lines_of script hart)

  -- a place with a line is within the script's lines
  pub place_within : IsSome (next_line script hart ended) → place < length script.lines
  place_within some = within-some script.lines place (rw line_at_place some)
