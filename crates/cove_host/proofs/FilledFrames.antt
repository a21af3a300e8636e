-- Frames that are filled, one after another.
use Rattle.std.proofs.Common.{◌≡◌, ◌∙◌, ◌⊎◌, ℕ, ◌+◌, ◌-◌, ◌<◌, ◌≤◌, List, [], get_or, length, length-set, set, refl, sym, subst, inl, inr, arith, get_or-set_other}
use Rattle.std.proofs.lemmas.Bool.{cases_eq}
use Rattle.std.proofs.lemmas.Grind.{get_or-set_at}
use Rattle.std.proofs.lemmas.List.{ext_get_or}
use Rattle.cove_host.specs.Zeros.{AreCopies, AreZeros}
use Rattle.cove_model.proofs.FrameProofs.{length-zeroed, zeroed_inside, zeroed_outside}
use Rattle.cove_model.proofs.Runs.{run_cases}
use Rattle.cove_model.specs.Owners.{zeros}
use Rattle.cove_model.specs.WordLaws.{zeroed}
use Rattle.cove_tvm.specs.PrivateRuns.{FillsFrames}

-- one more is filled
pub filled_next : (first i : ℕ) (content : ℕ → List ℕ) (frame : List ℕ) (frames now next : List (List ℕ)) → first + i < length frames → next ≡ set now (first + i) frame
    → frame ≡ content i → FillsFrames first i content frames now → FillsFrames first (i + 1) content frames next
filled_next first i content frame frames now next inside is same filled =
    let count = filled.count in
    subst (FillsFrames first (i + 1) content frames) (sym is) (record {
      count = length-set now (first + i) frame ∙ filled.count;
      here = λ j low. elim (cases_eq j i) [
        | inl last ↦
            subst (λ k. get_or (set now (first + i) frame) (first + k) [] ≡ content k) (sym last)
            (get_or-set_at now (first + i) (first + i) frame [] refl (omega (arith, inside, count)) ∙ same)
        | inr before ↦
            get_or-set_other now (first + i) (first + j) frame [] (omega (arith, before)) ∙ filled.here j (omega (arith, low, before))
      ];
      others = λ p out. elim out [
        | inl under ↦ get_or-set_other now (first + i) p frame [] (omega (arith, under)) ∙ filled.others p (inl under)
        | inr over ↦ get_or-set_other now (first + i) p frame [] (omega (arith, over)) ∙ filled.others p (inr (omega (arith, over)))
      ];
    })

-- frames that were filled with zeros are zeros
pub zeros_are : (first n : ℕ) (frames new : List (List ℕ)) → FillsFrames first n (λ j. zeros) frames new → AreZeros new first n
zeros_are first n frames new filled page low high =
    let is : first + (page - first) ≡ page = omega (arith, low) in
    subst (λ p. get_or new p [] ≡ zeros) is (filled.here (page - first) (omega (arith, low, high)))

-- and all of them are then what the laws of the definition name
pub zeroed_is : (first n : ℕ) (frames new : List (List ℕ)) → FillsFrames first n (λ j. zeros) frames new → new ≡ zeroed frames first n
zeroed_is first n frames new filled =
    ext_get_or [] new (zeroed frames first n) (filled.count ∙ sym (length-zeroed frames first n)) (λ p on. elim (run_cases first n p) [
      | inl run ↦ zeros_are first n frames new filled p run.0 run.1 ∙ sym (zeroed_inside frames first n p run.0 run.1 (omega (arith, on, filled.count)))
      | inr out ↦ filled.others p out ∙ sym (zeroed_outside frames first n p out)
    ])

-- and those that were copied are copies, since what they are copied from stays
pub copies_are : (from to n : ℕ) (frames new : List (List ℕ)) → FillsFrames to n (λ j. get_or frames (from + j) []) frames new
    → (from + n ≤ to) ⊎ (to + n ≤ from) → AreCopies new from to n
copies_are from to n frames new filled apart j low = filled.here j low ∙ sym (filled.others (from + j) (elim apart [
  | inl under ↦ inl (omega (arith, under, low))
  | inr over ↦ inr (omega (arith, over))
]))
