-- Frames that stand for the host's memory, after the calls on owners.
use Rattle.std.proofs.Common.{◌≡◌, ℕ, zero, suc, ◌+◌, ◌/◌, ◌<◌, ◌≤◌, ◌⊎◌, List, [], ◌∷◌, None, Some, length, get_or, set, refl, sym, ◌∙◌, inl, inr, arith, length-set, get_or-set_other}
use Rattle.std.proofs.lemmas.Bool.{cases_lt}
use Rattle.std.proofs.lemmas.List.{length-map}
use Rattle.std.proofs.lemmas.Grind.{get_or-set_at}
use Rattle.cove_model.specs.Machine.{Owner, Host, Converting, page_at, without, settled, converted, fenced, fence_answered, reclaimed, zeros, State, harts_below, FrameStands}
use Rattle.cove_model.specs.WordLaws.{zeroed, ConvertKeepsFrames, GlobalFenceKeepsFrames, LocalFenceKeepsFrames, ReclaimZeroesFrames}
use Rattle.cove_model.proofs.Runs.{change_cases, change_inside, change_outside, length_change, page_map, every_at, run_cases}
use Rattle.cove_model.proofs.StandLemmas.{free_page}

converted_frame : (S : State) (frame harts : List ℕ) (o : Owner) → FrameStands S frame o → FrameStands S frame (converted harts o)
converted_frame S frame harts (Host words) h = h
converted_frame S frame harts o h = h

settled_frame : (S : State) (frame held waiting words : List ℕ) → frame ≡ words → FrameStands S frame (settled held waiting words)
settled_frame S frame held [] words h = tt
settled_frame S frame held (x ∷ xs) words h = h

fenced_frame : (S : State) (frame : List ℕ) (hart : ℕ) (others : List ℕ) (o : Owner) → FrameStands S frame o → FrameStands S frame (fenced hart others o)
fenced_frame S frame hart others (Converting held None words) h = settled_frame S frame (without hart held) others words h
fenced_frame S frame hart others (Converting held (Some waiting) words) h = settled_frame S frame (without hart held) waiting words h
fenced_frame S frame hart others o h = h

answered_frame : (S : State) (frame : List ℕ) (hart : ℕ) (o : Owner) → FrameStands S frame o → FrameStands S frame (fence_answered hart o)
answered_frame S frame hart (Converting held (Some waiting) words) h = settled_frame S frame (without hart held) (without hart waiting) words h
answered_frame S frame hart o h = h

pub convert_keeps_frames : ConvertKeepsFrames
convert_keeps_frames frames S hart base n old =
    let harts = harts_below S.harts in
    record {
      count = old.count ∙ sym (length_change (converted harts) (base / 4096) n S.pages);
      frame = λ p within. elim (change_cases (converted harts) (base / 4096) n S.pages p) [
        | inl same ↦ rw same (old.frame p within)
        | inr other ↦ rw other (converted_frame S (get_or frames p []) harts (page_at S.pages p) (old.frame p within))
      ];
    }

pub global_fence_keeps_frames : GlobalFenceKeepsFrames
global_fence_keeps_frames frames S hart old =
    let others = without hart (harts_below S.harts) in
    record {
      count = old.count ∙ sym (length-map S.pages (fenced hart others));
      frame = λ p within. rw (page_map (fenced hart others) refl S.pages p)
          (fenced_frame S (get_or frames p []) hart others (page_at S.pages p) (old.frame p within));
    }

pub local_fence_keeps_frames : LocalFenceKeepsFrames
local_fence_keeps_frames frames S hart old = record {
  count = old.count ∙ sym (length-map S.pages (fence_answered hart));
  frame = λ p within. rw (page_map (fence_answered hart) refl S.pages p) (answered_frame S (get_or frames p []) hart (page_at S.pages p) (old.frame p within));
}

pub length-zeroed : (frames : List (List ℕ)) (first n : ℕ) → length (zeroed frames first n) ≡ length frames
length-zeroed frames first zero = refl
length-zeroed frames first (suc n) = length-zeroed (set frames first zeros) (first + 1) n ∙ length-set frames first zeros

pub zeroed_outside : (frames : List (List ℕ)) (first n p : ℕ) → (p < first) ⊎ (first + n ≤ p) → get_or (zeroed frames first n) p [] ≡ get_or frames p []
zeroed_outside frames first zero p out = refl
zeroed_outside frames first (suc n) p out =
    zeroed_outside (set frames first zeros) (first + 1) n p (grind arith) ∙ get_or-set_other frames first p zeros [] (omega arith)

pub zeroed_inside : (frames : List (List ℕ)) (first n p : ℕ) → first ≤ p → p < first + n → p < length frames → get_or (zeroed frames first n) p [] ≡ zeros
zeroed_inside frames first zero p low high within = absurd (omega arith)
zeroed_inside frames first (suc n) p low high within =
    elim (cases_lt first p) [
      | inl next ↦ zeroed_inside (set frames first zeros) (first + 1) n p (omega arith) (omega arith) (omega (arith, length-set frames first zeros))
      | inr here ↦ zeroed_outside (set frames first zeros) (first + 1) n p (inl (omega arith)) ∙ get_or-set_at frames first p zeros [] (omega arith) (omega arith)
    ]

pub reclaim_zeroes_frames : ReclaimZeroesFrames
reclaim_zeroes_frames frames S hart base n all old =
    let first = base / 4096 in
    record {
      count = length-zeroed frames first n ∙ old.count ∙ sym (length_change reclaimed first n S.pages);
      frame = λ p within.
          let on : p < length frames = omega (arith, length-zeroed frames first n) in
          elim (run_cases first n p) [
            | inl run ↦
                let inside : p < length S.pages = omega (arith, old.count) in
                let free = free_page (page_at S.pages p) (every_at _ first n S.pages all p run.0 run.1 inside) in
                rw (zeroed_inside frames first n p run.0 run.1 on, change_inside reclaimed first n S.pages p run.0 run.1 inside, free)
            | inr out ↦ rw (zeroed_outside frames first n p out, change_outside reclaimed first n S.pages p out) (old.frame p on)
          ];
    }
