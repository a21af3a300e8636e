-- At the opening the empty history is kept, and each hart of the board fits it.
use Rattle.std.proofs.Common.{◌≡◌, ℕ, ◌<◌, List, [], None, get_or, length, replicate, refl, sym, arith}
use Rattle.cove_model.specs.Machine.{no_rings, all_words, count_word, epoch_word, tvm_word, ScriptValue, ended_by, opening, epoch_in}
use Rattle.cove_base.specs.HartPlaces.{IsNextPlace}
use Rattle.cove_core.specs.Kept.{IsKept, ProgressStands}
use Rattle.cove_model.proofs.Lists.{replicate_zero}
use Rattle.cove_model.specs.Fits.{Fits}
use Rattle.cove_tvm.proofs.NewGround.{ground_opens}
use Rattle.cove_tvm.specs.GroundLaws.{IsNewGround}
use Rattle.cove_tvm.specs.declared.ground.Ground.{Ground}

-- no hart has ended a line
none_ended : (script : ScriptValue) (h : ℕ) → ended_by (opening script) h ≡ 0
none_ended script h = replicate_zero script.harts h

-- the first place of each hart is its place at the opening
pub opening_progress : (script : ScriptValue) (places : List ℕ) → length places ≡ script.harts → ((h : ℕ) → h < script.harts → IsNextPlace script h 0 (get_or places h 0)) → ProgressStands script (opening script) places
opening_progress script places count each = record { count = count; each = λ h below. rw (none_ended script h) (each h below) }

-- words of zeros, a new ground and the first places keep the empty history
pub opening_kept : (script : ScriptValue) (G : Ground) (places : List ℕ) → IsNewGround script G → ProgressStands script (opening script) places → IsKept script (replicate (all_words script.pages script.harts) 0) (record { ground = G; history = []; progress = places })
opening_kept script G places new progress =
    let n = all_words script.pages script.harts in
    let none : epoch_in script.pages (replicate n 0) ≡ 0 = replicate_zero n (epoch_word script.pages) in
    record {
      board = record { pages = new.pages; harts = new.harts };
      legal = tt;
      cached = tt;
      stands = ground_opens script G new;
      progress = progress;
      count = replicate_zero n (count_word script.pages script.harts);
      fences = record { epoch = omega arith; numbers = λ t low high. omega (arith, replicate_zero n (tvm_word script.pages script.harts t)) };
    }

-- a hart that has ended no line, found no page and made no walk fits
pub opening_fits : (script : ScriptValue) (h place : ℕ) → h < script.harts → IsNextPlace script h 0 place → Fits script [] (record { hart = h; ended = 0; place = place; rings = no_rings; walked = None; inside = None })
opening_fits script h place below here = record {
  on_board = below;
  counts = sym (none_ended script h);
  stands = here;
  rings = refl;
  walk = tt;
  inside = refl;
}
