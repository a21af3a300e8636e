-- Words of zeros and a new ground stand for the opening.
use Rattle.std.proofs.Common.{◌≡◌, ℕ, zero, suc, ◌+◌, ◌*◌, ◌∙◌, Bool, false, cond, eqb, List, [], count_by, drop, length, replicate, take, None, refl, sym, ap, subst, arith}
use Rattle.std.proofs.lemmas.List.Sums.{sum_by-cons}
use Rattle.std.proofs.lemmas.Nat.Bits.{bit_at-zero}
use Rattle.std.specs.Int.{bit_at}
use Rattle.cove_model.specs.Machine.{all_words, ScriptValue, opening, FramesStand}
use Rattle.cove_model.proofs.OpeningStandsProofs.{opening_stands}
use Rattle.cove_model.specs.TableLaw.{is_shared_leaf}
use Rattle.cove_model.specs.WordLaws.{Stand}
use Rattle.cove_tvm.specs.GroundLaws.{IsNewGround, OpeningStands}
use Rattle.cove_tvm.specs.TvmStands.{TvmStands}
use Rattle.cove_tvm.specs.TvmTables.{live_at}
use Rattle.cove_tvm.specs.declared.ground.Ground.{Ground}

-- none of some zeros passes a test that 0 doesn't
count_first : (test : ℕ → Bool) → test 0 ≡ false → (n k : ℕ) → ◌≡◌ {A = ℕ} (count_by test (take k (replicate n 0))) 0
count_first test off zero zero = refl
count_first test off zero (suc k) = refl
count_first test off (suc n) zero = refl
count_first test off (suc n) (suc k) =
    let rest = count_first test off n k in
    let one = sum_by-cons (λ y. cond (test y) 1 0) 0 (take k (replicate n 0)) in
    let none = ap (λ b. cond b 1 0 + count_by test (take k (replicate n 0))) off in
    omega arith

count_zeros : (test : ℕ → Bool) → test 0 ≡ false → (n d k : ℕ) → ◌≡◌ {A = ℕ} (count_by test (take k (drop d (replicate n 0)))) 0
count_zeros test off zero zero k = count_first test off zero k
count_zeros test off zero (suc d) k = count_first test off zero k
count_zeros test off (suc n) zero k = count_first test off (suc n) k
count_zeros test off (suc n) (suc d) k = count_zeros test off n d k

-- where none was created, none is live
pub none_live : (pages t : ℕ) → live_at (record { pages = pages; tvms = [] }) t ≡ None
none_live pages zero = refl
none_live pages (suc k) = refl

-- the ground of a script's board with no TVM, no kick and these frames
abbrev pub board_with : ScriptValue → List (List ℕ) → Ground
board_with script frames = record {
  memory = frames;
  tvms = record { pages = script.pages; tvms = [] };
  files = record { harts = script.harts; files = script.files; states = [] };
  kicked = 0;
  key = script.key;
  pages = script.pages;
  harts = script.harts;
  filecount = script.files;
}

-- it is new where they are those of the opening memory
pub board_is_new : (script : ScriptValue) (frames : List (List ℕ)) → FramesStand frames (opening script) → IsNewGround script (board_with script frames)
board_is_new script frames stand = record {
  pages = refl;
  harts = refl;
  filecount = refl;
  key = refl;
  no_tvm = refl;
  no_kick = refl;
  file_harts = refl;
  file_count = refl;
  frames = stand;
}

pub ground_opens : OpeningStands
ground_opens script ground new =
    let n = all_words script.pages script.harts in
    let words : List ℕ = replicate n 0 in
    record {
      words_stand = subst (λ p. Stand p ground.harts words (opening script)) (sym new.pages) (subst (λ h. Stand script.pages h words (opening script)) (sym new.harts) (opening_stands script));
      frames = new.frames;
      board = record {
        key = new.key;
        kicked = λ hart on. ap (λ m. eqb (bit_at m hart) 1) new.no_kick ∙ ap (λ b. eqb b 1) (bit_at-zero hart);
        filecount = new.filecount;
        file_harts = new.file_harts ∙ sym new.harts;
        file_count = new.file_count ∙ sym new.filecount;
        tvm_pages = ap (λ table. table.pages) new.no_tvm ∙ sym new.pages;
        made = ap (λ table. length table.tvms) new.no_tvm;
        few = omega arith;
      };
      tvm = λ t. subst (λ live. TvmStands ground.pages ground.harts words t (opening script).seats ground.files live None)
          (sym (ap (λ table. live_at table t) new.no_tvm ∙ none_live script.pages t)) tt;
      counted = λ p on. count_zeros (is_shared_leaf p) refl n ground.pages (512 * ground.pages);
    }
