-- Frames that show bytes, after a byte and after a fill.
use Rattle.std.proofs.Common.{◌≡◌, ◌≢◌, ℕ, zero, suc, ◌+◌, ◌*◌, ◌/◌, ◌%◌, ◌<◌, ◌≤◌, nat_lt, cond, List, [], ◌∷◌, inl, inr, IsTrue, length, map, take, get_or, set, replicate, refl, sym, ◌∙◌, ap, subst, arith, length-set, get_or-set_same, get_or-set_other}
use Rattle.std.proofs.Math.Path.{fun_ext}
use Rattle.std.specs.Int.{to_le_bytes, from_le_bytes, w64}
use Rattle.std.proofs.lemmas.Bool.{both_ways, cases_eq, cond-false, cond-true, cond_both, eq-eqb, ne_eqb, true_from_ne_false}
use Rattle.std.proofs.lemmas.Bool.Decides.{nat_tests}
use Rattle.std.proofs.lemmas.Grind.{get_or-set_at, get_or_default_zero}
use Rattle.std.proofs.lemmas.List.{ext_get_or, get_or-replicate, get_or-take, get_or_past, length-replicate, length-take, take_all, take_more}
use Rattle.std.proofs.lemmas.List.Folds.{list_all_at}
use Rattle.std.proofs.lemmas.List.Sums.{fold-append}
use Rattle.std.proofs.lemmas.List.FromFn.{get_or-map-range_with_len, length-map-range_with_len}
use Rattle.std.proofs.lemmas.Nat.{le_bytes_8}
use Rattle.std.specs.List.{range_with_len}
use Rattle.cove_base.proofs.ScriptLimits.{limits_of}
use Rattle.cove_model.specs.Machine.{ScriptValue, is_fill, is_within_limits, Fill, byte_after, opening, opening_byte, FramesStand}
use Rattle.cove_core.specs.Bytes.{FramesShow, with_byte_at}
use Rattle.cove_mem.specs.Frames.{frame, with_word, zero_frame}
use Rattle.cove_model.proofs.Runs.{opening_length, opening_page, opening_size}
use Rattle.cove_model.specs.States.{opening_words}

-- ---- bytes of a run of addresses

same_run : (f g : ℕ → ℕ) (a n : ℕ) → ((c : ℕ) → a ≤ c → c < a + n → f c ≡ g c) → map f (range_with_len a n) ≡ map g (range_with_len a n)
same_run f g a zero same = refl
same_run f g a (suc n) same =
    rw (same a (omega arith) (omega arith), same_run f g (a + 1) n (λ c low high. same c (omega arith) (omega arith)))

set_run : (f g : ℕ → ℕ) (a n k y : ℕ) → k < n → g (a + k) ≡ y → ((c : ℕ) → c ≢ a + k → f c ≡ g c) → set (map f (range_with_len a n)) k y ≡ map g (range_with_len a n)
set_run f g a zero k y lt at other = absurd (omega arith)
set_run f g a (suc n) zero y lt at other =
    let head : y ≡ g a = sym at ∙ ap g (omega arith) in
    rw (head, same_run f g (a + 1) n (λ c low high. other c (omega arith)))
set_run f g a (suc n) (suc k) y lt at other =
    rw (other a (omega arith), set_run f g (a + 1) n k y (omega arith) (ap g (omega arith) ∙ at) (λ c ne. other c (omega arith)))

small_run : (f : ℕ → ℕ) (addrs : List ℕ) → ((c : ℕ) → f c < 256) → (i : ℕ) → get_or (map f addrs) i 0 < 256
small_run f [] small i = omega arith
small_run f (x ∷ addrs) small zero = small x
small_run f (x ∷ addrs) small (suc i) = small_run f addrs small i

-- ---- a byte

byte_here : (byte : ℕ → ℕ) (addr value other : ℕ) → other ≡ addr → with_byte_at byte addr value other ≡ value
byte_here byte addr value other is = cond-true _ value (byte other) (eq-eqb other addr is)

byte_other : (byte : ℕ → ℕ) (addr value other : ℕ) → other ≢ addr → byte other ≡ with_byte_at byte addr value other
byte_other byte addr value other ne = sym (cond-false _ value (byte other) (ne_eqb other addr ne))

-- another word of the frames stays
frame_other : (frames : List (List ℕ)) (p i word q j : ℕ) → p < length frames → (q ≡ p → j ≢ i) → get_or (frame (with_word frames p i word) q) j 0 ≡ get_or (frame frames q) j 0
frame_other frames p i word q j on apart =
    elim (cases_eq q p) [
      | inl same ↦ rw (get_or-set_at frames p q (set (frame frames p) i word) [] same on, same) (get_or-set_other (frame frames p) i j word 0 (apart same))
      | inr ne ↦ rw (get_or-set_other frames p q (set (frame frames p) i word) [] ne)
    ]

-- the word of an address, with another byte at its place there
pub show_byte :
    (frames : List (List ℕ)) (byte : ℕ → ℕ) (addr value : ℕ) → FramesShow frames byte → addr < 4096 * length frames → value < 256
    → FramesShow (with_word frames (addr / 4096) (addr / 8 % 512) (from_le_bytes w64 (set (to_le_bytes w64 (get_or (frame frames (addr / 4096)) (addr / 8 % 512) 0)) (addr % 8) value))) (with_byte_at byte addr value)
show_byte frames byte addr value shows within fits =
    let p = addr / 4096 in
    let i = addr / 8 % 512 in
    let new = with_byte_at byte addr value in
    let on : p < length frames = omega arith in
    let in_page : i < 512 = omega arith in
    let run = range_with_len (4096 * p + 8 * i) 8 in
    let made : set (to_le_bytes w64 (get_or (frame frames p) i 0)) (addr % 8) value ≡ map new run =
    rw (shows.word p i on in_page, le_bytes_8 (map byte run) _ (length-map-range_with_len byte (4096 * p + 8 * i) 8) (small_run byte run shows.small) refl)
    (set_run byte new (4096 * p + 8 * i) 8 (addr % 8) value (omega arith) (byte_here byte addr value _ (omega arith)) (λ c ne. byte_other byte addr value c (omega arith))) in
    let word = from_le_bytes w64 (set (to_le_bytes w64 (get_or (frame frames p) i 0)) (addr % 8) value) in
    let page = set (frame frames p) i word in
    record {
      small = λ a. cond_both _ value (byte a) (λ b. b < 256) (λ here. fits) (λ other. shows.small a);
      size = λ q below. elim (cases_eq q p) [
        | inl same ↦ rw (get_or-set_at frames p q page [] same on, length-set) (shows.size p on)
        | inr ne ↦ rw (get_or-set_other frames p q page [] ne) (shows.size q (omega (arith, length-set frames p page)))
      ];
      word = λ q j below small. elim (cases_eq (512 * q + j) (512 * p + i)) [
        | inl at ↦
            let same : q ≡ p = omega arith in
            let here : j ≡ i = omega arith in
            rw (same, here, get_or-set_same frames p page [] on, get_or-set_same (frame frames p) i word 0 (omega (arith, shows.size p on)), made)
        | inr off ↦
            rw (frame_other frames p i word q j on (λ same. omega arith), shows.word q j (omega (arith, length-set frames p page)) small)
            (ap (from_le_bytes w64) (same_run byte new (4096 * q + 8 * j) 8 (λ c low high. byte_other byte addr value c (omega arith))))
      ];
    }

-- ---- the same bytes

pub show_same : (frames : List (List ℕ)) (f g : ℕ → ℕ) → ((a : ℕ) → f a ≡ g a) → FramesShow frames f → FramesShow frames g
show_same frames f g same shows = subst (FramesShow frames) (fun_ext same) shows

-- ---- a fill

-- the first bytes of a fill
abbrev pub part : Fill → (n : ℕ) → Fill
part fill n = record { addr = fill.addr; bytes = take n fill.bytes }

-- a byte of the first ones, or the default past them
take_or : (xs : List ℕ) (n k d : ℕ) → get_or (take n xs) k d ≡ cond (nat_lt k n) (get_or xs k d) d
take_or xs n k d = grind (arith, nat_tests, get_or-take {A = ℕ}, get_or_past {X = ℕ}, length-take {A = ℕ})

pub part_more : (fill : Fill) (f : ℕ → ℕ) (i a : ℕ) → i < length fill.bytes → with_byte_at (λ b. byte_after b (f b) (part fill i)) (fill.addr + i) (get_or fill.bytes i 0) a ≡ byte_after a (f a) (part fill (i + 1))
part_more fill f i a lt = grind (arith, nat_tests, take_or, get_or_default_zero)

pub part_all : (fill : Fill) (f : ℕ → ℕ) (i a : ℕ) → length fill.bytes ≤ i → byte_after a (f a) (part fill i) ≡ byte_after a (f a) fill
part_all fill f i a past = rw (take_all i fill.bytes past)

-- ---- the fills

-- each fill of a script is within its memory
pub fill_within : (script : ScriptValue) → IsTrue (is_within_limits script) → (i : ℕ) (fill : Fill) → i < length script.fills → fill ≡ get_or script.fills i fill → IsTrue (is_fill script.pages fill)
fill_within script within i fill below is =
    true_from_ne_false _ (λ no. both_ways _ (list_all_at (is_fill script.pages) script.fills i fill below (rw (← is) no)) (limits_of script within).fills)

-- a byte after one fill more
pub opening_more : (fills : List Fill) (i : ℕ) (fill : Fill) (a : ℕ) → i < length fills → fill ≡ get_or fills i fill → byte_after a (opening_byte (take i fills) a) fill ≡ opening_byte (take (i + 1) fills) a
opening_more fills i fill a below is = rw (take_more fills i fill below, fold-append, ← is)

-- new frames show zeros
pub show_zeros : (n : ℕ) → FramesShow (replicate n zero_frame) (λ a. 0)
unfolding zero_frame
show_zeros n =
    let long : length (replicate n zero_frame) ≡ n = length-replicate n zero_frame in
    record {
      small = λ a. omega arith;
      size = λ p below. rw (get_or-replicate n p zero_frame [] (omega (arith, long))) (length-replicate {A = ℕ} 512 0);
      word = λ p i below small. rw (get_or-replicate n p zero_frame [] (omega (arith, long))) (get_or-replicate 512 i 0 0 small);
    }

opening_word : (fills : List Fill) (p i : ℕ) → i < 512 → get_or (opening_words fills p) i 0 ≡ from_le_bytes w64 (map (opening_byte fills) (range_with_len (4096 * p + 8 * i) 8))
unfolding opening_words
opening_word fills p i small = get_or-map-range_with_len (λ j. from_le_bytes w64 (map (opening_byte fills) (range_with_len (4096 * p + 8 * j) 8))) 0 512 i i 0 small (omega arith)

-- frames that show the bytes of the fills stand for the opening
pub filled_stands : (script : ScriptValue) (frames : List (List ℕ)) → length frames ≡ script.pages → FramesShow frames (opening_byte script.fills) → FramesStand frames (opening script)
filled_stands script frames count shows = record {
  count = count ∙ sym (opening_length script);
  frame = λ p below.
      let size = shows.size p below in
      let same : get_or frames p [] ≡ opening_words script.fills p =
      ext_get_or 0 _ _ (size ∙ sym (opening_size script.fills p)) (λ i on.
      shows.word p i below (omega (arith, size)) ∙ sym (opening_word script.fills p i (omega (arith, size)))) in
      rw (opening_page script p (omega (arith, count))) same;
}
