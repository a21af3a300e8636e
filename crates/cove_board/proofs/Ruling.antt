-- Each kind of step keeps the board's rule, where what it makes of the parts is right.
use Rattle.std.proofs.Common.{◌≡◌, ◌≢◌, ℕ, ◌+◌, ◌<◌, Bool, true, false, List, [], ◌∷◌, ◌++◌, Some, None, append-nil, cond, eqb, eq-eqb, ne_eqb, length, set, refl, sym, ◌∙◌, ap, subst, inl, inr, arith}
use Rattle.std.proofs.lemmas.Bool.{cases_eq, false≢true}
use Rattle.atomic_table.proofs.Lists.{at_last, at_longer, set_else, set_here}
use Rattle.cove_base.specs.Scripts.{ScriptValue}
use Rattle.cove_board.proofs.Seating.{carries_last, carries_longer, carries_set, each_end, each_set, hart_beside, no_monitor, one_view, there_within}
use Rattle.cove_board.specs.Parts.{HartPart, MonitorPart, Part, both, dealt_monitor, hart_alone, left_part, monitor_alone, new_part, spent}
use Rattle.cove_board.specs.Ruled.{Carries, HartSits, IsMonitor, IsPartOf, IsPart, IsRuled, MonitorSits, Sits}
use lib.ListN.{get_elem?}
use mathlib.Core.Option.{some}

-- ---- what the rule says of the pass that steps

module _ (script : ScriptValue) (words : List ℕ) (views : List Part) (id : ℕ) (ruled : IsRuled script words views) where
  -- a pass with the monitor's part has the rule's, and sits at its seat
  pub has_monitor : (v : Part) (m : MonitorPart) → get_elem? views id ≡ some v → v.monitor ≡ Some m → (m ≡ ruled.part) × (id ≡ ruled.seat)
  has_monitor v m at is = subst (MonitorSits ruled.part ruled.seat id) is (ruled.each id v at).0

  pub has_hart : (v : Part) (p : HartPart) → get_elem? views id ≡ some v → v.hart ≡ Some p → HartSits script ruled.part ruled.seat ruled.seats id (Some p)
  has_hart v p at is = subst (HartSits script ruled.part ruled.seat ruled.seats id) is (ruled.each id v at).1

-- ---- a step of a pass with both parts

pub both_step : (script : ScriptValue) (words : List ℕ) (views : List Part) (id : ℕ) (m m' : MonitorPart) (p p' : HartPart) → IsRuled script words views → get_elem? views id ≡ some (both m p) → p'.hart ≡ p.hart → m'.dealt ≡ m.dealt → IsMonitor script m' → IsPart script m'.history m'.now p' → ((q : HartPart) → q.hart ≢ p.hart → q.mark ≡ false → IsPart script m.history m.now q → IsPart script m'.history m'.now q) → IsRuled script m'.now (set views id (both m' p'))
both_step script words views id m m' p p' ruled at same dealt monitor part keeps =
    let mine = has_monitor script words views id ruled (both m p) m at refl in
    let hart = has_hart script words views id ruled (both m p) p at refl in
    let inside = there_within views id (both m p) at in
    let dealt_is : m'.dealt ≡ ruled.part.dealt = dealt ∙ ap (λ (x : MonitorPart). x.dealt) mine.0 in
    record {
      part = m';
      seat = id;
      seats = ruled.seats;
      words_are = refl;
      monitor = monitor;
      here = (both m' p', set_here views id (both m' p') inside, refl);
      each = each_set (Sits script m' id ruled.seats) views id (both m' p')
          ((refl, refl), (subst (λ n. n < m'.dealt) (sym same) (subst (λ n. p.hart < n) (sym dealt_is) hart.0), hart.1 ∙ ap ruled.seats (sym same), part, λ marked. refl))
          (λ k v ne there.
          let off : k ≢ ruled.seat = λ e. ne (e ∙ sym mine.1) in
          let was = ruled.each k v there in (
            no_monitor ruled.part ruled.seat m' id k v.monitor off was.0,
            hart_beside script ruled.part m' ruled.seat id ruled.seats ruled.seats k v.hart off
                (λ q below sits unmarked right. (
                  subst (λ n. q.hart < n) (sym dealt_is) below,
                  sits,
                  keeps q (λ e. ne (sits ∙ ap ruled.seats e ∙ sym hart.1)) unmarked (subst (λ (x : MonitorPart). IsPart script x.history x.now q) (sym mine.0) right),
                ))
                was.1,
          ));
      there = λ h below.
          let was = ruled.there h (subst (λ n. h < n) dealt_is below) in
          carries_set views id (both m' p') (ruled.seats h) h inside
          (λ e. same ∙ subst (λ (v : Part). IsPartOf h v.hart) (one_view views id was.0 (both m p) (subst (λ n. get_elem? views n ≡ some was.0) e was.1) at) was.2)
          was;
    }

-- ---- a step of a pass with a hart's part alone, which changes no word

pub hart_step : (script : ScriptValue) (words : List ℕ) (views : List Part) (id : ℕ) (p p' : HartPart) → IsRuled script words views → get_elem? views id ≡ some (hart_alone p) → p'.hart ≡ p.hart → p'.mark ≡ p.mark → ((m : MonitorPart) → p.mark ≡ false → words ≡ m.now → IsPart script m.history m.now p → IsPart script m.history m.now p') → IsRuled script words (set views id (hart_alone p'))
hart_step script words views id p p' ruled at same mark moves =
    let hart = has_hart script words views id ruled (hart_alone p) p at refl in
    let inside = there_within views id (hart_alone p) at in
    let off : id ≢ ruled.seat = λ e. no_part (one_view views id ruled.here.0 (hart_alone p) (subst (λ n. get_elem? views n ≡ some ruled.here.0) (sym e) ruled.here.1) at) in
    let unmarked : p.mark ≡ false = no_mark p.mark (λ marked. off (hart.3 marked)) in
    record {
      part = ruled.part;
      seat = ruled.seat;
      seats = ruled.seats;
      words_are = ruled.words_are;
      monitor = ruled.monitor;
      here = (ruled.here.0, set_else views id ruled.seat (hart_alone p') (λ e. off (sym e)) ∙ ruled.here.1, ruled.here.2);
      each = each_set (Sits script ruled.part ruled.seat ruled.seats) views id (hart_alone p')
          (tt, (subst (λ n. n < ruled.part.dealt) (sym same) hart.0, hart.1 ∙ ap ruled.seats (sym same), moves ruled.part unmarked ruled.words_are hart.2, λ marked. hart.3 (sym mark ∙ marked)))
          (λ k v ne there. ruled.each k v there);
      there = λ h below.
          let was = ruled.there h below in
          carries_set views id (hart_alone p') (ruled.seats h) h inside
          (λ e. same ∙ subst (λ (v : Part). IsPartOf h v.hart) (one_view views id was.0 (hart_alone p) (subst (λ n. get_elem? views n ≡ some was.0) e was.1) at) was.2)
          was;
    }
  where
    none-some : (m : MonitorPart) → None ≡ Some m → ⊥
    none-some m e = cc

    no_part : ruled.here.0 ≡ hart_alone p → ⊥
    no_part e = none-some ruled.part (sym (ap (λ (v : Part). v.monitor) e) ∙ ruled.here.2)

    no_mark : (b : Bool) → (b ≡ true → ⊥) → b ≡ false
    no_mark true off = absurd (off refl)
    no_mark false off = refl

-- ---- joining: the pass of a hart takes in the monitor's

pub join_step : (script : ScriptValue) (words : List ℕ) (views : List Part) (id other : ℕ) (m : MonitorPart) (p : HartPart) → IsRuled script words views → get_elem? views id ≡ some (hart_alone p) → (other ≡ id → ⊥) → get_elem? (set views id (both m p)) other ≡ some (monitor_alone m) → IsRuled script words (set (set views id (both m p)) other spent)
join_step script words views id other m p ruled at apart there =
    let joined = set views id (both m p) in
    let was_other : get_elem? views other ≡ some (monitor_alone m) = sym (set_else views id other (both m p) apart) ∙ there in
    let mine = has_monitor script words views other ruled (monitor_alone m) m was_other refl in
    let hart = has_hart script words views id ruled (hart_alone p) p at refl in
    let inside = there_within views id (hart_alone p) at in
    let inside_other = there_within joined other (monitor_alone m) there in
    let off : id ≢ ruled.seat = λ e. apart (mine.1 ∙ sym e) in
    record {
      part = ruled.part;
      seat = id;
      seats = ruled.seats;
      words_are = ruled.words_are;
      monitor = ruled.monitor;
      here = (both m p, set_else joined other id spent (λ e. apart (sym e)) ∙ set_here views id (both m p) inside, ap (λ x. Some x) mine.0);
      each = each_set (Sits script ruled.part id ruled.seats) joined other spent (tt, tt)
          (λ j w nj rest. each_set (λ k v. k ≢ other → Sits script ruled.part id ruled.seats k v) views id (both m p)
          (λ n. ((mine.0, refl), (hart.0, hart.1, hart.2, λ marked. refl)))
          (λ k v ne here n.
          let beside : k ≢ ruled.seat = λ e. n (e ∙ sym mine.1) in
          let was = ruled.each k v here in (
            no_monitor ruled.part ruled.seat ruled.part id k v.monitor beside was.0,
            hart_beside script ruled.part ruled.part ruled.seat id ruled.seats ruled.seats k v.hart beside (λ q below sits unmarked right. (below, sits, right)) was.1,
          ))
          j w rest nj);
      there = λ h below.
          let was = ruled.there h below in
          carries_set joined other spent (ruled.seats h) h inside_other
          (λ e. absurd (no_hart h (subst (λ (v : Part). IsPartOf h v.hart) (one_view views other was.0 (monitor_alone m) (subst (λ n. get_elem? views n ≡ some was.0) e was.1) was_other) was.2)))
          (carries_set views id (both m p) (ruled.seats h) h inside
          (λ e. subst (λ (v : Part). IsPartOf h v.hart) (one_view views id was.0 (hart_alone p) (subst (λ n. get_elem? views n ≡ some was.0) e was.1) at) was.2)
          was);
    }
  where
    no_hart : (h : ℕ) → IsPartOf h None → ⊥
    no_hart h none = none

-- ---- parting: the monitor's part goes to a new pass

pub part_step : (script : ScriptValue) (words : List ℕ) (views : List Part) (id : ℕ) (m : MonitorPart) (p : HartPart) → IsRuled script words views → get_elem? views id ≡ some (both m p) → p.mark ≡ false → IsRuled script words (set views id (hart_alone (left_part m p)) ++ monitor_alone m ∷ [])
part_step script words views id m p ruled at unmarked =
    let mine = has_monitor script words views id ruled (both m p) m at refl in
    let hart = has_hart script words views id ruled (both m p) p at refl in
    let inside = there_within views id (both m p) at in
    let left = hart_alone (left_part m p) in
    let parted = set views id left in
    let n = length parted in
    let saw : IsPart script ruled.part.history ruled.part.now (left_part m p) = seen_whole m ruled.part mine.0 hart.2 in
    record {
      part = ruled.part;
      seat = n;
      seats = ruled.seats;
      words_are = ruled.words_are;
      monitor = ruled.monitor;
      here = (monitor_alone m, at_last parted (monitor_alone m) n refl, ap (λ x. Some x) mine.0);
      each = each_end (Sits script ruled.part n ruled.seats) parted (monitor_alone m) ((mine.0, refl), tt)
          (each_set (Sits script ruled.part n ruled.seats) views id left
          (tt, (hart.0, hart.1, saw, λ marked. absurd (false≢true (sym unmarked ∙ marked))))
          (λ k v ne here.
          let beside : k ≢ ruled.seat = λ e. ne (e ∙ sym mine.1) in
          let was = ruled.each k v here in (
            no_monitor ruled.part ruled.seat ruled.part n k v.monitor beside was.0,
            hart_beside script ruled.part ruled.part ruled.seat n ruled.seats ruled.seats k v.hart beside (λ q below sits unmarked' right. (below, sits, right)) was.1,
          )));
      there = λ h below.
          let was = ruled.there h below in
          carries_longer parted (monitor_alone m ∷ []) (ruled.seats h) h
          (carries_set views id left (ruled.seats h) h inside
          (λ e. subst (λ (v : Part). IsPartOf h v.hart) (one_view views id was.0 (both m p) (subst (λ n. get_elem? views n ≡ some was.0) e was.1) at) was.2)
          was);
    }
  where
    seen_whole : (m part : MonitorPart) → m ≡ part → IsPart script part.history part.now p → IsPart script part.history part.now (left_part m p)
    seen_whole m part same right = record {
      script_is = right.script_is;
      mine = right.mine;
      seen = ([], ap (λ (x : MonitorPart). x.history) (sym same) ∙ sym (append-nil m.history));
      lives = right.lives;
    }

-- ---- dealing: one more hart gets its part

pub deal_step : (script : ScriptValue) (words : List ℕ) (views : List Part) (id : ℕ) (m : MonitorPart) → IsRuled script words views → get_elem? views id ≡ some (monitor_alone m) → IsPart script m.history m.now (new_part m.script m.dealt) → IsRuled script words (set views id (monitor_alone (dealt_monitor m)) ++ hart_alone (new_part m.script m.dealt) ∷ [])
deal_step script words views id m ruled at new =
    let mine = has_monitor script words views id ruled (monitor_alone m) m at refl in
    let inside = there_within views id (monitor_alone m) at in
    let deals = monitor_alone (dealt_monitor m) in
    let dealt = set views id deals in
    let n = length dealt in
    let part' = dealt_monitor m in
    let more : part'.dealt ≡ ruled.part.dealt + 1 = ap (λ (x : MonitorPart). x.dealt + 1) mine.0 in
    record {
      part = part';
      seat = id;
      seats = seats' n;
      words_are = ruled.words_are ∙ sym (ap (λ (x : MonitorPart). x.now) mine.0);
      monitor = more_dealt (subst (IsMonitor script) (sym mine.0) ruled.monitor);
      here = (deals, at_longer dealt (hart_alone (new_part m.script m.dealt) ∷ []) id deals (set_here views id deals inside), refl);
      each = each_end (Sits script part' id (seats' n)) dealt (hart_alone (new_part m.script m.dealt))
          (tt, (omega arith, sym (seat_new n), new, λ marked. absurd (false≢true marked)))
          (each_set (Sits script part' id (seats' n)) views id deals ((refl, refl), tt)
          (λ k v ne here.
          let beside : k ≢ ruled.seat = λ e. ne (e ∙ sym mine.1) in
          let was = ruled.each k v here in (
            no_monitor ruled.part ruled.seat part' id k v.monitor beside was.0,
            hart_beside script ruled.part part' ruled.seat id ruled.seats (seats' n) k v.hart beside
                (λ q below sits unmarked right.
                let lower : q.hart < m.dealt = subst (λ (x : MonitorPart). q.hart < x.dealt) (sym mine.0) below in
                (omega arith, sits ∙ sym (seat_old n q.hart lower), subst (λ (x : MonitorPart). IsPart script x.history x.now q) (sym mine.0) right))
                was.1,
          )));
      there = λ h below. elim (cases_eq h m.dealt) [
        | inl same ↦ subst (λ k. Carries (dealt ++ hart_alone (new_part m.script m.dealt) ∷ []) k h) (sym (ap (seats' n) same ∙ seat_new n)) (carries_last dealt (hart_alone (new_part m.script m.dealt)) h (sym same))
        | inr ne ↦
            let lower : h < m.dealt = omega arith in
            let was = ruled.there h (subst (λ (x : MonitorPart). h < x.dealt) mine.0 lower) in
            subst (λ k. Carries (dealt ++ hart_alone (new_part m.script m.dealt) ∷ []) k h) (sym (seat_old n h lower))
            (carries_longer dealt (hart_alone (new_part m.script m.dealt) ∷ []) (ruled.seats h) h
            (carries_set views id deals (ruled.seats h) h inside
            (λ e. absurd (no_hart h (subst (λ (v : Part). IsPartOf h v.hart) (one_view views id was.0 (monitor_alone m) (subst (λ n. get_elem? views n ≡ some was.0) e was.1) at) was.2)))
            was))
      ];
    }
  where
    seats' : ℕ → ℕ → ℕ
    seats' n h = cond (eqb h m.dealt) n (ruled.seats h)

    seat_new : (n : ℕ) → seats' n m.dealt ≡ n
    seat_new n = ap (λ b. cond b n (ruled.seats m.dealt)) (eq-eqb m.dealt m.dealt refl)

    seat_old : (n h : ℕ) → h < m.dealt → seats' n h ≡ ruled.seats h
    seat_old n h lower = ap (λ b. cond b n (ruled.seats h)) (ne_eqb h m.dealt (λ e. omega arith))

    no_hart : (h : ℕ) → IsPartOf h None → ⊥
    no_hart h none = none

    more_dealt : IsMonitor script m → IsMonitor script (dealt_monitor m)
    more_dealt right = record {
      script_is = right.script_is;
      limits = right.limits;
      monitored = right.monitored;
      bounded = right.bounded;
      clean = right.clean;
    }
