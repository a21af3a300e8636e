-- Each kind of step is allowed by the rule.
use Rattle.std.proofs.Common.{◌≡◌, ℕ, ◌+◌, ◌<◌, false, true, List, [], ◌∷◌, None, eqb, eq-eqb, get_or, set, zero, suc, refl, sym, ◌∙◌, ap, subst}
use Rattle.atomic_table.specs.Table.{Allows, Joins, Me, Splits, State, keeps, step}
use Rattle.cove_model.specs.Machine.{count_word, ScriptValue, Entry, IsLawful}
use Rattle.cove_board.proofs.Moving.{count_monitor, count_others, count_part, load_moves, new_moves, store_monitor, store_others, store_part, walk_moves}
use Rattle.cove_board.proofs.Ruling.{both_step, deal_step, has_hart, has_monitor, hart_step, join_step, part_step}
use Rattle.cove_board.specs.Parts.{HartPart, MonitorPart, Part, both, counted_monitor, counted_part, dealt_monitor, hart_alone, hart_of, left_part, loaded_part, monitor_alone, monitor_of, new_part, spent, stored_monitor, stored_part, walked_part}
use Rattle.cove_board.specs.Plays.{Counts, Knows, Loads, Stores, Walks}
use Rattle.cove_board.specs.Ruled.{Holds, IsMonitor, IsPart, IsRuled}
use Rattle.cove_model.specs.LawfulCounts.{IsCountable, counted}
use lib.ListN.{get_elem?}
use mathlib.Core.Option.{none, some}
use prog.Atomic.{either}

-- a load changes no word
loaded_same : (words : List ℕ) (i : ℕ) → set words i (get_or words i 0) ≡ words
loaded_same [] i = refl
loaded_same (w ∷ words) zero = refl
loaded_same (w ∷ words) (suc i) = ap (λ ws. w ∷ ws) (loaded_same words i)

-- the table after a load of a pass that then carries this
after_load : (script : ScriptValue) (words : List ℕ) (i : ℕ) (views : List Part) → IsRuled script words views → IsRuled script (set words i (get_or words i 0)) views
after_load script words i views ruled = subst (λ ws. IsRuled script ws views) (sym (loaded_same words i)) ruled

pub walks_allowed : (script : ScriptValue) (slots id page : ℕ) (me : Me Entry Part) → me.0 ≡ hart_alone (hart_of me.0) → (hart_of me.0).walked ≡ None → page < script.pages
    → Allows (Holds script) slots id me page (λ n. n) (Walks (step slots page 0 0 none) me)
walks_allowed script slots id page me alone unused below s ruled homes at small =
    let p = hart_of me.0 in
    let found = get_or s.words page 0 in
    let p' = walked_part (record { 0 = page }) found p in
    let there : get_elem? s.views id ≡ some (hart_alone p) = at ∙ ap some alone in (
      hart_alone p',
      keeps,
      tt,
      after_load script s.words page (set s.views id (hart_alone p'))
          (hart_step script s.words s.views id p p' ruled there refl refl
          (λ m unmarked same right.
          subst (λ (ws : List ℕ). IsPart script m.history m.now (walked_part (record { 0 = page }) (get_or ws page 0) p)) (sym same)
          (walk_moves script m.history m.now (record { 0 = page }) p below unused unmarked right))),
      refl,
    )

-- a load under the lock, by the rule
module _ (script : ScriptValue) (s : State Entry Part) (ruled : Holds script s) (id place : ℕ) (m : MonitorPart) (p : HartPart) (at : get_elem? s.views id ≡ some (both m p)) where
  held_monitor : IsMonitor script m
  held_monitor = subst (IsMonitor script) (sym (has_monitor script s.words s.views id ruled (both m p) m at refl).0) ruled.monitor

  held_part : IsPart script m.history m.now p
  held_part =
      let hart = has_hart script s.words s.views id ruled (both m p) p at refl in
      subst (λ (x : MonitorPart). IsPart script x.history x.now p) (sym (has_monitor script s.words s.views id ruled (both m p) m at refl).0) hart.2

  held_words : s.words ≡ m.now
  held_words = ruled.words_are ∙ sym (ap (λ (x : MonitorPart). x.now) (has_monitor script s.words s.views id ruled (both m p) m at refl).0)

  held_loads : IsRuled script (set s.words place (get_or s.words place 0)) (set s.views id (both m (loaded_part place (get_or s.words place 0) p)))
  held_loads =
      let next = set s.views id (both m (loaded_part place (get_or s.words place 0) p)) in
      after_load script s.words place next
      (subst (λ ws. IsRuled script ws next) (sym held_words)
      (both_step script s.words s.views id m m p (loaded_part place (get_or s.words place 0) p) ruled at refl refl held_monitor
      (load_moves script m.history m.now place (get_or s.words place 0) p held_part)
      (λ q ne unmarked right. right)))

pub loads_allowed : (script : ScriptValue) (slots id place : ℕ) (me : Me Entry Part) → me.0 ≡ both (monitor_of me.0) (hart_of me.0)
    → Allows (Holds script) slots id me place (λ n. n) (Loads (step slots place 0 0 none) me)
loads_allowed script slots id place me carries s ruled homes at small =
    let m = monitor_of me.0 in
    let p = hart_of me.0 in
    let there : get_elem? s.views id ≡ some (both m p) = at ∙ ap some carries in (
      both m (loaded_part place (get_or s.words place 0) p),
      keeps,
      tt,
      held_loads script s ruled id place m p there,
      (ap (λ ws. get_or ws place 0) (held_words script s ruled id place m p there), refl),
    )

pub knows_allowed : (script : ScriptValue) (slots id place : ℕ) (me : Me Entry Part) → me.0 ≡ both (monitor_of me.0) (hart_of me.0) → (hart_of me.0).script ≡ script
    → Allows (Holds script) slots id me place (λ n. n) (Knows (step slots place 0 0 none) me)
knows_allowed script slots id place me carries same s ruled homes at small =
    let m = monitor_of me.0 in
    let p = hart_of me.0 in
    let there : get_elem? s.views id ≡ some (both m p) = at ∙ ap some carries in (
      both m (loaded_part place (get_or s.words place 0) p),
      keeps,
      tt,
      held_loads script s ruled id place m p there,
      record {
        loads = (ap (λ ws. get_or ws place 0) (held_words script s ruled id place m p there), refl);
        monitor = subst (λ k. IsMonitor k m) (sym same) (held_monitor script s ruled id place m p there);
        part = subst (λ k. IsPart k m.history m.now p) (sym same) (held_part script s ruled id place m p there);
      },
    )

pub stores_allowed : (script : ScriptValue) (slots id place word : ℕ) (me : Me Entry Part) → me.0 ≡ both (monitor_of me.0) (hart_of me.0)
    → IsLawful (monitor_of me.0).script.pages (monitor_of me.0).script.harts (hart_of me.0).hart (monitor_of me.0).old (monitor_of me.0).now place word
    → Allows (Holds script) slots id me place (λ n. word) (λ n. Stores (step slots place word 0 none) me word)
stores_allowed script slots id place word me carries lawful s ruled homes at small =
    let m = monitor_of me.0 in
    let p = hart_of me.0 in
    let there : get_elem? s.views id ≡ some (both m p) = at ∙ ap some carries in
    let monitor = held_monitor script s ruled id place m p there in
    let right = held_part script s ruled id place m p there in
    let lawful' = subst (λ (k : ScriptValue). IsLawful k.pages k.harts p.hart m.old m.now place word) monitor.script_is lawful in
    let next = set s.views id (both (stored_monitor place word m) (stored_part place p)) in (
      both (stored_monitor place word m) (stored_part place p),
      keeps,
      tt,
      subst (λ ws. IsRuled script (set ws place word) next) (sym (held_words script s ruled id place m p there))
          (both_step script s.words s.views id m (stored_monitor place word m) p (stored_part place p) ruled there refl refl
          (store_monitor script m p place word monitor right lawful')
          (store_part script m p place word monitor right lawful')
          (store_others script m p place word monitor right lawful')),
      refl,
    )

-- the words of the monitor's part after the count
abbrev counted_now : MonitorPart → List ℕ
counted_now m = counted m.script.pages m.script.harts m.now

pub counts_allowed : (script : ScriptValue) (slots id place count : ℕ) (entry : Entry) (me : Me Entry Part) → me.0 ≡ both (monitor_of me.0) (hart_of me.0)
    → place ≡ count_word (monitor_of me.0).script.pages (monitor_of me.0).script.harts → count ≡ get_or (monitor_of me.0).now place 0
    → IsCountable (monitor_of me.0).script (monitor_of me.0).history (hart_of me.0).hart (monitor_of me.0).now entry
    → Allows (Holds script) slots id me place (λ n. either (eqb n count) (count + 1) n) (Counts (step slots place count (count + 1) (some entry)) me)
counts_allowed script slots id place count entry me carries at_count is countable s ruled homes at small =
    let m = monitor_of me.0 in
    let p = hart_of me.0 in
    let there : get_elem? s.views id ≡ some (both m p) = at ∙ ap some carries in
    let monitor = held_monitor script s ruled id place m p there in
    let right = held_part script s ruled id place m p there in
    let next = set s.views id (both (counted_monitor entry m) (counted_part entry m p)) in
    let words = held_words script s ruled id place m p there in
    let found : get_or s.words place 0 ≡ count = ap (λ ws. get_or ws place 0) words ∙ sym is in
    let same = monitor.script_is in
    let own_monitor = subst (λ k. IsMonitor k m) (sym same) monitor in
    let own_part = subst (λ k. IsPart k m.history m.now p) (sym same) right in
    let own_ruled = subst (λ k. IsRuled k s.words s.views) (sym same) ruled in
    let counts : counted_now m ≡ set m.now place (get_or m.now place 0 + 1) = ap (λ i. set m.now i (get_or m.now i 0 + 1)) (sym at_count) in
    let stands : IsRuled m.script (counted_now m) next = both_step m.script s.words s.views id m (counted_monitor entry m) p (counted_part entry m p) own_ruled there refl refl
    (count_monitor m p entry own_monitor own_part countable)
    (count_part m p entry own_monitor own_part countable)
    (count_others m p entry own_monitor own_part countable) in
    let raised : either (eqb (get_or s.words place 0) count) (count + 1) (get_or s.words place 0) ≡ get_or m.now place 0 + 1 = ap (λ b. either b (count + 1) (get_or s.words place 0)) (eq-eqb (get_or s.words place 0) count found) ∙ ap (λ n. n + 1) is in (
      both (counted_monitor entry m) (counted_part entry m p),
      keeps,
      tt,
      subst (λ n. IsRuled script (set s.words place n) next) (sym raised)
          (subst (λ ws. IsRuled script (set ws place (get_or m.now place 0 + 1)) next) (sym words) (subst (λ ws. IsRuled script ws next) counts (subst (λ k. IsRuled k (counted_now m) next) same stands))),
      refl,
    )

-- ---- joining, parting and dealing

pub joins_allowed : (script : ScriptValue) (id other : ℕ) (v w : Part) → v ≡ hart_alone (hart_of v) → w ≡ monitor_alone (monitor_of w)
    → Joins (Holds script) id v other w (both (monitor_of w) (hart_of v)) spent
joins_allowed script id other v w alone alone' s ruled at apart there =
    join_step script s.words s.views id other (monitor_of w) (hart_of v) ruled (at ∙ ap some alone) apart (there ∙ ap some alone')

pub parts_allowed : (script : ScriptValue) (id : ℕ) (v : Part) → v ≡ both (monitor_of v) (hart_of v) → (hart_of v).mark ≡ false
    → Splits (Holds script) id v (hart_alone (left_part (monitor_of v) (hart_of v))) (monitor_alone (monitor_of v))
parts_allowed script id v carries unmarked s ruled at =
    part_step script s.words s.views id (monitor_of v) (hart_of v) ruled (at ∙ ap some carries) unmarked

pub deals_allowed : (script : ScriptValue) (id : ℕ) (v : Part) → v ≡ monitor_alone (monitor_of v) → (monitor_of v).history ≡ [] → (monitor_of v).clean ≡ true → (monitor_of v).dealt < script.harts
    → Splits (Holds script) id v (monitor_alone (dealt_monitor (monitor_of v))) (hart_alone (new_part (monitor_of v).script (monitor_of v).dealt))
deals_allowed script id v alone empty clean on s ruled at =
    let m = monitor_of v in
    let there : get_elem? s.views id ≡ some (monitor_alone m) = at ∙ ap some alone in
    let monitor = subst (IsMonitor script) (sym (has_monitor script s.words s.views id ruled (monitor_alone m) m there refl).0) ruled.monitor in
    deal_step script s.words s.views id m ruled there
    (new_moves script m.dealt m monitor empty clean on)
