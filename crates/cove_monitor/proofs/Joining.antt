-- What is known of a hart and the monitor as their passes are joined.
use Rattle.std.proofs.Common.{◌≡◌, ℕ, ◌≤◌, true, false, IsTrue, Some, List, [], ◌∷◌, ◌++◌, eqb, length, length-append, refl, sym, ◌∙◌, ap, subst, arith}
use Rattle.std.proofs.lemmas.List.Elements.{filter-append}
use Rattle.cove_model.specs.Machine.{HartValue, ScriptValue, is_within_limits, Entry, ENTRY_LIMIT, count_word, Legal, own, AllowsLawful, IsLawful}
use Rattle.atomic_table.specs.Seated.{TableId}
use Rattle.cove_board.specs.Parts.{HartPart, MonitorPart, Part, both, hart_of, holding_of, loaded_part, monitor_of}
use Rattle.cove_board.specs.Passes.{AllowsEntries, AllowsLawfulStores, BoardValue, PassValue, guard_by}
use Rattle.cove_board.specs.Ruled.{IsMonitor, IsPart, Lives}
use Rattle.cove_core.specs.Kept.{IsKept}
use Rattle.cove_core.specs.declared.monitors.Mon.{Mon}
use Rattle.cove_model.proofs.AloneProofs.{others_leave_alone, ruled_harts_fit}
use Rattle.cove_model.specs.BoardRule.{IsLive, IsMonitored, UnusedLives}
use Rattle.cove_model.specs.Fits.{Fits}
use Rattle.cove_model.specs.FitsAlone.{FitsAlone}
use Rattle.cove_model.specs.LawfulCounts.{CountsEntries, IsCountable}
use Rattle.cove_monitor.specs.Seats.{IsKeeper, IsSeat}

none_more : (xs ys : List Entry) → xs ≡ xs ++ ys → ys ≡ []
none_more xs [] e = refl
none_more xs (y ∷ ys) e = absurd (let n = ap length e in let m = length-append xs (y ∷ ys) in omega arith)

-- a hart's part and the monitor's, both right, no store being open
module _ (script : ScriptValue) (m : MonitorPart) (p : HartPart) (held : HartValue) (monitor : IsMonitor script m) (right : IsPart script m.history m.now p) (clean : m.clean ≡ true) (unmarked : p.mark ≡ false) (hart : p.hart ≡ held.hart) (walked : p.walked ≡ held.walked) (mine : own p.seen held.hart ≡ p.mine) (alone : FitsAlone p.script p.seen held) where
  live : IsLive script m.history m.now (holding_of p)
  live = subst (Lives script m.history m.now (holding_of p)) unmarked right.lives

  at_rest : IsMonitored script m.history m.now m.now
  at_rest = subst (λ ws. IsMonitored script m.history ws m.now) (monitor.clean clean) monitor.monitored

  mine_is : p.mine ≡ own m.history held.hart
  mine_is = right.mine ∙ ap (own m.history) hart

  silent : own right.seen.0 held.hart ≡ []
  silent =
      none_more (own p.seen held.hart) (own right.seen.0 held.hart)
      (mine ∙ mine_is ∙ ap (λ es. own es held.hart) right.seen.1 ∙ filter-append (λ (x : Entry). eqb x.hart.0 held.hart) p.seen right.seen.0)

  alone_now : FitsAlone script m.history held
  alone_now =
      subst (λ H. FitsAlone script H held) (sym right.seen.1)
      (others_leave_alone script p.seen right.seen.0 held monitor.limits (subst (Legal script) right.seen.1 monitor.monitored.legal) silent
      (subst (λ k. FitsAlone k p.seen held) right.script_is alone))

  unused : UnusedLives script m.history m.now held.hart held.walked
  unused =
      subst (λ h. UnusedLives script m.history m.now h held.walked) hart
      (subst (UnusedLives script m.history m.now p.hart) walked live.walk)

  fits_now : Fits script m.history held
  fits_now = ruled_harts_fit script m.history m.now held at_rest unused alone_now

-- A hart's part and the monitor's are carried together, no store being open. The history is kept, and the hart fits it.
pub record AreJoined (script : ScriptValue) (mon : Mon) (held : HartValue) (m : MonitorPart) (p : HartPart) : Type 0 where
  pub limits : IsTrue (is_within_limits script)
  pub script_is : m.script ≡ script
  pub history : mon.history ≡ m.history
  pub within : length mon.history ≤ ENTRY_LIMIT
  pub old : m.old ≡ m.now
  pub clean : m.clean ≡ true
  pub same_hart : p.hart ≡ held.hart
  pub walked : p.walked ≡ held.walked
  pub mine : p.mine ≡ own m.history held.hart
  pub seen : (more : List Entry) × (m.history ≡ p.seen ++ more)
  pub alone : FitsAlone script m.history held
  pub kept : IsKept script m.now mon
  pub fits : Fits script mon.history held

pub joined : (script : ScriptValue) (mon : Mon) (held : HartValue) (hart keeper : PassValue) (table : TableId) → IsSeat held hart → IsKeeper table mon keeper → IsMonitor script (monitor_of keeper.part) → IsPart script (monitor_of keeper.part).history (monitor_of keeper.part).now (hart_of hart.part) → AreJoined script mon held (monitor_of keeper.part) (hart_of hart.part)
joined script mon held hart keeper table seat kept monitor right =
    let m = monitor_of keeper.part in
    let p = hart_of hart.part in
    record {
      limits = monitor.limits;
      script_is = monitor.script_is;
      history = kept.history;
      within = kept.within;
      old = monitor.clean kept.clean;
      clean = kept.clean;
      same_hart = seat.same_hart;
      walked = seat.walked;
      mine = mine_is script m p held monitor right kept.clean seat.unmarked seat.same_hart seat.walked seat.mine seat.fits;
      seen = right.seen;
      alone = alone_now script m p held monitor right kept.clean seat.unmarked seat.same_hart seat.walked seat.mine seat.fits;
      kept = subst (λ k. IsKept k m.now mon) monitor.script_is kept.kept;
      fits = subst (λ H. Fits script H held) (sym kept.history) (fits_now script m p held monitor right kept.clean seat.unmarked seat.same_hart seat.walked seat.mine seat.fits);
    }

-- the same of what holding them gave
pub joined_by : (script : ScriptValue) (mon : Mon) (held : HartValue) (hart keeper : PassValue) (part : Part) → AreJoined script mon held (monitor_of keeper.part) (hart_of hart.part) → (word : ℕ) × (part ≡ both (monitor_of keeper.part) (loaded_part 0 word (hart_of hart.part))) → AreJoined script mon held (monitor_of part) (hart_of part)
joined_by script mon held hart keeper part j parts =
    subst (λ v. AreJoined script mon held (monitor_of v) (hart_of v)) (sym parts.1)
    (record {
      limits = j.limits;
      script_is = j.script_is;
      history = j.history;
      within = j.within;
      old = j.old;
      clean = j.clean;
      same_hart = j.same_hart;
      walked = j.walked;
      mine = j.mine;
      seen = j.seen;
      alone = j.alone;
      kept = j.kept;
      fits = j.fits;
    })

pub held_joined : (board : BoardValue) (script : ScriptValue) (mon : Mon) (held : HartValue) (hart keeper pass : PassValue) → board.script ≡ script → IsSeat held hart → IsKeeper board.table mon keeper → (word : ℕ) × (pass.part ≡ both (monitor_of keeper.part) (loaded_part 0 word (hart_of hart.part))) → IsMonitor board.script (monitor_of keeper.part) → IsPart board.script (monitor_of keeper.part).history (monitor_of keeper.part).now (hart_of hart.part) → AreJoined script mon held (monitor_of pass.part) (hart_of pass.part)
held_joined board script mon held hart keeper pass same seat kept parts monitor right =
    let m = monitor_of keeper.part in
    let p = hart_of hart.part in
    joined_by script mon held hart keeper pass.part
    (joined script mon held hart keeper board.table seat kept (subst (λ k. IsMonitor k m) same monitor) (subst (λ k. IsPart k m.history m.now p) same right))
    parts

-- ---- what a held pass allows then

module _ (script : ScriptValue) (mon : Mon) (held : HartValue) (table : TableId) (m : MonitorPart) (p : HartPart) (j : AreJoined script mon held m p) where
  pub allows_lawful : AllowsLawful (AllowsLawfulStores (Some (guard_by table m p))) script.pages script.harts held.hart m.now
  allows_lawful words place word lawful =
      subst (λ (k : ScriptValue). IsLawful k.pages k.harts p.hart m.old words place word) (sym j.script_is)
      (subst (λ h. IsLawful script.pages script.harts h m.old words place word) (sym j.same_hart)
      (subst (λ old. IsLawful script.pages script.harts held.hart old words place word) (sym j.old) lawful))

  pub counts_entries : CountsEntries (AllowsEntries (Some (guard_by table m p))) script mon.history held.hart
  counts_entries words entry countable = (
    ap (λ (k : ScriptValue). count_word k.pages k.harts) (sym j.script_is),
    subst (λ k. IsCountable k m.history p.hart words entry) (sym j.script_is)
        (subst (λ h. IsCountable script m.history h words entry) (sym j.same_hart)
        (subst (λ H. IsCountable script H held.hart words entry) j.history countable)),
  )
