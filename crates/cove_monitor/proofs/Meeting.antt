-- What meeting a hart tells as the monitor ends.
use Rattle.std.proofs.Common.{◌≡◌, ℕ, sym, ◌∙◌, ap, subst}
use Rattle.atomic_table.specs.Seated.{TableId}
use Rattle.cove_model.specs.Machine.{HartValue, ScriptValue}
use Rattle.cove_base.proofs.ScriptLimits.{limits_of}
use Rattle.cove_board.specs.Parts.{HartPart, hart_of, loaded_part, both, monitor_alone, monitor_of}
use Rattle.cove_board.specs.Passes.{BoardValue, PassValue}
use Rattle.cove_board.specs.Ruled.{IsMonitor, IsPart}
use Rattle.cove_core.specs.declared.monitors.Mon.{Mon}
use Rattle.cove_model.proofs.Beginning.{legal_begins}
use Rattle.cove_model.proofs.Histories.{legal_quiet}
use Rattle.cove_monitor.proofs.Joining.{joined}
use Rattle.cove_monitor.specs.Closing.{HasMet, IsHistoryOf}
use Rattle.cove_monitor.specs.Seats.{IsKeeper, IsSeat}

-- a hart whose pass was joined with the monitor's
pub met_by : (board : BoardValue) (mon : Mon) (held : HartValue) (hart keeper : PassValue) → IsSeat held hart → IsKeeper board.table mon keeper → IsMonitor board.script (monitor_of keeper.part) → IsPart board.script (monitor_of keeper.part).history (monitor_of keeper.part).now (hart_of hart.part) → HasMet board.script mon.history held (hart_of hart.part)
met_by board mon held hart keeper seat kept monitor right =
    let j = joined board.script mon held hart keeper board.table seat kept monitor right in
    subst (λ H. HasMet board.script H held (hart_of hart.part)) (sym kept.history)
    (record { mine = sym j.mine; seen = j.seen; ended = j.alone.counts })

-- the monitor's pass comes back as it was
pub keeper_same : (table : TableId) (mon : Mon) (keeper : PassValue) (hart : HartPart) (held after : PassValue) → IsKeeper table mon keeper → held.table ≡ table → (word : ℕ) × (held.part ≡ both (monitor_of keeper.part) (loaded_part 0 word hart)) → after ≡ record { table = held.table; part = monitor_alone (monitor_of held.part) } → after ≡ keeper
keeper_same table mon keeper hart held after kept table_is parts is =
    is
    ∙ ap (λ v. record held { part = monitor_alone (monitor_of v) }) parts.1
    ∙ ap (λ t. record held { table = t; part = monitor_alone (monitor_of keeper.part) }) (table_is ∙ sym kept.table_is)
    ∙ ap (λ v. record keeper { part = v }) (sym kept.alone)

-- what the monitor's part tells of the history at the end
pub right_by : (script : ScriptValue) (table : TableId) (mon : Mon) (keeper : PassValue) → IsKeeper table mon keeper → IsMonitor script (monitor_of keeper.part) → IsHistoryOf script mon.history
right_by script table mon keeper kept monitor =
    subst (IsHistoryOf script) (sym kept.history)
    (record {
      legal = monitor.monitored.legal;
      begins = legal_begins script (monitor_of keeper.part).history monitor.monitored.legal;
      cached = monitor.monitored.cached;
      quiet = legal_quiet script (limits_of script monitor.limits) (monitor_of keeper.part).history monitor.monitored.legal;
    })
