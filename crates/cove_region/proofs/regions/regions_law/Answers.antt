use Rattle.std.proofs.Common.{length, subst}
use Rattle.cove_region.specs.GuestMaps.{FormRows, GuestMap, has_shared}
use Rattle.cove_region.proofs.RowLemmas.{form_rows}
use Rattle.cove_region.proofs.regions.regions_law.Goals as goal

pub returns-clause-rows : goal.returns-clause-rows
returns-clause-rows c =
    subst (λ (m : GuestMap). FormRows (has_shared m) (length m.rows)) c.guests.view_is (form_rows c.guests.inside.rows.items c.guests.invariant.maximal)
