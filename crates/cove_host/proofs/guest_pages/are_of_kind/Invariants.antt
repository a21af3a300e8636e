use Rattle.std.proofs.Common.{◌≡◌}
use Rattle.cove_host.specs.GuestRuns.{EachGuest}
use Rattle.cove_region.specs.GuestMaps.{kind_of}
use Rattle.cove_host.proofs.guest_pages.are_of_kind.Given as goal

-- the guest pages so far are of the kind
abbrev pub invariant-loop-i : goal.invariant-loop-i
invariant-loop-i l = EachGuest (λ g. kind_of l.regions g ≡ l.kind) l.first l.i
