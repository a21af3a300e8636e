-- Harts to read: what the definitions say of them is proved by computing it.
use Rattle.std.specs.Prelude.{ℕ, [], ◌∷◌, Option, None, Some}
use Rattle.cove_base.specs.HartValues.{HartRings, HartValue, no_rings}
use Rattle.cove_base.specs.declared.events.Walked.{Walked}
use Rattle.cove_base.specs.declared.numbers.Page.{Page}
use Rattle.cove_base.specs.declared.walks.Noted.{Noted}
use Rattle.cove_base.specs.declared.walks.Target.TheVariants.{Host}

abbrev pub page : ℕ → Page
page p = record { 0 = p }

-- rings that name this host page alone
abbrev pub ring_naming : ℕ → HartRings
ring_naming p = record no_rings { hosts = (p, page p) ∷ [] }

-- a hart that has ended so many lines, with these rings and this unused walk
abbrev pub hart_with : (hart ended : ℕ) → HartRings → Option Noted → HartValue
hart_with hart ended rings walked =
    record { hart = hart; ended = ended; place = ended; rings = rings; walked = walked; inside = None }

-- one that names no page
abbrev pub hart_at : (hart ended : ℕ) → HartValue
hart_at hart ended = hart_with hart ended no_rings None

-- one whose unused walk to host page 4 came to this
abbrev pub hart_noting : (hart ended : ℕ) → Walked → HartValue
hart_noting hart ended walked = hart_with hart ended no_rings (Some (record { target = Host (page 4); walked = walked }))
