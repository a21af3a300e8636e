use Rattle.std.proofs.Common.{◌≡◌, ◌∙◌, ℕ, ◌+◌, List, Option, None, Some, IfSome, IsSome, length, drop, filter, slice_get, subst, sym, ap, arith}
use Rattle.cove_base.specs.declared.scripts.ScriptLine.{ScriptLine}
use Rattle.cove_base.specs.HartLines.{next_line}
use Rattle.cove_base.specs.HartPlaces.{is_line_of, IsNextPlace}
use Rattle.cove_base.specs.Scripts.{ScriptValue}
use Rattle.cove_base.proofs.HartPlaceLemmas.{line_at_place, after_place, place_within}
use Rattle.cove_hart.proofs.states.HartState.end_line.Goals as goal

-- what follows a line of a hart, of which it is known that it is the hart's
rest_of_own : (lines : List ScriptLine) (hart place next : ℕ) (own : Option ScriptLine) → IsSome own
    → IfSome own (λ line. line.hart.0 ≡ hart)
    → IfSome own (λ line.
    filter (is_line_of line.hart.0) (drop next lines) ≡ filter (is_line_of line.hart.0) (drop (place + 1) lines))
    → filter (is_line_of hart) (drop next lines) ≡ filter (is_line_of hart) (drop (place + 1) lines)
rest_of_own lines hart place next None some is rest = cc
rest_of_own lines hart place next (Some line) some is rest =
    subst (λ h. filter (is_line_of h) (drop next lines) ≡ filter (is_line_of h) (drop (place + 1) lines)) is rest

here_of_own : (lines : List ScriptLine) (hart next : ℕ) (own : Option ScriptLine) → IsSome own
    → IfSome own (λ line. line.hart.0 ≡ hart)
    → IfSome own (λ line. IfSome (slice_get lines next) (λ l. l.hart.0 ≡ line.hart.0))
    → IfSome (slice_get lines next) (λ l. l.hart.0 ≡ hart)
here_of_own lines hart next None some is here = cc
here_of_own lines hart next (Some line) some is here =
    subst (λ h. IfSome (slice_get lines next) (λ l. l.hart.0 ≡ h)) is here

following_place : (script : ScriptValue) (hart ended place next : ℕ) (lines : List ScriptLine) → lines ≡ script.lines
    → IsNextPlace script hart ended place → IsSome (next_line script hart ended)
    → IfSome (slice_get lines place) (λ own. IfSome (slice_get lines next) (λ line. line.hart.0 ≡ own.hart.0))
    → IfSome (slice_get lines place) (λ own.
    filter (is_line_of own.hart.0) (drop next lines) ≡ filter (is_line_of own.hart.0) (drop (place + 1) lines))
    → IsNextPlace script hart (ended + 1) next
following_place script hart ended place next lines is stands left here rest =
    let own = slice_get script.lines place in
    let some = subst (λ (o : Option ScriptLine). IsSome o) (sym (line_at_place script hart ended place stands)) left in
    let rest_is = subst (λ ls. IfSome (slice_get ls place) (λ own.
    filter (is_line_of own.hart.0) (drop next ls) ≡ filter (is_line_of own.hart.0) (drop (place + 1) ls))) is rest in
    let here_is = subst (λ ls. IfSome (slice_get ls place) (λ own. IfSome (slice_get ls next) (λ line. line.hart.0 ≡ own.hart.0))) is here in
    record {
      rest = rest_of_own script.lines hart place next own some stands.here rest_is ∙ after_place script hart ended place stands;
      here = here_of_own script.lines hart next own some stands.here here_is;
    }

pub following-self-requires : goal.following-self-requires
following-self-requires c =
    let hart = c.args.self.now in
    let within = place_within c.args.script.now hart.hart.0 hart.ended hart.place c.requires.place c.requires.left in
    let lines = ap (λ (script : ScriptValue). length script.lines) c.script.view_is in
    omega arith

pub returns-clause-place : goal.returns-clause-place
returns-clause-place c =
    let hart = c.args.self.now in
    let lines = ap (λ (script : ScriptValue). script.lines) c.script.view_is in
    following_place c.args.script.now hart.hart.0 hart.ended hart.place c.following-self.result c.script.inside.lines lines
    c.requires.place c.requires.left c.following-self.ensures.here c.following-self.ensures.rest
