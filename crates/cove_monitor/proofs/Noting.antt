-- A walk that a hart notes, and that its pass knows.
use Rattle.std.proofs.Common.{◌≡◌, ℕ, ◌<◌, IsTrue, None, refl, sym, ◌∙◌, ap, subst}
use Rattle.cove_model.specs.Machine.{HartValue, after_walk, rings_after, rings_find, ScriptValue, is_within_limits, Page, Target}
use Rattle.cove_base.specs.HostWalks.{walked_to}
use Rattle.cove_base.specs.declared.events.Walked.{Walked}
use Rattle.cove_base.specs.declared.walks.Target.TheVariants.{Host}
use Rattle.cove_board.specs.Parts.{hart_alone, hart_of, walked_part}
use Rattle.cove_board.specs.Passes.{BoardValue, IsHartPass, PassValue}
use Rattle.cove_core.proofs.Walking.{needed_walks_leave_alone, wanted}
use Rattle.cove_hart.specs.Needs.{next_need}
use Rattle.cove_hart.specs.declared.needs.Need.{Need}
use Rattle.cove_hart.specs.declared.needs.Need.TheVariants.{Walk}
use Rattle.cove_model.specs.FitsAlone.{FitsAlone}
use Rattle.cove_monitor.specs.Seats.{IsSeat}

-- a hart knows of itself what it knows by the script of its pass
pub alone_by : (board : BoardValue) (script : ScriptValue) (held : HartValue) (pass : PassValue) → board.script ≡ script → IsHartPass board pass → IsSeat held pass → FitsAlone script (hart_of pass.part).seen held
alone_by board script held pass same right seat = subst (λ k. FitsAlone k (hart_of pass.part).seen held) (right.script_is ∙ same) seat.fits

-- what the walk needs, and what it leaves
pub record IsNeeded (board : BoardValue) (script : ScriptValue) (held : HartValue) (pass : PassValue) (page : Page) : Type 0 where
  pub below : page.0 < script.pages
  pub unused : (hart_of pass.part).walked ≡ None
  pub lacks : rings_find held.rings (Host page) ≡ None
  pub seat : (after : PassValue) (left : HartValue) (word : ℕ) → after ≡ record pass { part = hart_alone (walked_part page word (hart_of pass.part)) } → left ≡ after_walk held (Host page) (walked_to page word) → IsSeat left after

pub needed_walk : (board : BoardValue) (script : ScriptValue) (held : HartValue) (pass : PassValue) (phase : ℕ) (page : Page) → IsTrue (is_within_limits script) → board.script ≡ script → IsHartPass board pass → IsSeat held pass → next_need script held phase ≡ Walk (Host page) → IsNeeded board script held pass page
needed_walk board script held pass phase page limits same right seat needed =
    let p = hart_of pass.part in
    let alone = alone_by board script held pass same right seat in
    let law = λ (walked : Walked). needed_walks_leave_alone script p.seen held phase page walked limits needed alone in
    record {
      below = (law (walked_to page 0)).0;
      unused = seat.walked ∙ (law (walked_to page 0)).1;
      lacks = (wanted script held phase page needed).lacks;
      seat = λ after left word after_is left_is.
          subst (λ v. IsSeat left v) (sym after_is)
          (subst (λ h. IsSeat h (record pass { part = hart_alone (walked_part page word p) })) (sym left_is)
          (record {
            alone = refl;
            unmarked = seat.unmarked;
            same_hart = seat.same_hart;
            rings = ap (λ r. rings_after r (Host page) (walked_to page word)) seat.rings;
            walked = refl;
            mine = seat.mine;
            fits = subst (λ k. FitsAlone k p.seen (after_walk held (Host page) (walked_to page word))) (sym (right.script_is ∙ same)) (law (walked_to page word)).2;
          }));
    }

-- the walk that was answered is the one that is needed
pub asked_for : (need : Need) (target : Target) (script : ScriptValue) (held : HartValue) (phase : ℕ) (page : Page) → need ≡ next_need script held phase → need ≡ Walk target → target ≡ Host page → next_need script held phase ≡ Walk (Host page)
asked_for need target script held phase page answered is at = sym answered ∙ is ∙ ap (λ t. Walk t) at
