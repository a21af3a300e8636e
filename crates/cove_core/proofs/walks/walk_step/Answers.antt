use Rattle.std.proofs.Common.{◌≡◌, sym, subst, ap, ◌∙◌, arith}
use Rattle.cove_base.proofs.ScriptLimits.{limits_of}
use Rattle.cove_base.specs.declared.walks.Target.{Target}
use Rattle.cove_base.specs.declared.walks.Target.TheVariants.{Host}
use Rattle.cove_core.proofs.Walking.{fits_walk, wanted, wanted_below}
use Rattle.cove_hart.specs.HartStates.{hart_value}
use Rattle.cove_hart.specs.Needs.{next_need}
use Rattle.cove_hart.specs.declared.needs.Need.{Need}
use Rattle.cove_hart.specs.declared.needs.Need.TheVariants.{Walk}
use Rattle.cove_model.specs.Fits.{Fits}
use Rattle.cove_core.proofs.walks.walk_step.Goals as goal

abbrev walk_to : Target → Need
walk_to target = Walk target

pub walk-walked-requires : goal.walk-walked-requires
walk-walked-requires g c =
    let script = c.args.script.now in
    let held = hart_value c.args.hart.now in
    let page = c.in-Walk-Host.page in
    let needed : next_need script held c.args.phase ≡ Walk (Host page) = sym c.next.ensures ∙ c.in-Walk-Host.is ∙ ap walk_to c.in-Walk-Host.field-0-is in
    let below = wanted_below script c.within_limits.ensures held page.0 c.requires.place (wanted script held c.args.phase page needed) in
    let few = (limits_of script c.within_limits.ensures).few_pages in
    let at = c.requires.words page.0 below in
    record { place = at.0; limit = omega arith; word = at.1 }

pub returns-clause-walked : goal.returns-clause-walked
returns-clause-walked g c =
    let script = c.args.script.now in
    let held = hart_value c.args.hart.now in
    let page = c.in-Walk-Host.page in
    let needed : next_need script held c.args.phase ≡ Walk (Host page) = sym c.next.ensures ∙ c.in-Walk-Host.is ∙ ap walk_to c.in-Walk-Host.field-0-is in
    let want = wanted script held c.args.phase page needed in
    let below = wanted_below script c.within_limits.ensures held page.0 c.requires.place want in
    let words = g.W.Words.words c.args.w.now in
    let walked = c.walk-walked.result in
    record {
      page = page;
      needed = needed;
      walked = walked;
      finds = c.walk-walked.ensures.walked;
      left_is = c.note.ensures;
      fits = λ mon kept fits.
          subst (Fits script mon.history) (sym c.note.ensures) (fits_walk script words held page walked below want c.walk-walked.ensures.walked mon kept fits);
    }
