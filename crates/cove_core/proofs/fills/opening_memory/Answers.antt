use Rattle.std.proofs.Common.{ap, ◌∙◌, arith, length}
use Rattle.std.proofs.lemmas.List.{length-replicate, take_all}
use Rattle.cove_base.proofs.ScriptLimits.{limits_of}
use Rattle.cove_base.specs.Scripts.{ScriptValue}
use Rattle.cove_core.proofs.FillLemmas.{fill_within, filled_stands, opening_more, show_same, show_zeros}
use Rattle.cove_mem.specs.Frames.{zero_frame}
use Rattle.cove_core.proofs.fills.opening_memory.Goals as goal

pub loop-fill-init : goal.loop-fill-init
loop-fill-init c = record {
  shows = rw c.in_ok-memory.ensures (show_zeros _);
  size = ap length c.in_ok-memory.ensures ∙ length-replicate _ zero_frame ∙ ap (λ (s : ScriptValue). s.pages) c.script.view_is;
}

pub put_fill-requires-clause-within : goal.put_fill-requires-clause-within
put_fill-requires-clause-within c =
    let same = c.as_slice-fill-items.ensures ∙ ap (λ (s : ScriptValue). s.fills) c.script.view_is in
    rw c.loop-fill.invariant.size
    (fill_within c.args.script.now c.within_limits.ensures c.loop-fill.fill-index _ (rw same at c.loop-fill-test.true) (rw same at c.fill-item.is))

pub put_fill-requires-clause-limit : goal.put_fill-requires-clause-limit
put_fill-requires-clause-limit c = omega (arith, (limits_of c.args.script.now c.within_limits.ensures).few_pages, c.loop-fill.invariant.size)

pub loop-fill-preserved : goal.loop-fill-preserved
loop-fill-preserved c =
    let same = c.as_slice-fill-items.ensures ∙ ap (λ (s : ScriptValue). s.fills) c.script.view_is in
    record {
      shows = show_same c.put_fill.new.memory _ _ (λ a. opening_more c.args.script.now.fills c.loop-fill.fill-index c.fill-item.result a (rw same at c.loop-fill-test.true) (rw same at c.fill-item.is))
          (c.put_fill.ensures.shows _ c.loop-fill.invariant.shows);
      size = c.put_fill.ensures.size ∙ c.loop-fill.invariant.size;
    }

pub returns : goal.returns
returns c =
    let same = c.as_slice-fill-items.ensures ∙ ap (λ (s : ScriptValue). s.fills) c.script.view_is in
    filled_stands c.args.script.now c.loop-fill.memory c.loop-fill.invariant.size
    (rw (take_all c.loop-fill.fill-index c.args.script.now.fills (rw same at c.loop-fill-test.false)) at c.loop-fill.invariant.shows)
