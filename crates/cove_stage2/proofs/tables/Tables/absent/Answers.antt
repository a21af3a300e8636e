use Rattle.std.proofs.Common.{◌≡◌, ◌+◌, ◌==◌, ◌∙◌, ap, arith}
use Rattle.cove_base.specs.Executions.{flag}
use Rattle.cove_base.specs.Tables.{entry_in}
use Rattle.cove_stage2.proofs.LackedLemmas.{flag-most, absent_among-rest}
use Rattle.cove_stage2.proofs.WayLemmas.{few-slots}
use Rattle.cove_stage2.proofs.tables.Tables.absent.Goals as goal

pub overflow_add-n : goal.overflow_add-n
overflow_add-n g c = let few = few-slots c.args.self.now.mode c.args.depth c.requires.depth in omega (arith, few, c.requires.slots, c.from.ensures, c.loop-i-test.true)

pub loop-i-preserved : goal.loop-i-preserved
loop-i-preserved g c =
    let pages = c.args.self.now.pages in
    let root = c.args.self.now.root.0 in
    let words = g.W.Words.words c.args.w.now in
    let depth = c.args.depth in
    let i = c.loop-i.i in
    let kept = c.entry.ensures.unchanged in
    let before = c.loop-i.invariant.unchanged in
    let here : c.flag-absent.result ≡ flag (entry_in pages root words depth (c.args.n + i) == 0) =
    c.flag-absent.ensures
    ∙ ap (λ e. flag (e == 0)) (c.entry.ensures.entry ∙ ap (λ ws. entry_in pages root ws depth (c.args.n + c.from.result)) before.words ∙ ap (λ j. entry_in pages root words depth (c.args.n + j)) c.from.ensures) in
    let least = flag-most (c.entry.result == 0) in
    let rest = absent_among-rest pages root words depth c.args.n i c.args.k c.loop-i-test.true in
    let counted = c.loop-i.invariant.counted in
    record {
      counted = omega (arith, here, rest, counted);
      most = omega (arith, c.flag-absent.ensures, least);
      unchanged = record {
        words = kept.words ∙ before.words;
        clean = kept.clean ∙ before.clean;
        guard = kept.guard ∙ before.guard;
      };
    }
