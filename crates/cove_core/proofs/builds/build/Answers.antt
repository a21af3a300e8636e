use Rattle.std.proofs.Common.{replicate, ap, ◌∙◌, arith}
use Rattle.cove_base.proofs.ScriptLimits.{limits_of}
use Rattle.cove_model.specs.Machine.{all_words, ScriptValue}
use Rattle.cove_core.proofs.Building.{built_fresh}
use Rattle.cove_core.proofs.builds.build.Goals as goal

pub all_words-requires-clause-pages : goal.all_words-requires-clause-pages
all_words-requires-clause-pages c =
    omega (arith, (limits_of c.args.script.now c.within_limits.ensures).few_pages, ap (λ (s : ScriptValue). s.pages) c.script.view_is)

pub all_words-requires-clause-harts : goal.all_words-requires-clause-harts
all_words-requires-clause-harts c =
    omega (arith, (limits_of c.args.script.now c.within_limits.ensures).few_harts, ap (λ (s : ScriptValue). s.harts) c.script.view_is)

pub returns-clause-fresh : goal.returns-clause-fresh
returns-clause-fresh c =
    let script = c.script.view_is in
    let count = c.all_words.ensures ∙ ap (λ (s : ScriptValue). all_words s.pages s.harts) script in
    built_fresh c.args.script.now _ _ _ _ _ c.in_ok-ground.ensures c.in_ok-history.ensures c.in_ok-progress.ensures (c.in_ok-words.ensures ∙ ap (λ n. replicate n 0) count) c.in_ok-harts.ensures
