use Rattle.std.proofs.Common.{ap, arith}
use Rattle.cove_base.proofs.ScriptLimits.{limits_of}
use Rattle.cove_base.specs.Scripts.{ScriptValue}
use Rattle.cove_core.proofs.builds.new_ground.Goals as goal

pub new-requires : goal.new-requires
new-requires c =
    omega (arith, (limits_of c.args.script.now c.within_limits.ensures).few_pages, ap (λ (s : ScriptValue). s.pages) c.script.view_is)
