use Rattle.cove_run.proofs.TopLemmas.{faulty_is_no_script, script_takes_few}
use Rattle.cove_run.proofs.threads.tsm_threads.Goals as goal

pub returns-in-Ok-clause-memory : goal.returns-in-Ok-clause-memory
returns-in-Ok-clause-memory g c is = (c.run.ensures.memory is, script_takes_few _ _ c.in-Ok.script c.in-Ok.ensures.script)

pub returns-in-Err-Refused-clause-script_runs : goal.returns-in-Err-Refused-clause-script_runs
returns-in-Err-Refused-clause-script_runs g c = λ bytes script told accepted spelled threaded source sink.
    absurd (faulty_is_no_script _ _ bytes c.in-Err-Refused.fault script told (c.in-Err-Refused.ensures.refused c.in-Err-Refused.fault (cc)) spelled)
