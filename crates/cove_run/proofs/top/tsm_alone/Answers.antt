use Rattle.cove_run.proofs.TopLemmas.{faulty_is_no_script}
use Rattle.cove_run.proofs.top.tsm_alone.Goals as goal

pub returns-in-Err-Refused-clause-script_ends : goal.returns-in-Err-Refused-clause-script_ends
returns-in-Err-Refused-clause-script_ends g c = λ bytes script told accepted spelled over source sink.
    absurd (faulty_is_no_script _ _ bytes c.in-Err-Refused.fault script told (c.in-Err-Refused.ensures.refused c.in-Err-Refused.fault (cc)) spelled)

pub returns-in-Err-Refused-clause-script_stops : goal.returns-in-Err-Refused-clause-script_stops
returns-in-Err-Refused-clause-script_stops g c = λ bytes script told accepted spelled over source sink.
    absurd (faulty_is_no_script _ _ bytes c.in-Err-Refused.fault script told (c.in-Err-Refused.ensures.refused c.in-Err-Refused.fault (cc)) spelled)
