use Rattle.std.specs.Prelude.{None}
use Rattle.cove_base.specs.HartValues.{HartValue}
use Rattle.cove_hart.specs.declared.states.HartState.{HartState}

-- what a hart holds, as the definitions over histories speak of it; harts run no guests yet
abbrev pub hart_value : HartState → HartValue
hart_value state = record {
  hart = state.hart.0;
  ended = state.ended;
  place = state.place;
  rings = state.rings;
  walked = state.walked;
  inside = None;
}
