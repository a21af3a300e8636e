-- The rule holds of a new board.
use Rattle.std.proofs.Common.{◌≡◌, ℕ, IsTrue, List, [], ◌∷◌, zero, suc, replicate, refl, sym, subst, arith}
use Rattle.cove_model.specs.Machine.{all_words, ScriptValue, is_within_limits}
use Rattle.cove_board.specs.Parts.{Part, monitor_alone, opening_part}
use Rattle.cove_board.specs.Ruled.{IsRuled, Sits}
use Rattle.cove_model.proofs.AloneProofs.{opening_keeps_rule}
use lib.ListN.{get_elem?}
use mathlib.Core.Option.{some, some-injective, some-ne-none}

pub opening_ruled : (script : ScriptValue) (words : List ℕ) → IsTrue (is_within_limits script) → words ≡ replicate (all_words script.pages script.harts) 0 → IsRuled script words (monitor_alone (opening_part script) ∷ [])
opening_ruled script words limits zeros =
    let opens = opening_keeps_rule script in
    record {
      part = opening_part script;
      seat = 0;
      seats = λ h. 0;
      words_are = zeros;
      monitor = record {
        script_is = refl;
        limits = limits;
        monitored = opens.0;
        bounded = opens.1;
        clean = λ clean. refl;
      };
      here = (monitor_alone (opening_part script), refl, refl);
      each = sits;
      there = λ h below. absurd (omega arith);
    }
  where
    sits : (id : ℕ) (v : Part) → get_elem? (monitor_alone (opening_part script) ∷ []) id ≡ some v → Sits script (opening_part script) 0 (λ h. 0) id v
    sits zero v at = subst (Sits script (opening_part script) 0 (λ h. 0) 0) (some-injective (monitor_alone (opening_part script)) v at) ((refl, refl), tt)
    sits (suc id) v at = absurd (some-ne-none v (sym at))
