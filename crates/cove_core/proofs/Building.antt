-- What was taken for a run is fresh.
use Rattle.std.proofs.Common.{◌≡◌, ℕ, ◌<◌, List, [], None, IfSome, inl, inr, replicate, slice_get, ap, arith, refl}
use Rattle.std.proofs.lemmas.Bool.{cases_lt}
use Rattle.std.proofs.lemmas.Option.{IfSome_then, slice_get_past}
use Rattle.cove_model.specs.Machine.{HartValue, all_words, ScriptValue, Entry}
use Rattle.cove_core.proofs.Opening.{opening_fits, opening_kept, opening_progress}
use Rattle.cove_core.specs.Plays.{IsUnplayed, HartFits}
use Rattle.cove_core.specs.Seats.{AreNew, AtFirstLines, IsNew}
use Rattle.cove_hart.specs.declared.states.HartState.{HartState}
use Rattle.cove_tvm.specs.GroundLaws.{IsNewGround}
use Rattle.cove_tvm.specs.declared.ground.Ground.{Ground}

-- a new hart is seated at the empty history
new_seated : (script : ScriptValue) (history : List Entry) (k : ℕ) (hart : HartState) → history ≡ [] → k < script.harts → IsNew script k hart → HartFits script history k hart
new_seated script history k hart unplayed below new = record {
  is = ap (λ (held : HartValue). held.hart) new.fresh;
  fits = rw (unplayed, new.fresh) (opening_fits script k hart.place below new.place);
}

new_unwalked : (script : ScriptValue) (harts : List HartState) → AreNew script script.harts harts → (k : ℕ) → IfSome (slice_get harts k) (λ hart. hart.walked ≡ None)
new_unwalked script harts new k = elim (cases_lt k script.harts) [
  | inl below ↦ IfSome_then (slice_get harts k) (new.1 k below) (λ hart is. ap (λ (held : HartValue). held.walked) is.fresh)
  | inr past ↦ rw (slice_get_past harts k (omega (arith, new.0))) tt
]

pub built_fresh :
    (script : ScriptValue) (G : Ground) (history : List Entry) (places words : List ℕ) (harts : List HartState)
    → IsNewGround script G → history ≡ [] → AtFirstLines script script.harts places
    → words ≡ replicate (all_words script.pages script.harts) 0 → AreNew script script.harts harts
    → IsUnplayed script (record { mon = record { ground = G; history = history; progress = places }; words = words; harts = harts; rounds_made = 0 })
built_fresh script G history places words harts opens unplayed first zeros new =
    record {
      ready = record {
        kept = rw (zeros, unplayed) (opening_kept script G places opens (opening_progress script places first.0 first.1));
        count = new.0;
        seated = λ k below. IfSome_then (slice_get harts k) (new.1 k below) (λ hart is. new_seated script history k hart unplayed below is);
      };
      unplayed = unplayed;
      unwalked = new_unwalked script harts new;
      unbegun = refl;
    }
