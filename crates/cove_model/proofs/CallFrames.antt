-- What no call of the host changes: the board's numbers and key, the ended lines, and how many pages there are.
use Rattle.std.proofs.Common.{◌≡◌, ℕ, ◌+◌, ◌/◌, length, refl, ◌∙◌}
use Rattle.std.proofs.lemmas.List.{length-map}
use Rattle.cove_model.specs.Machine.{HostCall, Convert, GlobalFence, LocalFence, Reclaim, Create, Tables, Measured, Zero, Remove, Destroy, is_among, AsData, AsRoot, AsState, AsTable, AsVcpu, change, converted, fence_answered, fenced, reclaimed, without, freed, given_to, removed, State, harts_below}
use Rattle.cove_base.specs.declared.calls.HostCall.TheVariants.{Vcpu}
use Rattle.cove_model.proofs.Moves.{outcome_state}
use Rattle.cove_model.proofs.PageRuns.{length_change_each}
use Rattle.cove_model.proofs.Runs.{length_change}

pub record Framed (S T : State) : Type 0 where
  pub harts : T.harts ≡ S.harts
  pub files : T.files ≡ S.files
  pub key : T.key ≡ S.key
  pub ended : T.ended ≡ S.ended
  pub size : length T.pages ≡ length S.pages

pub framed : (S : State) → Framed S S
framed S = record { harts = refl; files = refl; key = refl; ended = refl; size = refl }

size_call : (S : State) (h : ℕ) (call : HostCall) → length (outcome_state S h call).pages ≡ length S.pages
size_call S h (Convert base n) = length_change (converted (harts_below S.harts)) (base / 4096) n S.pages
size_call S h GlobalFence = length-map S.pages (fenced h (without h (harts_below S.harts)))
size_call S h LocalFence = length-map S.pages (fence_answered h)
size_call S h (Reclaim base n) = length_change reclaimed (base / 4096) n S.pages
size_call S h (Create root state) =
    length_change (given_to (S.made + 1) AsState) (state / 4096) 1 (change (given_to (S.made + 1) AsRoot) (root / 4096) 4 S.pages)
    ∙ length_change (given_to (S.made + 1) AsRoot) (root / 4096) 4 S.pages
size_call S h (Tables t base n) = length_change (given_to t AsTable) (base / 4096) n S.pages
size_call S h (Measured t src dst n gpa) = length_change_each (λ i. given_to t (AsData (gpa / 4096 + i))) (dst / 4096) n S.pages
size_call S h (Vcpu t v state) = length_change (given_to t AsVcpu) (state / 4096) 1 S.pages
size_call S h (Zero t base n gpa) = length_change_each (λ i. given_to t (AsData (gpa / 4096 + i))) (base / 4096) n S.pages
size_call S h (Remove t gpa n) = length-map S.pages (removed t (is_among gpa n))
size_call S h (Destroy t) = length-map S.pages (freed t)
size_call S h _ = refl

pub framed_call : (S : State) (h : ℕ) (call : HostCall) → Framed S (outcome_state S h call)
framed_call S h call = record { harts = harts call; files = files call; key = key call; ended = ended call; size = size_call S h call }
  where
    harts : (c : HostCall) → (outcome_state S h c).harts ≡ S.harts
    harts (Convert base n) = refl
    harts _ = refl

    files : (c : HostCall) → (outcome_state S h c).files ≡ S.files
    files (Convert base n) = refl
    files _ = refl

    key : (c : HostCall) → (outcome_state S h c).key ≡ S.key
    key (Convert base n) = refl
    key _ = refl

    ended : (c : HostCall) → (outcome_state S h c).ended ≡ S.ended
    ended (Convert base n) = refl
    ended _ = refl
