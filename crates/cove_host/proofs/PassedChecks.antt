-- What a check tells where it passes.
use Rattle.std.proofs.Common.{◌≡◌, ◌+◌, ◌/◌, ◌≤◌, ℕ, suc, Bool, true, false, List, Result, Ok, Err, Some, length, refl, subst, sym}
use Rattle.std.proofs.lemmas.Bool.{ltb-false, not-false}
use Rattle.std.specs.Prelude.{OnOk}
use Rattle.cove_model.specs.Machine.{Reply, Status, AllFree, Live, WithinMemory, every, is_free, plain, State, find_tvm}
use Rattle.cove_host.proofs.LifeTold.{both_live}
use Rattle.cove_host.specs.Checked.{checked}
use Rattle.cove_model.specs.Tvms.{Tvm as ModelTvm}
use Rattle.cove_tvm.specs.GivenRuns.{MayGive}
use Rattle.cove_tvm.specs.Stands.{Stands}
use Rattle.cove_tvm.specs.TvmTables.{live_at}
use Rattle.cove_tvm.specs.declared.ground.Ground.{Ground}
use Rattle.cove_tvm.specs.declared.machines.Tvm.{Tvm}

passing : (fails : Bool) (status : Status) (P : Type 0) → (fails ≡ false → P) → OnOk (checked (plain fails status)) P
passing true status P tells = tt
passing false status P tells = tells refl

pub on_pass : (fails : Bool) (status : Status) (P : Type 0) (r : Result (Unit {0}) Reply) → r ≡ checked (plain fails status) → (fails ≡ false → P) → OnOk r P
on_pass fails status P r is tells = subst (λ (answer : Result (Unit {0}) Reply). OnOk answer P) (sym is) (passing fails status P tells)

-- what is known anyway
pub on_any : {P : Type 0} (r : Result (Unit {0}) Reply) → P → OnOk r P
on_any (Ok u) known = known
on_any (Err reply) known = tt

-- the pages of a run within the memory are on the board
pub inside_passes : {words : List ℕ} {G : Ground} {S : State} (base n : ℕ) → Stands words G S → (WithinMemory S base n).fails ≡ false → base / 4096 + n ≤ G.pages
inside_passes {words} {G} {S} base n stands e =
    subst (λ pages. base / 4096 + n ≤ pages) stands.words_stand.stands.owners.page_count (ltb-false (length S.pages) (base / 4096 + n) e)

-- ---- pages that are given to a TVM

-- what is known of a call that gives a run of pages to a TVM, where its checks pass
pub record Gives (words : List ℕ) (G : Ground) (S : State) (t base n : ℕ) : Type 0 where
  pub old : Tvm
  pub model : ModelTvm
  pub live : live_at G.tvms t ≡ Some old
  pub found : find_tvm S t ≡ Some model
  pub inside : base / 4096 + n ≤ G.pages
  pub free : every is_free (base / 4096) n S.pages ≡ true

pub gives : {words : List ℕ} {G : Ground} {S : State} (t base n : ℕ) → Stands words G S → (Live S t).fails ≡ false → (WithinMemory S base n).fails ≡ false
    → (AllFree S base n).fails ≡ false → Gives words G S t base n
gives {words} {G} {S} t base n stands live inside free =
    let both = both_live words G S t (live_at G.tvms t) (find_tvm S t) (stands.tvm t) live in
    record {
      old = both.0;
      model = both.1;
      live = both.2;
      found = both.3;
      inside = inside_passes base n stands inside;
      free = not-false (every is_free (base / 4096) n S.pages) free;
    }

pub may_give : {words : List ℕ} {G : Ground} {S : State} {k base n : ℕ} → Stands words G S → (one : Gives words G S (suc k) base n)
    → MayGive words G S k base n one.old one.model
may_give stands one = record { stands = stands; live = one.live; found = one.found; inside = one.inside; free = one.free }
