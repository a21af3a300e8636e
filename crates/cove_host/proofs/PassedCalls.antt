-- What a call leaves that every check lets pass, by its stores.
use Rattle.std.proofs.Common.{◌≡◌, ◌-◌, ◌≤◌, ◌∙◌, ℕ, suc, List, get_or, Ok, sym, ap, subst, arith}
use Rattle.cove_model.specs.Machine.{count_word, epoch_word, tvm_word, AllAllowed, stored, Success, Rule, IsLawful, MakesLawful, State}
use Rattle.cove_host.proofs.AcceptedCalls.{accepts, rises_within}
use Rattle.cove_host.proofs.CheckedLemmas.{none_fails}
use Rattle.cove_tvm.specs.Called.{Called, IsMet}
use Rattle.cove_host.specs.Checked.{all_checked}
use Rattle.cove_tvm.specs.Stands.{Stands}
use Rattle.cove_tvm.specs.TvmLends.{with_tvm}
use Rattle.cove_tvm.specs.declared.ground.Ground.{Ground}
use Rattle.cove_tvm.specs.declared.machines.Tvm.{Tvm}

-- every check passes in every state that words and ground stand for
abbrev pub AllPass : (State → Rule) → List ℕ → Ground → Type 0
AllPass rule_in words G = (S : State) → Stands words G S → Ok tt ≡ all_checked (rule_in S).checks

-- its stores are lawful and leave the words behind the tables, and it has no value
pub passed_call : (hart : ℕ) (rule_in : State → Rule) (words : List ℕ) (G H : Ground) (ss : List (ℕ × ℕ)) → AllPass rule_in words G
    → ((S : State) → IsMet S → Stands words G S → Stands (stored words ss) H (rule_in S).outcome.state)
    → ((S : State) → (rule_in S).outcome.value ≡ 0)
    → AllAllowed (IsLawful G.pages G.harts hart words) words ss
    → ((at : ℕ) → epoch_word G.pages ≤ at → get_or (stored words ss) at 0 ≡ get_or words at 0)
    → Called hart rule_in words (stored words ss) G H (record { status = Success; value = 0 })
passed_call hart rule_in words G H ss told after none lawful behind =
    accepts hart rule_in words G H ss lawful
    (λ most within.
    let epoch = behind (epoch_word G.pages) (omega arith) in
    rises_within G.pages G.harts words (stored words ss) most (omega arith) (λ t. behind (tvm_word G.pages G.harts t) (omega arith)) within)
    (behind (count_word G.pages G.harts) (omega arith))
    (λ S met stands. record { none = none_fails (rule_in S).checks (told S stands); value = none S; stands = after S met stands })

-- the same by words that lawful stores lead to
pub lawful_call : (hart : ℕ) (rule_in : State → Rule) (words new : List ℕ) (G H : Ground) → AllPass rule_in words G
    → ((S : State) → IsMet S → Stands words G S → Stands new H (rule_in S).outcome.state)
    → ((S : State) → (rule_in S).outcome.value ≡ 0)
    → MakesLawful G.pages G.harts hart words words new
    → ((at : ℕ) → epoch_word G.pages ≤ at → get_or new at 0 ≡ get_or words at 0)
    → Called hart rule_in words new G H (record { status = Success; value = 0 })
lawful_call hart rule_in words new G H told after none lawful behind =
    subst (λ ws. Called hart rule_in words ws G H (record { status = Success; value = 0 })) (sym lawful.2)
    (passed_call hart rule_in words G H lawful.0 told
    (λ S met stands. subst (λ ws. Stands ws H (rule_in S).outcome.state) lawful.2 (after S met stands)) none lawful.1
    (λ at past. ap (λ ws. get_or ws at 0) (sym lawful.2) ∙ behind at past))

-- the ground with frames that were filled and a TVM that was written anew
pub stands_written : (G : Ground) (frames : List (List ℕ)) (k : ℕ) {H : Ground} {T : State} {new : List ℕ} {now renewed : Tvm}
    → H ≡ record G { memory = frames; tvms = with_tvm G.tvms (suc k - 1) now } → now ≡ renewed
    → Stands new (record G { memory = frames; tvms = with_tvm G.tvms k renewed }) T → Stands new H T
stands_written G frames k {H} {T} {new} {now} {renewed} is same stands =
    let before : suc k - 1 ≡ k = omega arith in
    subst (λ ground. Stands new ground T) (sym is)
    (subst (λ m. Stands new (record G { memory = frames; tvms = with_tvm G.tvms m now }) T) (sym before)
    (subst (λ one. Stands new (record G { memory = frames; tvms = with_tvm G.tvms k one }) T) (sym same) stands))
