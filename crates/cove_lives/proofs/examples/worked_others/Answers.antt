use Rattle.std.proofs.Common.{◌∙◌, ℕ, true≢false, refl, sym, ap, arith}
use Rattle.std.proofs.lemmas.Option.{none-some}
use Rattle.cove_model.specs.States.{Seat}
use Rattle.std.specs.Prelude.{Option}
use Rattle.cove_lives.proofs.examples.worked_others.Goals as goal

pub returns-clause-same : goal.returns-clause-same
returns-clause-same c = λ words G S. record {
  words_leave = λ u other few. record {
    size = refl;
    page = λ p role on. (λ is. is, λ is. is);
    table = λ p i on low own. refl;
    number = refl;
    inside = λ number hart on. refl;
  };
  same_live = λ u other. refl;
  same_state = λ u other. refl;
  seats = refl;
}

pub returns-clause-taken : goal.returns-clause-taken
returns-clause-taken c = λ words G S tvm live leaves. none-some tvm (leaves.same_live 2 (λ e. omega arith) ∙ live)

pub returns-clause-moved : goal.returns-clause-moved
returns-clause-moved c = λ words G leaves.
    none-some (record { tvm = 1; cpu = 0 }) (sym (ap (λ (seats : ℕ → Option Seat). seats 0) leaves.seats))

pub returns-clause-parts : goal.returns-clause-parts
returns-clause-parts c = λ words G S stands. record {
  words_stand = stands.words_stand;
  frames_stand = stands.frames;
  board = stands.board;
  own = stands.tvm 1;
  counted = stands.counted;
}

pub returns-clause-kicked : goal.returns-clause-kicked
returns-clause-kicked c = λ words G some stands. true≢false (stands.board.kicked 0 some)
