use Rattle.std.proofs.Common.{Some, subst}
use Rattle.cove_model.specs.Keyed.{at}
use Rattle.cove_tvm.specs.TvmStands.{TvmStands}
use Rattle.cove_lives.proofs.examples.worked_standing.Goals as goal

pub returns : goal.returns
returns c = record {
  live = λ words G S tvm none live stands.
      subst (λ tvms. TvmStands G.pages G.harts words 1 S.seats G.files (Some tvm) (at (λ one. one.number) 1 tvms)) none
      (subst (λ one. TvmStands G.pages G.harts words 1 S.seats G.files one (at (λ one. one.number) 1 S.tvms)) live (stands.tvm 1));
}
