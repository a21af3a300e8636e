use Rattle.std.proofs.Common.{◌∙◌, subst, IsTrue}
use Rattle.cove_base.specs.Scripts.{is_within_limits}
use Rattle.cove_board.proofs.Opening.{opening_ruled}
use Rattle.cove_board.proofs.boards.Board.new.Goals as goal

pub of_words-requires : goal.of_words-requires
of_words-requires c =
    opening_ruled c.args.script.now c.as_slice.result.now
    (subst (λ s. IsTrue (is_within_limits s)) c.script.view_is c.script.invariant)
    (c.as_slice.ensures ∙ c.requires)
