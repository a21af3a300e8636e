use Rattle.cove_model.proofs.laws.one_entry_later.Goals as goal
use Rattle.cove_model.specs.Machine.{Entry, IsQuietAt, IsReached}
use Rattle.cove_model.proofs.AtTheEnd.{after_push, each_front, each_last, each_push, legal_front, legal_last, legal_push, own_same, tlb_push, told_same}
use Rattle.std.proofs.Common.{List, [], refl}

pub returns-clause-state : goal.returns-clause-state
returns-clause-state c = after_push

pub returns-clause-legal : goal.returns-clause-legal
returns-clause-legal c = λ script history entry.
    (λ legal. (legal_front script history entry legal, legal_last script history entry legal), λ parts. legal_push script history entry parts.0 parts.1)

pub returns-clause-cached : goal.returns-clause-cached
returns-clause-cached c = λ script history entry.
    let P = λ (before : List Entry) (e : Entry). IsReached script before e.hart.0 e.event in
    (λ all. (each_front P [] history entry all, each_last P [] history entry all), λ parts. each_push P [] history entry parts.0 parts.1)

pub returns-clause-quiet : goal.returns-clause-quiet
returns-clause-quiet c = λ script history entry.
    (λ all. (each_front (IsQuietAt script) [] history entry all, each_last (IsQuietAt script) [] history entry all), λ parts. each_push (IsQuietAt script) [] history entry parts.0 parts.1)

pub returns-clause-own : goal.returns-clause-own
returns-clause-own c = λ history entry. own_same history entry entry.hart.0 refl

pub returns-clause-told : goal.returns-clause-told
returns-clause-told c = λ history entry line ask. told_same history entry entry.hart.0 line refl ask

pub returns-clause-translations : goal.returns-clause-translations
returns-clause-translations c = tlb_push
