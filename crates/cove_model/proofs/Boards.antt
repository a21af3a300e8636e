-- The board of every state is the script's.
use Rattle.std.proofs.Common.{◌≡◌, ℕ, List, length, refl, sym, ap, subst, ◌∙◌, Option, Some, None}
use Rattle.std.proofs.lemmas.List.{length-replicate}
use Rattle.cove_model.specs.Machine.{ScriptValue, Entry, Event, after, IsBoardOf, Seat, State, after_event, done, line_ended}
use Rattle.cove_model.proofs.AtTheEnd.{after_harts_same, after_push, ended_length, from_end, line_pages}
use Rattle.cove_model.proofs.Frames.{framed_done}
use Rattle.cove_model.proofs.Runs.{opening_length}

line_files : (h : ℕ) (o : Option Seat) (S : State) → (line_ended h o S).files ≡ S.files
line_files h None S = refl
line_files h (Some seat) S = refl

line_key : (h : ℕ) (o : Option Seat) (S : State) → (line_ended h o S).key ≡ S.key
line_key h None S = refl
line_key h (Some seat) S = refl

board_step : (script : ScriptValue) (S : State) (h : ℕ) (event : Event) → IsBoardOf script S → IsBoardOf script (after_event S h event)
board_step script S h event board =
    let D = done S h event in
    let f = framed_done S h event in
    record {
      same_harts = after_harts_same S h event ∙ board.same_harts;
      same_files = line_files h (D.seats h) D ∙ f.files ∙ board.same_files;
      same_key = line_key h (D.seats h) D ∙ f.key ∙ board.same_key;
      same_pages = ap length (line_pages h (D.seats h) D) ∙ f.size ∙ board.same_pages;
      same_lists = ended_length S h event ∙ board.same_lists;
    }

pub board_of : (script : ScriptValue) (H : List Entry) → IsBoardOf script (after script H)
board_of script = from_end (λ H. IsBoardOf script (after script H))
    (λ H e more. subst (IsBoardOf script) (sym (after_push script H e)) (board_step script (after script H) e.hart.0 e.event more))
    (record { same_harts = refl; same_files = refl; same_key = refl; same_pages = opening_length script; same_lists = length-replicate script.harts 0 })
