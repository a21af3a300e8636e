use Rattle.std.proofs.Common.{◌<◌, ◌≤◌, ℕ, List, ◌+◌, ◌++◌, length, take, drop, ap, sym, subst, ◌∙◌, arith, take_all}
use Rattle.std.specs.Prelude.{flat_map}
use Rattle.std.specs.Io.KnownBytes.{Appends}
use Rattle.std.proofs.KnownBytes.{Appends-trans}
use Rattle.std.proofs.lemmas.Option.{get_or_from_slice_get, slice_get_within}
use Rattle.std.proofs.lemmas.Result.{on_err_weaker}
use Rattle.cove_base.specs.declared.events.Entry.{Entry}
use Rattle.cove_io.specs.Ends.{AppendsFront}
use Rattle.cove_journal.specs.Lines.{last_line_of}
use Rattle.cove_model.specs.Reports.{ended_line, entry_line}
use Rattle.cove_run.proofs.PrintLemmas.{appends_front, last_front, on_err, pieces_at, pieces_more}
use Rattle.cove_run.proofs.printing.print_journal.Goals as goal

pub loop-i-preserved : goal.loop-i-preserved
loop-i-preserved g c =
    let history = c.args.history.now in
    let i = c.loop-i.i in
    let entry = c.in-Some.entry in
    let found = sym c.get.ensures ∙ c.in-Some.is in
    let below : i < length history = slice_get_within history i entry found in
    let piece = c.as_slice.ensures.bytes ∙ c.put_line.ensures ∙ ap (λ (e : Entry). ended_line (entry_line e)) (sym (get_or_from_slice_get history i entry entry found)) in
    record {
      clean = cc (c.loop-i.invariant.clean, c.in_ok-write_all.ensures.clean);
      taken =
          subst (Appends (g.K.Sink.taken c.args.sink.now) (g.K.Sink.taken c.write_all.new.sink)) (ap (λ line. flat_map (λ entry. ended_line (entry_line entry)) (take i history) ++ line) piece ∙ sym (pieces_more (λ entry. ended_line (entry_line entry)) history i entry below))
          (Appends-trans _ (g.K.Sink.taken c.loop-i.sink) _ (flat_map (λ entry. ended_line (entry_line entry)) (take i history)) c.as_slice.result.now c.loop-i.invariant.taken c.in_ok-write_all.ensures.ok);
    }

pub returns-in_err-write_all-clause-front : goal.returns-in_err-write_all-clause-front
returns-in_err-write_all-clause-front g c =
    let history = c.args.history.now in
    let i = c.loop-i.i in
    let entry = c.in-Some.entry in
    let found = sym c.get.ensures ∙ c.in-Some.is in
    let below : i < length history = slice_get_within history i entry found in
    let last = ended_line (last_line_of c.args.is_whole (length history)) in
    let after = flat_map (λ entry. ended_line (entry_line entry)) (drop (i + 1) history) ++ last in
    let piece = c.as_slice.ensures.bytes ∙ c.put_line.ensures ∙ ap (λ (e : Entry). ended_line (entry_line e)) (sym (get_or_from_slice_get history i entry entry found)) in
    let whole =
    ap (λ line. flat_map (λ entry. ended_line (entry_line entry)) (take i history) ++ (line ++ after)) piece
    ∙ sym (pieces_at (λ entry. ended_line (entry_line entry)) history i entry last below) in
    on_err c.from_residual.result
    (subst (AppendsFront (g.K.Sink.taken c.args.sink.now) (g.K.Sink.taken c.write_all.new.sink)) whole
    (appends_front _ (g.K.Sink.taken c.loop-i.sink) _ (flat_map (λ entry. ended_line (entry_line entry)) (take i history)) c.as_slice.result.now after c.loop-i.invariant.taken c.in_err-write_all.ensures.front))

pub returns-clause-front : goal.returns-clause-front
returns-clause-front g c =
    let history = c.args.history.now in
    let i = c.loop-i.i in
    let past : length history ≤ i = omega (arith, c.loop-i-test.false, c.len-entries.ensures.number) in
    let all = take_all i history past in
    let text = c.as_slice-2.ensures.bytes ∙ c.put_last.ensures ∙ ap (λ (n : ℕ). ended_line (last_line_of c.args.is_whole n)) c.len-entries.ensures.number in
    let whole =
    ap (λ (entries : List Entry). flat_map (λ entry. ended_line (entry_line entry)) entries ++ c.as_slice-2.result.now) all
    ∙ ap (λ line. flat_map (λ entry. ended_line (entry_line entry)) history ++ line) text in
    on_err_weaker c.write_all-2.result
    (λ front. subst (AppendsFront (g.K.Sink.taken c.args.sink.now) (g.K.Sink.taken c.write_all-2.new.sink)) whole
    (last_front _ (g.K.Sink.taken c.loop-i.sink) _ (flat_map (λ entry. ended_line (entry_line entry)) (take i history)) c.as_slice-2.result.now c.loop-i.invariant.taken front))
    c.write_all-2.ensures.front
