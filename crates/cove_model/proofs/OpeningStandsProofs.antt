-- Words that are all 0 stand for the opening state.
use Rattle.std.proofs.Common.{◌≡◌, ℕ, ltb, List, get_or, replicate, refl, sym, subst, arith}
use Rattle.std.proofs.lemmas.List.{length-replicate}
use Rattle.std.proofs.lemmas.Bool.{le-ltb}
use Rattle.cove_model.specs.Machine.{epoch_word, answered_word, table_word, tvm_word, hart_word, all_words, opening, PageStands, epoch_in, answered_in, maps_of}
use Rattle.cove_model.specs.WordLaws.{OpeningWordsStand}
use Rattle.cove_model.proofs.Lists.{replicate_zero}
use Rattle.cove_model.proofs.Runs.{opening_page, opening_length}
use Rattle.cove_model.proofs.ToldProofs.{filter_none}

pub opening_stands : OpeningWordsStand
opening_stands script =
    let n = all_words script.pages script.harts in
    let words : List ℕ = replicate n 0 in
    let none : epoch_in script.pages words ≡ 0 = replicate_zero n (epoch_word script.pages) in
    record {
      stands = record {
        size = length-replicate n 0;
        owners = record {
          page_count = opening_length script;
          hart_count = refl;
          page = λ p within. subst (PageStands script.harts (epoch_in script.pages words) (answered_in script.pages words) (maps_of (opening script) p) (get_or words p 0)) (sym (opening_page script p within)) (replicate_zero n p);
          unanswered = sym (filter_none (λ k. ltb (answered_in script.pages words k) (epoch_in script.pages words)) 0 script.harts (λ k low high. le-ltb (answered_in script.pages words k) (epoch_in script.pages words) (omega arith)));
        };
        tables = λ p i within small e. replicate_zero n (table_word script.pages p i);
        unused = replicate_zero n (tvm_word script.pages script.harts 0);
        seats = λ hart on. replicate_zero n (hart_word script.pages script.harts hart);
      };
      within = λ hart on. let number : answered_in script.pages words hart ≡ 0 = replicate_zero n (answered_word script.pages hart) in omega arith;
    }
