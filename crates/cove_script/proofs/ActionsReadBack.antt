-- What a hart does is read back from its words.
use Rattle.std.proofs.Common.{◌≡◌, ℕ, zero, suc, ◌<◌, ◌^◌, true, false, List, [], ◌∷◌, map, codes, Option, Some, refl, ap, ◌∙◌, arith}
use Rattle.std.proofs.lemmas.Bool.{and_from}
use Rattle.std.specs.List.{list_all}
use Rattle.cove_model.specs.Machine.{HostCall, Convert, Line}
use Rattle.cove_base.specs.declared.scripts.Line.TheVariants.{Call, Load, Store}
use Rattle.cove_base.specs.CallWords.{word_of, arguments}
use Rattle.cove_base.specs.Numbers.{number_text, natural_text}
use Rattle.cove_model.specs.Grammar.{Word, value, is_line_word, line_of, are_numbers, HartLine, is_remark, content_of}
use Rattle.cove_model.specs.ScriptText.{action_words}
use Rattle.cove_script.specs.MachineNumbers.{fits, line_numbers}
use Rattle.cove_base.proofs.JoinedWords.{is_word}
use Rattle.cove_script.proofs.NumberWords.{WriteAll, write_all, number_text_writes}

-- the word of a call, among the words of a hart's line
record Names (word : Word) (line : List ℕ → Option Line) (call : HostCall) : Type 0 where
  printed : is_word word ≡ true
  known : is_line_word word ≡ true
  made : line (arguments call) ≡ Some (Call call)

call_names : (call : HostCall) → Names (word_of call) (line_of (word_of call)) call
unfolding is_line_word line_of
call_names (Convert base n) = record { printed = refl; known = refl; made = refl }
call_names _ = record { printed = refl; known = refl; made = refl }

-- the words of what a hart does make it again
pub record Acts (word : Word) (words : List Word) (line : Line) : Type 0 where
  pub printed : list_all is_word (word ∷ words) ≡ true
  pub known : is_line_word word ≡ true
  pub number : are_numbers words ≡ true
  pub made : line_of word (map value words) ≡ Some line

-- the first of the words, and those after it
abbrev pub action_word : Line → Word
action_word (Call call) = word_of call
action_word (Load addr) = codes "ld"
action_word (Store addr value) = codes "sd"

abbrev pub action_numbers : Line → List Word
action_numbers line = map number_text (line_numbers line)

pub action_words_are : (line : Line) → action_words line ≡ action_word line ∷ action_numbers line
action_words_are (Call call) = refl
action_words_are (Load addr) = refl
action_words_are (Store addr value) = refl

numbers_write : (numbers : List ℕ) → list_all fits numbers ≡ true → WriteAll (map number_text numbers) numbers
numbers_write numbers small = write_all number_text (2 ^ 64) number_text_writes numbers small

pub acts : (line : Line) → list_all fits (line_numbers line) ≡ true → Acts (action_word line) (action_numbers line) line
unfolding is_line_word line_of
acts (Call call) small =
    let names : Names (word_of call) (line_of (word_of call)) call = call_names call in
    let all : WriteAll (map number_text (arguments call)) (arguments call) = numbers_write (arguments call) small in
    record {
      printed = and_from _ _ names.printed all.printed;
      known = names.known;
      number = all.number;
      made = ap (λ (ns : List ℕ). line_of (word_of call) ns) all.meaning ∙ names.made;
    }
acts (Load addr) small =
    let all : WriteAll (map number_text (addr ∷ [])) (addr ∷ []) = numbers_write (addr ∷ []) small in
    record { printed = all.printed; known = refl; number = all.number; made = ap (λ (ns : List ℕ). line_of (codes "ld") ns) all.meaning }
acts (Store addr value) small =
    let all : WriteAll (map number_text (addr ∷ value ∷ [])) (addr ∷ value ∷ []) = numbers_write (addr ∷ value ∷ []) small in
    record { printed = all.printed; known = refl; number = all.number; made = ap (λ (ns : List ℕ). line_of (codes "sd") ns) all.meaning }

-- ---- the hart that begins a line

-- a first word that begins a hart's line
pub record IsHartWord (hart : Word) : Type 0 where
  pub no_remark : is_remark hart ≡ false
  pub content : (word : Word) (words : List Word) → content_of hart (word ∷ words) ≡ HartLine hart word words

pub hart_is_hart_word : (hart : ℕ) → hart < 8 → IsHartWord (natural_text hart)
unfolding content_of
hart_is_hart_word zero small = record { no_remark = refl; content = λ word words. refl }
hart_is_hart_word (suc zero) small = record { no_remark = refl; content = λ word words. refl }
hart_is_hart_word (suc (suc zero)) small = record { no_remark = refl; content = λ word words. refl }
hart_is_hart_word (suc (suc (suc zero))) small = record { no_remark = refl; content = λ word words. refl }
hart_is_hart_word (suc (suc (suc (suc zero)))) small = record { no_remark = refl; content = λ word words. refl }
hart_is_hart_word (suc (suc (suc (suc (suc zero))))) small = record { no_remark = refl; content = λ word words. refl }
hart_is_hart_word (suc (suc (suc (suc (suc (suc zero)))))) small = record { no_remark = refl; content = λ word words. refl }
hart_is_hart_word (suc (suc (suc (suc (suc (suc (suc zero))))))) small = record { no_remark = refl; content = λ word words. refl }
hart_is_hart_word (suc (suc (suc (suc (suc (suc (suc (suc more)))))))) small = absurd (omega arith)
