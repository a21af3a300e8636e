use Rattle.std.proofs.Common.{◌≡◌, ◌++◌, ◌∷◌, [], length, false, ◌%◌, arith, rules}
use Rattle.std.proofs.lemmas.Bool.{ne_eqb}
use Rattle.cove_base.specs.Numbers.{is_odd}
use Rattle.cove_text.proofs.HexDigits.{IsReadSoFar-more, hex_of-read}
use Rattle.cove_text.proofs.hex_words.read_hex.Goals as goal

pub loop-i-preserved : goal.loop-i-preserved
loop-i-preserved c =
    let pushed : c.push.new.self ≡ c.loop-i.bytes ++ c.in_ok-byte.byte ∷ [] = search rules in
    let read = rw c.in_ok-byte.ensures.ok_part at c.read_byte.ensures in
    rw pushed (IsReadSoFar-more c.args.word.now c.loop-i.i c.loop-i.bytes c.in_ok-byte.byte (omega arith) c.loop-i.invariant read.0 read.1)

pub returns-clause-ok : goal.returns-clause-ok
returns-clause-ok c =
    let even : is_odd c.args.word.now ≡ false = ne_eqb (length c.args.word.now % 2) 1 (λ e. omega (arith, e, c.if-word-ne0.false)) in
    hex_of-read c.args.word.now c.loop-i.i c.loop-i.bytes even (omega arith) c.loop-i.invariant
