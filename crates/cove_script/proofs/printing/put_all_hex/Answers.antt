use Rattle.std.proofs.Common.{append_assoc, take}
use Rattle.std.proofs.lemmas.List.{take_more}
use Rattle.cove_base.specs.Numbers.{hex_text}
use Rattle.cove_text.proofs.HexDigits.{hex_text-append}
use Rattle.cove_script.proofs.printing.put_all_hex.Goals as goal

pub loop-byte-preserved : goal.loop-byte-preserved
loop-byte-preserved c =
    let more = take_more c.args.bytes.now c.loop-byte.byte-index 0 c.loop-byte-test.true in
    rw (c.in_ok-extend.ensures.ok, c.as_slice.ensures.bytes, c.put_hex.ensures.text, c.clear.ensures, c.loop-byte.invariant, more, hex_text-append)
    (append_assoc c.args.out.now (hex_text (take c.loop-byte.byte-index c.args.bytes.now)) _)
