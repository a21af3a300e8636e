-- What holds of every kind of call.
use Rattle.std.proofs.Common.{◌≡◌, ◌≤◌, true, length, Some, refl, arith}
use Rattle.cove_base.specs.CallWords.{arguments, call_of, word_of}
use Rattle.cove_base.specs.declared.calls.HostCall.{HostCall}
use Rattle.cove_base.specs.declared.calls.HostCall.TheVariants.{Convert}
use Rattle.cove_base.proofs.JoinedWords.{is_word}

-- a call is read back from its word and its arguments
pub call_of-word_of : (call : HostCall) → call_of (word_of call) (arguments call) ≡ Some call
call_of-word_of (Convert base n) = refl
call_of-word_of _ = refl

pub is_word-word_of : (call : HostCall) → is_word (word_of call) ≡ true
is_word-word_of (Convert base n) = refl
is_word-word_of _ = refl

pub length-arguments : (call : HostCall) → length (arguments call) ≤ 5
length-arguments (Convert base n) = omega arith
length-arguments _ = omega arith
