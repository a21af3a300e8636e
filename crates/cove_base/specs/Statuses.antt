use Rattle.std.specs.Prelude.{Bool, true, false, ℤ, pos, negsuc}
use Rattle.cove_base.specs.declared.statuses.Status.{Status}
use Rattle.cove_base.specs.declared.statuses.Status.TheVariants.{Success, Failed, NotSupported, InvalidParam, Denied, InvalidAddress, AlreadyAvailable, AlreadyStarted, AlreadyStopped}

-- the error code of a status, by the RISC-V Supervisor Binary Interface
abbrev pub code_of : Status → ℤ
code_of Success = pos 0
code_of Failed = negsuc 0
code_of NotSupported = negsuc 1
code_of InvalidParam = negsuc 2
code_of Denied = negsuc 3
code_of InvalidAddress = negsuc 4
code_of AlreadyAvailable = negsuc 5
code_of AlreadyStarted = negsuc 6
code_of AlreadyStopped = negsuc 7

-- the call was done
abbrev pub is_success : Status → Bool
is_success Success = true
is_success Failed = false
is_success NotSupported = false
is_success InvalidParam = false
is_success Denied = false
is_success InvalidAddress = false
is_success AlreadyAvailable = false
is_success AlreadyStarted = false
is_success AlreadyStopped = false
