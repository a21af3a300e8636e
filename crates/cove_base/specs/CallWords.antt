use Rattle.std.specs.Prelude.{ℕ, Bool, ◌==◌, ◌&&◌, List, [], ◌∷◌, length, slice_index, map, find, Option, codes, bytes_eq}
use Rattle.std.specs.List.{list_any}
use Rattle.cove_base.specs.Numbers.{number_text}
use Rattle.cove_base.specs.Text.{joined}
use Rattle.cove_base.specs.declared.calls.HostCall.{HostCall}
use Rattle.cove_base.specs.declared.calls.HostCall.TheVariants.{Convert, GlobalFence, LocalFence, Reclaim, Create, Region, Tables, Measured, Vcpu, Finalize, Zero, Shared, Run, Invalidate, TvmFence, Validate, Remove, Destroy, Kick, Info, Bind, Unbind, Unbound, Inject}

-- a call as it is spoken: its word, and its arguments in order
abbrev pub spoken : HostCall → List ℕ × List ℕ
spoken (Convert base n) = (codes "convert", base ∷ n ∷ [])
spoken GlobalFence = (codes "gfence", [])
spoken LocalFence = (codes "lfence", [])
spoken (Reclaim base n) = (codes "reclaim", base ∷ n ∷ [])
spoken (Create root state) = (codes "create", root ∷ state ∷ [])
spoken (Region t gpa len) = (codes "region", t ∷ gpa ∷ len ∷ [])
spoken (Tables t base n) = (codes "tables", t ∷ base ∷ n ∷ [])
spoken (Measured t src dst n gpa) = (codes "measured", t ∷ src ∷ dst ∷ n ∷ gpa ∷ [])
spoken (Vcpu t v state) = (codes "vcpu", t ∷ v ∷ state ∷ [])
spoken (Finalize t pc arg) = (codes "finalize", t ∷ pc ∷ arg ∷ [])
spoken (Zero t base n gpa) = (codes "zero", t ∷ base ∷ n ∷ gpa ∷ [])
spoken (Shared t base n gpa) = (codes "shared", t ∷ base ∷ n ∷ gpa ∷ [])
spoken (Run t v fuel) = (codes "run", t ∷ v ∷ fuel ∷ [])
spoken (Invalidate t gpa n) = (codes "invalidate", t ∷ gpa ∷ n ∷ [])
spoken (TvmFence t) = (codes "tfence", t ∷ [])
spoken (Validate t gpa n) = (codes "validate", t ∷ gpa ∷ n ∷ [])
spoken (Remove t gpa n) = (codes "remove", t ∷ gpa ∷ n ∷ [])
spoken (Destroy t) = (codes "destroy", t ∷ [])
spoken (Kick hart) = (codes "kick", hart ∷ [])
spoken Info = (codes "info", [])
spoken (Bind t v hart file) = (codes "bind", t ∷ v ∷ hart ∷ file ∷ [])
spoken (Unbind t v) = (codes "unbind", t ∷ v ∷ [])
spoken (Unbound t v) = (codes "unbound", t ∷ v ∷ [])
spoken (Inject t v id) = (codes "inject", t ∷ v ∷ id ∷ [])

-- the word of a call
abbrev pub word_of : HostCall → List ℕ
word_of call = (spoken call).0

-- the arguments of a call
abbrev pub arguments : HostCall → List ℕ
arguments call = (spoken call).1

-- every kind of call, each with the first of these numbers as its arguments
abbrev pub calls_with : List ℕ → List HostCall
calls_with args =
    let arg : ℕ → ℕ = λ i. slice_index args i in
    Convert (arg 0) (arg 1)
    ∷ GlobalFence
    ∷ LocalFence
    ∷ Reclaim (arg 0) (arg 1)
    ∷ Create (arg 0) (arg 1)
    ∷ Region (arg 0) (arg 1) (arg 2)
    ∷ Tables (arg 0) (arg 1) (arg 2)
    ∷ Measured (arg 0) (arg 1) (arg 2) (arg 3) (arg 4)
    ∷ Vcpu (arg 0) (arg 1) (arg 2)
    ∷ Finalize (arg 0) (arg 1) (arg 2)
    ∷ Zero (arg 0) (arg 1) (arg 2) (arg 3)
    ∷ Shared (arg 0) (arg 1) (arg 2) (arg 3)
    ∷ Run (arg 0) (arg 1) (arg 2)
    ∷ Invalidate (arg 0) (arg 1) (arg 2)
    ∷ TvmFence (arg 0)
    ∷ Validate (arg 0) (arg 1) (arg 2)
    ∷ Remove (arg 0) (arg 1) (arg 2)
    ∷ Destroy (arg 0)
    ∷ Kick (arg 0)
    ∷ Info
    ∷ Bind (arg 0) (arg 1) (arg 2) (arg 3)
    ∷ Unbind (arg 0) (arg 1)
    ∷ Unbound (arg 0) (arg 1)
    ∷ Inject (arg 0) (arg 1) (arg 2)
    ∷ []

-- a word is the word of a call
abbrev pub is_call_word : List ℕ → Bool
is_call_word word = list_any (λ call. bytes_eq word (word_of call)) (calls_with [])

-- the call of a word and its arguments: none where the word is no call's or has another number of arguments
abbrev pub call_of : (word args : List ℕ) → Option HostCall
call_of word args =
    find (λ call. length args == length (arguments call) && bytes_eq word (word_of call)) (calls_with args)

-- a call's words: its own, and its arguments
abbrev pub call_words : HostCall → List (List ℕ)
call_words call = word_of call ∷ map number_text (arguments call)

-- a call as a line shows it
abbrev pub call_text : HostCall → List ℕ
call_text call = joined (call_words call)
