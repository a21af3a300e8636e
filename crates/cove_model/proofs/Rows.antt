-- Worked scripts and the histories that they play, written by bench/worked.
use Rattle.std.proofs.Common.{◌≡◌, ℕ, List, [], ◌∷◌, refl}
use Rattle.cove_model.specs.Machine.{ScriptValue, Convert, GlobalFence, LocalFence, Reclaim, Info, Entry, Event, Hit, Walk, Fill, Line, ScriptLine, Reply, Status, Success, InvalidAddress, AlreadyStarted}
use Rattle.cove_base.specs.InterruptFiles.{identities, those, least}
use Rattle.cove_model.specs.Owners.{zeros}
use Rattle.cove_model.specs.States.{opening_words}
use Rattle.cove_model.specs.Played.{played}

abbrev board : (pages harts files : ℕ) (key : List ℕ) (fills : List Fill) (ls : List ScriptLine) (turns : List ℕ) → ScriptValue
board pages harts files key fills ls turns =
    record { pages = pages; harts = harts; files = files; key = key; fills = fills; lines = ls; turns = turns }

abbrev line : (hart phase : ℕ) → Line → ScriptLine
line hart phase l = record { hart = record { 0 = hart }; phase = phase; line = l }

abbrev by : (hart : ℕ) → Event → Entry
by hart event = record { hart = record { 0 = hart }; event = event }

abbrev reply : Status → (value : ℕ) → Reply
reply status value = record { status = status; value = value }

pub row_1 : played 5 (board 16 1 0 (0 ∷ 0 ∷ 0 ∷ 0 ∷ 0 ∷ 0 ∷ 0 ∷ 0 ∷ 0 ∷ 0 ∷ 0 ∷ 0 ∷ 0 ∷ 0 ∷ 0 ∷ 0 ∷ 0 ∷ 0 ∷ 0 ∷ 0 ∷ 0 ∷ 0 ∷ 0 ∷ 0 ∷ 0 ∷ 0 ∷ 0 ∷ 0 ∷ 0 ∷ 0 ∷ 0 ∷ 0 ∷ 0 ∷ 0 ∷ 0 ∷ 0 ∷ 0 ∷ 0 ∷ 0 ∷ 0 ∷ 0 ∷ 0 ∷ 0 ∷ 0 ∷ 0 ∷ 0 ∷ 0 ∷ 0 ∷ []) [] (line 0 0 (Line.Call (Convert 16384 1)) ∷ line 0 0 (Line.Call GlobalFence) ∷ line 0 0 (Line.Call (Reclaim 16384 1)) ∷ line 0 0 (Line.Load 16384) ∷ []) [])
    ≡ (by 0 (Event.Call (Convert 16384 1) (reply Success 0)) ∷ by 0 (Event.Call GlobalFence (reply Success 0)) ∷ by 0 (Event.Call (Reclaim 16384 1) (reply Success 0)) ∷ by 0 (Event.Load 16384 Walk 0) ∷ [])
unfolding played zeros opening_words identities those least
row_1 = refl

pub row_3_a : played 2 (board 16 1 0 (0 ∷ 0 ∷ 0 ∷ 0 ∷ 0 ∷ 0 ∷ 0 ∷ 0 ∷ 0 ∷ 0 ∷ 0 ∷ 0 ∷ 0 ∷ 0 ∷ 0 ∷ 0 ∷ 0 ∷ 0 ∷ 0 ∷ 0 ∷ 0 ∷ 0 ∷ 0 ∷ 0 ∷ 0 ∷ 0 ∷ 0 ∷ 0 ∷ 0 ∷ 0 ∷ 0 ∷ 0 ∷ 0 ∷ 0 ∷ 0 ∷ 0 ∷ 0 ∷ 0 ∷ 0 ∷ 0 ∷ 0 ∷ 0 ∷ 0 ∷ 0 ∷ 0 ∷ 0 ∷ 0 ∷ 0 ∷ []) [] (line 0 0 (Line.Call (Convert 16385 1)) ∷ []) [])
    ≡ (by 0 (Event.Call (Convert 16385 1) (reply InvalidAddress 0)) ∷ [])
unfolding played zeros opening_words identities those least
row_3_a = refl

pub row_5 : played 3 (board 16 1 0 (0 ∷ 0 ∷ 0 ∷ 0 ∷ 0 ∷ 0 ∷ 0 ∷ 0 ∷ 0 ∷ 0 ∷ 0 ∷ 0 ∷ 0 ∷ 0 ∷ 0 ∷ 0 ∷ 0 ∷ 0 ∷ 0 ∷ 0 ∷ 0 ∷ 0 ∷ 0 ∷ 0 ∷ 0 ∷ 0 ∷ 0 ∷ 0 ∷ 0 ∷ 0 ∷ 0 ∷ 0 ∷ 0 ∷ 0 ∷ 0 ∷ 0 ∷ 0 ∷ 0 ∷ 0 ∷ 0 ∷ 0 ∷ 0 ∷ 0 ∷ 0 ∷ 0 ∷ 0 ∷ 0 ∷ 0 ∷ []) [] (line 0 0 (Line.Call (Convert 16384 1)) ∷ line 0 0 (Line.Call (Convert 16384 1)) ∷ []) [])
    ≡ (by 0 (Event.Call (Convert 16384 1) (reply Success 0)) ∷ by 0 (Event.Call (Convert 16384 1) (reply InvalidAddress 0)) ∷ [])
unfolding played zeros opening_words identities those least
row_5 = refl

pub row_6 : played 5 (board 16 2 0 (0 ∷ 0 ∷ 0 ∷ 0 ∷ 0 ∷ 0 ∷ 0 ∷ 0 ∷ 0 ∷ 0 ∷ 0 ∷ 0 ∷ 0 ∷ 0 ∷ 0 ∷ 0 ∷ 0 ∷ 0 ∷ 0 ∷ 0 ∷ 0 ∷ 0 ∷ 0 ∷ 0 ∷ 0 ∷ 0 ∷ 0 ∷ 0 ∷ 0 ∷ 0 ∷ 0 ∷ 0 ∷ 0 ∷ 0 ∷ 0 ∷ 0 ∷ 0 ∷ 0 ∷ 0 ∷ 0 ∷ 0 ∷ 0 ∷ 0 ∷ 0 ∷ 0 ∷ 0 ∷ 0 ∷ 0 ∷ []) (record { addr = 16384; bytes = (17 ∷ 34 ∷ 51 ∷ 68 ∷ 85 ∷ 102 ∷ 119 ∷ 136 ∷ []) } ∷ []) (line 0 0 (Line.Call (Convert 16384 1)) ∷ line 0 0 (Line.Load 16384) ∷ line 1 0 (Line.Load 16384) ∷ line 1 0 (Line.Load 16384) ∷ []) (1 ∷ 1 ∷ 0 ∷ 1 ∷ 0 ∷ 0 ∷ []))
    ≡ (by 1 (Event.Load 16384 Walk 9833440827789222417) ∷ by 0 (Event.Call (Convert 16384 1) (reply Success 0)) ∷ by 1 (Event.Load 16384 Hit 9833440827789222417) ∷ by 0 (Event.LoadFault 16384) ∷ [])
unfolding played zeros opening_words identities those least
row_6 = refl

pub row_8 : played 8 (board 16 2 0 (0 ∷ 0 ∷ 0 ∷ 0 ∷ 0 ∷ 0 ∷ 0 ∷ 0 ∷ 0 ∷ 0 ∷ 0 ∷ 0 ∷ 0 ∷ 0 ∷ 0 ∷ 0 ∷ 0 ∷ 0 ∷ 0 ∷ 0 ∷ 0 ∷ 0 ∷ 0 ∷ 0 ∷ 0 ∷ 0 ∷ 0 ∷ 0 ∷ 0 ∷ 0 ∷ 0 ∷ 0 ∷ 0 ∷ 0 ∷ 0 ∷ 0 ∷ 0 ∷ 0 ∷ 0 ∷ 0 ∷ 0 ∷ 0 ∷ 0 ∷ 0 ∷ 0 ∷ 0 ∷ 0 ∷ 0 ∷ []) [] (line 0 0 (Line.Call (Convert 16384 1)) ∷ line 0 0 (Line.Call GlobalFence) ∷ line 0 0 (Line.Call (Convert 20480 1)) ∷ line 0 0 (Line.Call GlobalFence) ∷ line 0 0 (Line.Call (Reclaim 16384 1)) ∷ line 0 0 (Line.Call (Reclaim 20480 1)) ∷ line 1 0 (Line.Call LocalFence) ∷ []) (0 ∷ 0 ∷ 0 ∷ 0 ∷ 1 ∷ 0 ∷ 0 ∷ []))
    ≡ (by 0 (Event.Call (Convert 16384 1) (reply Success 0)) ∷ by 0 (Event.Call GlobalFence (reply Success 0)) ∷ by 0 (Event.Call (Convert 20480 1) (reply Success 0)) ∷ by 0 (Event.Call GlobalFence (reply AlreadyStarted 1)) ∷ by 1 (Event.Call LocalFence (reply Success 0)) ∷ by 0 (Event.Call (Reclaim 16384 1) (reply Success 0)) ∷ by 0 (Event.Call (Reclaim 20480 1) (reply InvalidAddress 0)) ∷ [])
unfolding played zeros opening_words identities those least
row_8 = refl

pub row_r3_a_2 : played 2 (board 16 1 0 (0 ∷ 0 ∷ 0 ∷ 0 ∷ 0 ∷ 0 ∷ 0 ∷ 0 ∷ 0 ∷ 0 ∷ 0 ∷ 0 ∷ 0 ∷ 0 ∷ 0 ∷ 0 ∷ 0 ∷ 0 ∷ 0 ∷ 0 ∷ 0 ∷ 0 ∷ 0 ∷ 0 ∷ 0 ∷ 0 ∷ 0 ∷ 0 ∷ 0 ∷ 0 ∷ 0 ∷ 0 ∷ 0 ∷ 0 ∷ 0 ∷ 0 ∷ 0 ∷ 0 ∷ 0 ∷ 0 ∷ 0 ∷ 0 ∷ 0 ∷ 0 ∷ 0 ∷ 0 ∷ 0 ∷ 0 ∷ []) [] (line 0 0 (Line.Call Info) ∷ []) [])
    ≡ (by 0 (Event.Call Info (reply Success 1)) ∷ [])
unfolding played zeros opening_words identities those least
row_r3_a_2 = refl
