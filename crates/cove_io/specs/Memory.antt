use Rattle.std.specs.Prelude.{ℕ, ◌+◌, ◌-◌, ◌^◌, ◌≤◌, ◌<◌, ◌⊎◌, min, List, length, Contains}

-- one more, or u64's last value
abbrev pub one_more : ℕ → ℕ
one_more n = min (n + 1) (2 ^ 64 - 1)

-- a source in memory: the bytes that it has left, the numbers of the calls that fail, how many calls it had,
-- and how many of them met a fault
pub record MemSourceValue : Type 0 where
  pub left : List ℕ
  pub fails : List ℕ
  pub calls : ℕ
  pub faults : ℕ

-- a sink in memory: the bytes that it took, how many it may take in all, and the rest as for a source
pub record MemSinkValue : Type 0 where
  pub taken : List ℕ
  pub room : ℕ
  pub fails : List ℕ
  pub calls : ℕ
  pub faults : ℕ

-- the sink refuses the piece: it is not empty, and this call is a listed one or the sink is full
abbrev pub Refuses : MemSinkValue → List ℕ → Type 0
Refuses sink piece = (0 < length piece) × (Contains sink.fails sink.calls ⊎ sink.room ≤ length sink.taken)

-- how many bytes of a piece that is not refused the sink takes
abbrev pub fitting : MemSinkValue → List ℕ → ℕ
fitting sink piece = min (length piece) (sink.room - length sink.taken)
