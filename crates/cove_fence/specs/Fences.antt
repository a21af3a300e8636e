use Rattle.std.specs.Prelude.{ℕ, ◌+◌, ◌<◌, ◌≤◌, List, [], ◌∷◌, slice_index}

-- where the global epoch and the answered numbers stand: from the first on, and of how many harts
pub record FenceWords : Type 0 where
  pub first : ℕ
  pub harts : ℕ

-- the global epoch
abbrev pub epoch : FenceWords → List ℕ → ℕ
epoch places words = slice_index words places.first

-- the place of a hart's answered number
abbrev pub answered_place : FenceWords → (hart : ℕ) → ℕ
answered_place places hart = places.first + 1 + hart

-- the number that a hart has answered
abbrev pub answered : FenceWords → List ℕ → (hart : ℕ) → ℕ
answered places words hart = slice_index words (answered_place places hart)

-- a hart that hasn't answered the last global fence
abbrev pub IsBehind : FenceWords → List ℕ → (hart : ℕ) → Type 0
IsBehind places words hart = (hart < places.harts) × (answered places words hart < epoch places words)

-- every hart below a number has answered the last global fence
abbrev pub HaveAnswered : FenceWords → List ℕ → (n : ℕ) → Type 0
HaveAnswered places words n = (hart : ℕ) → hart < n → epoch places words ≤ answered places words hart

-- the stores of a new global fence: the epoch is one more, and its caller has answered it
abbrev pub begin_stores : FenceWords → List ℕ → (hart : ℕ) → List (ℕ × ℕ)
begin_stores places words hart =
    (places.first, epoch places words + 1) ∷ (answered_place places hart, epoch places words + 1) ∷ []

-- the store of an answer
abbrev pub answer_stores : FenceWords → List ℕ → (hart : ℕ) → List (ℕ × ℕ)
answer_stores places words hart = (answered_place places hart, epoch places words) ∷ []
