-- What a call that only reads leaves of shared words.
use Rattle.std.specs.Prelude.{◌≡◌, ℕ, Bool, List, Option}
use Rattle.cove_base.specs.Guards.{Guard}

-- the words, whether they are clean, and their guard are as before
pub record Unchanged {W : Type 0} (words_of : W → List ℕ) (clean_of : W → Bool) (guard_of : W → Option Guard) (old new : W) : Type 0 where
  pub words : words_of new ≡ words_of old
  pub clean : clean_of new ≡ clean_of old
  pub guard : guard_of new ≡ guard_of old
