use Rattle.std.proofs.Common.{◌≡◌, ℕ, zero, suc, ◌+◌, ◌-◌, ap, ◌<◌, inl, inr, List, [], ◌∷◌, length, set, refl, ◌∙◌, arith, length-set, get_or-set_other, ◌++◌}
use Rattle.std.proofs.lemmas.Bool.{cases_lt}
use Rattle.std.proofs.lemmas.Grind.{get_or-set_at}
use Rattle.cove_base.specs.Stores.{AllAllowed, stored, fills, StoresKeepLength, StoresKeepOthers, StoresAppend, FillsWrite, FillsKeepOthers}

pub length-stored : StoresKeepLength
length-stored words [] = refl
length-stored words (s ∷ ss) = length-stored (set words s.0 s.1) ss ∙ length-set words s.0 s.1

pub get_or-stored_other : StoresKeepOthers
get_or-stored_other words [] place h = refl
get_or-stored_other words (s ∷ ss) place h =
    get_or-stored_other (set words s.0 s.1) ss place h.1 ∙ get_or-set_other words s.0 place s.1 0 h.0

pub stored-append : StoresAppend
stored-append words [] ts = refl
stored-append words (s ∷ ss) ts = stored-append (set words s.0 s.1) ss ts

-- what one test allows, a weaker one allows
pub AllAllowed-weaker : (allows more : List ℕ → ℕ → ℕ → Type 0) (words : List ℕ) (ss : List (ℕ × ℕ)) → ((ws : List ℕ) (place word : ℕ) → allows ws place word → more ws place word) → AllAllowed allows words ss → AllAllowed more words ss
AllAllowed-weaker allows more words [] weaker h = tt
AllAllowed-weaker allows more words (s ∷ ss) weaker h =
    (weaker words s.0 s.1 h.0, AllAllowed-weaker allows more (set words s.0 s.1) ss weaker h.1)

pub get_or-fills_other : FillsKeepOthers
get_or-fills_other words first zero word place h = refl
get_or-fills_other words first (suc n) word place h =
    get_or-fills_other (set words first word) (first + 1) n word place (grind arith) ∙ get_or-set_other words first place word 0 (grind arith)

pub get_or-fills : FillsWrite
get_or-fills words first zero word place low high within = absurd (omega arith)
get_or-fills words first (suc n) word place low high within =
    let long : place < length (set words first word) = omega (arith, length-set words first word) in
    elim (cases_lt first place) [
      | inl next ↦ get_or-fills (set words first word) (first + 1) n word place (omega arith) (omega arith) long
      | inr here ↦
          let is : place ≡ first = omega arith in
          let less : place < first + 1 = omega arith in
          let kept = get_or-fills_other (set words first word) (first + 1) n word place (inl less) in
          kept ∙ get_or-set_at words first place word 0 is (omega arith)
    ]

-- the first of the stores that are left, and those after it
pub fills-rest : (first i n word : ℕ) → i < n → fills (first + i) (n - i) word ≡ (first + i, word) ∷ fills (first + (i + 1)) (n - (i + 1)) word
fills-rest first i n word h =
    let more : n - i ≡ suc (n - (i + 1)) = omega arith in
    let next : first + i + 1 ≡ first + (i + 1) = omega arith in
    ap (λ k. fills (first + i) k word) more ∙ ap (λ k. (first + i, word) ∷ fills k (n - (i + 1)) word) next

-- of stores that are allowed and more after them, each part is allowed where it stands
pub AllAllowed-split : (allows : List ℕ → ℕ → ℕ → Type 0) (words : List ℕ) (ss ts : List (ℕ × ℕ)) → AllAllowed allows words (ss ++ ts) → AllAllowed allows words ss × AllAllowed allows (stored words ss) ts
AllAllowed-split allows words [] ts h = (tt, h)
AllAllowed-split allows words (s ∷ ss) ts h =
    let rest = AllAllowed-split allows (set words s.0 s.1) ss ts h.1 in
    ((h.0, rest.0), rest.1)
