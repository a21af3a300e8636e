-- Pages stay sound, and what stands behind a mapping stays there.
use Rattle.std.proofs.Common.{◌≡◌, ℕ, map, true, List, [], ◌∷◌, Some, None, length, length-set, refl, sym, ap, subst, ◌∙◌, inl, inr, ◌⊎◌, ⊎_elim, arith}
use Rattle.std.proofs.lemmas.Bool.{cases_eq}
use Rattle.cove_model.proofs.Members.{false-true, has_not, has_with, has_without, rises_below, rises_without}
use Rattle.cove_model.proofs.Runs.{change_cases, page_map, zeros_size}
use Rattle.cove_model.specs.Machine.{Owner, Host, Converting, Free, Given, Purpose, AsData, fence_answered, converted, fenced, has, is_host, page_at, reclaimed, settled, change, without, word_stored, Rises, Within, IsBacked, IsSoundPage, harts_below, State, change_each, Backing, OwnPage, HostPage}
use Rattle.cove_model.proofs.Moves.{Move, Same, Converts, Reclaims, Stores, Fences, Responds, Gives, Returns}
use Rattle.cove_model.proofs.PageRuns.{each_cases}

-- ---- lists of harts

pub within_without : (h : ℕ) (xs ys : List ℕ) → Within xs ys → Within (without h xs) ys
within_without h xs ys w n e = w n (has_with h n xs e)

pub within_both : (h : ℕ) (xs ys : List ℕ) → Within xs ys → Within (without h xs) (without h ys)
within_both h xs ys w n e = go (cases_eq n h)
  where
    go : (n ≡ h) ⊎ (n ≡ h → ⊥) → has n (without h ys) ≡ true
    go (inl q) = false-true (sym (has_not h xs) ∙ ap (λ k. has k (without h xs)) (sym q) ∙ e)
    go (inr ne) = has_without h n ne ys (w n (has_with h n xs e))

-- ---- one page

abbrev SoundIn : State → Owner → Type 0
SoundIn S o = IsSoundPage S.harts S.unanswered o

sound_settled : (T : State) (held waiting words : List ℕ) → length words ≡ 512 → Within held waiting → waiting ≡ T.unanswered → SoundIn T (settled held waiting words)
sound_settled T held [] words size within same = tt
sound_settled T held (x ∷ xs) words size within same = (size, within, same, omega arith)

sound_same : (S T : State) (o : Owner) → T.harts ≡ S.harts → T.unanswered ≡ S.unanswered → SoundIn S o → SoundIn T o
sound_same S T (Host words) e u sound = sound
sound_same S T (Converting held None words) e u sound = (sound.0, subst (λ k. Within held (harts_below k)) (sym e) sound.1)
sound_same S T (Converting held (Some waiting) words) e u sound = (sound.0, sound.1, sound.2 ∙ sym u, sound.3)
sound_same S T Free e u sound = tt
sound_same S T (Given tvm purpose) e u sound = tt

sound_converted : (S : State) (o : Owner) → SoundIn S o → SoundIn S (converted (harts_below S.harts) o)
sound_converted S (Host words) sound = (sound, λ n e. e)
sound_converted S (Converting held waiting words) sound = sound
sound_converted S Free sound = tt
sound_converted S (Given tvm purpose) sound = tt

sound_reclaimed : (S : State) (o : Owner) → SoundIn S o → SoundIn S (reclaimed o)
sound_reclaimed S (Host words) sound = sound
sound_reclaimed S (Converting held waiting words) sound = sound
sound_reclaimed S Free sound = zeros_size
sound_reclaimed S (Given tvm purpose) sound = tt

sound_stored : (S : State) (place value : ℕ) (o : Owner) → SoundIn S o → SoundIn S (word_stored place value o)
sound_stored S place value (Host words) sound = length-set words place value ∙ sound
sound_stored S place value (Converting held None words) sound = (length-set words place value ∙ sound.0, sound.1)
sound_stored S place value (Converting held (Some waiting) words) sound = (length-set words place value ∙ sound.0, sound.1, sound.2, sound.3)
sound_stored S place value Free sound = tt
sound_stored S place value (Given tvm purpose) sound = tt

sound_fenced : (S T : State) (h : ℕ) (o : Owner) → S.unanswered ≡ [] → T.unanswered ≡ without h (harts_below S.harts) → SoundIn S o → SoundIn T (fenced h (without h (harts_below S.harts)) o)
sound_fenced S T h (Host words) all u sound = sound
sound_fenced S T h (Converting held None words) all u sound = sound_settled T (without h held) (without h (harts_below S.harts)) words sound.0 (within_both h held (harts_below S.harts) sound.1) (sym u)
sound_fenced S T h (Converting held (Some waiting) words) all u sound =
    let none : length waiting ≡ 0 = ap length (sound.2 ∙ all) in
    let some = sound.3 in
    absurd (omega arith)
sound_fenced S T h Free all u sound = tt
sound_fenced S T h (Given tvm purpose) all u sound = tt

sound_answered : (S T : State) (h : ℕ) (o : Owner) → T.harts ≡ S.harts → T.unanswered ≡ without h S.unanswered → SoundIn S o → SoundIn T (fence_answered h o)
sound_answered S T h (Host words) e u sound = sound
sound_answered S T h (Converting held None words) e u sound = (sound.0, subst (λ k. Within (without h held) (harts_below k)) (sym e) (within_without h held (harts_below S.harts) sound.1))
sound_answered S T h (Converting held (Some waiting) words) e u sound =
    sound_settled T (without h held) (without h waiting) words sound.0 (within_both h held waiting sound.1) (ap (without h) sound.2 ∙ sym u)
sound_answered S T h Free e u sound = tt
sound_answered S T h (Given tvm purpose) e u sound = tt

pub sound_move : (S T : State) (h : ℕ) (old new : Owner) → T.harts ≡ S.harts → Move S T h old new → SoundIn S old → SoundIn T new
sound_move S T h old new e (Same u q) sound = subst (SoundIn T) (sym q) (sound_same S T old e u sound)
sound_move S T h old new e (Converts u q) sound = subst (SoundIn T) (sym q) (sound_same S T (converted (harts_below S.harts) old) e u (sound_converted S old sound))
sound_move S T h old new e (Reclaims u q) sound = subst (SoundIn T) (sym q) (sound_same S T (reclaimed old) e u (sound_reclaimed S old sound))
sound_move S T h old new e (Stores place value u q) sound = subst (SoundIn T) (sym q) (sound_same S T (word_stored place value old) e u (sound_stored S place value old sound))
sound_move S T h old new e (Fences all u q) sound = subst (SoundIn T) (sym q) (sound_fenced S T h old all u sound)
sound_move S T h old new e (Responds u q) sound = subst (SoundIn T) (sym q) (sound_answered S T h old e u sound)
sound_move S T h old new e (Gives t purpose u root free q) sound = subst (SoundIn T) (sym q) tt
sound_move S T h old new e (Returns t purpose u left given q) sound = subst (SoundIn T) (sym q) tt

-- ---- the harts that have not answered

pub board_move : (S T : State) (h : ℕ) (old new : Owner) → T.harts ≡ S.harts → Move S T h old new → Within S.unanswered (harts_below S.harts) → Within T.unanswered (harts_below T.harts)
board_move S T h old new e move within = subst (λ k. Within T.unanswered (harts_below k)) (sym e) (go move)
  where
    kept : T.unanswered ≡ S.unanswered → Within T.unanswered (harts_below S.harts)
    kept u = subst (λ xs. Within xs (harts_below S.harts)) (sym u) within

    go : Move S T h old new → Within T.unanswered (harts_below S.harts)
    go (Same u q) = kept u
    go (Converts u q) = kept u
    go (Reclaims u q) = kept u
    go (Stores place value u q) = kept u
    go (Fences all u q) = subst (λ xs. Within xs (harts_below S.harts)) (sym u) (λ n w. has_with h n (harts_below S.harts) w)
    go (Responds u q) = subst (λ xs. Within xs (harts_below S.harts)) (sym u) (within_without h S.unanswered (harts_below S.harts) within)
    go (Gives t purpose u root free q) = kept u
    go (Returns t purpose u left given q) = kept u

pub rising_move : (S T : State) (h : ℕ) (old new : Owner) → Move S T h old new → Rises S.unanswered → Rises T.unanswered
rising_move S T h old new (Same u q) rises = subst Rises (sym u) rises
rising_move S T h old new (Converts u q) rises = subst Rises (sym u) rises
rising_move S T h old new (Reclaims u q) rises = subst Rises (sym u) rises
rising_move S T h old new (Stores place value u q) rises = subst Rises (sym u) rises
rising_move S T h old new (Fences all u q) rises = subst Rises (sym u) (rises_without h (harts_below S.harts) (rises_below S.harts))
rising_move S T h old new (Responds u q) rises = subst Rises (sym u) (rises_without h S.unanswered rises)
rising_move S T h old new (Gives t purpose u root free q) rises = subst Rises (sym u) rises
rising_move S T h old new (Returns t purpose u left given q) rises = subst Rises (sym u) rises

-- ---- steady pages: what is the host's stays so, and what is given stays given

pub record IsSteadyPage (old new : Owner) : Type 0 where
  pub host : is_host old ≡ true → is_host new ≡ true
  pub given : (t : ℕ) (purpose : Purpose) → old ≡ Given t purpose → new ≡ Given t purpose

abbrev pub IsSteady : (pages pages' : List Owner) → Type 0
IsSteady pages pages' = (p : ℕ) → IsSteadyPage (page_at pages p) (page_at pages' p)

pub steady_same : (old new : Owner) → new ≡ old → IsSteadyPage old new
steady_same old new e = record { host = λ q. ap is_host e ∙ q; given = λ t purpose q. e ∙ q }

pub steady_f : (f : Owner → Owner) → ((words : List ℕ) → is_host (f (Host words)) ≡ true) → ((t : ℕ) (purpose : Purpose) → f (Given t purpose) ≡ Given t purpose) → (old : Owner) → IsSteadyPage old (f old)
steady_f f hosts givens (Host words) = record { host = λ q. hosts words; given = λ t purpose q. absurd (other q) }
  where
    other : {t : ℕ} {purpose : Purpose} → Host words ≡ Given t purpose → ⊥
    other q = cc
steady_f f hosts givens (Converting held waiting words) = record { host = λ q. false-true q; given = λ t purpose q. absurd (other q) }
  where
    other : {t : ℕ} {purpose : Purpose} → Converting held waiting words ≡ Given t purpose → ⊥
    other q = cc
steady_f f hosts givens Free = record { host = λ q. false-true q; given = λ t purpose q. absurd (other q) }
  where
    other : {t : ℕ} {purpose : Purpose} → Free ≡ Given t purpose → ⊥
    other q = cc
steady_f f hosts givens (Given u other) = record { host = λ q. false-true q; given = λ t purpose q. givens u other ∙ q }

steady_at : (f : Owner → Owner) (old new : Owner) → new ≡ f old → IsSteadyPage old (f old) → IsSteadyPage old new
steady_at f old new e steady = subst (IsSteadyPage old) (sym e) steady

pub steady_refl : (pages : List Owner) → IsSteady pages pages
steady_refl pages p = steady_same (page_at pages p) (page_at pages p) refl

pub steady_then : (one two three : List Owner) → IsSteady one two → IsSteady two three → IsSteady one three
steady_then one two three first second p = record {
  host = λ e. (second p).host ((first p).host e);
  given = λ t purpose e. (second p).given t purpose ((first p).given t purpose e);
}

pub steady_change : (f : Owner → Owner) (first n : ℕ) (pages : List Owner) → ((o : Owner) → IsSteadyPage o (f o)) → IsSteady pages (change f first n pages)
steady_change f first n pages each p = ⊎_elim
    (λ e. steady_same (page_at pages p) (page_at (change f first n pages) p) e)
    (λ e. steady_at f (page_at pages p) (page_at (change f first n pages) p) e (each (page_at pages p)))
    (change_cases f first n pages p)

pub steady_each : (f : ℕ → Owner → Owner) (first n : ℕ) (pages : List Owner) → ((i : ℕ) (o : Owner) → IsSteadyPage o (f i o)) → IsSteady pages (change_each f first n pages)
steady_each f first n pages each p = ⊎_elim
    (λ e. steady_same (page_at pages p) (page_at (change_each f first n pages) p) e)
    (λ e. steady_at (f e.0) (page_at pages p) (page_at (change_each f first n pages) p) e.1 (each e.0 (page_at pages p)))
    (each_cases f first n pages p)

pub steady_map : (f : Owner → Owner) → f Free ≡ Free → (pages : List Owner) → ((o : Owner) → IsSteadyPage o (f o)) → IsSteady pages (map f pages)
steady_map f e pages each p = steady_at f (page_at pages p) (page_at (map f pages) p) (page_map f e pages p) (each (page_at pages p))

-- what stands behind a mapping stays
pub backed_steady : (pages pages' : List Owner) → IsSteady pages pages' → (t g : ℕ) (b : Backing) → IsBacked pages t g b → IsBacked pages' t g b
backed_steady pages pages' steady t g (OwnPage page words) backed = ((steady page).given t (AsData g) backed.0, backed.1)
backed_steady pages pages' steady t g (HostPage page) backed = (steady page).host backed
