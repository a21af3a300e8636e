-- What a hart keeps of its fitness while others make entries; and the rule at the opening.
use Rattle.std.proofs.Common.{◌≡◌, ℕ, ◌+◌, List, [], ◌∷◌, ◌++◌, Option, Some, None, length, replicate, append-nil, append_assoc, sym, ◌∙◌, ap, subst, ⊎_elim, arith}
use Rattle.std.proofs.lemmas.List.{length-replicate, length_push}
use Rattle.cove_base.proofs.ScriptLimits.{Limits, limits_of}
use Rattle.cove_model.specs.Machine.{HartRings, HartValue, rings_after, all_words, count_word, epoch_word, tvm_word, ScriptValue, Entry, Page, Target, WasFound, Legal, after, own, tlb, epoch_in, number_in}
use Rattle.cove_base.specs.declared.events.Walked.{Walked}
use Rattle.cove_base.specs.declared.events.Walked.TheVariants as walks
use Rattle.cove_base.specs.declared.walks.Noted.{Noted}
use Rattle.cove_base.specs.declared.walks.Target.TheVariants as targets
use Rattle.cove_model.proofs.AtTheEnd.{from_end, legal_front, own_other, own_same, tlb_other}
use Rattle.cove_model.proofs.Fitting.{inside_other, sought_other}
use Rattle.cove_model.proofs.Lists.{replicate_zero}
use Rattle.cove_model.proofs.OpeningStandsProofs.{opening_stands}
use Rattle.cove_model.proofs.Playing.{was_now}
use Rattle.cove_model.proofs.Running.{ended_apart}
use Rattle.cove_model.proofs.ToldProofs.{words_tell_host}
use Rattle.cove_model.specs.BoardRule.{IsMonitored, OpeningKeepsRule, UnusedLives, WalkLives}
use Rattle.cove_model.specs.Fits.{IsSought, UnusedFits, WalkFits, rings_of, walked_rings}
use Rattle.cove_model.specs.FitsAlone.{FitsAlone, FitsFitAlone, OthersLeaveAlone, RuledHartsFit, UnusedSought, WalksLeaveAlone}

-- ---- a hart that fits

walk_sought : (script : ScriptValue) (history : List Entry) (h : ℕ) (target : Target) (w : Walked) → WalkFits script history h target w → IsSought script history h target
walk_sought script history h target (walks.Found page) fits = fits.0
walk_sought script history h target (walks.Missing word) fits = fits

unused_sought : (script : ScriptValue) (history : List Entry) (h : ℕ) (noted : Option Noted) → UnusedFits script history h noted → UnusedSought script history h noted
unused_sought script history h None fits = tt
unused_sought script history h (Some noted) fits = walk_sought script history h noted.target noted.walked fits

pub fits_fit_alone : FitsFitAlone
fits_fit_alone script history held fits = record {
  on_board = fits.on_board;
  counts = fits.counts;
  stands = fits.stands;
  rings = fits.rings;
  walk = unused_sought script history held.hart held.walked fits.walk;
  inside = fits.inside;
}

-- ---- entries of others

alone_other : (script : ScriptValue) → Limits script → (H : List Entry) (e : Entry) → Legal script H → Legal script (H ++ e ∷ []) → (held : HartValue) → (e.hart.0 ≡ held.hart → ⊥) → FitsAlone script H held → FitsAlone script (H ++ e ∷ []) held
alone_other script limits H e front legal held ne alone = record {
  on_board = alone.on_board;
  counts = alone.counts ∙ sym (ended_apart script H e held.hart ne);
  stands = alone.stands;
  rings = alone.rings ∙ ap (λ t. walked_rings (rings_of t) held.walked) (sym (tlb_other script H e held.hart ne));
  walk = go held.walked alone.walk;
  inside = inside_other script limits H e front legal held.hart alone.on_board ne held.inside alone.inside;
}
  where
    go : (noted : Option Noted) → UnusedSought script H held.hart noted → UnusedSought script (H ++ e ∷ []) held.hart noted
    go None sought = tt
    go (Some noted) sought = sought_other script limits H e front legal held.hart alone.on_board ne noted.target sought

-- where a hart has none of the entries, the last is another's
last_apart : (more : List Entry) (e : Entry) (h : ℕ) → own (more ++ e ∷ []) h ≡ [] → e.hart.0 ≡ h → ⊥
last_apart more e h silent same =
    let none : length (own more h ++ e ∷ []) ≡ 0 = ap length (sym (own_same more e h same) ∙ silent) in
    let some : length (own more h ++ e ∷ []) ≡ length (own more h) + 1 = length_push (own more h) e in
    omega arith

alone_since : (script : ScriptValue) → Limits script → (H : List Entry) (held : HartValue) → FitsAlone script H held → (more : List Entry) → Legal script (H ++ more) → own more held.hart ≡ [] → FitsAlone script (H ++ more) held
alone_since script limits H held alone = from_end Since next (λ legal silent. subst (λ L. FitsAlone script L held) (sym (append-nil H)) alone)
  where
    Since : List Entry → Type 0
    Since more = Legal script (H ++ more) → own more held.hart ≡ [] → FitsAlone script (H ++ more) held

    next : (more : List Entry) (e : Entry) → Since more → Since (more ++ e ∷ [])
    next more e before legal silent =
        let longer = append_assoc H more (e ∷ []) in
        let whole : Legal script ((H ++ more) ++ e ∷ []) = subst (Legal script) (sym longer) legal in
        let front = legal_front script (H ++ more) e whole in
        let ne = last_apart more e held.hart silent in
        subst (λ L. FitsAlone script L held) longer
        (alone_other script limits (H ++ more) e front whole held ne (before front (sym (own_other more e held.hart ne) ∙ silent)))

pub others_leave_alone : OthersLeaveAlone
others_leave_alone script history more held within legal silent alone =
    alone_since script (limits_of script within) history held alone more legal silent

-- ---- a walk

pub walks_leave_alone : WalksLeaveAlone
walks_leave_alone script history held target walked none sought alone = record {
  on_board = alone.on_board;
  counts = alone.counts;
  stands = alone.stands;
  rings = ap (λ (r : HartRings). rings_after r target walked) (alone.rings ∙ ap (walked_rings (rings_of (tlb script history held.hart))) none);
  walk = sought;
  inside = alone.inside;
}

-- ---- with the rule

module _ (script : ScriptValue) (history : List Entry) (words : List ℕ) (part : IsMonitored script history words words) where
  was_host : (h : ℕ) (p page : Page) → WalkLives script history words h (targets.Host p) (walks.Found page) → WasFound script history h (targets.Host p)
  was_host h p page lives =
      ⊎_elim
      (λ is. was_now script history h (targets.Host p) ((words_tell_host script.pages script.harts words (after script history) p.0 lives.1 part.stands.owners).1 is))
      (λ was. was)
      lives.2

  walk_fits : (h : ℕ) (target : Target) (w : Walked) → IsSought script history h target → WalkLives script history words h target w → WalkFits script history h target w
  walk_fits h (targets.Host p) (walks.Found page) sought lives =
      (sought, record { was = was_host h p page lives; led = ap (λ (q : Page). q.0) lives.0 })
  walk_fits h (targets.Fetch g) (walks.Found page) sought lives = (sought, lives)
  walk_fits h (targets.Access g) (walks.Found page) sought lives = (sought, lives)
  walk_fits h target (walks.Missing word) sought lives = sought

  unused_fits : (h : ℕ) (noted : Option Noted) → UnusedSought script history h noted → UnusedLives script history words h noted → UnusedFits script history h noted
  unused_fits h None sought lives = tt
  unused_fits h (Some noted) sought lives = walk_fits h noted.target noted.walked sought lives

pub ruled_harts_fit : RuledHartsFit
ruled_harts_fit script history words held part lives alone = record {
  on_board = alone.on_board;
  counts = alone.counts;
  stands = alone.stands;
  rings = alone.rings;
  walk = unused_fits script history words part held.hart held.walked alone.walk lives;
  inside = alone.inside;
}

-- ---- the opening

pub opening_keeps_rule : OpeningKeepsRule
opening_keeps_rule script =
    let n = all_words script.pages script.harts in
    let zeros : List ℕ = replicate n 0 in
    let stand = opening_stands script in
    let none : epoch_in script.pages zeros ≡ 0 = replicate_zero n (epoch_word script.pages) in
    let number : (t : ℕ) → number_in script.pages script.harts zeros t ≡ 0 = λ t. replicate_zero n (tvm_word script.pages script.harts t) in (
      record {
        legal = tt;
        cached = tt;
        stands = stand.stands;
        fences = record { epoch = omega arith; numbers = λ t low high. let is = number t in omega arith };
        count = replicate_zero n (count_word script.pages script.harts);
        size = length-replicate n 0;
      },
      record {
        within = stand.within;
        fences = record { epoch = omega arith; numbers = λ t low high. let is = number t in omega arith };
      },
    )
