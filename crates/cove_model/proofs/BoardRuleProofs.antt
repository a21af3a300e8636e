-- Lawful stores and the store of the count keep the rule of every other hart; a hart that fits follows it.
use Rattle.std.proofs.Common.{◌≡◌, ◌≢◌, ℕ, ◌+◌, ◌<◌, ◌≤◌, true, List, [], ◌∷◌, ◌++◌, Option, Some, None, length, get_or, set, option_map, refl, sym, ◌∙◌, ap, subst, inl, inr, ⊎_elim, arith, get_or-set_other, get_or-set_same, length-set}
use Rattle.std.proofs.lemmas.Bool.{cases_lt}
use Rattle.std.proofs.lemmas.List.{get_or_past, length_push}
use Rattle.cove_base.proofs.ScriptLimits.{Limits, limits_of}
use Rattle.cove_model.specs.Machine.{HartValue, Holding, Inside, holding, way_of, host, IsHostWord, count_word, epoch_word, answered_word, tvm_word, all_words, ScriptValue, AllAllowed, stored, Entry, ENTRY_LIMIT, Page, Target, IsReached, WasFound, after, IsLawful, ChangesPage, ChangesTable, Answers, Begins, FencesTvm, ChangesHart, Owner, Host, Converting, Free, Given, has, may_use, mode_in, page_at, root_of, Seat, State, Allows, tlb, FencesWithin, OwnersStand, PageStands, epoch_in, answered_in, maps_of}
use Rattle.cove_base.specs.declared.events.Walked.{Walked}
use Rattle.cove_base.specs.declared.events.Walked.TheVariants as walks
use Rattle.cove_base.specs.declared.walks.Noted.{Noted}
use Rattle.cove_base.specs.declared.walks.Target.TheVariants as targets
use Rattle.cove_model.proofs.AtTheEnd.{each_push, legal_push, tlb_other}
use Rattle.cove_model.proofs.BesideProofs.{count_leaves_words}
use Rattle.cove_model.proofs.Fitting.{host_at, led_longer, ring_cases, ring_names, same_page, walk_was_found}
use Rattle.cove_model.proofs.Members.{false-true}
use Rattle.cove_model.proofs.Playing.{was_longer, was_now}
use Rattle.cove_model.proofs.StoreLawProofs.{answers_apart, stores_keep_answers, stores_keep_fences, stores_keep_host, stores_keep_usable}
use Rattle.cove_model.proofs.ToldProofs.{words_tell_host}
use Rattle.cove_model.proofs.Ways.{way_apart}
use Rattle.cove_model.proofs.Histories.{usable}
use Rattle.cove_model.proofs.Holding.{held_since, holds_able}
use Rattle.cove_model.specs.BoardRule.{AreBounded, CountsKeepRule, FittingHartsLive, FittingHartsUse, IsLive, IsMonitored, ListsKeepRule, LiveWalksWereRight, RestingHartsLive, StoresKeepRule, StoresKeepWalks, UnusedLives, WalkLives, resting}
use Rattle.cove_model.specs.Fits.{Fits, InsideFits, UnusedFits, WalkFits, WayFits, rings_of, seat_of, walked_rings}
use Rattle.cove_model.specs.LawfulCounts.{IsCountable}
use Rattle.cove_model.specs.StoreLaw.{IsUsableWord, MayUse}

-- ---- what words that stand say of a page that a hart may use

usable_word : (harts epoch : ℕ) (numbers : ℕ → ℕ) (maps word h : ℕ) (o : Owner) → may_use h o ≡ true → PageStands harts epoch numbers maps word o → IsUsableWord (numbers h) word
usable_word harts epoch numbers maps word h (Host words) may stands = inl (maps, stands)
usable_word harts epoch numbers maps word h (Converting held waiting words) may stands = inr (stands.since, stands.is, (stands.holds h may).1)
usable_word harts epoch numbers maps word h Free may stands = false-true may
usable_word harts epoch numbers maps word h (Given tvm purpose) may stands = false-true may

within_memory : (h p : ℕ) (pages : List Owner) → may_use h (page_at pages p) ≡ true → p < length pages
within_memory h p pages may =
    ⊎_elim (λ less. less)
    (λ past. false-true (sym (ap (may_use h) (get_or_past pages p Free past)) ∙ may))
    (cases_lt p (length pages))

usable_in : (pages harts : ℕ) (words : List ℕ) (S : State) (h p : ℕ) → OwnersStand pages harts words S → may_use h (page_at S.pages p) ≡ true → (p < pages) × MayUse pages words h p
usable_in pages harts words S h p stands may =
    let inside : p < length S.pages = within_memory h p S.pages may in
    let count : length S.pages ≡ pages = stands.page_count in
    let below : p < pages = omega arith in
    (below, usable_word harts (epoch_in pages words) (answered_in pages words) (maps_of S p) (get_or words p 0) h (page_at S.pages p) may (stands.page p below))

-- ---- a lawful store

-- it is none of the count
beside_count : {pages harts : ℕ} {hart : ℕ} {old words : List ℕ} {place word : ℕ} → IsLawful pages harts hart old words place word → count_word pages harts ≢ place
beside_count (ChangesPage page is at change) = omega arith
beside_count (ChangesTable tvm page i is below at of change) = omega arith
beside_count (Answers is at new) = omega arith
beside_count (Begins at room new all) = omega arith
beside_count (FencesTvm tvm low high at room new all) = omega arith
beside_count (ChangesHart is at change) = omega arith

module _ (script : ScriptValue) (history : List Entry) (old now : List ℕ) (hart place word : ℕ) (part : IsMonitored script history old now) (bounded : AreBounded script.pages script.harts now) (lawful : IsLawful script.pages script.harts hart old now place word) where
  store_monitored : IsMonitored script history old (set now place word)
  store_monitored = record {
    legal = part.legal;
    cached = part.cached;
    stands = part.stands;
    fences = part.fences;
    count = get_or-set_other now place (count_word script.pages script.harts) word 0 (beside_count lawful) ∙ part.count;
    size = length-set now place word ∙ part.size;
  }

  store_bounded : AreBounded script.pages script.harts (set now place word)
  store_bounded = record {
    within = stores_keep_answers script.pages script.harts hart old now place word part.size bounded.within lawful;
    fences = stores_keep_fences script.pages script.harts hart old now place word part.size bounded.fences lawful;
  }

  -- a page that had no pending store was the host's after the last entry
  old_host : (h : ℕ) (p : Page) → p.0 < script.pages → get_or old p.0 0 ≡ host 0 → WasFound script history h (targets.Host p)
  old_host h p below was =
      was_now script history h (targets.Host p) ((words_tell_host script.pages script.harts old (after script history) p.0 below part.stands.owners).1 (0, was))

  store_walk : (h : ℕ) (target : Target) (w : Walked) → WalkLives script history now h target w → WalkLives script history (set now place word) h target w
  store_walk h (targets.Host p) (walks.Found page) lives =
      let next = ⊎_elim
      (λ is. ⊎_elim inl (λ was. inr (old_host h p lives.1 was)) (stores_keep_host script.pages script.harts hart old now place word p.0 part.size lives.1 lawful is))
      inr
      lives.2 in
      (lives.0, lives.1, next)
  store_walk h (targets.Fetch g) (walks.Found page) lives = lives
  store_walk h (targets.Access g) (walks.Found page) lives = lives
  store_walk h target (walks.Missing w) lives = tt

  store_unused : (h : ℕ) (noted : Option Noted) → UnusedLives script history now h noted → UnusedLives script history (set now place word) h noted
  store_unused h None lives = tt
  store_unused h (Some noted) lives = store_walk h noted.target noted.walked lives

  store_live : (other : Holding) → answered_word script.pages other.hart ≢ place → IsLive script history now other → IsLive script history (set now place word) other
  store_live other ne live = record {
    on_board = live.on_board;
    usable = λ p named.
        let was = live.usable p named in
        (was.0, stores_keep_usable script.pages script.harts hart other.hart old now place word p part.size bounded.within live.on_board ne was.0 lawful was.1);
    walk = store_unused other.hart other.walked live.walk;
    rings = live.rings;
    way = live.way;
  }

pub stores_keep_rule : StoresKeepRule
stores_keep_rule script history old now hart place word part bounded lawful =
    (store_monitored script history old now hart place word part bounded lawful, store_bounded script history old now hart place word part bounded lawful, store_live script history old now hart place word part bounded lawful)

pub stores_keep_walks : StoresKeepWalks
stores_keep_walks script history old now hart place word part bounded lawful =
    store_unused script history old now hart place word part bounded lawful

-- ---- a list of them

lists_from : (script : ScriptValue) (history : List Entry) (old : List ℕ) (hart : ℕ) (ss : List (ℕ × ℕ)) (now : List ℕ) → IsMonitored script history old now → AreBounded script.pages script.harts now → AllAllowed (IsLawful script.pages script.harts hart old) now ss → IsMonitored script history old (stored now ss) × AreBounded script.pages script.harts (stored now ss) × ((other : Holding) → other.hart ≢ hart → IsLive script history now other → IsLive script history (stored now ss) other)
lists_from script history old hart [] now part bounded all = (part, bounded, λ other ne live. live)
lists_from script history old hart (s ∷ ss) now part bounded all =
    let one = stores_keep_rule script history old now hart s.0 s.1 part bounded all.0 in
    let rest = lists_from script history old hart ss (set now s.0 s.1) one.0 one.1 all.1 in
    (rest.0, rest.1, λ other ne live. rest.2 other ne (one.2 other (answers_apart all.0 other.hart live.on_board ne) live))

pub lists_keep_rule : ListsKeepRule
lists_keep_rule script history old now new hart part bounded leads =
    let all = lists_from script history old hart leads.0 now part bounded leads.1 in
    (subst (IsMonitored script history old) (sym leads.2) all.0, subst (AreBounded script.pages script.harts) (sym leads.2) all.1, λ other ne live. subst (λ ws. IsLive script history ws other) (sym leads.2) (all.2 other ne live))

-- ---- the store of the count

module _ (script : ScriptValue) (history : List Entry) (old now : List ℕ) (hart : ℕ) (entry : Entry) (limits : Limits script) (part : IsMonitored script history old now) (bounded : AreBounded script.pages script.harts now) (countable : IsCountable script history hart now entry) where
  abbrev one_more : ℕ
  one_more = get_or now (count_word script.pages script.harts) 0 + 1

  abbrev after_count : List ℕ
  after_count = set now (count_word script.pages script.harts) (get_or now (count_word script.pages script.harts) 0 + 1)

  kept_at : (at : ℕ) → at ≢ count_word script.pages script.harts → get_or after_count at 0 ≡ get_or now at 0
  kept_at at apart = get_or-set_other now (count_word script.pages script.harts) at one_more 0 apart

  epoch_stays : epoch_in script.pages after_count ≡ epoch_in script.pages now
  epoch_stays = let apart : epoch_word script.pages ≢ count_word script.pages script.harts = omega arith in kept_at (epoch_word script.pages) apart

  -- the count is no number of a fence
  fences_stay : (most : ℕ) → FencesWithin script.pages script.harts now most → FencesWithin script.pages script.harts after_count most
  fences_stay most fences = record {
    epoch = subst (λ n. n ≤ most) (sym epoch_stays) fences.epoch;
    numbers = λ t low high.
        let apart : tvm_word script.pages script.harts t ≢ count_word script.pages script.harts = omega arith in
        subst (λ n. n ≤ most) (sym (kept_at (tvm_word script.pages script.harts t) apart)) (fences.numbers t low high);
  }

  answer_stays : (h : ℕ) → h < script.harts → answered_in script.pages after_count h ≡ answered_in script.pages now h
  answer_stays h on =
      let apart : answered_word script.pages h ≢ count_word script.pages script.harts = omega arith in
      get_or-set_other now (count_word script.pages script.harts) (answered_word script.pages h) one_more 0 apart

  page_stays : (p : ℕ) → p < script.pages → get_or after_count p 0 ≡ get_or now p 0
  page_stays p below =
      let apart : p ≢ count_word script.pages script.harts = omega arith in
      get_or-set_other now (count_word script.pages script.harts) p one_more 0 apart

  count_monitored : IsMonitored script (history ++ entry ∷ []) after_count after_count
  count_monitored =
      let longer : length (history ++ entry ∷ []) ≡ length history + 1 = length_push history entry in
      let size : length now ≡ all_words script.pages script.harts = part.size in
      let inside : count_word script.pages script.harts < length now = omega arith in
      let legal_event = subst (λ h. Allows script (after script history) h entry.event) (sym countable.own) countable.allowed in
      let reached_event = subst (λ h. IsReached script history h entry.event) (sym countable.own) countable.reached in
      record {
        legal = legal_push script history entry part.legal legal_event;
        cached = each_push (λ before e. IsReached script before e.hart.0 e.event) [] history entry part.cached reached_event;
        stands = (count_leaves_words script.pages script.harts now (after script (history ++ entry ∷ [])) one_more countable.stands).stands;
        fences = subst (FencesWithin script.pages script.harts after_count) (sym longer) (fences_stay (length history + 1) countable.fences);
        count = get_or-set_same now (count_word script.pages script.harts) one_more 0 inside ∙ ap (λ n. n + 1) part.count ∙ sym longer;
        size = length-set now (count_word script.pages script.harts) one_more ∙ size;
      }

  count_bounded : AreBounded script.pages script.harts after_count
  count_bounded = record {
    within = λ h on.
        let was : answered_in script.pages now h ≤ epoch_in script.pages now = bounded.within h on in
        let number = answer_stays h on in
        let same = epoch_stays in
        omega arith;
    fences = fences_stay ENTRY_LIMIT bounded.fences;
  }

  count_walk : (h : ℕ) → (entry.hart.0 ≡ h → ⊥) → (target : Target) (w : Walked) → WalkLives script history now h target w → WalkLives script (history ++ entry ∷ []) after_count h target w
  count_walk h ne (targets.Host p) (walks.Found page) lives =
      let next = ⊎_elim
      (λ is. inl (subst IsHostWord (sym (page_stays p.0 lives.1)) is))
      (λ was. inr (was_longer script history entry h (targets.Host p) ne was))
      lives.2 in
      (lives.0, lives.1, next)
  count_walk h ne (targets.Fetch g) (walks.Found page) lives = led_longer script history entry h (targets.Fetch g) page ne lives
  count_walk h ne (targets.Access g) (walks.Found page) lives = led_longer script history entry h (targets.Access g) page ne lives
  count_walk h ne target (walks.Missing w) lives = tt

  count_unused : (h : ℕ) → (entry.hart.0 ≡ h → ⊥) → (noted : Option Noted) → UnusedLives script history now h noted → UnusedLives script (history ++ entry ∷ []) after_count h noted
  count_unused h ne None lives = tt
  count_unused h ne (Some noted) lives = count_walk h ne noted.target noted.walked lives

  count_usable : (h p : ℕ) → h < script.harts → p < script.pages → MayUse script.pages now h p → MayUse script.pages after_count h p
  count_usable h p on below may =
      subst (λ n. IsUsableWord n (get_or after_count p 0)) (sym (answer_stays h on))
      (subst (IsUsableWord (answered_in script.pages now h)) (sym (page_stays p below)) may)

  count_live : (other : Holding) → other.hart ≢ hart → IsLive script history now other → IsLive script (history ++ entry ∷ []) after_count other
  count_live other ne live =
      let apart : entry.hart.0 ≡ other.hart → ⊥ = λ q. ne (sym q ∙ countable.own) in
      record {
        on_board = live.on_board;
        usable = λ p named.
            let was = live.usable p named in
            (was.0, count_usable other.hart p live.on_board was.0 was.1);
        walk = count_unused other.hart apart other.walked live.walk;
        rings = live.rings ∙ ap (λ t. walked_rings (rings_of t) other.walked) (sym (tlb_other script history entry other.hart apart));
        way = way_apart script limits history entry part.legal other.hart live.on_board apart other.way live.way;
      }

pub counts_keep_rule : CountsKeepRule
counts_keep_rule script history old now hart entry within part bounded countable =
    let limits = limits_of script within in
    (count_monitored script history old now hart entry limits part bounded countable, count_bounded script history old now hart entry limits part bounded countable, count_live script history old now hart entry limits part bounded countable)

-- ---- the boundary

module _ (script : ScriptValue) (limits : Limits script) (history : List Entry) (words : List ℕ) (part : IsMonitored script history words words) where
  lives_in : (h p : ℕ) → may_use h (page_at (after script history).pages p) ≡ true → (p < script.pages) × MayUse script.pages words h p
  lives_in h p may = usable_in script.pages script.harts words (after script history) h p part.stands.owners may

  held_lives : (h p : ℕ) → has p (tlb script history h).pages ≡ true → (p < script.pages) × MayUse script.pages words h p
  held_lives h p named = lives_in h p (holds_able (after script history) h (tlb script history h) (host_at p) (usable script limits history part.legal h) named)

  found_lives : (h : ℕ) (p : Page) → h < script.harts → WasFound script history h (targets.Host p) → (p.0 < script.pages) × MayUse script.pages words h p.0
  found_lives h p on was = lives_in h p.0 (held_since script history h (targets.Host p) on was)

  walk_lives : (h : ℕ) → h < script.harts → (target : Target) (w : Walked) → WalkFits script history h target w → WalkLives script history words h target w
  walk_lives h on (targets.Host q) (walks.Found page) fits =
      (same_page page q fits.1.led, (found_lives h q on fits.1.was).0, inr fits.1.was)
  walk_lives h on (targets.Fetch g) (walks.Found page) fits = fits.1
  walk_lives h on (targets.Access g) (walks.Found page) fits = fits.1
  walk_lives h on target (walks.Missing word) fits = tt

  unused_lives : (h : ℕ) → h < script.harts → (noted : Option Noted) → UnusedFits script history h noted → UnusedLives script history words h noted
  unused_lives h on None fits = tt
  unused_lives h on (Some noted) fits = walk_lives h on noted.target noted.walked fits

  found_there : (h p : ℕ) → h < script.harts → WasFound script history h (host_at p) → (p < script.pages) × MayUse script.pages words h p
  found_there h p on was = found_lives h (record { 0 = p }) on was

  way_lives : (h : ℕ) (here : Option Inside) → InsideFits (after script history) h here → WayFits (after script history) h (option_map way_of here)
  way_lives h None fits = fits
  way_lives h (Some here) fits = record {
    seat = seat_of here;
    sits = fits.sits;
    root = fits.root;
    mode = fits.mode;
    tables = λ p among. let none = among.1 in absurd (omega arith);
  }

  resting_way : (h : ℕ) (o : Option Seat) → (after script history).seats h ≡ o → WayFits (after script history) h (option_map (λ (seat : Seat). record { root = root_of (after script history).pages seat.tvm; mode = mode_in (after script history) seat.tvm; tables = [] }) o)
  resting_way h None sits = sits
  resting_way h (Some seat) sits = record {
    seat = seat;
    sits = sits;
    root = refl;
    mode = refl;
    tables = λ p among. let none = among.1 in absurd (omega arith);
  }

  live_of : (held : HartValue) → Fits script history held → IsLive script history words (holding held)
  live_of held fits = record {
    on_board = fits.on_board;
    usable = λ p named.
        ⊎_elim (held_lives held.hart p) (found_there held.hart p fits.on_board)
        (ring_cases script history held.hart p held.rings held.walked fits.walk fits.rings named);
    walk = unused_lives held.hart fits.on_board held.walked fits.walk;
    rings = fits.rings;
    way = way_lives held.hart held.inside fits.inside;
  }

  resting_live : (h : ℕ) → h < script.harts → IsLive script history words (resting script history h)
  resting_live h on = record {
    on_board = on;
    usable = λ p named. held_lives h p (ring_names (tlb script history h).pages p named);
    walk = tt;
    rings = refl;
    way = resting_way h ((after script history).seats h) refl;
  }

pub resting_harts_live : RestingHartsLive
resting_harts_live script history words hart within part on = resting_live script (limits_of script within) history words part hart on

pub fitting_harts_use : FittingHartsUse
fitting_harts_use script history words held p within part fits named =
    let limits = limits_of script within in
    ⊎_elim
    (λ ring. (live_of script limits history words part held fits).usable p ring)
    (λ walk. found_there script limits history words part held.hart p fits.on_board (walk_was_found script history held.hart p held.walked fits.walk walk))
    named

pub fitting_harts_live : FittingHartsLive
fitting_harts_live script history words held within part fits = live_of script (limits_of script within) history words part held fits

pub live_walks_were_right : LiveWalksWereRight
live_walks_were_right script history words held p page part live walked =
    let lives = subst (UnusedLives script history words held.hart) walked live.walk in
    ⊎_elim
    (λ is. was_now script history held.hart (targets.Host p) ((words_tell_host script.pages script.harts words (after script history) p.0 lives.1 part.stands.owners).1 is))
    (λ was. was)
    lives.2
