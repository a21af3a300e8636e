-- A hart's use of a page outlives the events of others, and those of its own that empty no host pages.
use Rattle.std.proofs.Common.{◌≡◌, ℕ, ◌+◌, ◌/◌, ◌<◌, true, List, [], ◌∷◌, Option, Some, None, refl, sym, ap, ◌∙◌, ⊎_elim}
use Rattle.cove_model.specs.Machine.{HostCall, Convert, GlobalFence, LocalFence, Reclaim, Create, Tables, Measured, Zero, Remove, Destroy, Converting, Free, Given, Host, Owner, Purpose, AsRoot, AsState, AsTable, AsVcpu, AsData, TheHost, fence_answered, change, converted, fenced, has, holder, is_host, may_use, page_at, reclaimed, settled, word_stored, without, harts_below, State, is_among, Forgets, Keeps, ForgetsGuests, ForgetsAll, rule, freed, given_to, removed, IsSoundPage}
use Rattle.cove_base.specs.declared.calls.HostCall.TheVariants.{Vcpu}
use Rattle.cove_model.proofs.Members.{false-true, has_below, has_without}
use Rattle.cove_model.proofs.Runs.{change_cases, page_map}
use Rattle.cove_model.proofs.GuestChanges.{Left, Put, Wrote}
use Rattle.cove_model.proofs.Moves.{Converts, Fences, Gives, Move, Reclaims, Responds, Returns, Same, Stores, outcome_state}
use Rattle.cove_model.proofs.PageRuns.{each_cases}

use_settled : (h : ℕ) (held waiting words : List ℕ) → has h held ≡ true → has h waiting ≡ true → may_use h (settled held waiting words) ≡ true
use_settled h held [] words e w = false-true w
use_settled h held (x ∷ xs) words e w = e

use_converted : (n h : ℕ) (o : Owner) → h < n → may_use h o ≡ true → may_use h (converted (harts_below n) o) ≡ true
use_converted n h (Host words) lt e = has_below n h lt
use_converted n h (Converting held waiting words) lt e = e
use_converted n h Free lt e = e
use_converted n h (Given tvm purpose) lt e = e

-- a change of pages that leaves the host's and those on their way
keeps_use : (f : Owner → Owner) → ((words : List ℕ) → f (Host words) ≡ Host words) → ((held : List ℕ) (waiting : Option (List ℕ)) (words : List ℕ) → f (Converting held waiting words) ≡ Converting held waiting words)
    → (h : ℕ) (o : Owner) → may_use h o ≡ true → may_use h (f o) ≡ true
keeps_use f hosts others h (Host words) e = ap (may_use h) (hosts words)
keeps_use f hosts others h (Converting held waiting words) e = ap (may_use h) (others held waiting words) ∙ e
keeps_use f hosts others h Free e = false-true e
keeps_use f hosts others h (Given tvm purpose) e = false-true e

pub use_stored : (h place value : ℕ) (o : Owner) → may_use h o ≡ true → may_use h (word_stored place value o) ≡ true
use_stored h place value (Host words) e = refl
use_stored h place value (Converting held waiting words) e = e
use_stored h place value Free e = e
use_stored h place value (Given tvm purpose) e = e

use_fenced : (S : State) (k h : ℕ) (o : Owner) → IsSoundPage S.harts S.unanswered o → h < S.harts → (h ≡ k → ⊥) → may_use h o ≡ true → may_use h (fenced k (without k (harts_below S.harts)) o) ≡ true
use_fenced S k h (Host words) sound lt ne e = refl
use_fenced S k h (Converting held None words) sound lt ne e = use_settled h (without k held) (without k (harts_below S.harts)) words (has_without k h ne held e) (has_without k h ne (harts_below S.harts) (has_below S.harts h lt))
use_fenced S k h (Converting held (Some waiting) words) sound lt ne e = use_settled h (without k held) waiting words (has_without k h ne held e) (sound.1 h e)
use_fenced S k h Free sound lt ne e = e
use_fenced S k h (Given tvm purpose) sound lt ne e = e

use_answered : (S : State) (k h : ℕ) (o : Owner) → IsSoundPage S.harts S.unanswered o → (h ≡ k → ⊥) → may_use h o ≡ true → may_use h (fence_answered k o) ≡ true
use_answered S k h (Host words) sound ne e = refl
use_answered S k h (Converting held None words) sound ne e = has_without k h ne held e
use_answered S k h (Converting held (Some waiting) words) sound ne e = use_settled h (without k held) (without k waiting) words (has_without k h ne held e) (has_without k h ne waiting (sound.1 h e))
use_answered S k h Free sound ne e = e
use_answered S k h (Given tvm purpose) sound ne e = e

-- a move by another hart
pub use_move : (S T : State) (k h : ℕ) (old new : Owner) → Move S T k old new → IsSoundPage S.harts S.unanswered old → h < S.harts → (h ≡ k → ⊥) → may_use h old ≡ true → may_use h new ≡ true
use_move S T k h old new (Same u q) sound lt ne e = ap (may_use h) q ∙ e
use_move S T k h old new (Converts u q) sound lt ne e = ap (may_use h) q ∙ use_converted S.harts h old lt e
use_move S T k h old new (Reclaims u q) sound lt ne e = ap (may_use h) q ∙ keeps_use reclaimed (λ words. refl) (λ held waiting words. refl) h old e
use_move S T k h old new (Stores place value u q) sound lt ne e = ap (may_use h) q ∙ use_stored h place value old e
use_move S T k h old new (Fences all u q) sound lt ne e = ap (may_use h) q ∙ use_fenced S k h old sound lt ne e
use_move S T k h old new (Responds u q) sound lt ne e = ap (may_use h) q ∙ use_answered S k h old sound ne e
use_move S T k h old new (Gives t purpose u root free q) sound lt ne e = false-true (sym (ap (may_use h) free) ∙ e)
use_move S T k h old new (Returns t purpose u left given q) sound lt ne e = false-true (sym (ap (may_use h) given) ∙ e)

pub use_host : (h : ℕ) (o : Owner) → is_host o ≡ true → may_use h o ≡ true
use_host h (Host words) e = refl
use_host h (Converting held waiting words) e = false-true e
use_host h Free e = false-true e
use_host h (Given tvm purpose) e = false-true e

pub use_holder : (h : ℕ) (o : Owner) → may_use h o ≡ true → holder o ≡ TheHost
use_holder h (Host words) e = refl
use_holder h (Converting held waiting words) e = refl
use_holder h Free e = false-true e
use_holder h (Given tvm purpose) e = false-true e

-- a page that an event of a guest stores to, or leaves
pub use_wrote : (S T : State) (h p : ℕ) → Wrote S T p → may_use h (page_at S.pages p) ≡ true → may_use h (page_at T.pages p) ≡ true
use_wrote S T h p (Left u e) q = ap (may_use h) e ∙ q
use_wrote S T h p (Put place value u e) q = ap (may_use h) e ∙ use_stored h place value (page_at S.pages p) q

-- ---- calls of the hart's own

-- what is emptied leaves the host pages
abbrev pub Spares : Forgets → Type 0
Spares Keeps = Unit {0}
Spares ForgetsGuests = Unit {0}
Spares ForgetsAll = ⊥

use_changed : (f : Owner → Owner) (first n : ℕ) (pages : List Owner) (h p : ℕ) → ((o : Owner) → may_use h o ≡ true → may_use h (f o) ≡ true)
    → may_use h (page_at pages p) ≡ true → may_use h (page_at (change f first n pages) p) ≡ true
use_changed f first n pages h p each e = ⊎_elim (λ q. ap (may_use h) q ∙ e) (λ q. ap (may_use h) q ∙ each (page_at pages p) e) (change_cases f first n pages p)

use_gift : (t : ℕ) (purpose : Purpose) (h : ℕ) (o : Owner) → may_use h o ≡ true → may_use h (given_to t purpose o) ≡ true
use_gift t purpose h o e = keeps_use (given_to t purpose) (λ words. refl) (λ held waiting words. refl) h o e

pub use_call : (S : State) (h : ℕ) (call : HostCall) (p : ℕ) → Spares (rule S h call).forgets → h < S.harts
    → may_use h (page_at S.pages p) ≡ true → may_use h (page_at (outcome_state S h call).pages p) ≡ true
use_call S h (Convert base n) p spares lt e = use_changed (converted (harts_below S.harts)) (base / 4096) n S.pages h p (λ o q. use_converted S.harts h o lt q) e
use_call S h GlobalFence p spares lt e = absurd spares
use_call S h LocalFence p spares lt e = absurd spares
use_call S h (Reclaim base n) p spares lt e = use_changed reclaimed (base / 4096) n S.pages h p (λ o q. keeps_use reclaimed (λ words. refl) (λ held waiting words. refl) h o q) e
use_call S h (Create root state) p spares lt e =
    let t = S.made + 1 in
    let mid = change (given_to t AsRoot) (root / 4096) 4 S.pages in
    use_changed (given_to t AsState) (state / 4096) 1 mid h p (use_gift t AsState h)
    (use_changed (given_to t AsRoot) (root / 4096) 4 S.pages h p (use_gift t AsRoot h) e)
use_call S h (Tables t base n) p spares lt e = use_changed (given_to t AsTable) (base / 4096) n S.pages h p (use_gift t AsTable h) e
use_call S h (Measured t src dst n gpa) p spares lt e =
    ⊎_elim (λ q. ap (may_use h) q ∙ e) (λ q. ap (may_use h) q.1 ∙ use_gift t (AsData (gpa / 4096 + q.0)) h (page_at S.pages p) e)
    (each_cases (λ i. given_to t (AsData (gpa / 4096 + i))) (dst / 4096) n S.pages p)
use_call S h (Vcpu t v state) p spares lt e = use_changed (given_to t AsVcpu) (state / 4096) 1 S.pages h p (use_gift t AsVcpu h) e
use_call S h (Zero t base n gpa) p spares lt e =
    ⊎_elim (λ q. ap (may_use h) q ∙ e) (λ q. ap (may_use h) q.1 ∙ use_gift t (AsData (gpa / 4096 + q.0)) h (page_at S.pages p) e)
    (each_cases (λ i. given_to t (AsData (gpa / 4096 + i))) (base / 4096) n S.pages p)
use_call S h (Remove t gpa n) p spares lt e =
    ap (may_use h) (page_map (removed t (is_among gpa n)) refl S.pages p)
    ∙ keeps_use (removed t (is_among gpa n)) (λ words. refl) (λ held waiting words. refl) h (page_at S.pages p) e
use_call S h (Destroy t) p spares lt e =
    ap (may_use h) (page_map (freed t) refl S.pages p) ∙ keeps_use (freed t) (λ words. refl) (λ held waiting words. refl) h (page_at S.pages p) e
use_call S h _ p spares lt e = e
