-- What the calls do to one page word, over two functions that give the answered numbers before and after.
use Rattle.std.proofs.Common.{◌≡◌, ◌≢◌, ℕ, ◌+◌, ◌<◌, ◌≤◌, List, [], ◌∷◌, Some, None, refl, sym, ◌∙◌, ap, subst, inl, inr, arith, true}
use Rattle.std.proofs.lemmas.Bool.{cases_eq, false≢true}
use Rattle.cove_model.specs.Machine.{converting, Owner, Host, Converting, Free, has, without, settled, converted, fenced, fence_answered, harts_below, PageStands, IsAnsweredByAll, harts_behind}
use Rattle.cove_model.proofs.HartLists.{behind_has, none_behind, has_first, others_behind, without-behind}
use Rattle.cove_model.proofs.Members.{has_with, has_not, below_has}

-- a page that waits for the harts behind: it is free where there is none
settles : (harts epoch : ℕ) (after : ℕ → ℕ) (maps word : ℕ) (held waiting words : List ℕ) (since : ℕ) → word ≡ converting since → since < epoch → ((k : ℕ) → has k held ≡ true → (k < harts) × (after k ≤ since)) → waiting ≡ harts_behind harts after (since + 1) → PageStands harts epoch after maps word (settled held waiting words)
settles harts epoch after maps word held [] words since is begun holds waits =
    inr (since, is, λ k within. omega (arith, none_behind harts after (since + 1) waits k within))
settles harts epoch after maps word held (x ∷ xs) words since is begun holds waits =
    let first = behind_has harts after (since + 1) x (subst (λ ys. has x ys ≡ true) waits (has_first x xs)) in
    record {
      since = since;
      is = is;
      begun = omega arith;
      holds = holds;
      waits = (begun, waits);
      pending = (x, first.0, omega arith);
    }

-- the harts that hold a page, without one of them
holds_without : (harts hart : ℕ) (before after : ℕ → ℕ) (held : List ℕ) (since : ℕ) → ((k : ℕ) → k ≢ hart → after k ≡ before k) → ((k : ℕ) → has k held ≡ true → (k < harts) × (before k ≤ since)) → (k : ℕ) → has k (without hart held) ≡ true → (k < harts) × (after k ≤ since)
holds_without harts hart before after held since others holds k e =
    let was = holds k (has_with hart k held e) in
    (was.0, omega (arith, was.1, others k (λ is. false≢true (sym (has_not hart held) ∙ (rw is at e)))))

-- where every hart had answered more than a number, each has yet
later : (harts hart : ℕ) (before after : ℕ → ℕ) (since : ℕ) → since < after hart → ((k : ℕ) → k ≢ hart → after k ≡ before k) → IsAnsweredByAll harts before since → IsAnsweredByAll harts after since
later harts hart before after since own others over k within = elim (cases_eq k hart) [
  | inl is ↦ rw is own
  | inr ne ↦ omega (arith, others k ne, over k within)
]

-- a convert: no hart has answered a later epoch
pub converted_page : (harts epoch : ℕ) (numbers : ℕ → ℕ) (maps : ℕ) → 0 < harts → ((k : ℕ) → k < harts → numbers k ≤ epoch) → (words : List ℕ) → PageStands harts epoch numbers maps (converting epoch) (converted (harts_below harts) (Host words))
converted_page harts epoch numbers maps some within words = record {
  since = epoch;
  is = refl;
  begun = omega arith;
  holds = λ k e. let on = below_has harts k e in (on, within k on);
  waits = omega arith;
  pending = (0, some, within 0 some);
}

-- a global fence of a hart: every hart had answered the epoch, and the hart has answered the new one
pub fenced_page : (harts hart epoch : ℕ) (before after : ℕ → ℕ) → hart < harts → ((k : ℕ) → k < harts → before k ≡ epoch) → after hart ≡ epoch + 1 → ((k : ℕ) → k ≢ hart → after k ≡ before k) → (maps word : ℕ) (owner : Owner) → PageStands harts epoch before maps word owner → PageStands harts (epoch + 1) after maps word (fenced hart (without hart (harts_below harts)) owner)
fenced_page harts hart epoch before after on all own others maps word (Converting held None words) stands =
    let since : stands.since ≡ epoch = omega (arith, stands.begun, stands.waits) in
    settles harts (epoch + 1) after maps word (without hart held) (without hart (harts_below harts)) words stands.since stands.is (omega arith)
    (holds_without harts hart before after held stands.since others stands.holds)
    (others_behind harts hart after (stands.since + 1) (omega arith) (λ k within ne. omega (arith, others k ne, all k within)))
fenced_page harts hart epoch before after on all own others maps word (Converting held (Some waiting) words) stands =
    absurd (omega (arith, all stands.pending.0 stands.pending.1, stands.pending.2, stands.waits.0))
fenced_page harts hart epoch before after on all own others maps word Free (inl is) = inl is
fenced_page harts hart epoch before after on all own others maps word Free (inr stands) =
    inr (stands.0, stands.1, later harts hart before after stands.0 (omega (arith, own, all hart on, stands.2 hart on)) others stands.2)
fenced_page harts hart epoch before after on all own others maps word owner stands = stands

-- a local fence of a hart, which has answered the epoch then
pub answered_page : (harts hart epoch : ℕ) (before after : ℕ → ℕ) → hart < harts → ((k : ℕ) → k < harts → before k ≤ epoch) → after hart ≡ epoch → ((k : ℕ) → k ≢ hart → after k ≡ before k) → (maps word : ℕ) (owner : Owner) → PageStands harts epoch before maps word owner → PageStands harts epoch after maps word (fence_answered hart owner)
answered_page harts hart epoch before after on within own others maps word (Converting held None words) stands = record {
  since = stands.since;
  is = stands.is;
  begun = stands.begun;
  holds = holds_without harts hart before after held stands.since others stands.holds;
  waits = stands.waits;
  pending = (hart, on, omega (arith, stands.waits));
}
answered_page harts hart epoch before after on within own others maps word (Converting held (Some waiting) words) stands =
    settles harts epoch after maps word (without hart held) (without hart waiting) words stands.since stands.is stands.waits.0 (holds_without harts hart before after held stands.since others stands.holds) (ap (without hart) stands.waits.1 ∙ without-behind harts hart before after (stands.since + 1) (omega (arith, stands.waits.0)) others)
answered_page harts hart epoch before after on within own others maps word Free (inl is) = inl is
answered_page harts hart epoch before after on within own others maps word Free (inr stands) =
    inr (stands.0, stands.1, later harts hart before after stands.0 (omega (arith, own, within hart on, stands.2 hart on)) others stands.2)
answered_page harts hart epoch before after on within own others maps word owner stands = stands
