-- What each kind of step makes of the parts is right, and it leaves the parts of other harts right.
use Rattle.std.proofs.Common.{◌≡◌, ◌≢◌, ℕ, ◌<◌, Bool, true, false, cond, eqb, append-nil, append_assoc, List, [], ◌∷◌, ◌++◌, None, get_or, set, refl, sym, ◌∙◌, ap, subst}
use Rattle.std.proofs.lemmas.Bool.{eqb-false, false≢true}
use Rattle.cove_model.specs.Machine.{HartRings, no_rings, answered_word, ScriptValue, Entry, Page, own, IsLawful}
use Rattle.cove_board.specs.Parts.{HartPart, MonitorPart, counted_monitor, counted_part, holding_of, loaded_part, new_part, stored_monitor, stored_part, walked_part}
use Rattle.cove_board.specs.Ruled.{IsMonitor, IsPart, Lives}
use Rattle.cove_model.proofs.AtTheEnd.{own_other, own_same}
use Rattle.cove_model.proofs.BoardRuleProofs.{counts_keep_rule, resting_harts_live, stores_keep_rule, stores_keep_walks}
use Rattle.cove_model.proofs.StoreLawProofs.{answers_apart}
use Rattle.cove_model.proofs.WalkRuleProofs.{walks_keep_rule}
use Rattle.cove_model.specs.BoardRule.{IsLive, IsMonitored, UnusedLives}
use Rattle.cove_model.specs.LawfulCounts.{IsCountable, counted}

-- ---- what each mark leaves

lives_on_board : (script : ScriptValue) (H : List Entry) (words : List ℕ) (p : HartPart) (mark : Bool) → Lives script H words (holding_of p) mark → p.hart < script.harts
lives_on_board script H words p true lives = lives.on_board
lives_on_board script H words p false lives = lives.on_board

lives_unused : (script : ScriptValue) (H : List Entry) (words : List ℕ) (p : HartPart) (mark : Bool) → Lives script H words (holding_of p) mark → UnusedLives script H words p.hart p.walked
lives_unused script H words p true lives = lives.walk
lives_unused script H words p false lives = lives.walk

-- ---- loads

pub walk_moves : (script : ScriptValue) (H : List Entry) (words : List ℕ) (page : Page) (p : HartPart) → page.0 < script.pages → p.walked ≡ None → p.mark ≡ false → IsPart script H words p → IsPart script H words (walked_part page (get_or words page.0 0) p)
walk_moves script H words page p below none unmarked right = record {
  script_is = right.script_is;
  mine = right.mine;
  seen = right.seen;
  lives =
      subst (Lives script H words (holding_of (walked_part page (get_or words page.0 0) p))) (sym unmarked)
      (walks_keep_rule script H words (holding_of p) page below none (subst (Lives script H words (holding_of p)) unmarked right.lives));
}

pub load_moves : (script : ScriptValue) (H : List Entry) (words : List ℕ) (place word : ℕ) (p : HartPart) → IsPart script H words p → IsPart script H words (loaded_part place word p)
load_moves script H words place word p right = record {
  script_is = right.script_is;
  mine = right.mine;
  seen = right.seen;
  lives = right.lives;
}

-- ---- a lawful store

module _ (script : ScriptValue) (m : MonitorPart) (p : HartPart) (place word : ℕ) (monitor : IsMonitor script m) (right : IsPart script m.history m.now p) (lawful : IsLawful script.pages script.harts p.hart m.old m.now place word) where
  abbrev new_words : List ℕ
  new_words = set m.now place word

  pub store_monitor : IsMonitor script (stored_monitor place word m)
  store_monitor =
      let kept = stores_keep_rule script m.history m.old m.now p.hart place word monitor.monitored monitor.bounded lawful in
      record {
        script_is = monitor.script_is;
        limits = monitor.limits;
        monitored = kept.0;
        bounded = kept.1;
        clean = λ clean. absurd (false≢true clean);
      }

  unused : UnusedLives script m.history new_words p.hart p.walked
  unused =
      stores_keep_walks script m.history m.old m.now p.hart place word monitor.monitored monitor.bounded lawful p.hart p.walked
      (lives_unused script m.history m.now p p.mark right.lives)

  on_board : p.hart < script.harts
  on_board = lives_on_board script m.history m.now p p.mark right.lives

  marked_by : (rings : HartRings) → rings ≡ no_rings → Lives script m.history new_words (record (holding_of p) { rings = rings }) true
  marked_by rings empty = record { on_board = on_board; rings = empty; walk = unused }

  unmarked_by : answered_word script.pages p.hart ≢ place → (mark : Bool) → Lives script m.history m.now (holding_of p) mark → Lives script m.history new_words (holding_of p) mark
  unmarked_by apart true lives = marked_by p.rings lives.rings
  unmarked_by apart false lives =
      (stores_keep_rule script m.history m.old m.now p.hart place word monitor.monitored monitor.bounded lawful).2 (holding_of p) apart lives

  lives_by : (answers : Bool) → eqb place (answered_word p.script.pages p.hart) ≡ answers → Lives script m.history new_words (record (holding_of p) { rings = cond answers no_rings p.rings }) (cond answers true p.mark)
  lives_by true e = marked_by no_rings refl
  lives_by false e =
      let apart : place ≢ answered_word p.script.pages p.hart = eqb-false place (answered_word p.script.pages p.hart) e in
      unmarked_by (λ same. apart (sym same ∙ ap (λ (s : ScriptValue). answered_word s.pages p.hart) (sym right.script_is))) p.mark right.lives

  pub store_part : IsPart script m.history new_words (stored_part place p)
  store_part = record {
    script_is = right.script_is;
    mine = right.mine;
    seen = right.seen;
    lives = lives_by (eqb place (answered_word p.script.pages p.hart)) refl;
  }

  pub store_others : (q : HartPart) → q.hart ≢ p.hart → q.mark ≡ false → IsPart script m.history m.now q → IsPart script m.history new_words q
  store_others q ne unmarked other =
      let live = subst (Lives script m.history m.now (holding_of q)) unmarked other.lives in
      let kept = stores_keep_rule script m.history m.old m.now p.hart place word monitor.monitored monitor.bounded lawful in
      record {
        script_is = other.script_is;
        mine = other.mine;
        seen = other.seen;
        lives = subst (Lives script m.history new_words (holding_of q)) (sym unmarked) (kept.2 (holding_of q) (answers_apart lawful q.hart live.on_board ne) live);
      }

-- ---- the store of the count

module _ (m : MonitorPart) (p : HartPart) (entry : Entry) (monitor : IsMonitor m.script m) (right : IsPart m.script m.history m.now p) (countable : IsCountable m.script m.history p.hart m.now entry) where
  abbrev longer : List Entry
  longer = m.history ++ entry ∷ []

  abbrev counted_words : List ℕ
  counted_words = counted m.script.pages m.script.harts m.now

  pub count_monitor : IsMonitor m.script (counted_monitor entry m)
  count_monitor =
      let kept = counts_keep_rule m.script m.history m.old m.now p.hart entry monitor.limits monitor.monitored monitor.bounded countable in
      record {
        script_is = refl;
        limits = monitor.limits;
        monitored = kept.0;
        bounded = kept.1;
        clean = λ clean. refl;
      }

  pub count_part : IsPart m.script longer counted_words (counted_part entry m p)
  count_part = record {
    script_is = right.script_is;
    mine = ap (λ es. es ++ entry ∷ []) right.mine ∙ sym (own_same m.history entry p.hart countable.own);
    seen = ([], sym (append-nil longer));
    lives = resting_harts_live m.script longer counted_words p.hart monitor.limits count_monitor.monitored (lives_on_board m.script m.history m.now p p.mark right.lives);
  }

  pub count_others : (q : HartPart) → q.hart ≢ p.hart → q.mark ≡ false → IsPart m.script m.history m.now q → IsPart m.script longer counted_words q
  count_others q ne unmarked other =
      let live = subst (Lives m.script m.history m.now (holding_of q)) unmarked other.lives in
      let kept = counts_keep_rule m.script m.history m.old m.now p.hart entry monitor.limits monitor.monitored monitor.bounded countable in
      record {
        script_is = other.script_is;
        mine = other.mine ∙ sym (own_other m.history entry q.hart (λ same. ne (sym same ∙ countable.own)));
        seen = (other.seen.0 ++ entry ∷ [], ap (λ es. es ++ entry ∷ []) other.seen.1 ∙ append_assoc q.seen other.seen.0 (entry ∷ []));
        lives = subst (Lives m.script longer counted_words (holding_of q)) (sym unmarked) (kept.2 (holding_of q) ne live);
      }

-- ---- dealing

pub new_moves : (script : ScriptValue) (hart : ℕ) (m : MonitorPart) → IsMonitor script m → m.history ≡ [] → m.clean ≡ true → hart < script.harts → IsPart script m.history m.now (new_part m.script hart)
new_moves script hart m monitor empty clean on = record {
  script_is = monitor.script_is;
  mine = sym (ap (λ H. own H hart) empty);
  seen = ([], empty);
  lives = subst (λ H. IsLive script H m.now (holding_of (new_part m.script hart))) (sym empty) (resting_harts_live script [] m.now hart monitor.limits at_boundary on);
}
  where
    at_boundary : IsMonitored script [] m.now m.now
    at_boundary = subst (λ H. IsMonitored script H m.now m.now) empty (subst (λ ws. IsMonitored script m.history ws m.now) (monitor.clean clean) monitor.monitored)
