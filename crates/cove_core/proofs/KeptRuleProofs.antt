-- A history that is kept follows the board's rule.
use Rattle.std.proofs.Common.{◌≡◌, ◌+◌, ◌≤◌, length, [], ◌∷◌, ◌++◌, set, sym, ap, subst, ◌∙◌, arith}
use Rattle.cove_core.proofs.BoardLemmas.{kept_stand}
use Rattle.cove_core.specs.KeptRule.{KeptHartsLive, KeptHartsUse, KeptIsBounded, KeptIsMonitored, StepsKeepLive}
use Rattle.cove_model.specs.Machine.{count_word, number_in}
use Rattle.cove_model.proofs.BoardRuleProofs.{counts_keep_rule, fitting_harts_live, fitting_harts_use, lists_keep_rule}
use Rattle.cove_model.specs.BoardRule.{IsLive}
use Rattle.cove_model.specs.LawfulCounts.{counted}

pub kept_is_monitored : KeptIsMonitored
kept_is_monitored script words mon kept = record {
  legal = kept.legal;
  cached = kept.cached;
  stands = (kept_stand script words mon kept).stands;
  fences = kept.fences;
  count = kept.count;
  size = (kept_stand script words mon kept).stands.size;
}

pub kept_is_bounded : KeptIsBounded
kept_is_bounded script words mon kept room = record {
  within = (kept_stand script words mon kept).within;
  fences = record {
    epoch = let epoch = kept.fences.epoch in omega arith;
    numbers = λ t low high.
        let number : number_in script.pages script.harts words t ≤ length mon.history = kept.fences.numbers t low high in
        omega arith;
  };
}

pub kept_harts_live : KeptHartsLive
kept_harts_live script words mon held within kept fits =
    fitting_harts_live script mon.history words held within (kept_is_monitored script words mon kept) fits

pub kept_harts_use : KeptHartsUse
kept_harts_use script words mon held p within kept fits named =
    fitting_harts_use script mon.history words held p within (kept_is_monitored script words mon kept) fits named

pub steps_keep_live : StepsKeepLive
steps_keep_live script before now old new held left other entry within room kept made ne live =
    let stored = made.stores.0 in
    let countable = made.stores.2 in
    let part = kept_is_monitored script before old kept in
    let bounded = kept_is_bounded script before old kept (omega arith) in
    let lists = lists_keep_rule script old.history before before stored held.hart part bounded made.stores.1 in
    let counts = counts_keep_rule script old.history before stored held.hart entry within lists.0 lists.1 countable in
    let same : counted script.pages script.harts stored ≡ now =
    ap (λ n. set stored (count_word script.pages script.harts) (n + 1)) countable.count ∙ sym made.stores.3 in
    subst (λ h. IsLive script h now other) (sym made.grown)
    (subst (λ ws. IsLive script (old.history ++ entry ∷ []) ws other) same (counts.2 other ne (lists.2 other ne live)))
