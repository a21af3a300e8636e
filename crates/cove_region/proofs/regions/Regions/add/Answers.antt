use Rattle.std.proofs.Common.{◌≡◌, ◌≤◌, true, false, length, subst, sym, refl, arith}
use Rattle.std.specs.List.{list_any}
use Rattle.cove_base.specs.declared.limits.TheConstants.{REGION_LIMIT}
use Rattle.cove_region.specs.declared.kinds.AreaKind.TheVariants.{Outside, Private}
use Rattle.cove_region.specs.GuestMaps.{AreAll, AreMade, GuestMap, meets, pages_from}
use Rattle.cove_region.specs.Rows.{HasPages}
use Rattle.cove_region.proofs.KindLemmas.{add_free, add_made, add_taken}
use Rattle.cove_region.proofs.JoinLemmas.{carried}
use Rattle.cove_region.proofs.regions.Regions.add.Goals as goal

pub returns-then-any_meets-clause-overlap : goal.returns-then-any_meets-clause-overlap
returns-then-any_meets-clause-overlap c =
    let some0 : HasPages (pages_from c.args.first.0 c.args.count) = omega arith in
    let met : list_any (meets c.area-pages.result) c.self.inside.regions.items ≡ true = cc in (
      λ _. carried (λ m p. AreAll m Outside p → ⊥) _ _ _ _ c.self.view_is c.area-pages.ensures
          (add_taken c.self.inside.regions.items c.self.inside.rows.items c.area-pages.result c.self.invariant (subst HasPages (sym c.area-pages.ensures) some0) met),
      λ _. refl,
    )

pub returns-then-any_meets-clause-full : goal.returns-then-any_meets-clause-full
returns-then-any_meets-clause-full c =
    let some0 : HasPages (pages_from c.args.first.0 c.args.count) = omega arith in
    let met : list_any (meets c.area-pages.result) c.self.inside.regions.items ≡ true = cc in (
      λ other. absurd (cc),
      λ both. absurd (carried (λ m p. AreAll m Outside p → ⊥) _ _ _ _ c.self.view_is c.area-pages.ensures
          (add_taken c.self.inside.regions.items c.self.inside.rows.items c.area-pages.result c.self.invariant (subst HasPages (sym c.area-pages.ensures) some0) met) both.0),
    )

pub returns-then-len-eq-REGION_LIMIT-clause-overlap : goal.returns-then-len-eq-REGION_LIMIT-clause-overlap
returns-then-len-eq-REGION_LIMIT-clause-overlap c =
    let free : list_any (meets c.area-pages.result) c.self.inside.regions.items ≡ false = cc in (
      λ other. absurd (cc),
      λ taken. absurd (taken (carried (λ m p. AreAll m Outside p) _ _ _ _ c.self.view_is c.area-pages.ensures
          (add_free c.self.inside.regions.items c.self.inside.rows.items c.area-pages.result c.self.invariant free))),
    )

pub returns-then-len-eq-REGION_LIMIT-clause-full : goal.returns-then-len-eq-REGION_LIMIT-clause-full
returns-then-len-eq-REGION_LIMIT-clause-full c =
    let free : list_any (meets c.area-pages.result) c.self.inside.regions.items ≡ false = cc in
    let full : REGION_LIMIT ≤ length c.self.inside.regions.items = omega arith in (
      λ _. (
        carried (λ m p. AreAll m Outside p) _ _ _ _ c.self.view_is c.area-pages.ensures
            (add_free c.self.inside.regions.items c.self.inside.rows.items c.area-pages.result c.self.invariant free),
        subst (λ (m : GuestMap). REGION_LIMIT ≤ length m.regions) c.self.view_is full,
      ),
      λ _. refl,
    )

pub returns-clause-overlap : goal.returns-clause-overlap
returns-clause-overlap c =
    let free : list_any (meets c.area-pages.result) c.self.inside.regions.items ≡ false = cc in (
      λ other. absurd (cc),
      λ taken. absurd (taken (carried (λ m p. AreAll m Outside p) _ _ _ _ c.self.view_is c.area-pages.ensures
          (add_free c.self.inside.regions.items c.self.inside.rows.items c.area-pages.result c.self.invariant free))),
    )

pub returns-clause-kinds : goal.returns-clause-kinds
returns-clause-kinds c =
    let free : list_any (meets c.area-pages.result) c.self.inside.regions.items ≡ false = cc in
    let made = add_made c.self.inside.regions.items c.self.inside.rows.items c.area-pages.result c.self.invariant free in
    let there = subst (λ xs. AreMade Private c.area-pages.result (record { regions = c.self.inside.regions.items; rows = c.self.inside.rows.items }) (record { regions = xs; rows = c.self.inside.rows.items })) (sym c.push.ensures.items) made in
    carried (λ m p. AreMade Private p m (record { regions = c.push.new.self.items; rows = c.self.inside.rows.items })) _ _ _ _ c.self.view_is c.area-pages.ensures there
