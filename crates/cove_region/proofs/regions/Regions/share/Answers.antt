use Rattle.std.proofs.Common.{◌≡◌, true, refl, arith}
use Rattle.std.specs.List.{list_any}
use Rattle.cove_region.specs.GuestMaps.{holds}
use Rattle.cove_region.proofs.KindLemmas.{share_kept}
use Rattle.cove_region.proofs.SharingLemmas.{few_with, none_held, too_many_with, were_private, were_taken}
use Rattle.cove_region.proofs.regions.Regions.share.Goals as goal
use Rattle.cove_region.proofs.regions.Regions.share.Goals.{then-not-any_holds-via-then-not-any_holds, then-not-any_holds-via-else-not-any_holds+then-any_meets}

pub returns-then-not-any_holds-clause-not_inside : goal.returns-then-not-any_holds-clause-not_inside
returns-then-not-any_holds-clause-not_inside c = (
  λ _ all. elim c.then-not-any_holds.branch [
    | then-not-any_holds-via-then-not-any_holds w ↦ none_held c.area-pages.result c.self.view_is (cc) (cc) all
    | then-not-any_holds-via-else-not-any_holds+then-any_meets w ↦ were_taken c.area-pages.result c.self.view_is (cc) c.self.invariant (omega arith) (cc) all
  ],
  λ _. refl,
)

pub returns-then-not-any_holds-clause-full : goal.returns-then-not-any_holds-clause-full
returns-then-not-any_holds-clause-full c =
    let out = returns-then-not-any_holds-clause-not_inside c in
    (λ other. absurd (cc), λ both. absurd (out.0 refl both.0))

pub returns-then-not-adjoins-clause-not_inside : goal.returns-then-not-adjoins-clause-not_inside
returns-then-not-adjoins-clause-not_inside c = (λ other. absurd (cc), λ taken. absurd (taken (were_private c.area-pages.result c.self.view_is (cc) (cc) (cc))))

pub returns-then-not-adjoins-clause-full : goal.returns-then-not-adjoins-clause-full
returns-then-not-adjoins-clause-full c = (
  λ _. (
    were_private c.area-pages.result c.self.view_is (cc) (cc) (cc),
    too_many_with c.area-pages.result c.self.view_is (cc) (cc) (cc) c.self.invariant (omega arith) (cc) (cc),
  ),
  λ _. refl,
)

pub invariant_of-self : goal.invariant_of-self
invariant_of-self c =
    let held : list_any (holds c.area-pages.result) c.self.inside.regions.items ≡ true = cc in
    share_kept c.self.inside.regions.items c.self.inside.rows.items _ c.area-pages.result c.self.invariant held c.join.ensures.rows c.join.ensures.few c.join.ensures.pages

pub returns-clause-not_inside : goal.returns-clause-not_inside
returns-clause-not_inside c = (λ other. absurd (cc), λ taken. absurd (taken (were_private c.area-pages.result c.self.view_is (cc) (cc) (cc))))

pub returns-clause-full : goal.returns-clause-full
returns-clause-full c = (
  λ other. absurd (cc),
  λ both. absurd (few_with c.area-pages.result c.self.view_is (cc) c.join.new.rows.items c.join.ensures.rows c.join.ensures.few c.join.ensures.pages both.1),
)
