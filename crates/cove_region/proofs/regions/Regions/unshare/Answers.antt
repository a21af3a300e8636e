use Rattle.std.proofs.Common.{◌≡◌, ◌<◌, get_or, subst, sym, refl, arith, ap, ◌∙◌, Some}
use Rattle.std.specs.List.{position}
use Rattle.std.proofs.lemmas.List.Quantifiers.{position-Some}
use Rattle.std.proofs.lemmas.List.{get_or_default}
use Rattle.cove_base.specs.declared.limits.TheConstants.{SHARED_RUN_LIMIT}
use Rattle.cove_region.specs.declared.areas.Area.{Area}
use Rattle.cove_region.specs.GuestMaps.{holds, pages_from}
use Rattle.cove_region.proofs.CutLemmas.{cut_room}
use Rattle.cove_region.proofs.SharingLemmas.{few_without, kept_without, made_private, too_many_without, were_not_shared, were_shared}
use Rattle.cove_region.proofs.regions.Regions.unshare.Goals as goal
use Rattle.cove_region.proofs.regions.Regions.unshare.Goals.{else-len-eq-SHARED_RUN_LIMIT-via-then-len-eq-SHARED_RUN_LIMIT+then-row-pages+else-pages-row, else-len-eq-SHARED_RUN_LIMIT-via-then-len-eq-SHARED_RUN_LIMIT+else-row-pages, else-len-eq-SHARED_RUN_LIMIT-via-else-len-eq-SHARED_RUN_LIMIT}

pub returns-in_default-clause-not_inside : goal.returns-in_default-clause-not_inside
returns-in_default-clause-not_inside c = (λ _. were_not_shared c.area-pages.result c.self.view_is (cc) c.self.invariant (omega arith) (cc), λ _. refl)

pub returns-in_default-clause-full : goal.returns-in_default-clause-full
returns-in_default-clause-full c =
    let out = returns-in_default-clause-not_inside c in
    (λ other. absurd (cc), λ both. absurd (out.0 refl both.0))

pub returns-then-pages-row-clause-full : goal.returns-then-pages-row-clause-full
returns-then-pages-row-clause-full c =
    let d : Area = record { first = 0; end = 0 } in
    let before = subst (λ xs. (get_or xs c.in-Some.place d).first < c.area-pages.result.first) c.deref.ensures.0 c.if-row-pages.true in
    let after = subst (λ xs. c.area-pages.result.end < (get_or xs c.in-Some.place d).end) c.deref.ensures.0 c.if-pages-row.true in (
      λ _. (
        were_shared c.area-pages.result c.self.view_is (cc) (cc) c.in-Some.place (cc),
        too_many_without c.area-pages.result c.self.view_is (cc) (cc) c.in-Some.place (cc) c.self.invariant (omega arith) d (cc) before after,
      ),
      λ _. refl,
    )

pub cut-requires-clause-room : goal.cut-requires-clause-room
cut-requires-clause-room c =
    let regions = c.self.inside.regions.items in
    let rows = c.self.inside.rows.items in
    let pages = c.area-pages.result in
    let found : position (holds c.area-pages.result) c.self.inside.rows.items ≡ Some c.in-Some.place = cc in
    let hit = position-Some (holds pages) rows c.in-Some.place pages found in
    let d : Area = record { first = 0; end = 0 } in
    let same : get_or rows c.in-Some.place pages ≡ get_or c.deref.result.now c.in-Some.place d =
    get_or_default rows c.in-Some.place pages d hit.0 ∙ ap (λ xs. get_or xs c.in-Some.place d) (sym c.deref.ensures.0) in
    let first = ap (λ (a : Area). a.first) same in
    let end = ap (λ (a : Area). a.end) same in
    cut_room rows c.in-Some.place (get_or rows c.in-Some.place pages) pages SHARED_RUN_LIMIT hit.0 c.self.invariant.few_rows (λ full before after.
    elim c.else-len-eq-SHARED_RUN_LIMIT.branch [
      | else-len-eq-SHARED_RUN_LIMIT-via-then-len-eq-SHARED_RUN_LIMIT+then-row-pages+else-pages-row w ↦ omega arith
      | else-len-eq-SHARED_RUN_LIMIT-via-then-len-eq-SHARED_RUN_LIMIT+else-row-pages w ↦ omega arith
      | else-len-eq-SHARED_RUN_LIMIT-via-else-len-eq-SHARED_RUN_LIMIT w ↦ omega arith
    ])

pub invariant_of-self : goal.invariant_of-self
invariant_of-self c =
    kept_without c.area-pages.result {asked = pages_from c.args.first.0 c.args.count} c.self.view_is (cc) (cc) c.in-Some.place (cc) c.self.invariant (omega arith) c.cut.new.rows.items c.cut.ensures.rows c.cut.ensures.few

pub returns-clause-not_inside : goal.returns-clause-not_inside
returns-clause-not_inside c = (λ other. absurd (cc), λ taken. absurd (taken (were_shared c.area-pages.result c.self.view_is (cc) (cc) c.in-Some.place (cc))))

pub returns-clause-full : goal.returns-clause-full
returns-clause-full c = (
  λ other. absurd (cc),
  λ both. absurd (few_without c.area-pages.result c.self.view_is (cc) (cc) c.in-Some.place (cc) c.self.invariant (omega arith) c.cut.new.rows.items c.cut.ensures.rows c.cut.ensures.few both.1),
)

pub returns-clause-kinds : goal.returns-clause-kinds
returns-clause-kinds c =
    made_private c.area-pages.result c.self.view_is (cc) (cc) c.in-Some.place (cc) c.self.invariant (omega arith) c.cut.new.rows.items c.cut.ensures.rows c.cut.ensures.few
