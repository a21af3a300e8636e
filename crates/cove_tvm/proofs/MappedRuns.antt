-- A run of guest pages is mapped, one after another.
use Rattle.std.proofs.Common.{◌≡◌, ◌≢◌, ℕ, suc, ◌+◌, ◌-◌, ◌*◌, ◌^◌, ◌<◌, ◌≤◌, ◌∙◌, Bool, true, false, List, [], get_or, length, add-one, refl, sym, ap, subst, inl, inr, arith}
use Rattle.std.proofs.lemmas.Bool.{cases_eq}
use Rattle.cove_base.proofs.TreeLemmas.{named-above}
use Rattle.cove_model.specs.Machine.{all_words, table_word, AllAllowed, stored, IsBehindLeaf, IsLawful, IsTableOf, MakesLawful}
use Rattle.cove_base.specs.Tables.{Slot, IsLinkSlot, entry_at, leaf_at, present, slots_at}
use Rattle.cove_stage2.proofs.LackedLemmas.{tables_lacked-first}
use Rattle.cove_stage2.proofs.LawfulLemmas.{map_is_lawful, map_keeps_given}
use Rattle.cove_stage2.proofs.MapPlaces.{MapLeaves, map_leaves}
use Rattle.cove_stage2.proofs.LinkLemmas.{next-some, on-way-link}
use Rattle.cove_stage2.specs.Changes.{IsOnWay}
use Rattle.cove_stage2.specs.Lacked.{tables_lacked}
use Rattle.cove_stage2.proofs.LawfulLemmas.{leads_on}
use Rattle.cove_stage2.specs.LawfulTables.{AreGiven}
use Rattle.cove_stage2.specs.MapStores.{map_stores, pool_left}
use Rattle.cove_tvm.specs.MappedRuns.{AreMapped, MapsNext, MayMap, RunBegins, RunGoesOn}

pub run_begins : RunBegins
run_begins pages harts t root leaves g p n shared words pool may = record {
  size = refl;
  tables = may.tables;
  here = λ j low. absurd (omega arith);
  others = λ h low out. refl;
  kept = λ a slot some. refl;
  way = λ j a low on. absurd (omega arith);
  only = λ a slot off. refl;
  found = λ page there. inl there;
  lost =
      let first : g + 0 ≡ g = omega arith in
      let all : n - 0 ≡ n = omega arith in
      ap (λ m. length pool + m) (sym (ap (λ a. tables_lacked pages root words leaves a (n - 0)) first ∙ ap (tables_lacked pages root words leaves g) all));
  elsewhere = λ place off. refl;
  counted = λ page. omega arith;
  lawful = λ hart start. ([], tt, refl);
}

-- a word that is none of the TVM's tables
abbrev IsElsewhere : (pages : ℕ) (words : List ℕ) (t place : ℕ) → Type 0
IsElsewhere pages words t place = (page k : ℕ) → page < pages → k < 512 → IsTableOf words t page → place ≢ table_word pages page k

-- page words, and the words behind the tables, are none of them
pub page_elsewhere : (pages : ℕ) (words : List ℕ) (t q : ℕ) → q < pages → IsElsewhere pages words t q
page_elsewhere pages words t q on page k below low own is = omega arith

pub behind_elsewhere : (pages : ℕ) (words : List ℕ) (t place : ℕ) → 513 * pages ≤ place → IsElsewhere pages words t place
behind_elsewhere pages words t place past page k below low own is = omega arith

module _ (pages harts t root leaves g p n i : ℕ) (shared : Bool) (old pool words left : List ℕ) (low : i < n) (may : MayMap pages harts old t root leaves pool g p n shared)
    (done : AreMapped pages harts t root leaves g p n i shared old pool words left) where
  page_stays : (q : ℕ) → q < pages → get_or words q 0 ≡ get_or old q 0
  page_stays q on = done.elsewhere q (page_elsewhere pages old t q on)

  on_board : p + i < pages
  on_board = let inside = may.inside in omega arith

  guest : g + i < slots_at leaves
  guest = let guests = may.guests in omega arith

  -- what the next mapping needs
  pub next_absent : leaf_at pages root leaves words (g + i) ≡ 0
  next_absent = done.others (g + i) guest (inr (omega arith)) ∙ may.absent i low

  behind_stays : (q : ℕ) (kind : Bool) → q < pages → IsBehindLeaf old t q kind → IsBehindLeaf words t q kind
  behind_stays q false on was = page_stays q on ∙ was
  behind_stays q true on was = (was.0, was.1, page_stays q on ∙ was.2)

  pub next_behind : IsBehindLeaf words t (p + i) shared
  next_behind = behind_stays (p + i) shared on_board (may.behind i low)

  enough_left : tables_lacked pages root words leaves (g + i) (n - i) ≤ length left
  enough_left = let lost = done.lost in let enough = may.enough in omega arith

  pub next_enough : tables_lacked pages root words leaves (g + i) 1 ≤ length left
  next_enough =
      let some : n - i ≡ suc (n - i - 1) = omega arith in
      let first = tables_lacked-first pages root words leaves (g + i) (n - i - 1) in
      let more = subst (λ m. tables_lacked pages root words leaves (g + i) m ≤ length left) some enough_left in
      omega (arith, first, more)

  pub next_allowed : (hart : ℕ) (start : List ℕ) → AllAllowed (IsLawful pages harts hart start) words (map_stores pages root leaves words left (g + i) (present (p + i) shared))
  next_allowed hart start =
      map_is_lawful pages harts hart start words left t root leaves (g + i) (p + i) shared guest on_board done.tables.tree done.tables.spare done.tables.given
      next_absent next_enough next_behind

  small : p + i < 2 ^ 16
  small = let few = may.few in let on = on_board in omega arith

  long : length words ≡ all_words pages harts
  long = done.size ∙ may.size

  leaves_of_one : MapLeaves pages harts root t words (stored words (map_stores pages root leaves words left (g + i) (present (p + i) shared))) left (pool_left pages root words left leaves (g + i)) (present (p + i) shared)
  leaves_of_one = map_leaves pages words left t root leaves (g + i) guest done.tables.tree done.tables.spare done.tables.given next_enough (p + i) shared small next_absent harts

  table_before : (page : ℕ) → page < pages → IsTableOf words t page → IsTableOf old t page
  table_before page on (inl is) = inl (sym (page_stays page on) ∙ is)
  table_before page on (inr is) = inr (sym (page_stays page on) ∙ is)

  module _ (new rest : List ℕ) (next : MapsNext pages root leaves g p i shared words left new rest) where
    given_again : AreGiven pages new t root rest
    given_again =
        subst (λ ws. AreGiven pages ws t root rest) (sym next.stores)
        (subst (AreGiven pages (stored words (map_stores pages root leaves words left (g + i) (present (p + i) shared))) t root) (sym next.pool_is)
        (map_keeps_given pages words left t root leaves (g + i) (p + i) shared guest small done.tables.tree done.tables.spare done.tables.given next_enough))

    left_by : MapLeaves pages harts root t words new left rest (present (p + i) shared)
    left_by =
        subst (λ ws. MapLeaves pages harts root t words ws left rest (present (p + i) shared)) (sym next.stores)
        (subst (λ ps. MapLeaves pages harts root t words (stored words (map_stores pages root leaves words left (g + i) (present (p + i) shared))) left ps (present (p + i) shared)) (sym next.pool_is) leaves_of_one)

    link_some : (a : Slot) → IsLinkSlot leaves a → entry_at pages root words a ≢ 0 → entry_at pages root new a ≢ 0
    link_some a slot some none = some (sym (next.way.kept a slot some) ∙ none)

    way_slot : (j : ℕ) (a : Slot) → j < n → IsOnWay leaves (g + j) a → IsLinkSlot leaves a
    way_slot j a below = let guests = may.guests in on-way-link leaves (g + j) a (omega arith)

    lawful_on : (hart : ℕ) (start : List ℕ) → MakesLawful pages harts hart start old new
    lawful_on hart start =
        leads_on (IsLawful pages harts hart start) old words new (done.lawful hart start)
        (map_stores pages root leaves words left (g + i) (present (p + i) shared), next_allowed hart start, next.stores)

    pub one_more : AreMapped pages harts t root leaves g p n (suc i) shared old pool new rest
    one_more = record {
      size = next.leaf.length ∙ done.size;
      tables = record { tree = next.leaf.tree; spare = next.spare; given = given_again };
      here = λ j below. elim (cases_eq j i) [
        | inl same ↦
            subst (λ k. leaf_at pages root leaves new (g + k) ≡ present (p + k) shared) (sym same) next.leaf.here
        | inr off ↦
            let guests = may.guests in
            next.leaf.others (g + j) (omega (arith, below, low, guests)) (λ e. omega (arith, off, e)) ∙ done.here j (omega (arith, below, off))
      ];
      others = λ h high out. elim out [
        | inl under ↦ next.leaf.others h high (λ e. omega (arith, under, e)) ∙ done.others h high (inl under)
        | inr over ↦ next.leaf.others h high (λ e. omega (arith, over, e)) ∙ done.others h high (inr (omega (arith, over)))
      ];
      kept = λ a slot some.
          let was = done.kept a slot some in
          next.way.kept a slot (λ none. some (sym was ∙ none)) ∙ was;
      way = λ j a below on. elim (cases_eq j i) [
        | inl same ↦
            let named = next.way.way a (subst (λ k. IsOnWay leaves (g + k) a) same on) in
            next-some (entry_at pages root new a) named.0 named.1
        | inr off ↦ link_some a (way_slot j a (omega (arith, below, low)) on) (done.way j a (omega (arith, below, off)) on)
      ];
      only = λ a slot off.
          next.way.others a slot (off i (omega arith)) ∙ done.only a slot (λ j below. off j (omega (arith, below)));
      found = λ page there. elim (done.found page there) [
        | inl in_left ↦ left_by.found page in_left
        | inr (a, slot, named) ↦
            let above = named-above pages root leaves words done.tables.tree a page slot named in
            inr (a, slot, next.way.kept a above (next-some _ page named) ∙ named)
      ];
      lost =
          let guests = may.guests in
          let one = next.rest (n - i) (omega (arith, low)) (omega (arith, low, guests)) in
          let place : g + i + 1 ≡ g + suc i = omega arith in
          let less : n - i - 1 ≡ n - suc i = omega arith in
          let is : tables_lacked pages root new leaves (g + i + 1) (n - i - 1) ≡ tables_lacked pages root new leaves (g + suc i) (n - suc i) =
          ap (λ a. tables_lacked pages root new leaves a (n - i - 1)) place ∙ ap (tables_lacked pages root new leaves (g + suc i)) less in
          let before = done.lost in
          let here = next.lost in
          omega (arith, one, is, before, here);
      elsewhere = λ place off.
          left_by.elsewhere place (λ own. off own.page own.i own.below own.low (table_before own.page own.below own.own) own.at)
          ∙ done.elsewhere place off;
      counted = λ page.
          let one = left_by.counted page long in
          let before = done.counted page in
          omega (arith, one, before);
      lawful = lawful_on;
    }

pub run_goes_on : RunGoesOn
run_goes_on pages harts t root leaves g p n i shared old pool words left new rest low may done next =
    subst (λ k. AreMapped pages harts t root leaves g p n k shared old pool new rest) (sym (add-one i))
    (one_more pages harts t root leaves g p n i shared old pool words left low may done new rest next)
