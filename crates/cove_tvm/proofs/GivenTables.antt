-- Words and ground stand after table pages were given to a TVM, the stores are lawful, and the pool has room for them.
use Rattle.std.proofs.Common.{◌≡◌, ◌≢◌, ℕ, suc, ◌+◌, ◌-◌, ◌/◌, ◌<◌, ◌≤◌, ◌∙◌, true, eqb, eqb-true, List, ◌++◌, get_or, length, length-append, refl, sym, ap, subst, inl, inr, arith}
use Rattle.std.proofs.lemmas.Bool.{cases_lt, eq-eqb, ne_eqb}
use Rattle.std.proofs.lemmas.List.{get_or_append_left, get_or-append_right, get_or_default}
use Rattle.std.proofs.lemmas.List.Folds.{Any-from_list_any, list_any_at}
use Rattle.std.proofs.lemmas.List.FromFn.{get_or-range_with_len, length-range_with_len}
use Rattle.std.proofs.lemmas.Map.Keys.{IsDistinct-from_apart}
use Rattle.std.proofs.lemmas.Map.Made.{length-le_from_is_member}
use Rattle.std.specs.Cmp.{nat_eq_equiv}
use Rattle.std.specs.List.{Contains, IsDistinct, list_any, range_with_len}
use Rattle.cove_base.proofs.StoreLemmas.{get_or-fills_other}
use Rattle.cove_base.specs.Modes.{leaves_of}
use Rattle.cove_model.specs.Machine.{given, table_word, fills, stored, Tables, Role, Root, Table, Vcpu, Data, over_levels, page_run, rule, AsTable, Free, page_at, is_table}
use Rattle.cove_base.specs.Tables.{IsOutside, IsPool, IsSpare}
use Rattle.cove_base.specs.declared.numbers.Role.TheVariants.{State}
use Rattle.cove_model.proofs.LeafWords.{given_role}
use Rattle.cove_model.proofs.Runs.{run_cases}
use Rattle.cove_model.specs.States.{State as MonitorState}
use Rattle.cove_model.specs.Tvms.{Tvm as ModelTvm}
use Rattle.cove_tvm.proofs.BuiltRegions.{live_stands, live_stays}
use Rattle.cove_tvm.proofs.FreeRuns.{free_word, page_free, run_behind, run_given, run_keeps, run_lawful, run_word}
use Rattle.cove_tvm.proofs.KeptTables.{entry_kept, tables_kept}
use Rattle.cove_tvm.proofs.KeptTvms.{fields_kept, found_kept, mappings_kept}
use Rattle.cove_stage2.specs.LawfulTables.{AreGiven}
use Rattle.cove_tvm.specs.GivenRuns.{MayGive}
use Rattle.cove_tvm.specs.KeptOwn.{KeepsTvm}
use Rattle.cove_tvm.specs.Lives.{is_gone}
use Rattle.cove_tvm.specs.MoreTables.{AddsTables, TablesAreLawful, TablesFit, TablesStand}
use Rattle.cove_tvm.specs.Stands.{Stands}
use Rattle.cove_tvm.specs.TvmLends.{with_tvm}
use Rattle.cove_tvm.specs.TvmStands.{AreFields, AreMappings, ArePages, AreTables, IsFoundAs, LiveStands}
use Rattle.cove_tvm.specs.declared.ground.Ground.{Ground}
use Rattle.cove_tvm.specs.declared.machines.Tvm.{Tvm}

-- ---- a pool has no more pages than the board

module _ (pages root : ℕ) (words pool : List ℕ) (spare : IsPool pages root words pool) where
  pool_differs : IsDistinct eqb pool
  pool_differs = IsDistinct-from_apart eqb pool (λ i j d less within.
      ne_eqb (get_or pool i d) (get_or pool j d) (λ e.
      let same : i ≡ j =
      spare.differ i j (omega arith) within (get_or_default pool i 0 d (omega arith) ∙ e ∙ get_or_default pool j d 0 within) in
      omega arith))

  on_board : (q : ℕ) → list_any (eqb q) pool ≡ true → list_any (eqb q) (range_with_len 0 pages) ≡ true
  on_board q there =
      let found = Any-from_list_any (eqb q) pool there in
      let is : q ≡ found.1 = eqb-true q found.1 found.4 in
      let page : get_or pool found.0 0 ≡ found.1 = get_or_default pool found.0 0 found.1 found.2 ∙ found.3 in
      let low = (spare.each found.0 found.2).outside.0 in
      let small : q < pages = omega arith in
      let long = length-range_with_len 0 pages in
      list_any_at (eqb q) (range_with_len 0 pages) q 0 (omega arith)
      (eq-eqb q (get_or (range_with_len 0 pages) q 0) (sym (get_or-range_with_len 0 pages q 0 small ∙ (omega arith))))

  pool_few : length pool ≤ pages
  pool_few =
      let few = length-le_from_is_member nat_eq_equiv pool (range_with_len 0 pages) pool_differs on_board in
      let long = length-range_with_len 0 pages in
      omega arith

-- ---- the pages

module _ (words : List ℕ) (G : Ground) (S : MonitorState) (k base n : ℕ) (old : Tvm) (model : ModelTvm)
    (may : MayGive words G S k base n old model) where
  abbrev added : List ℕ
  added = stored words (fills (base / 4096) n (given (suc k) Table))

  abbrev how : ModelTvm → ModelTvm
  how tvm = record tvm { tables = tvm.tables ++ page_run base n }

  free_at : (p : ℕ) → base / 4096 ≤ p → p < base / 4096 + n → page_at S.pages p ≡ Free
  free_at = page_free words G S k base n AsTable old model may

  not_given : (p u : ℕ) (role : Role) → base / 4096 ≤ p → p < base / 4096 + n → get_or words p 0 ≢ given u role
  not_given = free_word words G S k base n AsTable old model may

  behind : (at : ℕ) → G.pages ≤ at → get_or added at 0 ≡ get_or words at 0
  behind = run_behind words G S k base n AsTable old model may

  page_kept : (p : ℕ) → base / 4096 ≤ p → p < base / 4096 + n → get_or added p 0 ≡ given (suc k) Table
  page_kept = run_word words G S k base n AsTable old model may

  keeps : KeepsTvm G.pages G.harts words added (suc k)
  keeps = run_keeps words G S k base n AsTable old model may (λ e. omega arith)

  -- ---- the pool with the pages

  was : LiveStands G.pages G.harts words (suc k) S.seats G.files old model
  was = live_stands words G S (suc k) old model may.stands may.live may.found

  abbrev root : ℕ
  root = old.tables.root.0

  abbrev leaves : ℕ
  leaves = leaves_of old.tables.mode

  abbrev pool : List ℕ
  pool = old.pool.pages

  abbrev run : List ℕ
  run = page_run base n

  abbrev more : List ℕ
  more = pool ++ run

  kept_tables : AreTables G.pages G.harts added (suc k) root leaves pool
  kept_tables = tables_kept G.pages G.harts (suc k) root leaves words added pool keeps was.tables

  long : length more ≡ length pool + n
  long = length-append pool run ∙ ap (λ m. length pool + m) (length-range_with_len (base / 4096) n)

  in_run : (i : ℕ) → length pool ≤ i → i < length pool + n → get_or more i 0 ≡ base / 4096 + (i - length pool)
  in_run i low high = get_or-append_right pool run (length pool) i 0 refl low ∙ get_or-range_with_len (base / 4096) n (i - length pool) 0 (omega arith)

  outside : (p : ℕ) → base / 4096 ≤ p → p < base / 4096 + n → IsOutside G.pages root p
  outside p low high = (
    omega arith,
    elim (cases_lt p root) [
      | inl under ↦ inl under
      | inr above ↦ elim (cases_lt p (root + 4)) [
        | inl within ↦
            let place : root + (p - root) ≡ p = omega arith in
            absurd (not_given p (suc k) Root low high (subst (λ q. get_or words q 0 ≡ given (suc k) Root) place (was.tables.given.root_is.roots (p - root) (omega arith))))
        | inr over ↦ inr over
      ]
    ],
  )

  run_spare : (p : ℕ) → base / 4096 ≤ p → p < base / 4096 + n → IsSpare G.pages root added p
  run_spare p low high = record {
    outside = outside p low high;
    unnamed = λ a slot named.
        not_given p (suc k) Table low high
        (was.tables.given.linked a p slot (sym (entry_kept G.pages G.harts (suc k) root leaves words added pool keeps was.tables a slot) ∙ named));
    zeros = λ i small.
        behind (table_word G.pages p i) (omega arith)
        ∙ may.stands.words_stand.stands.tables p i (omega arith) small (ap is_table (free_at p low high));
  }

  -- a page of the pool is none of the run
  apart : (i p : ℕ) → i < length pool → base / 4096 ≤ p → p < base / 4096 + n → get_or pool i 0 ≢ p
  apart i p here low high same =
      not_given p (suc k) Table low high (subst (λ q. get_or words q 0 ≡ given (suc k) Table) same (was.tables.given.spare i here))

  more_spare : IsPool G.pages root added more
  more_spare = record {
    each = λ i within. let all = long in elim (cases_lt i (length pool)) [
      | inl here ↦ subst (IsSpare G.pages root added) (sym (get_or_append_left pool run 0 i here)) (kept_tables.spare.each i here)
      | inr there ↦ subst (IsSpare G.pages root added) (sym (in_run i there (omega arith))) (run_spare (base / 4096 + (i - length pool)) (omega arith) (omega arith))
    ];
    differ = λ i j first second same. let all = long in elim (cases_lt i (length pool)) [
      | inl here ↦ elim (cases_lt j (length pool)) [
        | inl other ↦ kept_tables.spare.differ i j here other (sym (get_or_append_left pool run 0 i here) ∙ same ∙ get_or_append_left pool run 0 j other)
        | inr behind ↦ absurd (apart i (base / 4096 + (j - length pool)) here (omega arith) (omega arith)
            (sym (get_or_append_left pool run 0 i here) ∙ same ∙ in_run j behind (omega arith)))
      ]
      | inr there ↦ elim (cases_lt j (length pool)) [
        | inl other ↦ absurd (apart j (base / 4096 + (i - length pool)) other (omega arith) (omega arith)
            (sym (get_or_append_left pool run 0 j other) ∙ sym same ∙ in_run i there (omega arith)))
        | inr behind ↦
            let places : base / 4096 + (i - length pool) ≡ base / 4096 + (j - length pool) =
            sym (in_run i there (omega arith)) ∙ same ∙ in_run j behind (omega arith) in
            omega arith
      ]
    ];
  }

  more_given : AreGiven G.pages added (suc k) root more
  more_given = record {
    root_is = kept_tables.given.root_is;
    linked = kept_tables.given.linked;
    spare = λ i within. let all = long in elim (cases_lt i (length pool)) [
      | inl here ↦ subst (λ p. get_or added p 0 ≡ given (suc k) Table) (sym (get_or_append_left pool run 0 i here)) (kept_tables.given.spare i here)
      | inr there ↦ subst (λ p. get_or added p 0 ≡ given (suc k) Table) (sym (in_run i there (omega arith)))
          (page_kept (base / 4096 + (i - length pool)) (omega arith) (omega arith))
    ];
  }

  more_tables : AreTables G.pages G.harts added (suc k) root leaves more
  more_tables = record { tree = kept_tables.tree; spare = more_spare; given = more_given }

  fits : length pool + n ≤ old.pool.room
  fits =
      let few = pool_few G.pages root added more more_spare in
      let all = long in
      let room = was.room in
      omega arith

  has_more : (p : ℕ) → Contains pool p → Contains more p
  has_more p there = let all = long in let low = there.1 in (there.0, omega arith, get_or_append_left pool run p there.0 there.1 ∙ there.2)

  has_run : (p : ℕ) → base / 4096 ≤ p → p < base / 4096 + n → Contains more p
  has_run p low high =
      let all = long in
      let place : length pool + (p - base / 4096) - length pool ≡ p - base / 4096 = omega arith in
      let there : base / 4096 + (p - base / 4096) ≡ p = omega arith in (
        length pool + (p - base / 4096),
        omega arith,
        get_or-append_right pool run (length pool) (length pool + (p - base / 4096)) p refl (omega arith)
            ∙ ap (λ i. get_or run i p) place ∙ get_or-range_with_len (base / 4096) n (p - base / 4096) p (omega arith) ∙ there,
      )

  -- ---- the TVM

  module _ (new : Tvm) (adds : AddsTables base n old new) where
    abbrev renewed : Tvm
    renewed = record old { pool = new.pool }

    in_pool : (p : ℕ) → Contains more p → Contains renewed.pool.pages p
    in_pool p there = subst (λ ps. Contains ps p) (sym adds.pages) there

    found_again : (p : ℕ) (role : Role) → IsFoundAs G.pages G.harts added (suc k) old p role → IsFoundAs G.pages G.harts added (suc k) renewed p role
    found_again p Root is = is
    found_again p State is = is
    found_again p Table (inl is) = inl (in_pool p (has_more p is))
    found_again p Table (inr is) = inr is
    found_again p Vcpu is = is
    found_again p Data is = is

    found_here : (p : ℕ) (role : Role) → given (suc k) Table ≡ given (suc k) role → base / 4096 ≤ p → p < base / 4096 + n
        → IsFoundAs G.pages G.harts added (suc k) renewed p role
    found_here p Root e low high = absurd (omega (arith, given_role (suc k) (suc k) Table Root e))
    found_here p State e low high = absurd (omega (arith, given_role (suc k) (suc k) Table State e))
    found_here p Table e low high = inl (in_pool p (has_run p low high))
    found_here p Vcpu e low high = absurd (omega (arith, given_role (suc k) (suc k) Table Vcpu e))
    found_here p Data e low high = absurd (omega (arith, given_role (suc k) (suc k) Table Data e))

    owned : ArePages G.pages G.harts added (suc k) renewed
    owned = record {
      state_fits = was.owned.state_fits;
      state_is = keeps.page old.state.0 State was.owned.state_fits was.owned.state_is;
      found = λ p role on is. elim (run_cases (base / 4096) n p) [
        | inl run ↦ found_here p role (sym (page_kept p run.0 run.1) ∙ is) run.0 run.1
        | inr out ↦ found_again p role
            (found_kept G.pages G.harts (suc k) words added keeps S.seats G.files old model was p role
            (was.owned.found p role on (sym (get_or-fills_other words (base / 4096) n (given (suc k) Table) p out) ∙ is)))
      ];
    }

    count_is : length (model.tables ++ run) ≡ over_levels (λ level. length (model.prefixes level)) leaves + length new.pool.pages
    count_is =
        let tables = length-append model.tables run in
        let pages = length-range_with_len (base / 4096) n in
        let pooled = ap length adds.pages in
        let all = long in
        let before = was.mappings.count in
        omega arith

    kept : AreFields G.pages G.harts added (suc k) S.seats G.files old model
    kept = fields_kept G.pages G.harts (suc k) words added keeps S.seats G.files old model was

    kept_mappings : AreMappings G.pages G.harts added (suc k) root leaves pool model
    kept_mappings = mappings_kept G.pages G.harts (suc k) words added keeps S.seats G.files old model was

    renewed_stands : LiveStands G.pages G.harts added (suc k) S.seats G.files renewed (how model)
    renewed_stands = record {
      board = was.board;
      mode = was.mode;
      room = adds.room ∙ was.room;
      tables = subst (AreTables G.pages G.harts added (suc k) root leaves) (sym adds.pages) more_tables;
      owned = owned;
      mappings = record { leaf = kept_mappings.leaf; far = kept_mappings.far; links = kept_mappings.links; count = count_is };
      fields = record {
        life = kept.life;
        regions = record { regions = kept.regions.regions; some = kept.regions.some; shared = kept.regions.shared; each_once = kept.regions.each_once; inside = kept.regions.inside };
        near = kept.near;
        registers = kept.registers;
        allowed = kept.allowed;
        yet = kept.yet;
        cpu = kept.cpu;
      };
    }

    given_stands : (hart : ℕ) → Stands added (record G { tvms = with_tvm G.tvms k new }) (rule S hart (Tables (suc k) base n)).outcome.state
    given_stands hart =
        run_given words G S k base n AsTable old model may how new (λ frame. tt)
        (record { number = λ one. refl; mappings = λ one. refl })
        (ap (λ (tvm : Tvm). is_gone tvm.life) adds.rest ∙ live_stays G.tvms k old may.live)
        (subst (λ one. LiveStands G.pages G.harts added (suc k) S.seats G.files one (how model)) (sym adds.rest) renewed_stands)

pub tables_stand : TablesStand
tables_stand k words G S hart base n old new model may adds =
    given_stands words G S k base n old model may new adds hart

pub tables_are_lawful : TablesAreLawful
tables_are_lawful k words G S hart base n old model may =
    run_lawful words G S k base n AsTable old model may (λ e. omega arith) hart

pub tables_fit : TablesFit
tables_fit k words G S base n old model may = fits words G S k base n old model may
