-- A TVM stands after a run of its guest pages was mapped.
use Rattle.std.proofs.Common.{◌≡◌, ◌≢◌, ℕ, ◌+◌, ◌-◌, ◌*◌, ◌/◌, ◌%◌, ◌^◌, ◌<◌, ◌≤◌, ◌==◌, ◌||◌, ◌⊎◌, ◌∙◌, Bool, true, false, cond, eqb, ltb, not, map, List, ◌++◌, get_or, length, Option, Some, None, refl, sym, ap, subst, inl, inr, arith}
use Rattle.std.proofs.lemmas.Bool.{ne_eqb, false≢true}
use Rattle.cove_base.proofs.TreeLemmas.{named-above}
use Rattle.cove_base.specs.Measurement.{Record, registers_of}
use Rattle.cove_model.specs.Machine.{given, hart_word, tvm_word, Role, Root, Table, Vcpu, Data, new_ones, over_levels, page_run, part_of, mapping_of, with_mappings, has, Seat, TVM_LIMIT}
use Rattle.cove_base.specs.Modes.{leaves_of}
use Rattle.cove_base.specs.Tables.{Slot, At, IsLinkSlot, Names, ByPresent, entry_at, leaf_at, present, slots_at}
use Rattle.cove_base.specs.declared.numbers.Role.TheVariants.{State}
use Rattle.cove_imsic.specs.FileTables.{FileTable}
use Rattle.cove_model.proofs.LeafWords.{none_named}
use Rattle.cove_model.proofs.Runs.{run_cases}
use Rattle.cove_model.specs.Tvms.{Backing, Mapping, Present, Tvm as ModelTvm}
use Rattle.cove_stage2.proofs.LackedLemmas.{tables_lacked-none}
use Rattle.cove_stage2.proofs.LackedParts.{on-way-part, part-on-way}
use Rattle.cove_stage2.proofs.LinkLemmas.{next-some}
use Rattle.cove_stage2.specs.Lacked.{tables_lacked}
use Rattle.cove_stage2.specs.MapStores.{Pages}
use Rattle.cove_tvm.proofs.KeptFields.{KeepsFields, fields_stay, leaf_stands}
use Rattle.cove_tvm.proofs.KeptTvms.{fields_kept, found_kept, mappings_kept}
use Rattle.cove_tvm.proofs.MappedRuns.{behind_elsewhere, page_elsewhere}
use Rattle.cove_tvm.proofs.RunMappings.{NamesRun, found_after, found_as_before}
use Rattle.cove_tvm.proofs.TablesMissing.{lacked_agree}
use Rattle.cove_tvm.proofs.UsedTables.{has_either, run_has, run_lacks, used_more}
use Rattle.cove_tvm.specs.KeptOwn.{KeepsTvm}
use Rattle.cove_tvm.specs.LeafStands.{LeafStands}
use Rattle.cove_tvm.specs.MappedRuns.{AreMapped, MayMap}
use Rattle.cove_tvm.specs.TvmStands.{AreMappings, ArePages, IsFoundAs, LiveStands, uses_slot}
use Rattle.cove_tvm.specs.declared.machines.Tvm.{Tvm}

some_entry : (word : ℕ) → true ≡ not (word == 0) → word ≢ 0
some_entry word some none = false≢true (sym (some ∙ ap (λ w. not (w == 0)) none))

entry_some : (word : ℕ) → word ≢ 0 → true ≡ not (word == 0)
entry_some word some = sym (ap not (ne_eqb word 0 some))

module _ (pages harts t gpa p n : ℕ) (shared : Bool) (backing : ℕ → Backing) (ms : List Mapping) (records : List Record) (words mid new : List ℕ) (left : Pages)
    (regs : List (List ℕ)) (seats : ℕ → Option Seat) (files : FileTable) (old : Tvm) (model : ModelTvm)
    (was : LiveStands pages harts words t seats files old model) (keeps : KeepsTvm pages harts words mid t)
    (names : NamesRun (gpa / 4096) p n shared backing ms)
    (unmapped : (j : ℕ) → j < n → mapping_of model (gpa / 4096 + j) ≡ None)
    (may : MayMap pages harts mid t old.tables.root.0 (leaves_of old.tables.mode) old.pool.pages (gpa / 4096) p n shared)
    (done : AreMapped pages harts t old.tables.root.0 (leaves_of old.tables.mode) (gpa / 4096) p n n shared mid old.pool.pages new left.pages)
    (few : t ≤ TVM_LIMIT) where
  abbrev g : ℕ
  g = gpa / 4096

  abbrev root : ℕ
  root = old.tables.root.0

  abbrev grown : ModelTvm
  grown = record (with_mappings gpa n ms model) { records = records }

  abbrev renewed : Tvm
  renewed = record old { pool = left; registers = regs }

  page_same : (q : ℕ) → q < pages → get_or new q 0 ≡ get_or mid q 0
  page_same q on = done.elsewhere q (page_elsewhere pages mid t q on)

  behind_same : (place : ℕ) → 513 * pages ≤ place → get_or new place 0 ≡ get_or mid place 0
  behind_same place past = done.elsewhere place (behind_elsewhere pages mid t place past)

  keeps_new : KeepsFields pages harts mid new t
  keeps_new = record {
    page = λ q role on is. page_same q on ∙ is;
    number = behind_same (tvm_word pages harts t) (omega arith);
    inside = λ number hart on.
        ap (λ w. cond (eqb (w / 2 ^ 32) t) (ltb (w % 2 ^ 32) number) false) (behind_same (hart_word pages harts hart) (omega arith));
  }

  mappings_mid : AreMappings pages harts mid t old.tables.root.0 (leaves_of old.tables.mode) old.pool.pages model
  mappings_mid = mappings_kept pages harts t words mid keeps seats files old model was

  -- ---- leaves

  mapping_here : (j : ℕ) → j < n → mapping_of grown (gpa / 4096 + j) ≡ Some (record { guest = gpa / 4096 + j; backing = backing j; standing = Present })
  mapping_here j low = found_after (gpa / 4096 + j) model.mappings ms (unmapped j low) ∙ names.here j low

  mapping_other : (h : ℕ) → (h < gpa / 4096) ⊎ (gpa / 4096 + n ≤ h) → mapping_of grown h ≡ mapping_of model h
  mapping_other h out = found_as_before h model.mappings ms (names.none h out)

  leaf_here : (j : ℕ) → j < n → LeafStands pages harts new t (leaf_at pages old.tables.root.0 (leaves_of old.tables.mode) new (gpa / 4096 + j)) (mapping_of grown (gpa / 4096 + j))
  leaf_here j low =
      let inside = may.inside in
      let on : p + j < pages = omega arith in
      subst (λ leaf. LeafStands pages harts new t leaf (mapping_of grown (gpa / 4096 + j))) (sym (done.here j low))
      (subst (LeafStands pages harts new t (present (p + j) shared)) (sym (mapping_here j low))
      (subst (λ q. q < pages) (sym (names.under j low)) on, sym (names.leaf j low)))

  leaf_new : (h : ℕ) → h < slots_at (leaves_of old.tables.mode) → LeafStands pages harts new t (leaf_at pages old.tables.root.0 (leaves_of old.tables.mode) new h) (mapping_of grown h)
  leaf_new h high = elim (run_cases (gpa / 4096) n h) [
    | inl run ↦
        let is : gpa / 4096 + (h - gpa / 4096) ≡ h = omega (arith, run.0) in
        subst (λ k. LeafStands pages harts new t (leaf_at pages old.tables.root.0 (leaves_of old.tables.mode) new k) (mapping_of grown k)) is
        (leaf_here (h - gpa / 4096) (omega (arith, run.0, run.1)))
    | inr out ↦
        subst (λ leaf. LeafStands pages harts new t leaf (mapping_of grown h)) (sym (done.others h high out))
        (subst (LeafStands pages harts new t (leaf_at pages old.tables.root.0 (leaves_of old.tables.mode) mid h)) (sym (mapping_other h out))
        (leaf_stands pages harts t mid new keeps_new (leaf_at pages old.tables.root.0 (leaves_of old.tables.mode) mid h) (mapping_of model h) (mappings_mid.leaf h high)))
  ]

  -- ---- links

  link_new : (a : Slot) → IsLinkSlot (leaves_of old.tables.mode) a → (k : ℕ) (xs ns : List ℕ) → has k xs ≡ not (entry_at pages old.tables.root.0 mid a == 0)
      → (has k ns ≡ true → entry_at pages old.tables.root.0 new a ≢ 0) → (has k ns ≡ false → entry_at pages old.tables.root.0 new a ≡ entry_at pages old.tables.root.0 mid a)
      → has k (xs ++ new_ones xs ns) ≡ not (entry_at pages old.tables.root.0 new a == 0)
  link_new a slot k xs ns tells used unused = has_either k xs ns ∙ go (has k xs) refl (has k ns) refl
    where
      go : (b : Bool) → has k xs ≡ b → (c : Bool) → has k ns ≡ c → (b || c) ≡ not (entry_at pages old.tables.root.0 new a == 0)
      go true e c f =
          let before : true ≡ not (entry_at pages old.tables.root.0 mid a == 0) = sym e ∙ tells in
          before ∙ ap (λ w. not (w == 0)) (sym (done.kept a slot (some_entry (entry_at pages old.tables.root.0 mid a) before)))
      go false e true f = entry_some (entry_at pages old.tables.root.0 new a) (used f)
      go false e false f = sym e ∙ tells ∙ ap (λ w. not (w == 0)) (sym (unused f))

  links_new : (a : Slot) → IsLinkSlot (leaves_of old.tables.mode) a → uses_slot (leaves_of old.tables.mode) grown a ≡ not (entry_at pages old.tables.root.0 new a == 0)
  links_new (At d k) slot =
      link_new (At d k) slot k (model.prefixes (leaves_of old.tables.mode - d)) (map (part_of (leaves_of old.tables.mode - d)) (page_run gpa n)) (mappings_mid.links (At d k) slot)
      (λ there.
      let one = run_has (part_of (leaves_of old.tables.mode - d)) k (gpa / 4096) n there in
      done.way one.0 (At d k) one.1 (part-on-way (leaves_of old.tables.mode) d (gpa / 4096 + one.0) k slot.0 one.2))
      (λ absent.
      done.only (At d k) slot (λ j low on.
      run_lacks (part_of (leaves_of old.tables.mode - d)) k (gpa / 4096) n absent j low (on-way-part (leaves_of old.tables.mode) d (gpa / 4096 + j) k on).1))

  count_new : length grown.tables ≡ over_levels (λ level. length (grown.prefixes level)) (leaves_of old.tables.mode) + length left.pages
  count_new =
      let before = mappings_mid.count in
      let lost = done.lost in
      let used = used_more model gpa n (leaves_of old.tables.mode) in
      let lacked = lacked_agree pages harts t old.tables.root.0 (leaves_of old.tables.mode) gpa n mid old.pool.pages model mappings_mid may.guests in
      let none : tables_lacked pages old.tables.root.0 new (leaves_of old.tables.mode) (gpa / 4096 + n) (n - n) ≡ 0 =
      ap (tables_lacked pages old.tables.root.0 new (leaves_of old.tables.mode) (gpa / 4096 + n)) (let e : n - n ≡ 0 = omega arith in e)
      ∙ tables_lacked-none pages old.tables.root.0 new (leaves_of old.tables.mode) (gpa / 4096 + n) in
      omega (arith, before, lost, used, lacked, none)

  mappings_new : AreMappings pages harts new t old.tables.root.0 (leaves_of old.tables.mode) left.pages grown
  mappings_new = record {
    leaf = leaf_new;
    far = λ h high. let guests = may.guests in mapping_other h (inr (omega arith)) ∙ mappings_mid.far h high;
    links = links_new;
    count = count_new;
  }

  -- ---- pages

  found_again : (page : ℕ) (role : Role) → IsFoundAs pages harts mid t old page role → IsFoundAs pages harts new t renewed page role
  found_again page Root found = found
  found_again page State found = found
  found_again page Table (inl there) = done.found page there
  found_again page Table (inr (a, slot, named)) =
      let above = named-above pages old.tables.root.0 (leaves_of old.tables.mode) mid may.tables.tree a page slot named in
      inr (a, slot, done.kept a above (next-some _ page named) ∙ named)
  found_again page Vcpu found = found
  found_again page Data found = elim (run_cases (gpa / 4096) n found.0) [
    | inl run ↦
        let is : gpa / 4096 + (found.0 - gpa / 4096) ≡ found.0 = omega (arith, run.0) in
        let none : leaf_at pages old.tables.root.0 (leaves_of old.tables.mode) mid found.0 ≡ 0 =
        subst (λ k. leaf_at pages old.tables.root.0 (leaves_of old.tables.mode) mid k ≡ 0) is (may.absent (found.0 - gpa / 4096) (omega (arith, run.0, run.1))) in
        absurd (none_named page false (leaf_at pages old.tables.root.0 (leaves_of old.tables.mode) mid found.0) none found.2)
    | inr out ↦ (found.0, found.1, subst (Names page false) (sym (done.others found.0 found.1 out)) found.2)
  ]

  module _ (fresh : (q : ℕ) (role : Role) → q < pages → get_or mid q 0 ≡ given t role
      → (get_or words q 0 ≡ given t role) ⊎ ((role ≡ Data) × ((j : ℕ) × (j < n) × (q ≡ p + j)) × (shared ≡ false)))
      (room : left.room ≡ old.pool.room) (measured : regs ≡ registers_of records model.extensions) where
    owned_new : ArePages pages harts new t renewed
    owned_new = record {
      state_fits = was.owned.state_fits;
      state_is = page_same old.state.0 was.owned.state_fits ∙ keeps.page old.state.0 State was.owned.state_fits was.owned.state_is;
      found = λ page role on is. elim (fresh page role on (sym (page_same page on) ∙ is)) [
        | inl before ↦ found_again page role (found_kept pages harts t words mid keeps seats files old model was page role (was.owned.found page role on before))
        | inr run ↦
            let guests = may.guests in
            let j = run.1.0 in
            subst (IsFoundAs pages harts new t renewed page) (sym run.0) (
              gpa / 4096 + run.1.0,
              omega (arith, run.1.1, guests),
              ByPresent
                  (done.here run.1.0 run.1.1 ∙ ap (λ q. present q shared) (sym run.1.2) ∙ ap (present page) run.2),
            )
      ];
    }

    -- the TVM stands
    pub run_lives : LiveStands pages harts new t seats files renewed grown
    run_lives =
        let fields = fields_stay pages harts t mid new keeps_new seats files old model (fields_kept pages harts t words mid keeps seats files old model was) in
        record {
          board = was.board;
          mode = was.mode;
          room = room ∙ was.room;
          tables = done.tables;
          owned = owned_new;
          mappings = mappings_new;
          fields = record {
            life = fields.life;
            regions = record {
              regions = fields.regions.regions;
              some = fields.regions.some;
              shared = fields.regions.shared;
              each_once = fields.regions.each_once;
              inside = fields.regions.inside;
            };
            near = fields.near;
            registers = measured;
            allowed = fields.allowed;
            yet = fields.yet;
            cpu = fields.cpu;
          };
        }
