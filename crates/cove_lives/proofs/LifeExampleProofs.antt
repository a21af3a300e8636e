-- What the worked life of a TVM shows.
use Rattle.std.proofs.Common.{◌≡◌, ℕ, zero, suc, ◌<◌, ◌≤◌, true, [], get_or, replicate, refl, sym, ap, subst, ◌∙◌, true≢false, inr, arith}
use Rattle.std.proofs.lemmas.Option.{none-some}
use Rattle.cove_base.proofs.StoreLemmas.{get_or-fills_other, get_or-stored_other}
use Rattle.cove_model.specs.Machine.{converting, given, all_words, tvm_word, ENTRY_LIMIT, effect, IsOrderly, Owner, Purpose, Given, is_free, is_host, page_at, IsSeated, opening, created, FencesWithin, FrameStands, FramesStand, Convert}
use Rattle.cove_base.specs.Modes.{guest_limit}
use Rattle.cove_base.specs.declared.modes.Mode.TheVariants.{Sv39x4}
use Rattle.cove_base.specs.declared.numbers.Role.TheVariants.{State as StateRole, Table}
use Rattle.cove_model.proofs.Lists.{replicate_zero}
use Rattle.cove_model.proofs.Running.{none_seated}
use Rattle.cove_model.specs.WordLaws.{global_fence_stores}
use Rattle.cove_stage2.specs.declared.tables.Tables.{Tables}
use Rattle.cove_tvm.proofs.CreatedTvm.{create_stands}
use Rattle.cove_tvm.proofs.GivenTables.{tables_stand}
use Rattle.cove_tvm.proofs.NewGround.{board_is_new, ground_opens}
use Rattle.cove_tvm.proofs.OwnerCalls.{ground_converts, ground_fences}
use Rattle.cove_lives.proofs.StateExampleProofs.{begun_is_new}
use Rattle.cove_lives.specs.Examples.{begun}
use Rattle.cove_tvm.specs.GivenRuns.{MayGive}
use Rattle.cove_tvm.specs.GroundLaws.{IsNewGround}
use Rattle.cove_lives.specs.LifeExamples.{all_converted, created_state, created_ground, created_words, freed_state, freed_words, low_converted, nine_ground, nine_pages, supplied_state, supplied_ground, supplied_model, supplied_tvm, supplied_words}
use Rattle.cove_tvm.specs.NewTvms.{MayCreate}
use Rattle.cove_tvm.specs.PrivateRuns.{MayGrow}
use Rattle.cove_tvm.specs.SharedRuns.{MayShare}
use Rattle.cove_tvm.specs.Stands.{Stands}
use Rattle.cove_tvm.specs.TvmTables.{IsNewTvm}

-- ---- the board

frames : FramesStand nine_ground.memory (opening nine_pages)
frames = record { count = refl; frame = frame }
  where
    frame : (p : ℕ) → p < 9 → FrameStands (opening nine_pages) (get_or nine_ground.memory p []) (page_at (opening nine_pages).pages p)
    frame zero low = refl
    frame (suc zero) low = refl
    frame (suc (suc zero)) low = refl
    frame (suc (suc (suc zero))) low = refl
    frame (suc (suc (suc (suc zero)))) low = refl
    frame (suc (suc (suc (suc (suc zero))))) low = refl
    frame (suc (suc (suc (suc (suc (suc zero)))))) low = refl
    frame (suc (suc (suc (suc (suc (suc (suc zero))))))) low = refl
    frame (suc (suc (suc (suc (suc (suc (suc (suc zero)))))))) low = refl
    frame (suc (suc (suc (suc (suc (suc (suc (suc (suc p))))))))) low = absurd (omega arith)

new_ground : IsNewGround nine_pages nine_ground
new_ground = board_is_new nine_pages nine_ground.memory frames

after_low : Stands low_converted nine_ground (effect (opening nine_pages) 0 (Convert 0 3))
after_low = ground_converts (replicate (all_words 9 1) 0) nine_ground (opening nine_pages) 0 0 3 (omega arith) (omega arith) refl (ground_opens nine_pages nine_ground new_ground)

after_high : Stands all_converted nine_ground (effect (effect (opening nine_pages) 0 (Convert 0 3)) 0 (Convert 0x4000 5))
after_high = ground_converts low_converted nine_ground (effect (opening nine_pages) 0 (Convert 0 3)) 0 0x4000 5 (omega arith) (omega arith) refl after_low

pub board : Stands freed_words nine_ground freed_state
board = ground_fences all_converted nine_ground (effect (effect (opening nine_pages) 0 (Convert 0 3)) 0 (Convert 0x4000 5)) 0 (omega arith) (λ hart on. omega arith) after_high

-- ---- what a creation needs

not_given : (owner : Owner) (t : ℕ) (purpose : Purpose) → is_free owner ≡ true → owner ≡ Given t purpose → ⊥
not_given owner t purpose free is = true≢false (sym free ∙ ap is_free is)

given_to_none : (p t : ℕ) (purpose : Purpose) → page_at freed_state.pages p ≡ Given t purpose → ⊥
given_to_none zero t purpose is = not_given _ t purpose refl is
given_to_none (suc zero) t purpose is = not_given _ t purpose refl is
given_to_none (suc (suc zero)) t purpose is = not_given _ t purpose refl is
given_to_none (suc (suc (suc zero))) t purpose is = true≢false (ap is_host is)
given_to_none (suc (suc (suc (suc zero)))) t purpose is = not_given _ t purpose refl is
given_to_none (suc (suc (suc (suc (suc zero))))) t purpose is = not_given _ t purpose refl is
given_to_none (suc (suc (suc (suc (suc (suc zero)))))) t purpose is = not_given _ t purpose refl is
given_to_none (suc (suc (suc (suc (suc (suc (suc zero))))))) t purpose is = not_given _ t purpose refl is
given_to_none (suc (suc (suc (suc (suc (suc (suc (suc zero)))))))) t purpose is = not_given _ t purpose refl is
given_to_none (suc (suc (suc (suc (suc (suc (suc (suc (suc p))))))))) t purpose is = not_given _ t purpose refl is

orderly : IsOrderly freed_state
orderly = record {
  numbers = tt;
  made = tt;
  guests = λ t tvm found. absurd (none-some tvm found);
  given = λ p t purpose is. absurd (given_to_none p t purpose is);
}

seated : IsSeated freed_state
seated = none_seated freed_state (λ h. refl)

-- no call so far stored a number of a TVM
no_number : (place : ℕ) → 4619 ≤ place → get_or freed_words place 0 ≡ 0
no_number place past =
    get_or-stored_other all_converted (global_fence_stores 9 all_converted 0) place ((λ e. omega arith), ((λ e. omega arith), tt))
    ∙ get_or-fills_other low_converted 4 5 (converting 0) place (inr (omega arith))
    ∙ get_or-fills_other (replicate (all_words 9 1) 0) 0 3 (converting 0) place (inr (omega arith))
    ∙ replicate_zero (all_words 9 1) place

fences : FencesWithin 9 1 freed_words ENTRY_LIMIT
fences = record {
  epoch = omega arith;
  numbers = λ t low high. omega (arith, no_number (tvm_word 9 1 t) (omega arith));
}

pub may_create : MayCreate 9 0x4000 0x8000 freed_state
may_create = record {
  room = omega arith;
  root_inside = omega arith;
  state_inside = omega arith;
  apart = inr (omega arith);
  root_free = refl;
  state_free = refl;
}

module _ (tables : Tables) (root : tables.root.0 ≡ 4) (pages : tables.pages ≡ 9) (mode : tables.mode ≡ Sv39x4) where
  pub creation : Stands created_words (created_ground tables) created_state
  creation = create_stands freed_words nine_ground freed_state 0 0x4000 0x8000 (begun tables) board orderly seated fences may_create
      (subst (λ m. IsNewTvm 9 0x10009 4 m 8 (begun tables)) mode (begun_is_new tables root pages))

  pub free : MayGive created_words (created_ground tables) created_state 0 0 2 (begun tables) (created 1 Sv39x4 0x10009)
  free = record { stands = creation; live = refl; found = refl; inside = omega arith; free = refl }

  pub supply : Stands supplied_words (supplied_ground tables) supplied_state
  supply = tables_stand 0 created_words (created_ground tables) created_state 0 0 2 (begun tables) (supplied_tvm tables) (created 1 Sv39x4 0x10009) free
      (record { pages = refl; room = refl; rest = refl })

  pub own : MayGrow supplied_words (supplied_ground tables) supplied_state 0 0x2000 1 0x9000 (supplied_tvm tables) supplied_model
  own = record {
    stands = supply;
    few = omega arith;
    live = refl;
    found = refl;
    inside = omega arith;
    owners = refl;
    near = subst (λ m. 10 ≤ guest_limit m) (sym mode) (omega arith);
    unmapped = refl;
    enough = refl;
  }

  pub shared : MayShare supplied_words (supplied_ground tables) supplied_state 0 0x3000 1 0x9000 (supplied_tvm tables) supplied_model
  shared = record {
    stands = supply;
    few = omega arith;
    live = refl;
    found = refl;
    inside = omega arith;
    owners = refl;
    near = subst (λ m. 10 ≤ guest_limit m) (sym mode) (omega arith);
    unmapped = refl;
    enough = refl;
  }

-- ---- what no call needs

module _ (tables : Tables) where
  pub created_before : Stands freed_words (created_ground tables) created_state → ⊥
  created_before stands =
      let is : get_or freed_words 8 0 ≡ given 1 StateRole = (stands.words_stand.stands.owners.page 8 (omega arith)).2 in
      let was : get_or freed_words 8 0 ≡ converting 0 = refl in
      omega arith

  pub supplied_before : Stands created_words (supplied_ground tables) supplied_state → ⊥
  supplied_before stands =
      let is : get_or created_words 0 0 ≡ given 1 Table = (stands.words_stand.stands.owners.page 0 (omega arith)).2 in
      let was : get_or created_words 0 0 ≡ converting 0 = refl in
      omega arith

  pub host_page : MayGive created_words (created_ground tables) created_state 0 0x3000 1 (begun tables) (created 1 Sv39x4 0x10009) → ⊥
  host_page may = true≢false (sym may.free)

  pub past_the_board : MayGive created_words (created_ground tables) created_state 0 0x9000 1 (begun tables) (created 1 Sv39x4 0x10009) → ⊥
  past_the_board may = let inside : 10 ≤ 9 = may.inside in omega arith

  pub to_none : MayGive created_words (created_ground tables) created_state 1 0 2 (begun tables) (created 1 Sv39x4 0x10009) → ⊥
  to_none may = none-some (begun tables) may.live

  pub no_tables : MayGrow created_words (created_ground tables) created_state 0 0x2000 1 0x9000 (begun tables) (created 1 Sv39x4 0x10009) → ⊥
  no_tables may = let none : ◌≡◌ {A = ℕ} 2 0 = may.enough in omega arith

  pub host_page_as_own : MayGrow supplied_words (supplied_ground tables) supplied_state 0 0x3000 1 0x9000 (supplied_tvm tables) supplied_model → ⊥
  host_page_as_own may = true≢false (sym may.owners)

  pub free_page : MayShare supplied_words (supplied_ground tables) supplied_state 0 0x2000 1 0x9000 (supplied_tvm tables) supplied_model → ⊥
  free_page may = true≢false (sym may.owners)
