-- A TVM is given measured memory: what the checks tell, and what the code leaves.
use Rattle.std.proofs.Common.{◌≡◌, ◌∙◌, ℕ, zero, suc, ◌+◌, ◌*◌, ◌/◌, ◌%◌, ◌^◌, ◌<◌, ◌≤◌, ◌⊎◌, ◌==◌, true, false, eqb-true, List, [], ◌∷◌, ◌++◌, get_or, length, refl, sym, ap, inl, inr, arith}
use Rattle.std.proofs.lemmas.Bool.{cases_lt, false≢true, not-false}
use Rattle.std.proofs.lemmas.List.{ext_get_or}
use Rattle.std.proofs.lemmas.List.FromFn.{get_or-map-range_with_len, length-map-range_with_len}
use Rattle.cove_base.specs.Measurement.{registers_of}
use Rattle.cove_model.specs.Machine.{Measured, Success, AllFree, AllHost, IsBuilding, Live, WithinMemory, Rule, page_records, page_words_from, rule, Free, Host, Owner, every, is_free, is_host, page_at, words_of, Aligned, Check, Count, State}
use Rattle.cove_host.proofs.CheckedLemmas.{each_passes}
use Rattle.cove_host.proofs.GrowingRuns.{Grows, grows, run_called, run_mapped}
use Rattle.cove_host.proofs.GuestTests.{few_guests}
use Rattle.cove_host.proofs.PassedCalls.{AllPass, stands_written}
use Rattle.cove_host.proofs.PassedChecks.{inside_passes}
use Rattle.cove_host.specs.GuestRuns.{EndsWithin, mapping_checks}
use Rattle.cove_host.specs.FoundTvms.{ChangesTvm}
use Rattle.cove_host.specs.MeasuredRuns.{MeasuresIn, frames_from}
use Rattle.cove_model.proofs.Runs.{every_at}
use Rattle.cove_model.specs.Tvms.{Tvm as ModelTvm}
use Rattle.cove_tvm.proofs.PrivateRuns.{content_is, measured_stands, memory_is_lawful, prepares}
use Rattle.cove_tvm.proofs.RunsStand.{was}
use Rattle.cove_tvm.specs.Called.{Called, IsReady}
use Rattle.cove_tvm.specs.PrivateRuns.{FillsFrames, MayGrow, memory_stores, with_memory}
use Rattle.cove_tvm.specs.Stands.{Stands}
use Rattle.cove_tvm.specs.declared.ground.Ground.{Ground}
use Rattle.cove_tvm.specs.declared.machines.Tvm.{Tvm}

-- ---- the checks

abbrev pub measured_checks : State → (t src dst n gpa : ℕ) → List Check
measured_checks S t src dst n gpa =
    Live S t ∷ IsBuilding S t ∷ Count n ∷ Aligned src ∷ Aligned dst ∷ Aligned gpa ∷ WithinMemory S src n ∷ WithinMemory S dst n ∷ AllHost S src n ∷ AllFree S dst n
    ∷ mapping_checks false S t gpa n

-- ---- what they tell

pub record Measures (words : List ℕ) (G : Ground) (S : State) (t src dst n gpa : ℕ) : Type 0 where
  pub grown : Grows is_free words G S t dst n gpa
  pub inside : src / 4096 + n ≤ G.pages
  pub hosts : every is_host (src / 4096) n S.pages ≡ true
  pub place : 4096 * (gpa / 4096) ≡ gpa

no_both : (o : Owner) → is_host o ≡ true → is_free o ≡ true → ⊥
no_both (Host words) host free = false≢true free
no_both Free host free = false≢true host
no_both o host free = absurd (false≢true host)

module _ {words : List ℕ} {G : Ground} (ready : IsReady words G) (src dst n gpa hart : ℕ) where
  -- the rule of the call
  abbrev by_rule : (t : ℕ) → State → Rule
  by_rule t S = rule S hart (Measured t src dst n gpa)

  pub measures : (t : ℕ) → EndsWithin G t gpa n → AllPass (by_rule t) words G → (S : State) → Stands words G S → Measures words G S t src dst n gpa
  measures t near told S stands =
      let pass = each_passes (measured_checks S t src dst n gpa) (told S stands) in
      let whole : gpa % 4096 ≡ 0 = eqb-true (gpa % 4096) 0 (not-false (gpa % 4096 == 0) (pass 5)) in
      record {
        grown = grows ready dst n gpa is_free t near S stands (pass 0) (pass 7) (pass 9) (pass 11) (pass 12);
        inside = inside_passes src n stands (pass 6);
        hosts = not-false (every is_host (src / 4096) n S.pages) (pass 8);
        place = omega (arith, whole);
      }

  -- addresses of the guest pages are numbers of 64 bits
  pub ends_low : (t : ℕ) → EndsWithin G t gpa n → AllPass (by_rule t) words G → gpa / 4096 + n ≤ 2 ^ 38
  ends_low zero near told = absurd (measures 0 near told ready.state ready.stands).grown
  ends_low (suc k) near told =
      let one = (measures (suc k) near told ready.state ready.stands).grown in
      let ends = one.may.near in
      let limit = few_guests one.old.tables.mode in
      omega (arith, ends, limit)

  -- the pages that are read are none of those that are given
  pub apart : (t : ℕ) → EndsWithin G t gpa n → 1 ≤ n → AllPass (by_rule t) words G → (src / 4096 + n ≤ dst / 4096) ⊎ (dst / 4096 + n ≤ src / 4096)
  apart zero near some told = absurd (measures 0 near told ready.state ready.stands).grown
  apart (suc k) near some told =
      let one = measures (suc k) near told ready.state ready.stands in
      let may = one.grown.may in
      let long = ready.stands.words_stand.stands.owners.page_count in
      let inside = one.inside in
      let to = may.inside in
      elim (cases_lt (dst / 4096) (src / 4096 + n)) [
        | inl under ↦ elim (cases_lt (src / 4096) (dst / 4096 + n)) [
          | inl over ↦ absurd (both ready.state one.hosts may.owners (omega (arith, long, inside)) (omega (arith, long, to)) under over)
          | inr behind ↦ inr (omega (arith, behind))
        ]
        | inr before ↦ inl (omega (arith, before))
      ]
    where
      meets : (S : State) (p : ℕ) → every is_host (src / 4096) n S.pages ≡ true → every is_free (dst / 4096) n S.pages ≡ true → src / 4096 ≤ p → p < src / 4096 + n
          → dst / 4096 ≤ p → p < dst / 4096 + n → p < length S.pages → ⊥
      meets S p hosts free a b c d on =
          no_both (page_at S.pages p) (every_at is_host (src / 4096) n S.pages hosts p a b on) (every_at is_free (dst / 4096) n S.pages free p c d on)

      both : (S : State) → every is_host (src / 4096) n S.pages ≡ true → every is_free (dst / 4096) n S.pages ≡ true → src / 4096 + n ≤ length S.pages
          → dst / 4096 + n ≤ length S.pages → dst / 4096 < src / 4096 + n → src / 4096 < dst / 4096 + n → ⊥
      both S hosts free one two under over = elim (cases_lt (src / 4096) (dst / 4096)) [
        | inl first ↦ meets S (dst / 4096) hosts free (omega (arith, first)) under (omega arith) (omega (arith, some)) (omega (arith, two, some))
        | inr later ↦ meets S (src / 4096) hosts free (omega arith) (omega (arith, some)) (omega (arith, later)) over (omega (arith, one, some))
      ]

  module _ (H : Ground) (frames : List (List ℕ)) (new : List ℕ) (filled : FillsFrames (dst / 4096) n (λ j. get_or G.memory (src / 4096 + j) []) G.memory frames) where
    -- the words that were measured are those of the host's pages
    same_words : (k : ℕ) (S : State) → Stands words G S → src / 4096 + n ≤ G.pages → every is_host (src / 4096) n S.pages ≡ true
        → frames_from (dst / 4096) n frames ≡ page_words_from S src n
    same_words k S stands inside hosts =
        let long = length-map-range_with_len (λ p. get_or frames p []) (dst / 4096) n in
        ext_get_or [] (frames_from (dst / 4096) n frames) (page_words_from S src n)
        (long ∙ sym (length-map-range_with_len (λ p. words_of (page_at S.pages p)) (src / 4096) n))
        (λ j below.
        let low : j < n = omega (arith, below, long) in
        get_or-map-range_with_len (λ p. get_or frames p []) (dst / 4096) n j (dst / 4096 + j) [] low refl ∙ filled.here j low
        ∙ sym (content_is k words G S src n stands inside hosts j low))

    measured_after : (k : ℕ) (S : State) (old : Tvm) (model : ModelTvm) → MayGrow words G S k dst n gpa old model
        → src / 4096 + n ≤ G.pages → every is_host (src / 4096) n S.pages ≡ true → 4096 * (gpa / 4096) ≡ gpa
        → ChangesTvm (suc k) (MeasuresIn (gpa / 4096) (dst / 4096) n frames (with_memory words (suc k) dst n) new) (record G { memory = frames }) H
        → Stands new H (rule S hart (Measured (suc k) src dst n gpa)).outcome.state
    measured_after k S old model may inside hosts place measures_of =
        let done = measures_of old may.live in
        let records = done.1.extended model.records model.extensions (was may).fields.registers in
        let same = same_words k S may.stands inside hosts in
        let measured : done.1.measured ≡ registers_of (model.records ++ page_records gpa (page_words_from S src n)) model.extensions =
        records ∙ ap (λ a. registers_of (model.records ++ page_records a (frames_from (dst / 4096) n frames)) model.extensions) place
        ∙ ap (λ ws. registers_of (model.records ++ page_records gpa ws) model.extensions) same in
        stands_written G frames k done.2 done.1.rest
        (measured_stands k words G S hart src dst n gpa old model frames new done.1.left done.1.measured may inside hosts filled done.1.room
        (run_mapped may (prepares may) new done.1.left done.1.mapped) measured)

    -- an accepted call, by what the code leaves
    pub adds_measured : (t : ℕ) → EndsWithin G t gpa n → AllPass (by_rule t) words G
        → ChangesTvm t (MeasuresIn (gpa / 4096) (dst / 4096) n frames (with_memory words t dst n) new) (record G { memory = frames }) H
        → Called hart (by_rule t) words new G H (record { status = Success; value = 0 })
    adds_measured zero near told measures_of = absurd (measures 0 near told ready.state ready.stands).grown
    adds_measured (suc k) near told measures_of =
        let one = (measures (suc k) near told ready.state ready.stands).grown in
        let done = measures_of one.old one.may.live in
        run_called one.may (prepares one.may) hart (by_rule (suc k)) new H done.1.left told done.1.mapped
        (memory_stores (suc k) dst n, memory_is_lawful k words G ready.state hart dst n gpa one.old one.model one.may, refl)
        (λ S met stands.
        let here = measures (suc k) near told S stands in
        measured_after k S here.grown.old here.grown.model here.grown.may here.inside here.hosts here.place measures_of)
        (λ S. refl)
