-- Words and ground stand after fields of one TVM changed.
use Rattle.std.proofs.Common.{◌≡◌, ℕ, suc, ◌==◌, ◌∙◌, Bool, true, false, cond, eqb, List, [], count_by, get_or, Option, Some, None, option_map, refl, sym, ap, subst, inl, inr}
use Rattle.std.proofs.Math.Path.{fun_ext}
use Rattle.std.proofs.lemmas.Bool.{cases_eq}
use Rattle.std.proofs.lemmas.List.Folds.{flat_map-map}
use Rattle.std.specs.Prelude.{filter_map, flat_map, option_and_then, unwrap_or}
use Rattle.cove_model.proofs.KeyedLemmas.{at_alter_other, at_alter_same}
use Rattle.cove_model.specs.Machine.{at, mapping_of, own_words, page_at, State, find_tvm, on_tvm, shown_page, FramesStand, maps_of, words_at}
use Rattle.cove_model.specs.Tvms.{Tvm as ModelTvm, new_tvm}
use Rattle.cove_model.specs.WordLaws.{Stand}
use Rattle.cove_tvm.proofs.KeptGround.{frame_kept, stand_kept}
use Rattle.cove_tvm.proofs.OneTvmProofs.{live_tvm_stands}
use Rattle.cove_tvm.specs.Leaves.{LeavesTvm}
use Rattle.cove_tvm.specs.OneTvm.{FieldsChangeStand, KeepsMappings}

-- the same words leave every TVM
pub leaves_same : (pages harts t : ℕ) (words : List ℕ) → LeavesTvm pages harts words words t
leaves_same pages harts t words = record {
  size = refl;
  page = λ p role on. (λ gives. gives, λ gives. gives);
  table = λ p i on low own. refl;
  number = refl;
  inside = λ number hart on. refl;
}

module _ (S : State) (t : ℕ) (how : ModelTvm → ModelTvm) (keeps : KeepsMappings how) where
  abbrev shown : ModelTvm → List ℕ
  shown tvm = filter_map (λ mapping. shown_page mapping.backing) tvm.mappings

  shown_same : (tvm : ModelTvm) → shown (cond (eqb tvm.number t) (how tvm) tvm) ≡ shown tvm
  shown_same tvm = go (eqb tvm.number t)
    where
      go : (b : Bool) → shown (cond b (how tvm) tvm) ≡ shown tvm
      go true = ap (filter_map (λ mapping. shown_page mapping.backing)) (keeps.mappings tvm)
      go false = refl

  -- the same pages are mapped as often
  pub maps_changed : (p : ℕ) → maps_of (on_tvm t how S) p ≡ maps_of S p
  maps_changed p =
      ap (count_by (λ q. q == p))
      (flat_map-map shown (λ tvm. cond (eqb tvm.number t) (how tvm) tvm) S.tvms
      ∙ ap (λ f. flat_map f S.tvms) (fun_ext shown_same))

  abbrev words_by : (u g : ℕ) → Option ModelTvm → Option (List ℕ)
  words_by u g found = option_and_then (λ mapping. own_words mapping.backing) (mapping_of (unwrap_or found (new_tvm u)) g)

  words_how : (u g : ℕ) (found : Option ModelTvm) → words_by u g (option_map how found) ≡ words_by u g found
  words_how u g None = refl
  words_how u g (Some v) =
      ap (λ ms. option_and_then (λ mapping. own_words mapping.backing) (at (λ mapping. mapping.guest) g ms)) (keeps.mappings v)

  -- and guest pages have the same words
  pub words_changed : (u g : ℕ) → words_at (on_tvm t how S) u g ≡ words_at S u g
  words_changed u g = elim (cases_eq u t) [
    | inl own ↦ subst (λ n. words_at (on_tvm t how S) n g ≡ words_at S n g) (sym own)
        (ap (words_by t g) (at_alter_same (λ tvm. tvm.number) t how keeps.number S.tvms) ∙ words_how t g (find_tvm S t))
    | inr other ↦ ap (words_by u g) (at_alter_other (λ tvm. tvm.number) u t how keeps.number other S.tvms)
  ]

  pub frames_changed : (frames : List (List ℕ)) → FramesStand frames S → FramesStand frames (on_tvm t how S)
  frames_changed frames stands = record {
    count = stands.count;
    frame = λ p on. frame_kept S (on_tvm t how S) (get_or frames p []) (page_at S.pages p) (λ u g is. words_changed u g ∙ is) (stands.frame p on);
  }

  pub words_stand_still : (pages harts : ℕ) (words : List ℕ) → Stand pages harts words S → Stand pages harts words (on_tvm t how S)
  words_stand_still pages harts words stand = stand_kept pages harts words S (on_tvm t how S).tvms S.made maps_changed stand

pub fields_change_stand : FieldsChangeStand
fields_change_stand k words G S how old new v stands keeps live found stays own =
    live_tvm_stands k words words G G.memory S S.pages old new stands live how v found stays keeps.number (λ u other few. leaves_same G.pages G.harts u words)
    (words_stand_still S (suc k) how keeps G.pages G.harts words stands.words_stand) (frames_changed S (suc k) how keeps G.memory stands.frames)
    (λ p on. stands.counted p on ∙ sym (maps_changed S (suc k) how keeps p)) own
