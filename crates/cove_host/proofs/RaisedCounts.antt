-- Counts of shared mappings that are raised, one after another.
use Rattle.std.proofs.Common.{◌≡◌, ◌∙◌, ℕ, ◌+◌, ◌^◌, ◌<◌, ◌≤◌, List, [], ◌∷◌, get_or, length, length-set, set, refl, sym, ap, subst, inl, inr, arith, get_or-set_other, get_or-set_same}
use Rattle.std.proofs.lemmas.Bool.{cases_eq}
use Rattle.cove_model.specs.Machine.{host, ChangesPage, Counts, IsLawful}
use Rattle.cove_host.specs.Raised.{AreHosts, RaisesBy}
use Rattle.cove_stage2.proofs.LawfulLemmas.{leads_on}

raise_lawful : (pages harts hart : ℕ) (start now : List ℕ) (place maps : ℕ) → place < pages → get_or now place 0 ≡ host maps
    → IsLawful pages harts hart start now place (get_or now place 0 + 8)
raise_lawful pages harts hart start now place maps on is = ChangesPage place on refl (Counts maps (maps + 1) is (omega (arith, is)) (λ none. absurd (omega (arith, none))))

module _ (first i : ℕ) (old now : List ℕ) (done : RaisesBy first i old now) where
  word_same : get_or now (first + i) 0 ≡ get_or old (first + i) 0
  word_same = done.raised.others (first + i) (inr (omega arith))

  pub next_raise : (pages harts hart n : ℕ) (start : List ℕ) → i < n → first + n ≤ pages → AreHosts first n old
      → IsLawful pages harts hart start now (first + i) (get_or now (first + i) 0 + 8)
  next_raise pages harts hart n start low inside hosts =
      let one = hosts (first + i) (omega arith) (omega arith) in
      raise_lawful pages harts hart start now (first + i) one.0 (omega arith) (word_same ∙ one.2)

  pub next_small : (n : ℕ) → i < n → AreHosts first n old → get_or now (first + i) 0 + 8 < 2 ^ 64
  next_small n low hosts =
      let one = hosts (first + i) (omega arith) (omega arith) in
      omega (arith, word_same, one.1, one.2)

  pub raise_next : (next : List ℕ) → first + i < length old → next ≡ set now (first + i) (get_or now (first + i) 0 + 8) → RaisesBy first (i + 1) old next
  raise_next next inside is = subst (RaisesBy first (i + 1) old) (sym is) (record {
    raised = record {
      size = length-set now (first + i) (get_or now (first + i) 0 + 8) ∙ done.raised.size;
      here = λ p maps low high was. elim (cases_eq p (first + i)) [
        | inl same ↦
            let size = done.raised.size in
            let before : get_or old (first + i) 0 ≡ host maps = ap (λ q. get_or old q 0) (sym same) ∙ was in
            let stored_word = get_or-set_same now (first + i) (get_or now (first + i) 0 + 8) 0 (omega (arith, size, inside)) in
            ap (λ q. get_or (set now (first + i) (get_or now (first + i) 0 + 8)) q 0) same ∙ stored_word ∙ omega (arith, word_same, before)
        | inr off ↦
            get_or-set_other now (first + i) p (get_or now (first + i) 0 + 8) 0 off ∙ done.raised.here p maps low (omega (arith, high, off)) was
      ];
      others = λ place out. elim out [
        | inl under ↦ get_or-set_other now (first + i) place (get_or now (first + i) 0 + 8) 0 (omega (arith, under)) ∙ done.raised.others place (inl under)
        | inr over ↦ get_or-set_other now (first + i) place (get_or now (first + i) 0 + 8) 0 (omega (arith, over)) ∙ done.raised.others place (inr (omega (arith, over)))
      ];
    };
    lawful = λ pages harts hart start fits hosts.
        let before = done.lawful pages harts hart start (omega (arith, fits)) (λ p low high. hosts p low (omega (arith, high))) in
        let one = next_raise pages harts hart (i + 1) start (omega arith) fits hosts in
        leads_on (IsLawful pages harts hart start) old now (set now (first + i) (get_or now (first + i) 0 + 8)) before
        ((first + i, get_or now (first + i) 0 + 8) ∷ [], (one, tt), refl);
  })
