-- Words that stand for a state, after stores.
use Rattle.std.proofs.Common.{Option, Some, None, ◌≡◌, ◌≢◌, ℕ, ◌+◌, ◌<◌, ◌≤◌, ◌⊎◌, List, length, get_or, set, refl, sym, ◌∙◌, ap, inl, inr, arith, false, true, map, get_or-set_other}
use Rattle.std.proofs.Math.Path.{fun_ext}
use Rattle.std.proofs.lemmas.List.{length-map}
use Rattle.std.proofs.lemmas.Bool.{cases_eq, false≢true}
use Rattle.std.proofs.lemmas.Grind.{get_or-set_at}
use Rattle.cove_model.specs.Machine.{table_word, epoch_word, answered_word, tvm_word, hart_word, all_words, stored, fills, Owner, Host, Free, page_at, change, is_host, is_free, Seat, State, TVM_LIMIT, SeatStands, number_in, WordsStand, PageStands, is_table, epoch_in, answered_in, maps_of, harts_behind}
use Rattle.cove_base.proofs.StoreLemmas.{length-stored, get_or-fills, get_or-fills_other}
use Rattle.cove_model.specs.WordLaws.{Stand}
use Rattle.cove_model.proofs.Runs.{change_cases, change_inside, change_outside, length_change, page_map, run_cases}

-- a page word stands for an owner, by equal numbers
pub page_moves : (harts : ℕ) (e e' : ℕ) (a a' : ℕ → ℕ) (m w w' : ℕ) (o o' : Owner) → e' ≡ e → a' ≡ a → w' ≡ w → o' ≡ o → PageStands harts e a m w o → PageStands harts e' a' m w' o'
page_moves harts e e' a a' m w w' o o' ee aa ww oo h = rw (ee, aa, ww, oo) h

-- the word of a hart stands for where it is, by equal numbers of TVMs
pub seat_moves : (pages harts : ℕ) (words words' : List ℕ) (w w' : ℕ) (o : Option Seat) → ((t : ℕ) → 1 ≤ t → t ≤ TVM_LIMIT → number_in pages harts words' t ≡ number_in pages harts words t) → w' ≡ w → SeatStands pages harts words w o → SeatStands pages harts words' w' o
seat_moves pages harts words words' w w' None numbers e stands = e ∙ stands
seat_moves pages harts words words' w w' (Some seat) numbers e stands = record {
  low = stands.low;
  high = stands.high;
  number = stands.number;
  begun = rw (numbers seat.tvm stands.low stands.high) stands.begun;
  is = e ∙ stands.is;
}

pub host_page : (owner : Owner) → is_host owner ≡ true → (words : List ℕ) × (owner ≡ Host words)
host_page (Host words) e = (words, refl)
host_page owner e = absurd (false≢true e)

pub free_page : (owner : Owner) → is_free owner ≡ true → owner ≡ Free
free_page Free e = refl
free_page owner e = absurd (false≢true e)

-- a word after a store is the one that was stored, or it stays
pub set_cases : (words : List ℕ) (place word other : ℕ) → place < length words → ((other ≡ place) × (get_or (set words place word) other 0 ≡ word)) ⊎ ((other ≢ place) × (get_or (set words place word) other 0 ≡ get_or words other 0))
set_cases words place word other inside = elim (cases_eq other place) [
  | inl is ↦ inl (is, get_or-set_at words place other word 0 is inside)
  | inr off ↦ inr (off, get_or-set_other words place other word 0 off)
]

-- a run of pages is filled with one word, and their owners are changed
pub filled_stand : (pages harts : ℕ) (words : List ℕ) (S : State) (how : Owner → Owner) (first n word : ℕ) → first + n ≤ pages → ((o : Owner) → is_table (how o) ≡ false → is_table o ≡ false) → ((p : ℕ) → first ≤ p → p < first + n → p < pages → PageStands harts (epoch_in pages words) (answered_in pages words) (maps_of S p) word (how (page_at S.pages p))) → Stand pages harts words S → Stand pages harts (stored words (fills first n word)) (record S { pages = change how first n S.pages })
filled_stand pages harts words S how first n word inside tables each stand =
    let words' : List ℕ = stored words (fills first n word) in
    let behind : (place : ℕ) → pages ≤ place → get_or words' place 0 ≡ get_or words place 0 =
    λ place past. get_or-fills_other words first n word place (inr (omega arith)) in
    let epoch : epoch_in pages words' ≡ epoch_in pages words = behind (epoch_word pages) (omega arith) in
    let numbers : answered_in pages words' ≡ answered_in pages words = fun_ext (λ hart. behind (answered_word pages hart) (omega arith)) in
    let old = stand.stands in
    let long : length S.pages ≡ pages = old.owners.page_count in
    let size : length words ≡ all_words pages harts = old.size in
    record {
      stands = record {
        size = length-stored words (fills first n word) ∙ size;
        owners = record {
          page_count = length_change how first n S.pages ∙ long;
          hart_count = old.owners.hart_count;
          page = λ p within. elim (run_cases first n p) [
            | inl run ↦ page_moves harts _ _ _ _ (maps_of S p) _ _ _ _ epoch numbers (get_or-fills words first n word p run.0 run.1 (omega arith))
                (change_inside how first n S.pages p run.0 run.1 (omega arith)) (each p run.0 run.1 within)
            | inr out ↦ page_moves harts _ _ _ _ (maps_of S p) _ _ _ _ epoch numbers (get_or-fills_other words first n word p out)
                (change_outside how first n S.pages p out) (old.owners.page p within)
          ];
          unanswered = old.owners.unanswered ∙ sym (ap (λ a. harts_behind harts a (epoch_in pages words')) numbers ∙ ap (λ e. harts_behind harts (answered_in pages words) e) epoch);
        };
        tables = λ p i within small e. behind (table_word pages p i) (omega arith) ∙ old.tables p i within small (elim (change_cases how first n S.pages p) [
          | inl same ↦ sym (ap is_table same) ∙ e
          | inr other ↦ tables (page_at S.pages p) (sym (ap is_table other) ∙ e)
        ]);
        unused = behind (tvm_word pages harts 0) (omega arith) ∙ old.unused;
        seats = λ hart on. seat_moves pages harts words words' _ _ (S.seats hart) (λ t low high. behind (tvm_word pages harts t) (omega arith))
            (behind (hart_word pages harts hart) (omega arith)) (old.seats hart on);
      };
      within = λ hart on. omega (arith, stand.within hart on, epoch, behind (answered_word pages hart) (omega arith));
    }

-- a hart answers, and the epoch may rise: each page follows
pub answered_stand : (pages harts hart : ℕ) (words words' : List ℕ) (S : State) (how : Owner → Owner) (unanswered : List ℕ) → hart < harts → length words' ≡ length words → ((place : ℕ) → place ≢ epoch_word pages → place ≢ answered_word pages hart → get_or words' place 0 ≡ get_or words place 0) → how Free ≡ Free → ((o : Owner) → is_table (how o) ≡ false → is_table o ≡ false) → ((maps word : ℕ) (o : Owner) → PageStands harts (epoch_in pages words) (answered_in pages words) maps word o → PageStands harts (epoch_in pages words') (answered_in pages words') maps word (how o)) → unanswered ≡ harts_behind harts (answered_in pages words') (epoch_in pages words') → WordsStand pages harts words S → WordsStand pages harts words' (record S { pages = map how S.pages; unanswered = unanswered })
answered_stand pages harts hart words words' S how unanswered on long others free tables each behind old = record {
  size = long ∙ old.size;
  owners = record {
    page_count = length-map S.pages how ∙ old.owners.page_count;
    hart_count = old.owners.hart_count;
    page = λ p within. page_moves harts _ _ _ _ (maps_of S p) _ _ _ _ refl refl (others p (omega arith) (omega arith)) (page_map how free S.pages p)
        (each (maps_of S p) (get_or words p 0) (page_at S.pages p) (old.owners.page p within));
    unanswered = behind;
  };
  tables = λ p i within small e. others (table_word pages p i) (omega arith) (omega arith)
      ∙ old.tables p i within small (tables (page_at S.pages p) (sym (ap is_table (page_map how free S.pages p)) ∙ e));
  unused = others (tvm_word pages harts 0) (omega arith) (omega arith) ∙ old.unused;
  seats = λ k within. seat_moves pages harts words words' _ _ (S.seats k) (λ t low high. others (tvm_word pages harts t) (omega arith) (omega arith))
      (others (hart_word pages harts k) (omega arith) (omega arith)) (old.seats k within);
}
