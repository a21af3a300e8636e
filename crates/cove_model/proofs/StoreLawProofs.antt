-- A lawful store, place by place.
use Rattle.std.proofs.Common.{◌≡◌, ◌≢◌, ℕ, ◌+◌, ◌*◌, ◌<◌, ◌≤◌, ◌⊎◌, List, get_or, sym, subst, inl, inr, arith, get_or-set_other}
use Rattle.cove_model.specs.Machine.{host, converting, given, IsHostWord, all_words, epoch_word, answered_word, hart_word, tvm_word, ENTRY_LIMIT, TVM_LIMIT, Role, Data, FreeStands, epoch_in, answered_in, IsLawful, ChangesPage, ChangesTable, Answers, Begins, FencesTvm, ChangesHart, PageChange, Counts, Converts, Frees, Gives, TakesBack, Removes}
use Rattle.cove_model.proofs.StandLemmas.{set_cases}
use Rattle.cove_model.specs.StoreLaw.{IsUsableWord, StoresKeepUsable, StoresKeepHost, StoresKeepAnswers, StoresKeepFences}

-- the word of a page that is none of the host's, and that no hart of the board may use
abbrev IsUnused : (harts : ℕ) (numbers : ℕ → ℕ) (word : ℕ) → Type 0
IsUnused harts numbers word = (IsHostWord word → ⊥) × ((hart : ℕ) → hart < harts → IsUsableWord (numbers hart) word → ⊥)

free_unused : (harts : ℕ) (numbers : ℕ → ℕ) (word : ℕ) → FreeStands harts numbers word → IsUnused harts numbers word
free_unused harts numbers word free = (λ is. grind arith, λ hart on may. grind arith)

given_unused : (harts : ℕ) (numbers : ℕ → ℕ) (word tvm : ℕ) (role : Role) → word ≡ given tvm role → IsUnused harts numbers word
given_unused harts numbers word tvm role is = (λ host. omega arith, λ hart on may. grind arith)

-- a store of a page word: the page is the host's then, or it goes into conversion and was the host's and not mapped, or it was unused
next_word : {pages harts : ℕ} {old words : List ℕ} {page word : ℕ} → PageChange pages harts old words page word
    → IsHostWord word ⊎ (((word ≡ converting (epoch_in pages words)) × (get_or old page 0 ≡ host 0)) ⊎ IsUnused harts (answered_in pages words) (get_or words page 0))
next_word (Counts before after was new few) = inl (after, new)
next_word (Converts was now new) = inr (inl (new, was))
next_word (Frees free new) = inr (inr (free_unused _ _ _ free))
next_word (Gives tvm role low high free new left) = inr (inr (free_unused _ _ _ free))
next_word (TakesBack tvm role was new left) = inr (inr (given_unused _ _ _ tvm role was))
next_word (Removes tvm was new none) = inr (inr (given_unused _ _ _ tvm Data was))

-- a store beside the page words, the answered numbers and the epoch: of a table, of the number of a TVM, which rises by one, or of a hart
data IsBeside (pages harts : ℕ) (words : List ℕ) (place word : ℕ) : Type 0 where
  OfTable : pages ≤ place → place < 513 * pages → IsBeside pages harts words place word
  OfTvm : (tvm : ℕ) → tvm ≤ TVM_LIMIT → place ≡ tvm_word pages harts tvm → word ≤ ENTRY_LIMIT → IsBeside pages harts words place word
  OfHart : (hart : ℕ) → hart < harts → place ≡ hart_word pages harts hart → IsBeside pages harts words place word

-- a lawful store is one of a page word, of the number of its hart, of the epoch, or one beside them
place_of : {pages harts : ℕ} {hart : ℕ} {old words : List ℕ} {place word : ℕ} → IsLawful pages harts hart old words place word
    → ((place < pages) × PageChange pages harts old words place word) ⊎ (((place ≡ answered_word pages hart) × (hart < harts) × (word ≡ epoch_in pages words)) ⊎ (((place ≡ epoch_word pages) × (epoch_in pages words < ENTRY_LIMIT) × (word ≡ epoch_in pages words + 1)) ⊎ IsBeside pages harts words place word))
place_of {pages} {harts} {hart} {old} {words} {place} {word} (ChangesPage page is at change) = inl (omega arith, subst (λ p. PageChange pages harts old words p word) (sym at) change)
place_of (ChangesTable tvm page i is below at of change) = inr (inr (inr (OfTable (omega arith) (omega arith))))
place_of (Answers is at new) = inr (inl (at, is, new))
place_of (Begins at room new all) = inr (inr (inl (at, room, new)))
place_of (FencesTvm tvm low high at room new all) = inr (inr (inr (OfTvm tvm high at (omega arith))))
place_of {pages} {harts} {hart} (ChangesHart is at change) = inr (inr (inr (OfHart hart is at)))

-- one beside them is to none of them
beside_apart : {pages harts : ℕ} {words : List ℕ} {place word : ℕ} → IsBeside pages harts words place word → (pages ≤ place) × (epoch_word pages ≢ place) × ((k : ℕ) → k < harts → answered_word pages k ≢ place)
beside_apart (OfTable low high) = (low, omega arith, λ k on. omega arith)
beside_apart (OfTvm tvm high at few) = (omega arith, omega arith, λ k on. omega arith)
beside_apart (OfHart hart is at) = (omega arith, omega arith, λ k on. omega arith)

-- it is to one of the words
beside_within : {pages harts : ℕ} {words : List ℕ} {place word : ℕ} → IsBeside pages harts words place word → place < all_words pages harts
beside_within (OfTable low high) = omega arith
beside_within (OfTvm tvm high at few) = omega arith
beside_within (OfHart hart is at) = omega arith

pub lawful_within : {pages harts : ℕ} {hart : ℕ} {old words : List ℕ} {place word : ℕ} → IsLawful pages harts hart old words place word → place < all_words pages harts
lawful_within {pages} {harts} {hart} {old} {words} {place} {word} lawful = elim (place_of lawful) [
  | inl page ↦ let low = page.0 in omega arith
  | inr rest ↦ elim rest [
    | inl own ↦ let at : place ≡ answered_word pages hart = own.0 in let on : hart < harts = own.1 in omega arith
    | inr more ↦ elim more [
      | inl begun ↦ let at : place ≡ epoch_word pages = begun.0 in omega arith
      | inr beside ↦ beside_within beside
    ]
  ]
]

-- one of a page word changes it
pub page_change : {pages harts : ℕ} {hart : ℕ} {old words : List ℕ} {place word : ℕ} → IsLawful pages harts hart old words place word → place < pages → PageChange pages harts old words place word
page_change lawful low = elim (place_of lawful) [
  | inl page ↦ page.1
  | inr rest ↦ elim rest [
    | inl own ↦ let at = own.0 in absurd (omega arith)
    | inr more ↦ elim more [
      | inl begun ↦ let at = begun.0 in absurd (omega arith)
      | inr beside ↦ let past = (beside_apart beside).0 in absurd (omega arith)
    ]
  ]
]

pub stores_keep_answers : StoresKeepAnswers
stores_keep_answers pages harts hart old words place word size within lawful k on =
    let inside = lawful_within lawful in
    let was : answered_in pages words k ≤ epoch_in pages words = within k on in
    let epoch = set_cases words place word (epoch_word pages) (omega arith) in
    let number = set_cases words place word (answered_word pages k) (omega arith) in
    elim (place_of lawful) [
      | inl page ↦ let low = page.0 in omega arith
      | inr rest ↦ elim rest [
        | inl own ↦ let at : place ≡ answered_word pages hart = own.0 in let new : word ≡ epoch_in pages words = own.2 in omega arith
        | inr more ↦ elim more [
          | inl begun ↦ let at : place ≡ epoch_word pages = begun.0 in let new : word ≡ epoch_in pages words + 1 = begun.2 in omega arith
          | inr beside ↦ let apart = beside_apart beside in let e = apart.1 in let a = apart.2 k on in omega arith
        ]
      ]
    ]

-- a lawful store is none of the answered number of another hart
pub answers_apart : {pages harts : ℕ} {hart : ℕ} {old words : List ℕ} {place word : ℕ} → IsLawful pages harts hart old words place word → (other : ℕ) → other < harts → other ≢ hart → answered_word pages other ≢ place
answers_apart {pages} {harts} {hart} {old} {words} {place} {word} lawful other on ne = elim (place_of lawful) [
  | inl page ↦ let low = page.0 in omega arith
  | inr rest ↦ elim rest [
    | inl own ↦ let at : place ≡ answered_word pages hart = own.0 in omega arith
    | inr more ↦ elim more [
      | inl begun ↦ let at : place ≡ epoch_word pages = begun.0 in omega arith
      | inr beside ↦ (beside_apart beside).2 other on
    ]
  ]
]

fence_stays : {pages harts : ℕ} {words : List ℕ} {place word : ℕ} → IsBeside pages harts words place word → (t : ℕ) → 1 ≤ t → t ≤ TVM_LIMIT → (tvm_word pages harts t ≢ place) ⊎ (word ≤ ENTRY_LIMIT)
fence_stays (OfTable low high) t some few = inl (omega arith)
fence_stays (OfTvm tvm high at most) t some few = inr most
fence_stays (OfHart hart is at) t some few = inl (omega arith)

-- the number of a TVM stays, or the store is of a number within the limit
number_stays : {pages harts : ℕ} {hart : ℕ} {old words : List ℕ} {place word : ℕ} → IsLawful pages harts hart old words place word → (t : ℕ) → 1 ≤ t → t ≤ TVM_LIMIT → (tvm_word pages harts t ≢ place) ⊎ (word ≤ ENTRY_LIMIT)
number_stays {pages} {harts} {hart} {old} {words} {place} {word} lawful t some few = elim (place_of lawful) [
  | inl page ↦ let low = page.0 in inl (omega arith)
  | inr rest ↦ elim rest [
    | inl own ↦ let at : place ≡ answered_word pages hart = own.0 in let on : hart < harts = own.1 in inl (omega arith)
    | inr more ↦ elim more [
      | inl begun ↦ let at : place ≡ epoch_word pages = begun.0 in inl (omega arith)
      | inr beside ↦ fence_stays beside t some few
    ]
  ]
]

pub stores_keep_fences : StoresKeepFences
stores_keep_fences pages harts hart old words place word size limit lawful = record {
  epoch =
      let inside = lawful_within lawful in
      let most = limit.epoch in
      let epoch = set_cases words place word (epoch_word pages) (omega arith) in
      elim (place_of lawful) [
        | inl page ↦ let low = page.0 in omega arith
        | inr rest ↦ elim rest [
          | inl own ↦ let at : place ≡ answered_word pages hart = own.0 in omega arith
          | inr more ↦ elim more [
            | inl begun ↦ let room : epoch_in pages words < ENTRY_LIMIT = begun.1 in let new : word ≡ epoch_in pages words + 1 = begun.2 in omega arith
            | inr beside ↦ let e = (beside_apart beside).1 in omega arith
          ]
        ]
      ];
  numbers = λ t low high.
      let inside = lawful_within lawful in
      let most = limit.numbers t low high in
      elim (number_stays lawful t low high) [
        | inl apart ↦ rw (get_or-set_other words place (tvm_word pages harts t) word 0 apart) most
        | inr few ↦ let number = set_cases words place word (tvm_word pages harts t) (omega arith) in omega arith
      ];
}

pub stores_keep_usable : StoresKeepUsable
stores_keep_usable pages harts hart other old words place word p size within on ne inside lawful may =
    let there = lawful_within lawful in
    rw (get_or-set_other words place (answered_word pages other) word 0 ne) (elim (set_cases words place word p (omega arith)) [
      | inl here ↦ rw here.1 (elim (next_word (page_change lawful (omega arith))) [
        | inl is ↦ inl is
        | inr rest ↦ elim rest [
          | inl begun ↦ inr (epoch_in pages words, begun.0, within other on)
          | inr unused ↦ absurd (unused.1 other on (rw here.0 at may))
        ]
      ])
      | inr off ↦ rw off.1 may
    ])

pub stores_keep_host : StoresKeepHost
stores_keep_host pages harts hart old words place word p size inside lawful may =
    let there = lawful_within lawful in
    elim (set_cases words place word p (omega arith)) [
      | inl here ↦ rw here.1 (elim (next_word (page_change lawful (omega arith))) [
        | inl is ↦ inl is
        | inr rest ↦ elim rest [
          | inl begun ↦ inr (rw here.0 begun.1)
          | inr unused ↦ absurd (unused.0 (rw here.0 at may))
        ]
      ])
      | inr off ↦ inl (rw off.1 may)
    ]
