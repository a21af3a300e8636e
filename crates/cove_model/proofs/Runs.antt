-- Runs of pages, page by page.
use Rattle.cove_model.specs.Machine.{ScriptValue, Fill, Free, Host, Owner, change, every, page_at, opening, opening_byte}
use Rattle.cove_model.specs.Owners.{zeros}
use Rattle.cove_model.specs.States.{opening_words}
use Rattle.std.specs.Int.{from_le_bytes, w64}
use Rattle.std.proofs.Common.{Bool, List, [], arith, drop, inl, inr, length, map, refl, suc, sym, take, true, zero, ℕ, ⊎_elim, ◌*◌, ◌+◌, ◌-◌, ◌<◌, ◌∷◌, ◌≡◌, ◌≤◌, ◌⊎◌}
use Rattle.std.proofs.lemmas.Grind.{common_steps}
use Rattle.std.proofs.lemmas.List.{get_or-drop, get_or-take, get_or_default, get_or_past, length-drop, length-map, length-replicate, length-take}
use Rattle.std.proofs.lemmas.List.Sums.{AllPass-from_list_all, list_all-from_AllPass}
use Rattle.std.proofs.lemmas.List.FromFn.{get_or-map-range_with_len, length-map-range_with_len}
use Rattle.std.specs.List.{range_with_len}

-- a number is of a run, or before or behind it
pub run_cases : (first n p : ℕ) → ((first ≤ p) × (p < first + n)) ⊎ ((p < first) ⊎ (first + n ≤ p))
run_cases first n p = grind arith

-- each page of a changed run is as before, or changed
pub change_cases : (f : Owner → Owner) (first n : ℕ) (pages : List Owner) (p : ℕ) → (page_at (change f first n pages) p ≡ page_at pages p) ⊎ (page_at (change f first n pages) p ≡ f (page_at pages p))
change_cases f (suc a) zero [] p = inl refl
change_cases f (suc a) (suc n) [] p = inl refl
change_cases f (suc a) n (x ∷ xs) zero = inl refl
change_cases f (suc a) n (x ∷ xs) (suc p) = change_cases f a n xs p
change_cases f zero zero xs p = inl refl
change_cases f zero (suc n) [] p = inl refl
change_cases f zero (suc n) (x ∷ xs) zero = inr refl
change_cases f zero (suc n) (x ∷ xs) (suc p) = change_cases f zero n xs p

-- a page of the run is changed
pub change_inside : (f : Owner → Owner) (first n : ℕ) (pages : List Owner) (p : ℕ) → first ≤ p → p < first + n → p < length pages → page_at (change f first n pages) p ≡ f (page_at pages p)
change_inside f (suc a) n [] p low high within = absurd (omega arith)
change_inside f (suc a) n (x ∷ xs) zero low high within = absurd (omega arith)
change_inside f (suc a) n (x ∷ xs) (suc p) low high within = change_inside f a n xs p (omega arith) (omega arith) (omega arith)
change_inside f zero zero xs p low high within = absurd (omega arith)
change_inside f zero (suc n) [] p low high within = absurd (omega arith)
change_inside f zero (suc n) (x ∷ xs) zero low high within = refl
change_inside f zero (suc n) (x ∷ xs) (suc p) low high within = change_inside f zero n xs p (omega arith) (omega arith) (omega arith)

-- a page before the run, or behind it, stays
pub change_outside : (f : Owner → Owner) (first n : ℕ) (pages : List Owner) (p : ℕ) → (p < first) ⊎ (first + n ≤ p) → page_at (change f first n pages) p ≡ page_at pages p
change_outside f (suc a) zero [] p out = refl
change_outside f (suc a) (suc n) [] p out = refl
change_outside f (suc a) n (x ∷ xs) zero out = refl
change_outside f (suc a) n (x ∷ xs) (suc p) out = change_outside f a n xs p (⊎_elim (λ l. inl (omega arith)) (λ r. inr (omega arith)) out)
change_outside f zero zero xs p out = refl
change_outside f zero (suc n) [] p out = refl
change_outside f zero (suc n) (x ∷ xs) zero out = absurd (⊎_elim (λ l. omega arith) (λ r. omega arith) out)
change_outside f zero (suc n) (x ∷ xs) (suc p) out = change_outside f zero n xs p (⊎_elim (λ l. absurd (omega arith)) (λ r. inr (omega arith)) out)

pub length_change : (f : Owner → Owner) (first n : ℕ) (pages : List Owner) → length (change f first n pages) ≡ length pages
length_change f first n pages = grind (arith, common_steps, length-map {A = Owner} {B = Owner})

-- a fence changes every page
pub page_map : (f : Owner → Owner) → f Free ≡ Free → (pages : List Owner) (p : ℕ) → page_at (map f pages) p ≡ f (page_at pages p)
page_map f e [] p = sym e
page_map f e (x ∷ xs) zero = refl
page_map f e (x ∷ xs) (suc p) = page_map f e xs p

-- a test of a run is a test of each of its pages
pub every_at : (t : Owner → Bool) (first n : ℕ) (pages : List Owner) → every t first n pages ≡ true → (p : ℕ) → first ≤ p → p < first + n → p < length pages → t (page_at pages p) ≡ true
every_at t first n pages e p low high within =
    let at : first + (p - first) ≡ p = omega arith in
    rw (get_or-take n (drop first pages) (p - first) Free (omega arith), get_or-drop first pages (p - first) Free, at) at
    (AllPass-from_list_all t (take n (drop first pages)) e (p - first) Free (omega (arith, length-take n (drop first pages), length-drop first pages)))

pub every_from : (t : Owner → Bool) (first n : ℕ) (pages : List Owner) → ((p : ℕ) → first ≤ p → p < first + n → p < length pages → t (page_at pages p) ≡ true) → every t first n pages ≡ true
every_from t first n pages each =
    list_all-from_AllPass t (take n (drop first pages)) (λ k d below.
    let long : (k < n) × (first + k < length pages) = omega (arith, length-take n (drop first pages), length-drop first pages) in
    rw (get_or-take n (drop first pages) k d long.0, get_or-drop first pages k d, get_or_default pages (first + k) d Free long.1)
    (each (first + k) (omega arith) (omega arith) long.1))

-- ---- the opening pages

pub opening_page : (script : ScriptValue) (p : ℕ) → p < script.pages → page_at (opening script).pages p ≡ Host (opening_words script.fills p)
opening_page script p lt = get_or-map-range_with_len (λ q. Host (opening_words script.fills q)) 0 script.pages p p Free lt (omega arith)

pub opening_length : (script : ScriptValue) → length (opening script).pages ≡ script.pages
opening_length script = length-map-range_with_len (λ q. Host (opening_words script.fills q)) 0 script.pages

pub opening_past : (script : ScriptValue) (p : ℕ) → script.pages ≤ p → page_at (opening script).pages p ≡ Free
opening_past script p le = get_or_past (opening script).pages p Free (omega (arith, opening_length script))

pub opening_size : (fills : List Fill) (p : ℕ) → length (opening_words fills p) ≡ 512
unfolding opening_words
opening_size fills p = length-map-range_with_len (λ i. from_le_bytes w64 (map (opening_byte fills) (range_with_len (4096 * p + 8 * i) 8))) 0 512

pub zeros_size : length zeros ≡ 512
unfolding zeros
zeros_size = length-replicate {A = ℕ} 512 0
