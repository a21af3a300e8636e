-- The records of pages that are measured one after another.
use Rattle.std.proofs.Common.{◌≡◌, ◌∙◌, ℕ, ◌+◌, ◌*◌, List, [], ◌∷◌, ◌++◌, get_or, length, append_assoc, refl, sym, ap, arith}
use Rattle.std.proofs.lemmas.List.FromFn.{length-map-range_with_len, map-range_with_len_more}
use Rattle.cove_base.specs.Measurement.{Extension, PageRecord, Record, registers_of}
use Rattle.cove_host.specs.MeasuredRuns.{ExtendsBy, frames_from}
use Rattle.cove_model.specs.HostCalls.{page_records}

records_more : (a : ℕ) (xs : List (List ℕ)) (x : List ℕ) (b : ℕ) → b ≡ a + 4096 * length xs → page_records a (xs ++ x ∷ []) ≡ page_records a xs ++ PageRecord b x ∷ []
records_more a [] x b e = ap (λ k. PageRecord k x ∷ []) (omega arith)
records_more a (y ∷ xs) x b e = ap (λ rest. PageRecord a y ∷ rest) (records_more (a + 4096) xs x b (omega arith))

frames_more : (first i : ℕ) (frames : List (List ℕ)) → frames_from first (i + 1) frames ≡ frames_from first i frames ++ get_or frames (first + i) [] ∷ []
frames_more first i frames = map-range_with_len_more (λ p. get_or frames p []) first i (first + i) refl

-- one more page is measured
pub extends_next : (g first i : ℕ) (frames old now next : List (List ℕ)) (words : List ℕ) → ExtendsBy g first i frames old now → words ≡ get_or frames (first + i) []
    → ((records : List Record) (extensions : List Extension) → now ≡ registers_of records extensions
    → next ≡ registers_of (records ++ PageRecord (4096 * (g + i)) words ∷ []) extensions)
    → ExtendsBy g first (i + 1) frames old next
extends_next g first i frames old now next words before is step records extensions begun =
    let done = step (records ++ page_records (4096 * g) (frames_from first i frames)) extensions (before records extensions begun) in
    let long = length-map-range_with_len (λ p. get_or frames p []) first i in
    let place : 4096 * (g + i) ≡ 4096 * g + 4096 * length (frames_from first i frames) = omega (arith, long) in
    let more : page_records (4096 * g) (frames_from first (i + 1) frames)
    ≡ page_records (4096 * g) (frames_from first i frames) ++ PageRecord (4096 * (g + i)) words ∷ [] =
    ap (page_records (4096 * g)) (frames_more first i frames)
    ∙ records_more (4096 * g) (frames_from first i frames) (get_or frames (first + i) []) (4096 * (g + i)) place
    ∙ ap (λ ws. page_records (4096 * g) (frames_from first i frames) ++ PageRecord (4096 * (g + i)) ws ∷ []) (sym is) in
    done
    ∙ ap (λ all. registers_of all extensions)
    (append_assoc records (page_records (4096 * g) (frames_from first i frames)) (PageRecord (4096 * (g + i)) words ∷ []) ∙ ap (λ rest. records ++ rest) (sym more))
