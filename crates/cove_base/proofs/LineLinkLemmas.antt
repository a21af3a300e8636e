-- The links of a script's lines, as a line is appended, and what a link says of the lines that it passes over.
use Rattle.std.proofs.Common.{option_map, Result, Ok, Err, OnOk, is_err, ◌≡◌, ◌≢◌, ℕ, zero, suc, ◌+◌, ◌<◌, ◌≤◌, ◌⊎◌, inl, inr, false, List, [], ◌∷◌, ◌++◌, Some, IfSome, length, drop, filter, slice_get, get_or, set, replicate, refl, sym, ◌∙◌, ap, subst, arith}
use Rattle.std.proofs.lemmas.Bool.{cases_eq, ne_eqb}
use Rattle.std.proofs.lemmas.Grind.{get_or_default_zero, get_or-set_at}
use Rattle.std.proofs.lemmas.List.{drop_all, get_or_append_left, get_or_past, get_or_push, length_push, get_or-replicate, get_or-set_other, length-map, length-set}
use Rattle.std.proofs.lemmas.Option.{get_or_from_slice_get, slice_get-map, slice_get_past}
use Rattle.cove_base.specs.declared.scripts.ScriptLine.{ScriptLine}
use Rattle.cove_base.specs.HartPlaces.{is_line_of}
use Rattle.cove_base.proofs.ScriptLimits.{if_some}
use Rattle.cove_base.specs.LineLinks.{harts_of, IsLineLink, IsEnd, IsLinked, linked}

-- a 0 appended to a list of numbers reads as no number does
append-zero : (xs : List ℕ) (i : ℕ) → get_or (xs ++ 0 ∷ []) i 0 ≡ get_or xs i 0
append-zero [] zero = refl
append-zero [] (suc i) = refl
append-zero (x ∷ xs) zero = refl
append-zero (x ∷ xs) (suc i) = append-zero xs i

linked-other : (links : List ℕ) (end place i : ℕ) → i + 1 ≢ end → get_or (linked links end place) i 0 ≡ get_or links i 0
linked-other links zero place i other = refl
linked-other links (suc before) place i other = get_or-set_other links before i place 0 (omega arith)

linked-own : (links : List ℕ) (end place i : ℕ) → i + 1 ≡ end → i < length links → get_or (linked links end place) i 0 ≡ place
linked-own links zero place i own within = absurd (omega arith)
linked-own links (suc before) place i own within = get_or-set_at links before i place 0 (omega arith) (omega arith)

linked-length : (links : List ℕ) (end place : ℕ) → length (linked links end place) ≡ length links
linked-length links zero place = refl
linked-length links (suc before) place = length-set links before place

module _ (harts : List ℕ) (hart : ℕ) where
  before : (i : ℕ) → i < length harts → get_or (harts ++ hart ∷ []) i 0 ≡ get_or harts i 0
  before i within = get_or_append_left harts (hart ∷ []) 0 i within

  at_end : (i : ℕ) → i ≡ length harts → get_or (harts ++ hart ∷ []) i 0 ≡ hart
  at_end i is = get_or_push harts hart 0 i (sym is)

  longer : length (harts ++ hart ∷ []) ≡ length harts + 1
  longer = length_push harts hart

  -- the line before the end is the only one of its hart that no line of that hart follows
  followed : (end place : ℕ) → IsEnd harts hart end → place < length harts → place + 1 ≢ end
      → get_or harts place 0 ≡ hart
      → ((i : ℕ) → place < i → i < length harts → get_or harts i 0 ≢ get_or harts place 0) → ⊥
  followed zero place own within other is none = own.last place (omega arith) within is
  followed (suc b) place own within other is none =
      let earlier = λ (low : place < b).
      let high : b < length harts = omega (arith, own.within) in
      none b low high (own.own b (omega arith) ∙ sym is) in
      let low : (place < b → ⊥) = earlier in
      let past : suc b ≤ place = omega (arith, low) in
      own.last place past within is

  link_before : (end place link : ℕ) → IsEnd harts hart end → place < length harts → place + 1 ≢ end
      → IsLineLink harts place link → IsLineLink (harts ++ hart ∷ []) place link
  link_before end place link own within other was = record {
    later = was.later;
    within = λ p. omega (arith, longer, was.within p);
    same = λ p. before link (was.within p) ∙ was.same p ∙ sym (before place within);
    first = λ i low high e.
        let inside : i < length harts = omega (arith, was.within (omega arith)) in
        was.first i low high (sym (before i inside) ∙ e ∙ before place within);
    none = λ z i low high e.
        elim (cases_eq i (length harts)) [
          | inl is ↦ followed end place own within other (sym (before place within) ∙ sym e ∙ at_end i is) (was.none z)
          | inr apart ↦
              let inside : i < length harts = omega (arith, longer) in
              was.none z i low inside (sym (before i inside) ∙ e ∙ before place within)
        ];
  }

  link_own : (end place link : ℕ) → IsEnd harts hart end → place + 1 ≡ end → link ≡ length harts → IsLineLink (harts ++ hart ∷ []) place link
  link_own end place link own is here =
      let within : place < length harts = omega (arith, own.within) in
      let mine = before place within ∙ own.own place (sym is) in
      record {
        later = λ _. omega arith;
        within = λ _. omega (arith, longer);
        same = λ _. at_end link here ∙ sym mine;
        first = λ i low high e. own.last i (omega arith) (omega arith) (sym (before i (omega arith)) ∙ e ∙ mine);
        none = λ z i low high e. absurd (omega arith);
      }

  link_last : (place link : ℕ) → place ≡ length harts → link ≡ 0 → IsLineLink (harts ++ hart ∷ []) place link
  link_last place link here none = record {
    later = λ p. absurd (omega arith);
    within = λ p. absurd (omega arith);
    same = λ p. absurd (omega arith);
    first = λ i low high e. absurd (omega arith);
    none = λ z i low high e. absurd (omega (arith, longer));
  }

  end_own : (own end : ℕ) → own ≡ hart → end ≡ length harts + 1 → IsEnd (harts ++ hart ∷ []) own end
  end_own own end is here = record {
    within = omega (arith, longer);
    own = λ i last. at_end i (omega arith) ∙ sym is;
    last = λ i low high e. absurd (omega (arith, longer));
  }

  end_other : (other end : ℕ) → other ≢ hart → IsEnd harts other end → IsEnd (harts ++ hart ∷ []) other end
  end_other other end apart was = record {
    within = omega (arith, longer, was.within);
    own = λ i is. before i (omega (arith, was.within)) ∙ was.own i is;
    last = λ i low high e.
        elim (cases_eq i (length harts)) [
          | inl is ↦ apart (sym e ∙ at_end i is)
          | inr ne ↦
              let inside : i < length harts = omega (arith, longer) in
              was.last i low inside (sym (before i inside) ∙ e)
        ];
  }

-- a line appended is linked to by the last line of its hart, and ends that hart's lines
pub linked_push : (harts links ends : List ℕ) (hart : ℕ) → IsLinked harts links ends → hart < 256
    → IsLinked (harts ++ hart ∷ []) (linked (links ++ 0 ∷ []) (get_or ends hart 0) (length harts)) (set ends hart (length harts + 1))
linked_push harts links ends hart was small = record {
  lengths =
      linked-length (links ++ 0 ∷ []) (get_or ends hart 0) (length harts)
      ∙ longer links 0
      ∙ ap (λ n. n + 1) was.lengths
      ∙ sym (longer harts hart);
  all = length-set ends hart (length harts + 1) ∙ was.all;
  each = λ place within. link place within (cases_eq place (length harts)) (cases_eq (place + 1) (get_or ends hart 0));
  kept = λ other within. end other within (cases_eq other hart);
}
  where
    own : IsEnd harts hart (get_or ends hart 0)
    own = was.kept hart small

    link : (place : ℕ) → place < length (harts ++ hart ∷ [])
        → (place ≡ length harts) ⊎ (place ≡ length harts → ⊥)
        → (place + 1 ≡ get_or ends hart 0) ⊎ (place + 1 ≡ get_or ends hart 0 → ⊥)
        → IsLineLink (harts ++ hart ∷ []) place (get_or (linked (links ++ 0 ∷ []) (get_or ends hart 0) (length harts)) place 0)
    link place within (inl is) (inl mine) = absurd (omega (arith, own.within))
    link place within (inl is) (inr other) =
        link_last harts hart place _ is
        (linked-other (links ++ 0 ∷ []) (get_or ends hart 0) (length harts) place other
        ∙ append-zero links place ∙ get_or_past links place 0 (omega (arith, was.lengths)))
    link place within (inr not_last) (inl mine) =
        link_own harts hart (get_or ends hart 0) place _ own mine
        (linked-own (links ++ 0 ∷ []) (get_or ends hart 0) (length harts) place mine (omega (arith, longer links 0, longer harts hart, was.lengths)))
    link place within (inr not_last) (inr other) =
        let inside : place < length harts = omega (arith, longer harts hart) in
        rw (linked-other (links ++ 0 ∷ []) (get_or ends hart 0) (length harts) place other, append-zero links place)
        (link_before harts hart (get_or ends hart 0) place (get_or links place 0) own inside other (was.each place inside))

    end : (other : ℕ) → other < 256 → (other ≡ hart) ⊎ (other ≡ hart → ⊥)
        → IsEnd (harts ++ hart ∷ []) other (get_or (set ends hart (length harts + 1)) other 0)
    end other within (inl is) =
        end_own harts hart other _ is (get_or-set_at ends hart other (length harts + 1) 0 is (omega (arith, was.all)))
    end other within (inr apart) =
        rw (get_or-set_other ends hart other (length harts + 1) 0 apart) (end_other harts hart other (get_or ends other 0) apart (was.kept other within))

-- the same, at the lists and numbers that equal these
pub linked_by : (harts links ends : List ℕ) (hart : ℕ) (harts' links' linked_links : List ℕ) (at place len : ℕ)
    → IsLinked harts links ends → hart < 256
    → harts' ≡ harts ++ hart ∷ [] → links' ≡ links ++ 0 ∷ [] → linked_links ≡ linked links' (get_or ends at 0) place
    → at ≡ hart → place ≡ length harts → len ≡ length harts'
    → IsLinked harts' linked_links (set ends at len)
linked_by harts links ends hart harts' links' linked_links at place len was small harts_is links_is linked_is at_is place_is len_is =
    rw (linked_is, links_is, len_is, at_is, place_is, harts_is, longer harts hart) (linked_push harts links ends hart was small)

end_none : (hart : ℕ) → IsEnd [] hart 0
end_none hart = record {
  within = omega arith;
  own = λ i is. absurd (omega arith);
  last = λ i low high e. absurd (omega arith);
}

-- no lines are linked, and no hart has a last one
pub linked_none : IsLinked [] [] (replicate 256 0)
linked_none = record {
  lengths = refl;
  all = refl;
  each = λ place within. absurd (omega arith);
  kept = λ hart small. subst (λ e. IsEnd [] hart e) (sym (get_or-replicate 256 hart 0 0 small)) (end_none hart);
}

-- passing over lines of other harts leaves the hart's lines
pass_over : (hart : ℕ) (lines : List ScriptLine) (from to : ℕ) → from ≤ to
    → ((i : ℕ) → from ≤ i → i < to → get_or (harts_of lines) i 0 ≢ hart)
    → filter (is_line_of hart) (drop to lines) ≡ filter (is_line_of hart) (drop from lines)
pass_over hart [] from to order others = rw (drop_all {X = ScriptLine} from [] (omega arith), drop_all {X = ScriptLine} to [] (omega arith)) refl
pass_over hart (line ∷ lines) zero zero order others = refl
pass_over hart (line ∷ lines) (suc from) zero order others = absurd (omega arith)
pass_over hart (line ∷ lines) zero (suc to) order others =
    let other = ne_eqb line.hart.0 hart (others zero (omega arith) (omega arith)) in
    pass_over hart lines zero to (omega arith) (λ i low high. others (suc i) (omega arith) (omega arith)) ∙ sym (rw other refl)
pass_over hart (line ∷ lines) (suc from) (suc to) order others =
    pass_over hart lines from to (omega arith) (λ i low high. others (suc i) (omega arith) (omega arith))

hart_at : (lines : List ScriptLine) (place : ℕ) (line : ScriptLine) → slice_get lines place ≡ Some line
    → get_or (harts_of lines) place 0 ≡ line.hart.0
hart_at lines place line is =
    let hart = λ (l : ScriptLine). l.hart.0 in
    get_or_from_slice_get (harts_of lines) place line.hart.0 0 (slice_get-map hart lines place ∙ ap (option_map hart) is)

-- the link that is read at a place with a line
pub link_of : (inside lines : List ScriptLine) (links ends : List ℕ) (place link : ℕ)
    → IsLinked (harts_of inside) links ends → inside ≡ lines → place < length lines → link ≡ get_or links place link
    → IsLineLink (harts_of lines) place link
link_of inside lines links ends place link holds is within read =
    let same : IsLinked (harts_of lines) links ends = subst (λ l. IsLinked (harts_of l) links ends) is holds in
    let all = length-map lines (λ (l : ScriptLine). l.hart.0) in
    let line : place < length (harts_of lines) = omega arith in
    let slot : place < length links = omega (arith, same.lengths) in
    subst (λ l. IsLineLink (harts_of lines) place l) (sym (read ∙ get_or_default_zero links place link slot)) (same.each place line)

-- where no line between two places is of the hart of the first, the same lines of that hart are left after both
pub rest_after : (lines : List ScriptLine) (place to : ℕ) → place < to
    → ((i : ℕ) → place < i → i < to → get_or (harts_of lines) i 0 ≢ get_or (harts_of lines) place 0)
    → IfSome (slice_get lines place) (λ own.
    filter (is_line_of own.hart.0) (drop to lines) ≡ filter (is_line_of own.hart.0) (drop (place + 1) lines))
rest_after lines place to order others =
    if_some (slice_get lines place) _ (λ own is.
    pass_over own.hart.0 lines (place + 1) to (omega arith) (λ i low high e.
    others i (omega arith) high (e ∙ sym (hart_at lines place own is))))

-- lines of one hart
pub same_hart : (lines : List ScriptLine) (place to : ℕ) → get_or (harts_of lines) to 0 ≡ get_or (harts_of lines) place 0
    → IfSome (slice_get lines place) (λ own. IfSome (slice_get lines to) (λ line. line.hart.0 ≡ own.hart.0))
same_hart lines place to same =
    if_some (slice_get lines place) _ (λ own is.
    if_some (slice_get lines to) _ (λ line there.
    sym (hart_at lines to line there) ∙ same ∙ hart_at lines place own is))

-- no line stands at the end
pub past_end : (lines : List ScriptLine) (place : ℕ)
    → IfSome (slice_get lines place) (λ own. IfSome (slice_get lines (length lines)) (λ line. line.hart.0 ≡ own.hart.0))
past_end lines place =
    if_some (slice_get lines place) _ (λ own _.
    subst (λ o. IfSome o (λ line. line.hart.0 ≡ own.hart.0)) (sym (slice_get_past lines (length lines) (omega arith))) tt)

pub when_ok : {T E P : Type 0} (r : Result T E) → OnOk r P → is_err r ≡ false → P
when_ok (Ok x) holds ok = holds
when_ok (Err x) holds ok = cc
