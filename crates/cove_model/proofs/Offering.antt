-- What a hart outside is offered, by its next line.
use Rattle.std.proofs.Common.{◌≡◌, ℕ, Option, Some, None, refl, sym, ap, subst, ◌∙◌}
use Rattle.cove_model.specs.Machine.{next_line, accessed_page, ScriptValue, Event, Line, ScriptLine, Target, Offer, first_behind, line_offer, offer, outside_offer, sought, target_of, unkicked_offer, unless_behind, State, ended_by, Allows, Takes}
use Rattle.cove_base.specs.declared.scripts.Line.TheVariants as lines
use Rattle.cove_model.proofs.Fitting.{host_at}
use Rattle.cove_model.proofs.Unbuilt.{AreOutside, offer_outside}
use Rattle.cove_model.specs.Aims.{line_aim}

-- the page of a line is what it looks for
pub aim_of_page : (l : Line) (p : ℕ) → accessed_page l ≡ Some p → line_aim l ≡ Some (host_at p)
aim_of_page (lines.Call call) p e = cc
aim_of_page (lines.Load addr) p e = ap as_aim e
  where
    as_aim : Option ℕ → Option Target
    as_aim None = None
    as_aim (Some q) = Some (host_at q)
aim_of_page (lines.Store addr value) p e = ap as_aim e
  where
    as_aim : Option ℕ → Option Target
    as_aim None = None
    as_aim (Some q) = Some (host_at q)

pub aim_of_none : (l : Line) → accessed_page l ≡ None → line_aim l ≡ None
aim_of_none (lines.Call call) e = refl
aim_of_none (lines.Load addr) e = cc
aim_of_none (lines.Store addr value) e = cc

-- a hart outside seeks what it is offered
pub sought_outside : (script : ScriptValue) (S : State) (h : ℕ) → AreOutside S → sought script S h ≡ target_of (offer script S h)
sought_outside script S h all =
    ap (λ o. target_of (unkicked_offer script S h o)) (all.outside h) ∙ ap target_of (sym (offer_outside S h all script))

module _ (script : ScriptValue) (S : State) (h : ℕ) (all : AreOutside S) (l : ScriptLine) (next : next_line script h (ended_by S h) ≡ Some l) where
  abbrev by_behind : Option ℕ → Offer
  by_behind o = unless_behind o (line_offer S h l.line)

  offer_next : offer script S h ≡ by_behind (first_behind script S l.phase)
  offer_next = offer_outside S h all script ∙ ap (outside_offer script S h) next

  -- where no hart is behind, that of its line
  pub offered : first_behind script S l.phase ≡ None → offer script S h ≡ line_offer S h l.line
  offered none = offer_next ∙ ap by_behind none

  pub offered_behind : (k : ℕ) → first_behind script S l.phase ≡ Some k → offer script S h ≡ by_behind (Some k)
  offered_behind k behind = offer_next ∙ ap by_behind behind

  -- an event that it may make answers its line, and no hart is behind
  pub due : (event : Event) → Allows script S h event → (first_behind script S l.phase ≡ None) × Takes S h (line_offer S h l.line) event
  due event allows = go (first_behind script S l.phase) refl (subst (λ o. Takes S h o event) offer_next allows)
    where
      go : (o : Option ℕ) → first_behind script S l.phase ≡ o → Takes S h (by_behind o) event → (first_behind script S l.phase ≡ None) × Takes S h (line_offer S h l.line) event
      go None e takes = (e, takes)
      go (Some k) e takes = absurd takes
