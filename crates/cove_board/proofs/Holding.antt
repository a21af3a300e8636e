-- What two parts that are carried together keep of each other, at each step.
use Rattle.std.proofs.Common.{◌≡◌, ℕ, Bool, true, false, cond, eqb, [], ◌∷◌, ◌++◌, ◌+◌, get_or, length, length-set, take, refl, sym, ◌∙◌, ap, subst, arith}
use Rattle.std.proofs.lemmas.List.{take_all, take_at}
use Rattle.cove_model.specs.Machine.{no_rings, all_words, answered_word, count_word, ScriptValue, Entry, tlb}
use Rattle.cove_board.specs.Parts.{HartPart, MonitorPart, counted_monitor, counted_part, holding_of, loaded_part, stored_monitor, stored_part}
use Rattle.cove_board.specs.Passes.{AreHeld}
use Rattle.cove_board.specs.Ruled.{IsMonitor, IsPart, Lives}
use Rattle.cove_model.proofs.AtTheEnd.{own_same}
use Rattle.cove_model.specs.BoardRule.{IsLive}
use Rattle.cove_model.specs.Fits.{rings_of, walked_rings}

-- parts that are right are held, where no store was made and the hart's is unmarked
pub held_first : (script : ScriptValue) (m : MonitorPart) (p : HartPart) (place word : ℕ) → IsMonitor script m → IsPart script m.history m.now p → m.clean ≡ true → p.mark ≡ false → AreHeld m (loaded_part place word p)
held_first script m p place word monitor right clean unmarked =
    let live : IsLive script m.history m.now (holding_of p) = subst (Lives script m.history m.now (holding_of p)) unmarked right.lives in
    record {
      same_script = right.script_is ∙ sym monitor.script_is;
      size = subst (λ (k : ScriptValue). length m.now ≡ all_words k.pages k.harts) (sym monitor.script_is) monitor.monitored.size;
      mine = right.mine;
      seen = ap (take (length p.seen)) right.seen.1 ∙ take_at p.seen right.seen.0 (length p.seen) refl;
      old = monitor.clean clean ∙ sym (ap (λ b. cond b m.now m.old) clean);
      mark = unmarked ∙ sym (ap (λ b. cond b false p.mark) clean);
      rings =
          subst (λ (k : ScriptValue). p.rings ≡ walked_rings (rings_of (tlb k m.history p.hart)) p.walked) (sym monitor.script_is) live.rings
          ∙ sym (ap (λ b. cond b no_rings (walked_rings (rings_of (tlb m.script m.history p.hart)) p.walked)) unmarked);
    }

pub held_loaded : (m : MonitorPart) (p : HartPart) (place word : ℕ) → AreHeld m p → AreHeld m (loaded_part place word p)
held_loaded m p place word held = record {
  same_script = held.same_script;
  size = held.size;
  mine = held.mine;
  seen = held.seen;
  old = held.old;
  mark = held.mark;
  rings = held.rings;
}

pub held_stored : (m : MonitorPart) (p : HartPart) (place word : ℕ) → AreHeld m p → AreHeld (stored_monitor place word m) (stored_part place p)
held_stored m p place word held = record {
  same_script = held.same_script;
  size = length-set m.now place word ∙ held.size;
  mine = held.mine;
  seen = held.seen;
  old = refl;
  mark = refl;
  rings = emptied (eqb place (answered_word p.script.pages p.hart));
}
  where
    emptied : (answers : Bool) → cond answers no_rings p.rings ≡ cond (cond answers true p.mark) no_rings (walked_rings (rings_of (tlb m.script m.history p.hart)) p.walked)
    emptied true = refl
    emptied false = held.rings

pub held_counted : (m : MonitorPart) (p : HartPart) (entry : Entry) → entry.hart.0 ≡ p.hart → AreHeld m p → AreHeld (counted_monitor entry m) (counted_part entry m p)
held_counted m p entry by held = record {
  same_script = held.same_script;
  size = length-set m.now (count_word m.script.pages m.script.harts) (get_or m.now (count_word m.script.pages m.script.harts) 0 + 1) ∙ held.size;
  mine = ap (λ es. es ++ entry ∷ []) held.mine ∙ sym (own_same m.history entry p.hart by);
  seen = take_all (length (m.history ++ entry ∷ [])) (m.history ++ entry ∷ []) (omega arith);
  old = refl;
  mark = refl;
  rings = refl;
}
