-- The last of the passes that were dealt.
use Rattle.std.proofs.Common.{◌≡◌, ℕ, ◌+◌, List, [], ◌∷◌, ◌++◌, Some, IfSome, length, slice_get, refl, ◌∙◌, ap, subst, arith}
use Rattle.std.proofs.lemmas.List.{length_push}
use Rattle.atomic_table.specs.Seated.{TableId}
use Rattle.cove_base.specs.Scripts.{ScriptValue}
use Rattle.cove_board.specs.Parts.{hart_alone, new_part}
use Rattle.cove_board.specs.Passes.{AreDealt, PassValue}

last_there : (front : List PassValue) (pass : PassValue) → slice_get (front ++ pass ∷ []) (length front) ≡ Some pass
last_there [] pass = refl
last_there (x ∷ front) pass = last_there front pass

pub last_dealt : (script : ScriptValue) (table : TableId) (n : ℕ) (passes front : List PassValue) (pass : PassValue) → AreDealt script table n passes → passes ≡ front ++ pass ∷ [] → pass ≡ record { table = table; part = hart_alone (new_part script (length front)) }
last_dealt script table n passes front pass dealt split =
    let long : length passes ≡ length front + 1 = ap length split ∙ length_push front pass in
    let count : length passes ≡ n = dealt.0 in
    let there : slice_get passes (length front) ≡ Some pass = ap (λ ps. slice_get ps (length front)) split ∙ last_there front pass in
    subst (λ o. IfSome o (λ (v : PassValue). v ≡ record { table = table; part = hart_alone (new_part script (length front)) })) there (dealt.1 (length front) (omega arith))
