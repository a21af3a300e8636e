use Rattle.std.proofs.Common.{◌≡◌, Bool, true, false, cond, List, [], ◌∷◌, codes, bytes_eq, Err, refl, sym, ap, ◌∙◌}
use Rattle.cove_base.specs.declared.faults.Kind.TheVariants.{BadHeader}
use Rattle.cove_model.specs.Grammar.{Reading, Word, Content, KeyLine, FillLine, PhaseLine, TurnsLine, EndLine, Unknown, content_of, hart_content, is_hart_word, is_header, judged}
use Rattle.cove_script.specs.Judging.{plain_words}
use Rattle.cove_script.proofs.lines.read_content.Goals as goal

-- behind the test for `board`, no form is the board's
other_form : (first : Word) (words : List Word) (key fill phase turns end hart : Bool)
    → is_header (cond key (KeyLine words) (cond fill (FillLine words) (cond phase (PhaseLine words) (cond turns (TurnsLine words) (cond end (EndLine words) (cond hart (hart_content first words) Unknown)))))) ≡ false
other_form first words true fill phase turns end hart = refl
other_form first words false true phase turns end hart = refl
other_form first words false false true turns end hart = refl
other_form first words false false false true end hart = refl
other_form first words false false false false true hart = refl
other_form first [] false false false false false true = refl
other_form first (word ∷ words) false false false false false true = refl
other_form first words false false false false false false = refl

other_content : (first : Word) (words : List Word) → bytes_eq first (codes "board") ≡ false → is_header (content_of first words) ≡ false
unfolding content_of
other_content first words other =
    rw other (other_form first words (bytes_eq first (codes "key")) (bytes_eq first (codes "fill")) (bytes_eq first (codes "phase")) (bytes_eq first (codes "turns")) (bytes_eq first (codes "end")) (is_hart_word first))

bad_header : (R : Reading) (content : Content) → R.has_board ≡ false → is_header content ≡ false → judged R content ≡ Err BadHeader
unfolding judged
bad_header R content none other = rw (none, other) refl

pub returns-then-not-reading : goal.returns-then-not-reading
returns-then-not-reading c =
    let none : c.args.reading.now.has_board ≡ false = ap (λ (R : Reading). R.has_board) (sym c.reading.view_is) ∙ c.if-not-reading.true in
    let other : bytes_eq c.args.first.now (codes "board") ≡ false = ap (λ (word : Word). bytes_eq c.args.first.now word) (sym c.as_slice.ensures) ∙ sym c.eq.ensures ∙ c.if-eq.false in
    bad_header c.args.reading.now (content_of c.args.first.now (plain_words c.args.words.now)) none (other_content c.args.first.now (plain_words c.args.words.now) other)
