use Rattle.std.proofs.Common.{◌≡◌, ◌+◌, length, set, get_or, refl, sym, subst, ap, ◌∙◌, arith}
use Rattle.cove_base.proofs.ScriptLimits.{limits_of}
use Rattle.cove_base.specs.HartPlaces.{IsNextPlace}
use Rattle.cove_base.specs.Places.{count_word}
use Rattle.cove_core.proofs.Entering.{countable, ended_few, fits_after, has_line, kept_by}
use Rattle.cove_hart.specs.HartStates.{hart_value}
use Rattle.cove_hart.specs.declared.states.HartState.{HartState}
use Rattle.cove_model.specs.Fits.{Fits}
use Rattle.cove_core.proofs.steps.enter.Goals as goal

pub count_word-requires-clause-pages : goal.count_word-requires-clause-pages
count_word-requires-clause-pages g c =
    let same = c.requires.performed.board.pages in
    let few = (limits_of c.args.script.now c.requires.limits).few_pages in
    omega arith

pub count_word-requires-clause-harts : goal.count_word-requires-clause-harts
count_word-requires-clause-harts g c =
    let same = c.requires.performed.board.harts in
    let few = (limits_of c.args.script.now c.requires.limits).few_harts in
    omega arith

pub commit-requires-clause-allowed : goal.commit-requires-clause-allowed
commit-requires-clause-allowed g c =
    let script = c.args.script.now in
    let words = g.W.Words.words c.args.w.now in
    let ground = c.args.mon.now.ground in
    let board = c.requires.performed.board in
    let at : c.count_word.result ≡ count_word script.pages script.harts =
    c.count_word.ensures ∙ ap (λ n. count_word n ground.harts) board.pages ∙ ap (λ n. count_word script.pages n) board.harts in
    subst (λ i. g.W.Words.counts (g.W.Words.guard c.args.w.now) words i (record { hart = c.args.hart.now.hart; event = c.args.event })) (sym at)
    (c.requires.counted words (record { hart = c.args.hart.now.hart; event = c.args.event })
    (countable script words c.args.mon.now (hart_value c.args.hart.now) c.args.event c.requires.performed))

pub end_line-requires-clause-left : goal.end_line-requires-clause-left
end_line-requires-clause-left g c =
    has_line c.args.script.now (g.W.Words.words c.args.w.now) c.args.mon.now (hart_value c.args.hart.now) c.args.event c.requires.performed

pub end_line-requires-clause-few : goal.end_line-requires-clause-few
end_line-requires-clause-few g c =
    let few = ended_few c.args.script.now (g.W.Words.words c.args.w.now) c.args.mon.now (hart_value c.args.hart.now) c.args.event c.requires.performed in
    let room = c.requires.room in
    omega arith

pub returns-clause-kept : goal.returns-clause-kept
returns-clause-kept g c =
    let script = c.args.script.now in
    let words = g.W.Words.words c.args.w.now in
    let mon = c.args.mon.now in
    let performed = c.requires.performed in
    let left = c.end_line.new.self in
    let hart : left.hart ≡ c.args.hart.now.hart = ap (λ (h : HartState). h.hart) c.end_line.ensures.ended in
    let ended : left.ended ≡ c.args.hart.now.ended + 1 = ap (λ (h : HartState). h.ended) c.end_line.ensures.ended in
    let at : c.count_word.result ≡ count_word script.pages script.harts =
    c.count_word.ensures ∙ ap (λ n. count_word n mon.ground.harts) performed.board.pages ∙ ap (λ n. count_word script.pages n) performed.board.harts in
    let stores : g.W.Words.words c.commit.new.self ≡ set words (count_word script.pages script.harts) (length mon.history + 1) =
    c.commit.ensures.words ∙ ap (λ i. set words i (get_or words i 0 + 1)) at ∙ ap (λ n. set words (count_word script.pages script.harts) (n + 1)) performed.count in
    kept_by script words mon (hart_value c.args.hart.now) c.args.event performed (g.W.Words.words c.commit.new.self) c.push.new.self c.set_place.new.self left.place
    (subst (λ n. IsNextPlace script c.args.hart.now.hart.0 n left.place) ended (subst (λ n. IsNextPlace script n.0 left.ended left.place) hart c.end_line.ensures.place))
    stores
    c.push.ensures
    (c.set_place.ensures ∙ ap (λ n. set mon.progress n.0 left.place) hart)

pub returns-clause-fits : goal.returns-clause-fits
returns-clause-fits g c =
    let script = c.args.script.now in
    let left = c.end_line.new.self in
    let hart : left.hart ≡ c.args.hart.now.hart = ap (λ (h : HartState). h.hart) c.end_line.ensures.ended in
    let ended : left.ended ≡ c.args.hart.now.ended + 1 = ap (λ (h : HartState). h.ended) c.end_line.ensures.ended in
    subst (λ history. Fits script history (hart_value left)) (sym c.push.ensures)
    (fits_after script (g.W.Words.words c.args.w.now) c.args.mon.now (hart_value c.args.hart.now) c.args.event c.requires.performed (hart_value left)
    (ap (λ n. n.0) hart) ended
    (subst (λ n. IsNextPlace script n.0 left.ended left.place) hart c.end_line.ensures.place)
    (ap (λ (h : HartState). h.walked) c.end_line.ensures.ended)
    refl
    (ap (λ (h : HartState). h.rings) c.end_line.ensures.ended))
