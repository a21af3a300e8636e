use Rattle.std.proofs.Common.{rules, ◌∙◌, [], ◌∷◌, ap, sym}
use Rattle.std.proofs.lemmas.List.{length-map, map-append}
use Rattle.cove_base.specs.declared.scripts.ScriptLine.{ScriptLine}
use Rattle.cove_base.specs.LineLinks.{harts_of}
use Rattle.cove_base.proofs.LineLinkLemmas.{linked_by, when_ok}
use Rattle.cove_base.proofs.script_lines.Lines.push.Goals as goal

pub invariant_of-self-2 : goal.invariant_of-self-2
invariant_of-self-2 c =
    let was = c.self.inside in
    let line = c.args.line in
    let pushed = when_ok c.push-2.result c.push-2.ensures.ok (sym c.is_err.ensures.value ∙ c.if-is_err.false) in
    linked_by (harts_of was.lines) was.links.items was.ends line.hart.0
    (harts_of c.push-2.new.self) c.push.new.self.items c.link.new.links.items
    c.from-hart.result c.len-place.result c.len.result
    c.self.invariant (search rules)
    (ap harts_of pushed ∙ map-append (λ (l : ScriptLine). l.hart.0) was.lines (line ∷ []))
    c.in_ok-push.ensures.items
    c.link.ensures
    c.from-hart.ensures
    (c.len-place.ensures ∙ sym (length-map was.lines (λ (l : ScriptLine). l.hart.0)))
    (c.len.ensures ∙ sym (length-map c.push-2.new.self (λ (l : ScriptLine). l.hart.0)))
