use Rattle.std.proofs.Common.{◌≡◌, ◌∙◌, List, length, ap, arith}
use Rattle.std.proofs.lemmas.List.{length-map}
use Rattle.cove_base.specs.declared.scripts.ScriptLine.{ScriptLine}
use Rattle.cove_base.proofs.LineLinkLemmas.{rest_after, same_hart, past_end, link_of}
use Rattle.cove_base.proofs.script_lines.Lines.following.Goals as goal

pub returns-then-link-gt0 : goal.returns-then-link-gt0
returns-then-link-gt0 c =
    let link = link_of c.self.inside.lines c.args.self.now c.self.inside.links.items c.self.inside.ends c.args.place c.index-link.result.now
    c.self.invariant c.self.view_is c.requires c.index-link.ensures in
    let later = c.if-link-gt0.true in
    record {
      here = same_hart c.args.self.now c.args.place c.index-link.result.now (link.same later);
      rest = rest_after c.args.self.now c.args.place c.index-link.result.now (link.later later) link.first;
      within = omega (arith, link.within later, length-map c.args.self.now (λ (l : ScriptLine). l.hart.0));
    }

pub returns-else-link-gt0 : goal.returns-else-link-gt0
returns-else-link-gt0 c =
    let link = link_of c.self.inside.lines c.args.self.now c.self.inside.links.items c.self.inside.ends c.args.place c.index-link.result.now
    c.self.invariant c.self.view_is c.requires c.index-link.ensures in
    let all = length-map c.args.self.now (λ (l : ScriptLine). l.hart.0) in
    let none : c.index-link.result.now ≡ 0 = omega arith in
    rw (c.len.ensures ∙ ap (λ (lines : List ScriptLine). length lines) c.self.view_is) (record {
      here = past_end c.args.self.now c.args.place;
      rest = rest_after c.args.self.now c.args.place (length c.args.self.now) c.requires (λ i low high. link.none none i low (omega arith));
      within = omega arith;
    })
