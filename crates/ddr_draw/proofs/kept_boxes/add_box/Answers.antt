use Rattle.std.proofs.Common.{◌≡◌, ◌-◌, [], ◌∷◌, ◌++◌, drop, length, length-drop, arith, rules, sym, ap, ◌∙◌}
use Rattle.std.proofs.lemmas.List.{take_all}
use Rattle.ddr_draw.specs.declared.kept_boxes.CommandBox.{CommandBox}
use Rattle.ddr_draw.specs.declared.held.TheConstants.{MOST_BACK}
use Rattle.ddr_draw.specs.Sketch.{held_among}
use Rattle.ddr_draw.proofs.KeptLemmas.{box_kept, box_more, box_none}
use Rattle.ddr_draw.proofs.kept_boxes.add_box.Goals as goal

pub returns-then-not-has_box-clause-shown : goal.returns-then-not-has_box-clause-shown
returns-then-not-has_box-clause-shown c = λ v entries within are at.
    box_none c.args.config.now v c.args.view.now c.args.boxes.now.items entries c.args.place c.args.entry.now within (sym c.has_box.ensures ∙ c.if-not-has_box.true)

pub returns-clause-shown : goal.returns-clause-shown
returns-clause-shown c = λ v entries within are at.
    let recent = c.args.recent.now in
    let first : c.saturating_sub-first.result ≡ c.args.place - MOST_BACK = search rules in
    let back : c.saturating_sub-back.result ≡ length recent - MOST_BACK = search rules in
    let held : c.held_among-held.result ≡ held_among c.args.config.now (c.args.place - MOST_BACK) (drop (length recent - MOST_BACK) recent) c.args.entry.now =
    c.held_among-held.ensures
    ∙ ap (λ part. held_among c.args.config.now c.saturating_sub-first.result part c.args.entry.now)
    (take_all (length recent - c.saturating_sub-back.result) (drop c.saturating_sub-back.result recent) (omega (arith, length-drop c.saturating_sub-back.result recent)))
    ∙ ap (λ n. held_among c.args.config.now n (drop c.saturating_sub-back.result recent) c.args.entry.now) first
    ∙ ap (λ n. held_among c.args.config.now (c.args.place - MOST_BACK) (drop n recent) c.args.entry.now) back in
    let grown : c.push.new.self.items ≡ c.args.boxes.now.items ++ record { place = c.args.place; entry = c.args.entry.now; held = c.held_among-held.result } ∷ [] = search rules in
    rw (grown, held, at) (box_kept c.args.config.now v c.args.boxes.now.items recent entries c.args.entry.now are)

pub returns-clause-kept : goal.returns-clause-kept
returns-clause-kept c = λ all.
    let shown : CommandBox = record { place = c.args.place; entry = c.args.entry.now; held = c.held_among-held.result } in
    let grown : c.push.new.self.items ≡ c.args.boxes.now.items ++ shown ∷ [] = search rules in
    rw grown (box_more c.args.config.now c.args.view.now c.args.boxes.now.items shown all (sym c.has_box.ensures ∙ c.if-not-has_box.false))
