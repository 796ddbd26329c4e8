-- A new port.
use Rattle.std.proofs.Common.{false, sym, ap, subst}
use Rattle.ddr_reorder.specs.Sound.{IsSound}
use Rattle.ddr_ports.specs.State as core
use Rattle.ddr_workers.specs.Counted.{IsCounted}
use Rattle.ddr_workers.specs.PortView.{IsWhole}
use Rattle.ddr_workers.proofs.EndedLemmas.{new_whole, new_counted}
use Rattle.ddr_workers.proofs.port.Port.new.Goals as goal

pub invariant_of-result : goal.invariant_of-result
invariant_of-result c =
    let config = c.args.config.now in
    let sides = c.args.requests.items in
    let sound = subst (λ (k : core.PortState). IsSound k.reorder) c.requires.core c.requires.sound in
    record {
      whole = subst (λ (k : core.PortState). IsWhole (record { id = c.args.id; core = k; taken = 0; requests = sides; completions = c.args.completions; ended = 0; broken = false })) (sym c.requires.core)
          (new_whole config c.args.id c.args.number sides c.args.completions sound c.requires.channels c.requires.sides c.requires.got);
      number = ap (λ (k : core.PortState). k.port) (sym c.requires.core);
      counted = subst (λ (k : core.PortState). IsCounted (record { id = c.args.id; core = k; taken = 0; requests = sides; completions = c.args.completions; ended = 0; broken = false })) (sym c.requires.core)
          (new_counted config c.args.id c.args.number sides c.args.completions c.requires.sides c.requires.got);
    }
