use Rattle.std.proofs.Common.{◌≡◌, ◌+◌, map, take}
use Rattle.ddr_world.specs.Events.{event_of}
use Rattle.ddr_world.specs.Record.{RunsTo}
use Rattle.ddr_world.proofs.world.World.run.Given as goal

abbrev pub invariant-loop-event : goal.invariant-loop-event
invariant-loop-event l = record {
  count : l.report.made + l.report.refused ≡ l.event-index;
  runs : RunsTo l.initial.self l.self (map event_of (take l.event-index l.events)) l.report.made l.report.refused;
}
