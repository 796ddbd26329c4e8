use Rattle.std.proofs.Common.{rules, ◌≡◌, ◌∙◌, [], length, sym}
use Rattle.std.proofs.lemmas.List.{length-map, length-replicate}
use Rattle.ddr_workers.specs.Joined.{IsIntakeJoined, IsWindowJoined}
use Rattle.ddr_workers.specs.Lanes.{lists}
use Rattle.ddr_workers.specs.Sides.{AreSides}
use Rattle.ddr_workers.proofs.ClosedLemmas.{all_joined, counts_alike, dones_of, intake_of, intake_sides, left_of, none_remains, puts_of, window_of, window_sides}
use Rattle.ddr_workers.proofs.ColumnLemmas.{as_many_queues, at_queue, of_queues, parts_of}
use Rattle.ddr_workers.proofs.closing.join_all.Goals as goal

pub gather_workers-worker_sides-requires-clause-each : goal.gather_workers-worker_sides-requires-clause-each
gather_workers-worker_sides-requires-clause-each g c = λ k w there.
    rw c.requires.room.worker_sides (c.requires.ready.ports_are k w there ∙ sym (length-replicate (length c.args.ports.items) []))

pub join_requests-requires-clause-count : goal.join_requests-requires-clause-count
join_requests-requires-clause-count g c =
    let ports = c.args.ports.items in
    let workers = c.args.workers.items in
    let p = parts_of puts_of window_of c.args.room.ports c.gather_ports-port_sides.result.0 ports (length ports) (length workers) (lists c.into_sides-request_puts.result.0.items) c.into_sides-request_puts.result.1.items
    c.into_sides-request_puts.ensures.puts c.into_sides-request_puts.ensures.takes c.gather_ports-port_sides.ensures.sides c.requires.room.port_sides in
    let w = parts_of dones_of intake_of c.args.room.workers c.gather_workers-worker_sides.result.0 workers (length workers) (length ports) (lists c.into_sides-completion_puts.result.0.items) c.into_sides-completion_puts.result.1.items
    c.into_sides-completion_puts.ensures.puts c.into_sides-completion_puts.ensures.takes c.gather_workers-worker_sides.ensures.sides c.requires.room.worker_sides in
    sym (length-map c.into_sides-request_puts.result.0.items (λ row. row.items)) ∙ as_many_queues puts_of window_of intake_of ports workers (lists c.into_sides-request_puts.result.0.items) c.into_sides-completion_puts.result.1.items p.0 w.1 c.requires.ready.channels

pub join_requests-requires-clause-sides : goal.join_requests-requires-clause-sides
join_requests-requires-clause-sides g c =
    let ports = c.args.ports.items in
    let workers = c.args.workers.items in
    let p = parts_of puts_of window_of c.args.room.ports c.gather_ports-port_sides.result.0 ports (length ports) (length workers) (lists c.into_sides-request_puts.result.0.items) c.into_sides-request_puts.result.1.items
    c.into_sides-request_puts.ensures.puts c.into_sides-request_puts.ensures.takes c.gather_ports-port_sides.ensures.sides c.requires.room.port_sides in
    let w = parts_of dones_of intake_of c.args.room.workers c.gather_workers-worker_sides.result.0 workers (length workers) (length ports) (lists c.into_sides-completion_puts.result.0.items) c.into_sides-completion_puts.result.1.items
    c.into_sides-completion_puts.ensures.puts c.into_sides-completion_puts.ensures.takes c.gather_workers-worker_sides.ensures.sides c.requires.room.worker_sides in
    of_queues puts_of window_of intake_of ports workers (lists c.into_sides-request_puts.result.0.items) c.into_sides-completion_puts.result.1.items p.0 w.1 c.requires.ready.channels AreSides
    (λ q d row there is. intake_sides ports workers c.requires.ready c.gather_ports-port_sides.ensures.ended c.gather_workers-worker_sides.ensures.ended q d row there is)

pub join_completions-requires-clause-count : goal.join_completions-requires-clause-count
join_completions-requires-clause-count g c =
    let ports = c.args.ports.items in
    let workers = c.args.workers.items in
    let p = parts_of puts_of window_of c.args.room.ports c.gather_ports-port_sides.result.0 ports (length ports) (length workers) (lists c.into_sides-request_puts.result.0.items) c.into_sides-request_puts.result.1.items
    c.into_sides-request_puts.ensures.puts c.into_sides-request_puts.ensures.takes c.gather_ports-port_sides.ensures.sides c.requires.room.port_sides in
    let w = parts_of dones_of intake_of c.args.room.workers c.gather_workers-worker_sides.result.0 workers (length workers) (length ports) (lists c.into_sides-completion_puts.result.0.items) c.into_sides-completion_puts.result.1.items
    c.into_sides-completion_puts.ensures.puts c.into_sides-completion_puts.ensures.takes c.gather_workers-worker_sides.ensures.sides c.requires.room.worker_sides in
    sym (length-map c.into_sides-completion_puts.result.0.items (λ row. row.items)) ∙ as_many_queues dones_of intake_of window_of workers ports (lists c.into_sides-completion_puts.result.0.items) c.into_sides-request_puts.result.1.items w.0 p.1 c.requires.ready.ports_are

pub join_completions-requires-clause-sides : goal.join_completions-requires-clause-sides
join_completions-requires-clause-sides g c =
    let ports = c.args.ports.items in
    let workers = c.args.workers.items in
    let p = parts_of puts_of window_of c.args.room.ports c.gather_ports-port_sides.result.0 ports (length ports) (length workers) (lists c.into_sides-request_puts.result.0.items) c.into_sides-request_puts.result.1.items
    c.into_sides-request_puts.ensures.puts c.into_sides-request_puts.ensures.takes c.gather_ports-port_sides.ensures.sides c.requires.room.port_sides in
    let w = parts_of dones_of intake_of c.args.room.workers c.gather_workers-worker_sides.result.0 workers (length workers) (length ports) (lists c.into_sides-completion_puts.result.0.items) c.into_sides-completion_puts.result.1.items
    c.into_sides-completion_puts.ensures.puts c.into_sides-completion_puts.ensures.takes c.gather_workers-worker_sides.ensures.sides c.requires.room.worker_sides in
    of_queues dones_of intake_of window_of workers ports (lists c.into_sides-completion_puts.result.0.items) c.into_sides-request_puts.result.1.items w.0 p.1 c.requires.ready.ports_are AreSides
    (λ q d row there is. window_sides ports workers c.requires.ready c.gather_ports-port_sides.ensures.ended c.gather_workers-worker_sides.ensures.ended q d row there is)

pub returns : goal.returns
returns g c =
    let ports = c.args.ports.items in
    let workers = c.args.workers.items in
    let p = parts_of puts_of window_of c.args.room.ports c.gather_ports-port_sides.result.0 ports (length ports) (length workers) (lists c.into_sides-request_puts.result.0.items) c.into_sides-request_puts.result.1.items
    c.into_sides-request_puts.ensures.puts c.into_sides-request_puts.ensures.takes c.gather_ports-port_sides.ensures.sides c.requires.room.port_sides in
    let w = parts_of dones_of intake_of c.args.room.workers c.gather_workers-worker_sides.result.0 workers (length workers) (length ports) (lists c.into_sides-completion_puts.result.0.items) c.into_sides-completion_puts.result.1.items
    c.into_sides-completion_puts.ensures.puts c.into_sides-completion_puts.ensures.takes c.gather_workers-worker_sides.ensures.sides c.requires.room.worker_sides in
    let ended = c.gather_ports-port_sides.ensures.ended in
    let worker_ended = c.gather_workers-worker_sides.ensures.ended in
    let intakes = at_queue puts_of window_of intake_of ports workers (lists c.into_sides-request_puts.result.0.items) c.into_sides-completion_puts.result.1.items p.0 w.1 c.requires.ready.channels IsIntakeJoined c.join_requests.ensures in
    let windows = at_queue dones_of intake_of window_of workers ports (lists c.into_sides-completion_puts.result.0.items) c.into_sides-request_puts.result.1.items w.0 p.1 c.requires.ready.ports_are IsWindowJoined c.join_completions.ensures in
    let left = left_of ports workers c.requires.ready ended worker_ended intakes windows in
    let joined = all_joined ports workers c.requires.ready ended worker_ended intakes windows in
    let emptied = none_remains ports workers left joined (λ p e there. c.headline.ensures.empty ports workers left joined p e there) in
    let copies : c.copied.result.items ≡ c.gather_ports-port_sides.result.1.items = search rules in
    record {
      joined = emptied;
      got = λ p e there. c.headline.ensures.replies ports workers (λ p. []) emptied p e there;
      work = λ k w there. (worker_ended k w there).work;
      accepted = copies ∙ c.gather_ports-port_sides.ensures.counts ∙ sym (counts_alike ports workers emptied);
      taken = c.gather_ports-port_sides.ensures.counts;
      same = copies;
      traces = c.gather_workers-worker_sides.ensures.traces;
      kept = λ k w there. (worker_ended k w there).kept;
      faults = c.gather_workers-worker_sides.ensures.faults;
      judged = λ k w there. (worker_ended k w there).judged;
    }
