use Rattle.std.proofs.Common.{◌≡◌, ◌<◌, length, get_or, map, take, string_bytes, sym, ap, ◌∙◌, arith}
use Rattle.std.specs.Map.{keys_of}
use Rattle.std.proofs.lemmas.Iterator.Consumers.{YieldsList-turn, YieldsList-end, YieldsList-from_rest}
use Rattle.std.proofs.lemmas.List.{get_or-map, length_push, take_all, length-map}
use Rattle.toml.specs.View.{table_view}
use Rattle.ddr_findings.specs.Faults.{name_fault, names_of}
use Rattle.ddr_findings.proofs.Found.{found_more, names_of-entries}
use Rattle.ddr_findings.proofs.faults.add_name_faults.Goals as goal

pub loop-name-preserved : goal.loop-name-preserved
loop-name-preserved c =
    let keys = keys_of c.args.table.now.entries in
    let names = names_of (table_view c.args.table.now) in
    let all : names ≡ map string_bytes keys = names_of-entries c.args.table.now.entries in
    let turn = YieldsList-turn (YieldsList-from_rest {s = c.into_iter-name-iterator.result} keys cc) c.loop-name.yielded _ c.loop-name.yielded_by _ _ c.in-Some.name c.in-Some.is c.next.ensures.steps in
    let i = length c.loop-name.yielded in
    let name = string_bytes c.in-Some.name.now in
    let within : i < length names = rw (all, length-map) turn.0 in
    let here : name ≡ get_or names i name = ap string_bytes turn.1 ∙ sym (get_or-map string_bytes keys i c.in-Some.name.now name turn.0) ∙ ap (λ n. get_or n i name) (sym all) in
    record {
      can_next = tt;
      is_finite = tt;
      so_far =
          rw (length_push c.loop-name.yielded c.in-Some.name)
          (found_more (name_fault (table_view c.args.table.now)) names i name _ _ _ _ within here (rw c.as_str.ensures.value at c.in_ok-found.ensures) c.loop-name.invariant.so_far c.in_ok-add.ensures);
    }

pub returns : goal.returns
returns c =
    let keys = keys_of c.args.table.now.entries in
    let names = names_of (table_view c.args.table.now) in
    let all : names ≡ map string_bytes keys = names_of-entries c.args.table.now.entries in
    let end = YieldsList-end (YieldsList-from_rest {s = c.into_iter-name-iterator.result} keys cc) c.loop-name.yielded _ c.loop-name.yielded_by _ _ c.in-None.is c.next.ensures.steps in
    let whole : take (length c.loop-name.yielded) names ≡ names = take_all _ _ (rw (all, length-map) (omega (arith, end.1))) in
    rw whole at c.loop-name.invariant.so_far
