-- The command is the last one, its rank has it, and it changes nothing of the other.
use Rattle.std.proofs.Common.{◌≡◌, ◌≢◌, [], ◌∷◌, ◌++◌, refl, sym, subst, arith}
use Rattle.ddr_trace.specs.Commands.{rank_of}
use Rattle.ddr_trace.proofs.WindowLemmas.{last_cycle_below-append}
use Rattle.ddr_rank.proofs.NotedLemmas.{stands_other}
use Rattle.ddr_rank.specs.Stands.{StandsFor}
use Rattle.ddr_legality.proofs.ColumnLemmas.{columns_more, columns_same}
use Rattle.ddr_legality.proofs.RankLemmas.{second_rank}
use Rattle.ddr_legality.proofs.bus_readiness.BusReadiness.issue.Goals as goal

pub returns-in-0-clause-issued : goal.returns-in-0-clause-issued
returns-in-0-clause-issued c = λ history issued after.
    let i = c.args.self.now in
    let e = c.args.entry.now in
    let own : rank_of e.command ≡ 0 = cc in
    let below = issued.first.ordered e.cycle after in
    record {
      last = λ cycle. sym (last_cycle_below-append history e cycle);
      first = subst (λ n. StandsFor c.issue.new.self n (history ++ e ∷ [])) own (c.issue.ensures.stands history (subst (λ n. StandsFor i.first n history) (sym own) issued.first) after);
      second = stands_other i.second 1 history issued.second e.cycle e.command after (rw i.second_config c.requires) (rw own refl);
      first_columns = rw c.note_column.ensures.columns (columns_more 0 history i.first_columns e below (rw own refl) issued.first_columns);
      second_columns = columns_same 1 history i.second_columns e below (rw own refl) issued.second_columns;
      free = c.cycle_behind-self.ensures;
      first_switch = issued.first_switch;
      second_switch = c.note_column.ensures.switch issued.second_switch;
    }

pub returns-in_default-clause-issued : goal.returns-in_default-clause-issued
returns-in_default-clause-issued c = λ history issued after.
    let i = c.args.self.now in
    let e = c.args.entry.now in
    let apart : rank_of e.command ≢ 0 = omega arith in
    let own : rank_of e.command ≡ 1 = second_rank i.config.geometry e.command c.requires apart in
    let below = issued.second.ordered e.cycle after in
    record {
      last = λ cycle. sym (last_cycle_below-append history e cycle);
      first = stands_other i.first 0 history issued.first e.cycle e.command after (rw i.first_config c.requires) (rw own refl);
      second = subst (λ n. StandsFor c.issue-in_default.new.self n (history ++ e ∷ [])) own (c.issue-in_default.ensures.stands history (subst (λ n. StandsFor i.second n history) (sym own) issued.second) after);
      first_columns = columns_same 0 history i.first_columns e below (rw own refl) issued.first_columns;
      second_columns = rw c.note_column-in_default.ensures.columns (columns_more 1 history i.second_columns e below (rw own refl) issued.second_columns);
      free = c.cycle_behind-self.ensures;
      first_switch = c.note_column-in_default.ensures.switch issued.first_switch;
      second_switch = issued.second_switch;
    }
