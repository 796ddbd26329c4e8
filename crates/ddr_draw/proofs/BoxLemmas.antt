-- The command at a place of a trace.
use Rattle.std.proofs.Common.{◌≡◌, ℕ, ◌<◌, List, [], length, get_or, take, Option, sym, ap}
use Rattle.std.specs.Option.{option_map_or}
use Rattle.std.proofs.lemmas.Option.{slice_get-get_or}
use Rattle.ddr_timing.specs.declared.config.Config.{Config}
use Rattle.ddr_trace.specs.declared.command.Entry.{Entry}
use Rattle.ddr_draw.specs.declared.view.View.{View}
use Rattle.ddr_draw.specs.Lanes.{command_at, command_of}

pub command_here : (c : Config) (v : View) (entries : List Entry) (place : ℕ) (d : Entry) → place < length entries → command_at c v (take place entries) place (get_or entries place d) ≡ command_of c v entries place
command_here c v entries place d within =
    ap (λ (o : Option Entry). option_map_or (λ e. command_at c v (take place entries) place e) o []) (sym (slice_get-get_or entries place d within))
