-- Each command that was issued was noted, and with it how the request that it serves found its bank; one of the channel that is asked for was
-- told.
use Rattle.std.proofs.Common.{◌≡◌, Option, Some, None, append-nil, ap, refl, sym, subst, ◌∙◌}
use Rattle.std.specs.List.{fold}
use Rattle.ddr_rounds.specs.Telling.{channels_told}
use Rattle.ddr_trace.specs.declared.command.Entry.{Entry}
use Rattle.ddr_world.specs.Kept.{state_of}
use Rattle.ddr_replay.specs.declared.books.Books.{Books}
use Rattle.ddr_replay.specs.declared.replaying.Replaying.TheInside.{Inside}
use Rattle.ddr_replay.specs.Books.{all_found, heard}
use Rattle.ddr_replay.specs.Told.{channel_of, wanted_of}
use Rattle.ddr_replay.specs.View.{IsWhole, Replay, Tells, replay_of}
use Rattle.ddr_replay.proofs.BooksLemmas.{entries_of, heard_served, newest_list, newest_told, served_found}
use Rattle.ddr_replay.proofs.ToldLemmas.{tells_newest}
use Rattle.ddr_replay.proofs.WholeLemmas.{whole_served}
use Rattle.ddr_replay.proofs.replaying.Replaying.serve_channels.Goals as goal

-- before the round no command waits to be told
abbrev none_newest : Inside → Books
none_newest a = record a.books { newest = None }

-- the newest command is what was told of the channel that is asked for
newest_is : (a : Inside) (books : Books) (o : Option Entry) → IsWhole a → books ≡ fold heard (none_newest a) (channels_told a.config.geometry.channels (state_of a.world)) → books.newest ≡ o
    → newest_list o ≡ entries_of (channel_of (wanted_of a.teller.tale)) (channels_told a.config.geometry.channels (state_of a.world))
newest_is a books o k told is =
    ap newest_list (sym is) ∙ ap (λ (b : Books). newest_list b.newest) told
    ∙ newest_told a.config.geometry.channels (state_of a.world) (none_newest a) (channel_of (wanted_of a.teller.tale)) k.watched refl

served_is : (a : Inside) (books : Books) → books ≡ fold heard (none_newest a) (channels_told a.config.geometry.channels (state_of a.world)) → books.ledger.served ≡ a.books.ledger.served
served_is a books told = ap (λ (b : Books). b.ledger.served) told ∙ heard_served (channels_told a.config.geometry.channels (state_of a.world)) (none_newest a)

pub invariant_of-self : goal.invariant_of-self
invariant_of-self c =
    let a = c.self.inside in
    let serve = c.serve_channels.ensures in
    whole_served a c.serve_channels.new.world (none_newest a) c.serve_channels.new.watcher a.teller c.self.invariant refl refl refl serve.config serve.keeps serve.outstanding serve.heard refl

pub invariant_of-self-in-Err : goal.invariant_of-self-in-Err
invariant_of-self-in-Err c =
    let a = c.self.inside in
    let serve = c.serve_channels.ensures in
    whole_served a c.serve_channels.new.world (none_newest a) c.serve_channels.new.watcher a.teller c.self.invariant refl refl refl serve.config serve.keeps serve.outstanding serve.heard refl

pub invariant_of-self-in-Continue-1 : goal.invariant_of-self-in-Continue-1
invariant_of-self-in-Continue-1 c =
    let a = c.self.inside in
    let serve = c.serve_channels.ensures in
    whole_served a c.serve_channels.new.world (none_newest a) c.serve_channels.new.watcher c.command.new.self c.self.invariant refl refl refl serve.config serve.keeps serve.outstanding serve.heard c.command.ensures.tale

pub invariant_of-self-in_err-command : goal.invariant_of-self-in_err-command
invariant_of-self-in_err-command c =
    let a = c.self.inside in
    let serve = c.serve_channels.ensures in
    whole_served a c.serve_channels.new.world (none_newest a) c.serve_channels.new.watcher c.command.new.self c.self.invariant refl refl refl serve.config serve.keeps serve.outstanding serve.heard c.command.ensures.tale

pub invariant_of-self-in_default : goal.invariant_of-self-in_default
invariant_of-self-in_default c =
    let a = c.self.inside in
    let serve = c.serve_channels.ensures in
    whole_served a c.serve_channels.new.world (none_newest a) c.serve_channels.new.watcher a.teller c.self.invariant refl refl refl serve.config serve.keeps serve.outstanding serve.heard refl

pub returns-in_ok-command-clause-ledger : goal.returns-in_ok-command-clause-ledger
returns-in_ok-command-clause-ledger c =
    let a = c.self.inside in
    subst (λ (r : Replay). c.serve_channels.new.watcher.ledger ≡ all_found (state_of r.world) (channels_told r.config.geometry.channels (state_of r.world)) r.ledger) c.self.view_is
    (served_found a.config a.world c.serve_channels.new.world (none_newest a) c.serve_channels.new.watcher c.self.invariant.noted (c.serve_channels.ensures.config ∙ c.self.invariant.config) c.all_are_legal.ensures c.in-Ok.ensures.trace c.in-Ok.ensures.told)

pub returns-in_default-clause-ledger : goal.returns-in_default-clause-ledger
returns-in_default-clause-ledger c =
    let a = c.self.inside in
    subst (λ (r : Replay). c.serve_channels.new.watcher.ledger ≡ all_found (state_of r.world) (channels_told r.config.geometry.channels (state_of r.world)) r.ledger) c.self.view_is
    (served_found a.config a.world c.serve_channels.new.world (none_newest a) c.serve_channels.new.watcher c.self.invariant.noted (c.serve_channels.ensures.config ∙ c.self.invariant.config) c.all_are_legal.ensures c.in-Ok.ensures.trace c.in-Ok.ensures.told)

pub returns-in_ok-command-clause-told : goal.returns-in_ok-command-clause-told
returns-in_ok-command-clause-told c =
    let a = c.self.inside in
    let told = c.in-Ok.ensures.told in
    let new : Replay = record (replay_of a) { world = c.serve_channels.new.world; ledger = c.serve_channels.new.watcher.ledger; wanted = wanted_of c.command.new.self.tale; text = c.command.new.self.text.items } in
    subst (λ (r : Replay). Tells r new) c.self.view_is
    (tells_newest (replay_of a) new (channels_told a.config.geometry.channels (state_of a.world)) (Some c.in-Some.entry) (ap wanted_of c.command.ensures.tale) (served_is a c.serve_channels.new.watcher told) c.in-Ok.ensures.trace
    (newest_is a c.serve_channels.new.watcher (Some c.in-Some.entry) c.self.invariant told c.in-Some.is) c.in_ok-command.ensures.text)

pub returns-in_default-clause-told : goal.returns-in_default-clause-told
returns-in_default-clause-told c =
    let a = c.self.inside in
    let told = c.in-Ok.ensures.told in
    let new : Replay = record (replay_of a) { world = c.serve_channels.new.world; ledger = c.serve_channels.new.watcher.ledger } in
    subst (λ (r : Replay). Tells r new) c.self.view_is
    (tells_newest (replay_of a) new (channels_told a.config.geometry.channels (state_of a.world)) None refl (served_is a c.serve_channels.new.watcher told) c.in-Ok.ensures.trace
    (newest_is a c.serve_channels.new.watcher None c.self.invariant told c.in_default.is) (sym (append-nil a.teller.text.items)))
