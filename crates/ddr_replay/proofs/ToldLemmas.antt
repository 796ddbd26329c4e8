-- What a replay tells, as requests and commands come.
use Rattle.std.proofs.Common.{◌≡◌, ℕ, zero, suc, true, false, if◌then◌else◌, List, [], ◌∷◌, ◌++◌, Bool, Option, Some, None, append_assoc, append-nil, flat_map, replicate, refl, sym, ap, ◌∙◌}
use Rattle.std.specs.Prelude.{◌-◌, Result, Ok, Err}
use Rattle.std.specs.Option.{option_map, option_map_or}
use Rattle.std.specs.List.{fold, slice_get}
use Rattle.std.proofs.lemmas.Grind.{flat_map-append}
use Rattle.ddr_reorder.specs.declared.reply.Service.{Service}
use Rattle.ddr_trace.specs.declared.command.Entry.{Entry}
use Rattle.ddr_trace_text.specs.Text.{command_fields, header, record_text}
use Rattle.ddr_world.specs.Kept.{Kept, state_of}
use Rattle.ddr_world.specs.Promise.{trace_at}
use Rattle.ddr_timing.specs.declared.config.Config.{Config}
use Rattle.ddr_world.specs.State.{ChannelSide, State, opened, opened_channel}
use Rattle.ddr_rounds.specs.declared.told.Told.{Told}
use Rattle.ddr_rounds.specs.Telling.{entries_told, entry_told, release_told}
use Rattle.ddr_rounds.proofs.TraceLemmas.{release_heard}
use Rattle.ddr_world.specs.Answer.{IsAnswered}
use Rattle.ddr_world.specs.Events.{Release}
use Rattle.ddr_world.specs.declared.event.Outcome.{Outcome}
use Rattle.ddr_world.specs.declared.event.Outcome.TheVariants as outcome
use Rattle.ddr_world.specs.declared.event.Refusal.{Refusal}
use Rattle.ddr_replay.proofs.BooksLemmas.{entries_of, newest_list}
use Rattle.ddr_ledger.specs.Drampower.{drampower_line}
use Rattle.ddr_ledger.specs.Ledgers.{Ledger, accepted_at, next_row, noted, served_of, with_oldest, without_oldest}
use Rattle.ddr_ledger.specs.ServedText.{served_head, served_line}
use Rattle.ddr_replay.specs.Told.{IsNoted, command_text, commands_of, comes_at_end, channel_of, head_of, row_text, said}
use Rattle.ddr_replay.specs.View.{IsTold, Replay, Tells, told_so_far}
use Rattle.ddr_ledger.specs.declared.released.ReleasedRequest.{ReleasedRequest}
use Rattle.ddr_ledger.specs.declared.times.Accepted.{Accepted}
use Rattle.ddr_replay.specs.declared.wanted.Wanted.{Wanted}
use Rattle.ddr_replay.specs.declared.wanted.Wanted.TheVariants as told

-- ---- one more

-- a list of lines behind a head, and one line more
lines_more : {X : Type 0} (line : X → List ℕ) (head : List ℕ) (xs : List X) (x : X) → head ++ flat_map line (xs ++ x ∷ []) ≡ (head ++ flat_map line xs) ++ line x
lines_more line head xs x =
    ap (λ (t : List ℕ). head ++ t) (flat_map-append line xs (x ∷ []) ∙ ap (λ (t : List ℕ). flat_map line xs ++ t) (append-nil (line x)))
    ∙ sym (append_assoc head (flat_map line xs) (line x))

pub said_row : (w : Wanted) (rows : List ReleasedRequest) (row : ReleasedRequest) (commands : List Entry) → said w (rows ++ row ∷ []) commands ≡ said w rows commands ++ row_text w row
said_row told.Statistics rows row commands = refl
said_row told.Requests rows row commands = lines_more served_line served_head rows row
said_row (told.Trace channel) rows row commands = sym (append-nil (said (told.Trace channel) rows commands))
said_row (told.Drampower channel) rows row commands = sym (append-nil (said (told.Drampower channel) rows commands))
said_row (told.Numbers skip clock) rows row commands = refl
said_row (told.Intervals skip every) rows row commands = refl

pub said_command : (w : Wanted) (rows : List ReleasedRequest) (commands : List Entry) (e : Entry) → said w rows (commands ++ e ∷ []) ≡ said w rows commands ++ command_text w e
said_command told.Statistics rows commands e = refl
said_command told.Requests rows commands e = sym (append-nil (said told.Requests rows commands))
said_command (told.Trace channel) rows commands e = lines_more (λ (x : Entry). record_text (command_fields x.cycle x.command)) (record_text header) commands e
said_command (told.Drampower channel) rows commands e = flat_map-append drampower_line commands (e ∷ []) ∙ ap (λ (t : List ℕ). flat_map drampower_line commands ++ t) (append-nil (drampower_line e))
said_command (told.Numbers skip clock) rows commands e = refl
said_command (told.Intervals skip every) rows commands e = refl

-- before the first of them
pub said_nothing : (w : Wanted) → said w [] [] ≡ head_of w
said_nothing told.Statistics = refl
said_nothing told.Requests = append-nil served_head
said_nothing (told.Trace channel) = append-nil (record_text header)
said_nothing (told.Drampower channel) = refl
said_nothing (told.Numbers skip clock) = refl
said_nothing (told.Intervals skip every) = refl

-- where all is told at the end, nothing is before
pub said_at_end : (w : Wanted) (rows : List ReleasedRequest) (commands : List Entry) → comes_at_end w ≡ true → said w rows commands ≡ []
said_at_end told.Statistics rows commands is = refl
said_at_end told.Requests rows commands is = absurd (let impossible = is in cc)
said_at_end (told.Trace channel) rows commands is = absurd (let impossible = is in cc)
said_at_end (told.Drampower channel) rows commands is = absurd (let impossible = is in cc)
said_at_end (told.Numbers skip clock) rows commands is = refl
said_at_end (told.Intervals skip every) rows commands is = refl

-- ---- a reply that is released

pub noted_more : (w : Wanted) (commands : List Entry) (text next : List ℕ) (rows more : List ReleasedRequest) (row : ReleasedRequest) → more ≡ rows ++ row ∷ [] → next ≡ text ++ row_text w row → IsNoted commands text next w rows more
noted_more w commands text next rows more row is told = λ earlier so.
    ap (λ (xs : List ReleasedRequest). said w xs commands) is ∙ said_row w rows row commands ∙ ap (λ (t : List ℕ). t ++ row_text w row) so
    ∙ append_assoc earlier text (row_text w row) ∙ ap (λ (t : List ℕ). earlier ++ t) (sym told)

pub noted_none : (w : Wanted) (commands : List Entry) (text : List ℕ) (rows more : List ReleasedRequest) → more ≡ rows → IsNoted commands text text w rows more
noted_none w commands text rows more is = λ earlier so. ap (λ (xs : List ReleasedRequest). said w xs commands) is ∙ so

-- the requests that are kept, and the next one

abbrev rows_of : Option ReleasedRequest → List ReleasedRequest
rows_of None = []
rows_of (Some row) = row ∷ []

by_keeps : (port round : ℕ) (service : Service) (ledger : Ledger) (keeps : Bool) (o : Option Accepted) → ledger.keeps ≡ keeps
    → (with_oldest port service round o (without_oldest port ledger)).served ≡ ledger.served ++ rows_of (if keeps then option_map (λ accepted. served_of port service round accepted ledger) o else None)
by_keeps port round service ledger keeps None is = by_nothing keeps
  where
    by_nothing : (b : Bool) → ledger.served ≡ ledger.served ++ rows_of (if b then None else None)
    by_nothing true = sym (append-nil ledger.served)
    by_nothing false = sym (append-nil ledger.served)
by_keeps port round service ledger true (Some accepted) is =
    let l = without_oldest port ledger in
    ap (λ (b : Bool). (if b then record l { served = l.served ++ served_of port service round accepted l ∷ [] } else l).served) is
by_keeps port round service ledger false (Some accepted) is =
    let l = without_oldest port ledger in
    ap (λ (b : Bool). (if b then record l { served = l.served ++ served_of port service round accepted l ∷ [] } else l).served) is ∙ sym (append-nil ledger.served)

pub noted_rows : (port round : ℕ) (service : Service) (ledger : Ledger) → (noted port service round ledger).served ≡ ledger.served ++ rows_of (next_row port service round ledger)
noted_rows port round service ledger =
    by_keeps port round service ledger ledger.keeps (slice_get (accepted_at ledger port) 0) refl

pub noted_some : (port round : ℕ) (service : Service) (ledger : Ledger) (row : ReleasedRequest) → next_row port service round ledger ≡ Some row → (noted port service round ledger).served ≡ ledger.served ++ row ∷ []
noted_some port round service ledger row is = noted_rows port round service ledger ∙ ap (λ (o : Option ReleasedRequest). ledger.served ++ rows_of o) is

pub noted_nothing : (port round : ℕ) (service : Service) (ledger : Ledger) → next_row port service round ledger ≡ None → (noted port service round ledger).served ≡ ledger.served
noted_nothing port round service ledger is = noted_rows port round service ledger ∙ ap (λ (o : Option ReleasedRequest). ledger.served ++ rows_of o) is ∙ append-nil ledger.served

-- ---- what the core does

-- where no request and no command came, nothing more is told
pub tells_same : (old new : Replay) → new.wanted ≡ old.wanted → new.text ≡ old.text → new.ledger.served ≡ old.ledger.served → ((c : ℕ) → trace_at (state_of new.world) c ≡ trace_at (state_of old.world) c) → Tells old new
tells_same old new wanted text served traces = λ earlier told.
    so_far_same old new wanted served traces ∙ told ∙ ap (λ (t : List ℕ). earlier ++ t) (sym text)
  where
    by_channel : (s t : State) (o : Option ℕ) → ((c : ℕ) → trace_at t c ≡ trace_at s c) → option_map_or (trace_at t) o [] ≡ option_map_or (trace_at s) o []
    by_channel s t None each = refl
    by_channel s t (Some c) each = each c

    so_far_same : (a b : Replay) → b.wanted ≡ a.wanted → b.ledger.served ≡ a.ledger.served → ((c : ℕ) → trace_at (state_of b.world) c ≡ trace_at (state_of a.world) c) → told_so_far b ≡ told_so_far a
    so_far_same a b wanted served traces =
        ap (λ (w : Wanted). said w b.ledger.served (commands_of w (state_of b.world))) wanted
        ∙ ap (λ (rows : List ReleasedRequest). said a.wanted rows (commands_of a.wanted (state_of b.world))) served
        ∙ ap (λ (commands : List Entry). said a.wanted a.ledger.served commands) (by_channel (state_of a.world) (state_of b.world) (channel_of a.wanted) traces)

-- the commands of the channel that is asked for, with those of a round
commands_more : (w : Option ℕ) (s next : State) (told : List Told) → ((c : ℕ) → trace_at next c ≡ trace_at s c ++ entries_told c told) → option_map_or (trace_at next) w [] ≡ option_map_or (trace_at s) w [] ++ entries_of w told
commands_more None s next told traces = refl
commands_more (Some c) s next told traces = traces c

said_newest : (w : Wanted) (rows : List ReleasedRequest) (commands : List Entry) (o : Option Entry) → said w rows (commands ++ newest_list o) ≡ said w rows commands ++ option_map_or (command_text w) o []
said_newest w rows commands None = ap (said w rows) (append-nil commands) ∙ sym (append-nil (said w rows commands))
said_newest w rows commands (Some e) = said_command w rows commands e

-- what was told of a round's commands
pub tells_newest : (old new : Replay) (told : List Told) (o : Option Entry) → new.wanted ≡ old.wanted → new.ledger.served ≡ old.ledger.served → ((c : ℕ) → trace_at (state_of new.world) c ≡ trace_at (state_of old.world) c ++ entries_told c told)
    → newest_list o ≡ entries_of (channel_of old.wanted) told → new.text ≡ old.text ++ option_map_or (command_text old.wanted) o [] → Tells old new
tells_newest old new told o wanted served traces newest text = λ earlier so.
    let w = old.wanted in
    let before = commands_of w (state_of old.world) in
    ap (λ (x : Wanted). said x new.ledger.served (commands_of x (state_of new.world))) wanted
    ∙ ap (λ (rows : List ReleasedRequest). said w rows (commands_of w (state_of new.world))) served
    ∙ ap (said w old.ledger.served) (commands_more (channel_of w) (state_of old.world) (state_of new.world) told traces ∙ ap (λ (es : List Entry). before ++ es) (sym newest))
    ∙ said_newest w old.ledger.served before o
    ∙ ap (λ (t : List ℕ). t ++ option_map_or (command_text w) o []) so
    ∙ append_assoc earlier old.text (option_map_or (command_text w) o [])
    ∙ ap (λ (t : List ℕ). earlier ++ t) (sym text)

-- a release issues nothing

abbrev collect : ℕ → List Entry → Told → List Entry
collect c es x = es ++ entry_told c x

collected : (c : ℕ) (told : List Told) (es : List Entry) → fold (collect c) es told ≡ es ++ entries_told c told
collected c [] es = sym (append-nil es)
collected c (x ∷ more) es = collected c more (es ++ entry_told c x) ∙ append_assoc es (entry_told c x) (entries_told c more)

none_released : (c p : ℕ) (r : Result Outcome Refusal) → fold (collect c) [] (release_told p r) ≡ []
none_released c p (Ok (outcome.Released number)) = refl
none_released c p (Ok _) = refl
none_released c p (Err cause) = refl

released_still : (c : ℕ) (k next : Kept) (p : ℕ) (r : Result Outcome Refusal) → IsAnswered k next (Release p) r → trace_at (state_of next) c ≡ trace_at (state_of k) c
released_still c k next p r a =
    let h = release_heard (collect c) [] (fold (collect c) [] (release_told p r)) k next p r a refl in
    h.traces c ∙ ap (λ (es : List Entry). trace_at (state_of k) c ++ es) (sym (collected c h.told []) ∙ sym h.heard ∙ none_released c p r) ∙ append-nil (trace_at (state_of k) c)

-- a reply was released, and its request told of
pub tells_released : (old new : Replay) (rows : List ReleasedRequest) (p : ℕ) (r : Result Outcome Refusal) → new.wanted ≡ old.wanted → new.ledger.served ≡ rows → IsAnswered old.world new.world (Release p) r
    → ((commands : List Entry) → IsNoted commands old.text new.text old.wanted old.ledger.served rows) → Tells old new
tells_released old new rows p r wanted served answered noted = λ earlier told.
    let w = old.wanted in
    let before = commands_of w (state_of old.world) in
    ap (λ (x : Wanted). said x new.ledger.served (commands_of x (state_of new.world))) wanted
    ∙ ap (λ (xs : List ReleasedRequest). said w xs (commands_of w (state_of new.world))) served
    ∙ ap (said w rows) (by_asked (channel_of w) (λ c. released_still c old.world new.world p r answered))
    ∙ noted before earlier told
  where
    by_asked : (o : Option ℕ) → ((c : ℕ) → trace_at (state_of new.world) c ≡ trace_at (state_of old.world) c) → option_map_or (trace_at (state_of new.world)) o [] ≡ option_map_or (trace_at (state_of old.world)) o []
    by_asked None each = refl
    by_asked (Some c) each = each c

-- before the first round

none_issued : (config : Config) (n c : ℕ) → option_map_or (λ (side : ChannelSide). side.channel.trace) (slice_get (replicate n (opened_channel config 0)) c) [] ≡ []
none_issued config zero c = refl
none_issued config (suc n) zero = refl
none_issued config (suc n) (suc c) = none_issued config n c

none_asked : (config : Config) (o : Option ℕ) → option_map_or (trace_at (opened config 0 0)) o [] ≡ []
none_asked config None = refl
none_asked config (Some c) = none_issued config config.geometry.channels c

pub begun_told : (config : Config) (r : Replay) → state_of r.world ≡ opened config 0 0 → r.ledger.served ≡ [] → r.text ≡ head_of r.wanted → IsTold [] r
begun_told config r state served text =
    ap (λ (s : State). said r.wanted r.ledger.served (commands_of r.wanted s)) state
    ∙ ap (λ (rows : List ReleasedRequest). said r.wanted rows (commands_of r.wanted (opened config 0 0))) served
    ∙ ap (said r.wanted []) (none_asked config (channel_of r.wanted))
    ∙ said_nothing r.wanted ∙ sym text

-- one step behind another
