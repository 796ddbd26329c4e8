-- What an event makes of the numbers that are outstanding, and of the list that it pops.
use Rattle.std.proofs.Common.{◌≡◌, ◌≤◌, ◌+◌, ℕ, zero, suc, Bool, true, false, cond, List, [], ◌∷◌, Option, Some, None, Result, Ok, Err, IsTrue, length, map, drop, get_or, refl, sym, ap, subst, ◌∙◌, arith}
use Rattle.std.specs.List.{range_with_len, slice_get, slice_set, sum_by, take_while}
use Rattle.ddr_timing.specs.declared.config.Config.{Config}
use Rattle.std.specs.Option.{option_map, option_and_then, option_map_or}
use Rattle.std.specs.Prelude.{◌==◌, ◌||◌, not, unwrap_or}
use Rattle.std.proofs.lemmas.List.{length-drop, length-map, length_push}
use Rattle.std.proofs.lemmas.List.Sums.{sum_by-set}
use Rattle.std.proofs.lemmas.Option.{get_or_from_slice_get, slice_get_within}
use Rattle.ddr_address_map.specs.Requests.{Completion}
use Rattle.ddr_address_map.specs.declared.request.Kind.TheVariants.{Read, Write}
use Rattle.ddr_channel.specs.State.{is_queue_full}
use Rattle.ddr_ports.specs.Asked.{Asked, echo_of}
use Rattle.ddr_ports.specs.State.{refusal_of, request_at, service_of}
use Rattle.ddr_ports.specs.declared.refusal.PortError.{PortError}
use Rattle.ddr_reorder.specs.Replies.{Answer, answer_of, front_number, is_filled}
use Rattle.ddr_reorder.specs.State.{Outstanding, awaits, filled}
use Rattle.ddr_world.specs.declared.event.Outcome.{Outcome}
use Rattle.ddr_world.specs.declared.event.Outcome.TheVariants as outcome
use Rattle.ddr_world.specs.declared.event.Refusal.{Refusal}
use Rattle.ddr_world.specs.declared.event.Refusal.TheVariants as refusal
use Rattle.ddr_world.specs.declared.item.Item.{Item}
use Rattle.ddr_world.specs.declared.item.Item.TheVariants as item
use Rattle.ddr_world.specs.Events.{Event, Submit, Take, Cycle, Deliver, Collect, Release, End}
use Rattle.ddr_world.specs.Refusals.{refusal_from}
use Rattle.ddr_world.specs.State.{PortSide, ChannelSide, State, is_busy, is_completion_queue_full, opened_port}
use Rattle.ddr_world.specs.Step.{Step, made, with_port, with_channel, at_channel, change_channel, queued, after_submit, push_on, push_request, submit_by, submit, taken, cycled, sent, after_deliver, deliver_to, push_completion, deliver_by, deliver, after_collect, collect_by, collect, after_release, release_by, release, after_take, after_end, end_at, end, step}
use Rattle.ddr_rounds.specs.Rounds.{added, is_popping, items_of, made_state, outstanding, repeated}

-- of one port
abbrev pub numbers : PortSide → ℕ
numbers port = length port.core.reorder.outstanding

-- one number more, of an event that may add one; one fewer; or as many
abbrev pub Counted : Event → ℕ → Outcome → ℕ → Type 0
Counted event n (outcome.Accepted number) m = (m ≡ n + 1) × (added event ≡ 1)
Counted event n (outcome.Released number) m = n ≡ m + 1
Counted event n _ m = m ≡ n

abbrev pub Counts : State → Event → Step → Type 0
Counts s event (Ok m) = Counted event (outstanding s) m.outcome (outstanding m.state)
Counts s event (Err cause) = Unit {0}

-- at the side that a number has, if it has one
pub at_port_has : (P : Step → Type 0) (s : State) (p : ℕ) (f : PortSide → Step) (o : Option PortSide) → slice_get s.ports p ≡ o → P (Err refusal.NoSuch) → ((port : PortSide) → slice_get s.ports p ≡ Some port → P (f port)) → P (option_map_or f o (Err refusal.NoSuch))
at_port_has P s p f None is none some = none
at_port_has P s p f (Some port) is none some = some port is

pub at_channel_has : (P : Step → Type 0) (s : State) (c : ℕ) (f : ChannelSide → Step) (o : Option ChannelSide) → slice_get s.channels c ≡ o → P (Err refusal.NoSuch) → ((side : ChannelSide) → slice_get s.channels c ≡ Some side → P (f side)) → P (option_map_or f o (Err refusal.NoSuch))
at_channel_has P s c f None is none some = none
at_channel_has P s c f (Some side) is none some = some side is

pub either_has : (P : Step → Type 0) (b : Bool) (x y : Step) → P x → P y → P (cond b x y)
either_has P true x y p q = p
either_has P false x y p q = q

pub maybe_has : {X : Type 0} (P : Step → Type 0) (f : X → Step) (e : Step) (o : Option X) → P e → ((x : X) → o ≡ Some x → P (f x)) → P (option_map_or f o e)
maybe_has P f e None none some = none
maybe_has P f e (Some x) none some = some x refl

-- a port that changed
port_set : (s : State) (p : ℕ) (old new : PortSide) → slice_get s.ports p ≡ Some old → sum_by numbers (slice_set s.ports p new) + numbers old ≡ outstanding s + numbers new
port_set s p old new is =
    let same : get_or s.ports p old ≡ old = get_or_from_slice_get s.ports p old old is in
    ap (λ (x : PortSide). sum_by numbers (slice_set s.ports p new) + numbers x) (sym same) ∙ sum_by-set numbers s.ports p new old (slice_get_within s.ports p old is)

same_numbers : (s : State) (p : ℕ) (old new : PortSide) → slice_get s.ports p ≡ Some old → numbers new ≡ numbers old → sum_by numbers (slice_set s.ports p new) ≡ outstanding s
same_numbers s p old new is same = omega (arith, port_set s p old new is, same)

channel_counts : (s : State) (event : Event) (c : ℕ) (o : Outcome) (r : Result ChannelSide Refusal) → Counted event (outstanding s) o (outstanding s) → Counts s event (change_channel s c o r)
channel_counts s event c o (Ok side) is = is
channel_counts s event c o (Err cause) is = tt

submit_counts : (s : State) (p : ℕ) (asked : Asked) → Counts s (Submit p asked) (submit s p asked)
submit_counts s p asked = at_port_has (Counts s (Submit p asked)) s p (submit_by s p asked) (slice_get s.ports p) refl tt (λ port there.
    maybe_has (Counts s (Submit p asked)) (λ (cause : PortError). Err (refusal_from cause)) (option_map_or (push_request s p port asked) (request_at port.core asked) (Err refusal.OutOfRange)) (refusal_of port.core asked)
    (maybe_has (Counts s (Submit p asked)) (push_request s p port asked) (Err refusal.OutOfRange) (request_at port.core asked) tt (λ r prepared.
    at_channel_has (Counts s (Submit p asked)) s r.place.channel (push_on s p port asked r) (slice_get s.channels r.place.channel) refl tt (λ side found.
    either_has (Counts s (Submit p asked)) (is_busy side) (Err (refusal.Busy r.place.channel)) (made (with_channel r.place.channel (queued (item.Request r) side) (with_port p (after_submit asked port) s)) (outcome.Accepted r.number)) tt
    (omega (arith, port_set s p port (after_submit asked port) there, length_push port.core.reorder.outstanding (record { number = port.core.reorder.next; echo = echo_of asked; line = None; service = None })), refl))))
    (λ cause is. tt))

deliver_counts : (s : State) (c : ℕ) → Counts s (Deliver c) (deliver s c)
deliver_counts s c = at_channel_has (Counts s (Deliver c)) s c (deliver_by s c) (slice_get s.channels c) refl tt (λ side found.
    maybe_has (Counts s (Deliver c)) (push_completion s c side) (Err refusal.Nothing) (slice_get side.channel.done 0) tt (λ d first.
    maybe_has (Counts s (Deliver c)) (deliver_to s c side d) (Err refusal.QueueFull) (slice_get s.ports d.port) tt (λ port there.
    either_has (Counts s (Deliver c)) (is_completion_queue_full port) (Err refusal.QueueFull) (made (with_port d.port (after_deliver d port) (with_channel c (sent side) s)) outcome.Delivered) tt
    (same_numbers s d.port port (after_deliver d port) there refl))))

filled_numbers : (port : PortSide) (d : Completion) (b : Bool) → numbers (record port { core = cond b (record port.core { reorder = record port.core.reorder { outstanding = map (filled d.number (service_of d) d.line) port.core.reorder.outstanding } }) port.core; completions = drop 1 port.completions }) ≡ numbers port
filled_numbers port d true = length-map port.core.reorder.outstanding (filled d.number (service_of d) d.line)
filled_numbers port d false = refl

collect_counts : (s : State) (p : ℕ) → Counts s (Collect p) (collect s p)
collect_counts s p = at_port_has (Counts s (Collect p)) s p (collect_by s p) (slice_get s.ports p) refl tt (λ port there.
    maybe_has (Counts s (Collect p)) (λ (d : Completion). made (with_port p (after_collect d port) s) (outcome.Collected d.number)) (Err refusal.Nothing) (slice_get port.completions 0) tt (λ d first.
    same_numbers s p port (after_collect d port) there (filled_numbers port d (awaits port.core.reorder d.number d.echo))))

-- there is a reply in front only where a number is outstanding
front_of_none : (xs : List Outstanding) (number : ℕ) → option_map (λ (a : Answer). a.number) (option_and_then answer_of (slice_get (take_while is_filled xs) 0)) ≡ Some number → 1 ≤ length xs
front_of_none [] number is = absurd (let impossible = is in cc)
front_of_none (x ∷ xs) number is = omega arith

release_counts : (s : State) (p : ℕ) → Counts s (Release p) (release s p)
release_counts s p = at_port_has (Counts s (Release p)) s p (release_by s p) (slice_get s.ports p) refl tt (λ port there.
    maybe_has (Counts s (Release p)) (λ number. made (with_port p (after_release port) s) (outcome.Released number)) (Err refusal.Nothing) (front_number port.core.reorder) tt (λ number front.
    omega (arith, port_set s p port (after_release port) there, length-drop 1 port.core.reorder.outstanding, front_of_none port.core.reorder.outstanding number front)))

end_counts : (s : State) (p c : ℕ) → Counts s (End p c) (end s p c)
end_counts s p c = at_port_has (Counts s (End p c)) s p (λ port. at_channel s c (end_at s p c port)) (slice_get s.ports p) refl tt (λ port there.
    at_channel_has (Counts s (End p c)) s c (end_at s p c port) (slice_get s.channels c) refl tt (λ side found.
    either_has (Counts s (End p c)) (not (length port.core.reorder.outstanding == 0)) (Err refusal.NotEmpty) _ tt
    (either_has (Counts s (End p c)) (unwrap_or (slice_get port.pushed c) false) (Err refusal.Finished) _ tt
    (either_has (Counts s (End p c)) (is_busy side) (Err (refusal.Busy c)) (made (with_channel c (queued (item.End p) side) (with_port p (after_end c port) s)) outcome.Ended) tt
    (same_numbers s p port (after_end c port) there refl)))))

-- every event
pub step_counts : (s : State) (event : Event) → Counts s event (step s event)
step_counts s (Submit p asked) = submit_counts s p asked
step_counts s (Take c) = at_channel_has (Counts s (Take c)) s c (λ side. change_channel s c outcome.Taken (taken side)) (slice_get s.channels c) refl tt (λ side found. channel_counts s (Take c) c outcome.Taken (taken side) refl)
step_counts s (Cycle c) = at_channel_has (Counts s (Cycle c)) s c (λ side. change_channel s c outcome.Cycled (cycled side)) (slice_get s.channels c) refl tt (λ side found. channel_counts s (Cycle c) c outcome.Cycled (cycled side) refl)
step_counts s (Deliver c) = deliver_counts s c
step_counts s (Collect p) = collect_counts s p
step_counts s (Release p) = release_counts s p
step_counts s (End p c) = end_counts s p c

-- an event that is made
pub made_counts : (s next : State) (event : Event) (o : Outcome) → step s event ≡ made next o → Counted event (outstanding s) o (outstanding next)
made_counts s next event o is = subst (Counts s event) is (step_counts s event)

-- neither one more nor one fewer
pub as_many : (event : Event) (n m : ℕ) (o : Outcome) → Counted event n o m → ((x : ℕ) → o ≡ outcome.Accepted x → ⊥) → ((x : ℕ) → o ≡ outcome.Released x → ⊥) → m ≡ n
as_many event n m (outcome.Accepted x) counted not_more not_fewer = absurd (not_more x refl)
as_many event n m (outcome.Released x) counted not_more not_fewer = absurd (not_fewer x refl)
as_many event n m outcome.Taken counted not_more not_fewer = counted
as_many event n m outcome.Cycled counted not_more not_fewer = counted
as_many event n m outcome.Delivered counted not_more not_fewer = counted
as_many event n m (outcome.Collected x) counted not_more not_fewer = counted
as_many event n m outcome.Ended counted not_more not_fewer = counted

-- an event that pops adds none
pub none_added : (event : Event) → IsTrue (is_popping event) → added event ≡ 0
none_added (Take c) is = refl
none_added (Deliver c) is = refl
none_added (Collect p) is = refl
none_added (Submit p asked) is = absurd (let impossible = is in cc)
none_added (Cycle c) is = refl
none_added (Release p) is = refl
none_added (End p c) is = refl

-- the list that an event pops

abbrev pub Pops : State → Event → Step → Type 0
Pops s event (Ok m) = items_of s event ≡ items_of m.state event + 1
Pops s event (Err cause) = Unit {0}

pub slice_get-set : {X : Type 0} (xs : List X) (i : ℕ) (x y : X) → slice_get xs i ≡ Some x → slice_get (slice_set xs i y) i ≡ Some y
slice_get-set [] i x y is = absurd (let impossible = is in cc)
slice_get-set (z ∷ xs) zero x y is = refl
slice_get-set (z ∷ xs) (suc i) x y is = slice_get-set xs i x y is

-- of a list with a first element one fewer is left
first_dropped : {X : Type 0} (xs : List X) (x : X) → slice_get xs 0 ≡ Some x → length xs ≡ length (drop 1 xs) + 1
first_dropped [] x is = absurd (let impossible = is in cc)
first_dropped (y ∷ xs) x is = omega (arith, length-drop 1 (y ∷ xs))

channel_pops : (s : State) (c : ℕ) (f : ChannelSide → ℕ) (old new : ChannelSide) → slice_get s.channels c ≡ Some old → f old ≡ f new + 1
    → option_map_or f (slice_get s.channels c) 0 ≡ option_map_or f (slice_get (slice_set s.channels c new) c) 0 + 1
channel_pops s c f old new is fewer = rw (is, slice_get-set s.channels c old new is) fewer

port_pops : (s : State) (p : ℕ) (f : PortSide → ℕ) (old new : PortSide) → slice_get s.ports p ≡ Some old → f old ≡ f new + 1
    → option_map_or f (slice_get s.ports p) 0 ≡ option_map_or f (slice_get (slice_set s.ports p new) p) 0 + 1
port_pops s p f old new is fewer = rw (is, slice_get-set s.ports p old new is) fewer

took : (s : State) (c : ℕ) (side : ChannelSide) (it : Item) → slice_get s.channels c ≡ Some side → slice_get side.requests 0 ≡ Some it → Pops s (Take c) (change_channel s c outcome.Taken (Ok (after_take it side)))
took s c side (item.Request r) found first = channel_pops s c (λ (x : ChannelSide). length x.requests) side (after_take (item.Request r) side) found (first_dropped side.requests (item.Request r) first)
took s c side (item.End p) found first = channel_pops s c (λ (x : ChannelSide). length x.requests) side (after_take (item.End p) side) found (first_dropped side.requests (item.End p) first)

took_or_full : (s : State) (c : ℕ) (side : ChannelSide) (it : Item) (b : Bool) → slice_get s.channels c ≡ Some side → slice_get side.requests 0 ≡ Some it → Pops s (Take c) (change_channel s c outcome.Taken (cond b (Err refusal.QueueFull) (Ok (after_take it side))))
took_or_full s c side it true found first = tt
took_or_full s c side it false found first = took s c side it found first

take_pops : (s : State) (c : ℕ) (side : ChannelSide) (o : Option Item) → slice_get s.channels c ≡ Some side → slice_get side.requests 0 ≡ o
    → Pops s (Take c) (change_channel s c outcome.Taken (option_map_or (λ it. cond (is_queue_full side.channel Read || is_queue_full side.channel Write) (Err refusal.QueueFull) (Ok (after_take it side))) o (Err refusal.Nothing)))
take_pops s c side None found first = tt
take_pops s c side (Some it) found first = took_or_full s c side it (is_queue_full side.channel Read || is_queue_full side.channel Write) found first

deliver_pops : (s : State) (c : ℕ) → Pops s (Deliver c) (deliver s c)
deliver_pops s c = at_channel_has (Pops s (Deliver c)) s c (deliver_by s c) (slice_get s.channels c) refl tt (λ side found.
    maybe_has (Pops s (Deliver c)) (push_completion s c side) (Err refusal.Nothing) (slice_get side.channel.done 0) tt (λ d first.
    maybe_has (Pops s (Deliver c)) (deliver_to s c side d) (Err refusal.QueueFull) (slice_get s.ports d.port) tt (λ port there.
    either_has (Pops s (Deliver c)) (is_completion_queue_full port) (Err refusal.QueueFull) (made (with_port d.port (after_deliver d port) (with_channel c (sent side) s)) outcome.Delivered) tt
    (channel_pops s c (λ (x : ChannelSide). length x.channel.done) side (sent side) found (first_dropped side.channel.done d first)))))

collect_pops : (s : State) (p : ℕ) → Pops s (Collect p) (collect s p)
collect_pops s p = at_port_has (Pops s (Collect p)) s p (collect_by s p) (slice_get s.ports p) refl tt (λ port there.
    maybe_has (Pops s (Collect p)) (λ (d : Completion). made (with_port p (after_collect d port) s) (outcome.Collected d.number)) (Err refusal.Nothing) (slice_get port.completions 0) tt (λ d first.
    port_pops s p (λ (x : PortSide). length x.completions) port (after_collect d port) there (first_dropped port.completions d first)))

pub release_pops : (s : State) (p : ℕ) → Pops s (Release p) (release s p)
release_pops s p = at_port_has (Pops s (Release p)) s p (release_by s p) (slice_get s.ports p) refl tt (λ port there.
    maybe_has (Pops s (Release p)) (λ number. made (with_port p (after_release port) s) (outcome.Released number)) (Err refusal.Nothing) (front_number port.core.reorder) tt (λ number front.
    port_pops s p numbers port (after_release port) there (omega (arith, length-drop 1 port.core.reorder.outstanding, front_of_none port.core.reorder.outstanding number front))))

step_pops : (s : State) (event : Event) → IsTrue (is_popping event) → Pops s event (step s event)
step_pops s (Take c) is = at_channel_has (Pops s (Take c)) s c (λ side. change_channel s c outcome.Taken (taken side)) (slice_get s.channels c) refl tt (λ side found. take_pops s c side (slice_get side.requests 0) found refl)
step_pops s (Deliver c) is = deliver_pops s c
step_pops s (Collect p) is = collect_pops s p
step_pops s (Submit p asked) is = absurd (let impossible = is in cc)
step_pops s (Cycle c) is = absurd (let impossible = is in cc)
step_pops s (Release p) is = absurd (let impossible = is in cc)
step_pops s (End p c) is = absurd (let impossible = is in cc)

pub made_pops : (s next : State) (event : Event) (o : Outcome) → IsTrue (is_popping event) → step s event ≡ made next o → items_of s event ≡ items_of next event + 1
made_pops s next event o popping is = subst (Pops s event) is (step_pops s event popping)

-- an event that is made and made again

pub repeated_more : (s next : State) (event : Event) (o : Outcome) → IsTrue (is_popping event) → step s event ≡ made next o → repeated (items_of next event) event next ≡ repeated (items_of s event) event s
repeated_more s next event o popping is =
    let fewer : items_of s event ≡ suc (items_of next event) = omega (arith, made_pops s next event o popping is) in
    sym (ap (λ n. repeated n event s) fewer ∙ ap (λ r. option_map_or (repeated (items_of next event) event) (made_state r) s) is)

pub repeated_end : (n : ℕ) (s : State) (event : Event) (cause : Refusal) → step s event ≡ Err cause → repeated n event s ≡ s
repeated_end zero s event cause is = refl
repeated_end (suc n) s event cause is = ap (λ r. option_map_or (repeated n event) (made_state r) s) is

-- nothing is outstanding before the first event
pub none_opened : (config : Config) (first a n : ℕ) → sum_by numbers (map (opened_port config first) (range_with_len a n)) ≡ 0
none_opened config first a zero = refl
none_opened config first a (suc n) = omega (arith, none_opened config first (a + 1) n)

-- an event that pops leaves as many numbers outstanding, and so does a cycle

abbrev KeepsNumbers : State → Step → Type 0
KeepsNumbers s (Ok m) = outstanding m.state ≡ outstanding s
KeepsNumbers s (Err cause) = Unit {0}

channel_keeps : (s : State) (c : ℕ) (o : Outcome) (r : Result ChannelSide Refusal) → KeepsNumbers s (change_channel s c o r)
channel_keeps s c o (Ok side) = refl
channel_keeps s c o (Err cause) = tt

deliver_keeps : (s : State) (c : ℕ) → KeepsNumbers s (deliver s c)
deliver_keeps s c = at_channel_has (KeepsNumbers s) s c (deliver_by s c) (slice_get s.channels c) refl tt (λ side found.
    maybe_has (KeepsNumbers s) (push_completion s c side) (Err refusal.Nothing) (slice_get side.channel.done 0) tt (λ d first.
    maybe_has (KeepsNumbers s) (deliver_to s c side d) (Err refusal.QueueFull) (slice_get s.ports d.port) tt (λ port there.
    either_has (KeepsNumbers s) (is_completion_queue_full port) (Err refusal.QueueFull) (made (with_port d.port (after_deliver d port) (with_channel c (sent side) s)) outcome.Delivered) tt
    (same_numbers s d.port port (after_deliver d port) there refl))))

collect_keeps : (s : State) (p : ℕ) → KeepsNumbers s (collect s p)
collect_keeps s p = at_port_has (KeepsNumbers s) s p (collect_by s p) (slice_get s.ports p) refl tt (λ port there.
    maybe_has (KeepsNumbers s) (λ (d : Completion). made (with_port p (after_collect d port) s) (outcome.Collected d.number)) (Err refusal.Nothing) (slice_get port.completions 0) tt (λ d first.
    same_numbers s p port (after_collect d port) there (filled_numbers port d (awaits port.core.reorder d.number d.echo))))

step_keeps : (s : State) (event : Event) → IsTrue (is_popping event) → KeepsNumbers s (step s event)
step_keeps s (Take c) is = at_channel_has (KeepsNumbers s) s c (λ side. change_channel s c outcome.Taken (taken side)) (slice_get s.channels c) refl tt (λ side found. channel_keeps s c outcome.Taken (taken side))
step_keeps s (Deliver c) is = deliver_keeps s c
step_keeps s (Collect p) is = collect_keeps s p
step_keeps s (Submit p asked) is = absurd (let impossible = is in cc)
step_keeps s (Cycle c) is = absurd (let impossible = is in cc)
step_keeps s (Release p) is = absurd (let impossible = is in cc)
step_keeps s (End p c) is = absurd (let impossible = is in cc)

pub popped_numbers : (event : Event) → IsTrue (is_popping event) → (s next : State) (o : Outcome) → step s event ≡ made next o → outstanding next ≡ outstanding s
popped_numbers event popping s next o is = subst (KeepsNumbers s) is (step_keeps s event popping)

pub cycled_numbers : (c : ℕ) (s next : State) (o : Outcome) → step s (Cycle c) ≡ made next o → outstanding next ≡ outstanding s
cycled_numbers c s next o is = subst (KeepsNumbers s) is (at_channel_has (KeepsNumbers s) s c (λ side. change_channel s c outcome.Cycled (cycled side)) (slice_get s.channels c) refl tt (λ side found. channel_keeps s c outcome.Cycled (cycled side)))
