-- What the ledger of a replay tells of the requests of its ports, by the events.
use Rattle.std.proofs.Common.{◌≡◌, ◌≢◌, ◌<◌, ◌+◌, ◌-◌, ℕ, zero, suc, Bool, true, false, cond, eqb, append-nil, map, map-id, List, [], ◌∷◌, ◌++◌, Some, length, replicate, refl, sym, ap, subst, ◌∙◌, inl, inr, arith}
use Rattle.std.specs.List.{range_with_len, slice_get, slice_index_or, slice_set}
use Rattle.std.proofs.lemmas.Bool.{eq-eqb, ne_eqb}
use Rattle.std.proofs.lemmas.Bool.Decides.{eqb_tells}
use Rattle.std.proofs.lemmas.List.{get_or-replicate, get_or-set_other, get_or-set_same, length-replicate, length-set, map-append}
use Rattle.std.proofs.lemmas.List.Elements.{filter-append}
use Rattle.std.proofs.lemmas.List.FromFn.{map-range_with_len_more}
use Rattle.ddr_timing.specs.declared.config.Config.{Config}
use Rattle.ddr_address_map.specs.declared.request.Kind.{Kind}
use Rattle.ddr_address_map.specs.declared.request.Kind.TheVariants.{Read, Write}
use Rattle.ddr_address_map.specs.Requests.{Request}
use Rattle.ddr_reorder.specs.Replies.{Answer}
use Rattle.ddr_ports.specs.Asked.{echo_of}
use Rattle.ddr_world.specs.History.{Answered, Whereabouts, begun, run}
use Rattle.ddr_stream.specs.Asks.{asked_by}
use Rattle.ddr_ledger.specs.declared.released.ReleasedRequest.{ReleasedRequest}
use Rattle.ddr_ledger.specs.declared.times.Accepted.{Accepted}
use Rattle.ddr_ledger.specs.declared.times.Times.{Times}
use Rattle.ddr_world.specs.State.{State}
use Rattle.ddr_ledger.specs.Activities.{all_acted}
use Rattle.ddr_ledger.specs.Activity.{seen_at}
use Rattle.ddr_ledger.specs.Ledgers.{Ledger}
use Rattle.ddr_ledger.specs.Times.{count_of, no_times, timed, with_kind, with_time}
use Rattle.ddr_replay_deadline.specs.InReplay.{replay_opening}
use Rattle.ddr_replay_deadline.specs.Rows.{IsInOrder, IsRowOf, rows_of}
use Rattle.ddr_replay_deadline.specs.Waits.{acceptances}
use Rattle.ddr_replay_deadline.proofs.GrowthLemmas.{goes_on}

-- an accepted request of a port, which has this place in the list of the port
pub record IsAcceptedAt (config : Config) (events : List Answered) (p k : ℕ) (a : Accepted) : Type 0 where
  pub at : Whereabouts
  pub sent_at : slice_get ((run (replay_opening config) events).sent p) k ≡ Some at
  pub request : Request
  pub there : slice_get ((run (replay_opening config) events).accepted at.channel) at.place ≡ Some request
  pub asked : request.echo ≡ echo_of (asked_by a.ask)
  pub came : slice_get (acceptances at.channel (begun (replay_opening config)) events) at.place ≡ Some a.round

-- how many requests were noted
abbrev pub noted_count : Times → ℕ
noted_count times = times.reads.to_release.count + times.writes.to_release.count

-- the accepted requests of a port whose replies were not released, and how many were
pub record IsPortTold (config : Config) (events : List Answered) (accepted : List Accepted) (times : Times) (p : ℕ) : Type 0 where
  pub counted : length accepted + length ((run (replay_opening config) events).taken p) ≡ length ((run (replay_opening config) events).sent p)
  pub each : (q : ℕ) (a : Accepted) → slice_get accepted q ≡ Some a → IsAcceptedAt config events p (length ((run (replay_opening config) events).taken p) + q) a
  pub many : noted_count times ≡ length ((run (replay_opening config) events).taken p)

pub record IsRow (config : Config) (events : List Answered) (row : ReleasedRequest) : Type 0 where
  pub is_row : IsRowOf config events row
  pub in_order : IsInOrder row

-- the rows of each port, one for each reply that it released
abbrev pub AreNumbered : Config → List Answered → List ReleasedRequest → Type 0
AreNumbered config events rows = (p : ℕ) → map (λ (row : ReleasedRequest). row.number) (rows_of p rows) ≡ range_with_len 0 (length ((run (replay_opening config) events).taken p))

pub record IsLedger (config : Config) (events : List Answered) (lists : List (List Accepted)) (times : List Times) (keeps : Bool) (rows : List ReleasedRequest) : Type 0 where
  pub lists_are : length lists ≡ config.limits.ports
  pub times_are : length times ≡ config.limits.ports
  pub ports : (p : ℕ) → p < config.limits.ports → IsPortTold config events (slice_index_or lists p []) (slice_index_or times p no_times) p
  pub each : (i : ℕ) (row : ReleasedRequest) → slice_get rows i ≡ Some row → IsRow config events row
  pub numbered : keeps ≡ true → AreNumbered config events rows

-- what is told stays as more events come

pub accepted_still : (config : Config) (events more : List Answered) (p k : ℕ) (a : Accepted) → IsAcceptedAt config events p k a → IsAcceptedAt config (events ++ more) p k a
accepted_still config events more p k a w =
    let on = goes_on (replay_opening config) events more in
    record {
      at = w.at;
      sent_at = on.sent p k w.at w.sent_at;
      request = w.request;
      there = on.accepted w.at.channel w.at.place w.request w.there;
      asked = w.asked;
      came = on.came w.at.channel w.at.place a.round w.came;
    }

pub row_still : (config : Config) (events more : List Answered) (row : ReleasedRequest) → IsRow config events row → IsRow config (events ++ more) row
row_still config events more row w =
    let on = goes_on (replay_opening config) events more in
    let r = w.is_row in
    record {
      is_row = record {
        at = r.at;
        sent = on.sent row.port row.number r.at r.sent;
        request = r.request;
        there = on.accepted r.at.channel r.at.place r.request r.there;
        asked = r.asked;
        port = r.port;
        number = r.number;
        accepted = on.came r.at.channel r.at.place row.accepted r.accepted;
        column = r.column;
        owner = r.owner;
        owned = on.owners r.at.channel r.column r.owner r.owned;
        place = r.place;
        issued = r.issued;
        due = r.due;
      };
      in_order = w.in_order;
    }

-- of a port of which nothing was submitted and nothing released
port_still : (config : Config) (events more : List Answered) (accepted : List Accepted) (times : Times) (p : ℕ) → (run (replay_opening config) (events ++ more)).sent p ≡ (run (replay_opening config) events).sent p
    → (run (replay_opening config) (events ++ more)).taken p ≡ (run (replay_opening config) events).taken p → IsPortTold config events accepted times p → IsPortTold config (events ++ more) accepted times p
port_still config events more accepted times p sent taken k = record {
  counted = ap (λ (ts : List Answer). length accepted + length ts) taken ∙ k.counted ∙ ap (λ (ws : List Whereabouts). length ws) (sym sent);
  each = λ q a at.
      subst (λ (ts : List Answer). IsAcceptedAt config (events ++ more) p (length ts + q) a) (sym taken)
      (accepted_still config events more p (length ((run (replay_opening config) events).taken p) + q) a (k.each q a at));
  many = k.many ∙ ap (λ (ts : List Answer). length ts) (sym taken);
}

pub numbered_still : (config : Config) (events more : List Answered) (rows : List ReleasedRequest) → (run (replay_opening config) (events ++ more)).taken ≡ (run (replay_opening config) events).taken → AreNumbered config events rows
    → AreNumbered config (events ++ more) rows
numbered_still config events more rows taken k p = k p ∙ ap (λ (f : ℕ → List Answer). range_with_len 0 (length (f p))) (sym taken)

pub ledger_still : (config : Config) (events more : List Answered) (lists : List (List Accepted)) (times : List Times) (keeps : Bool) (rows : List ReleasedRequest) → (run (replay_opening config) (events ++ more)).sent ≡ (run (replay_opening config) events).sent
    → (run (replay_opening config) (events ++ more)).taken ≡ (run (replay_opening config) events).taken → IsLedger config events lists times keeps rows → IsLedger config (events ++ more) lists times keeps rows
ledger_still config events more lists times keeps rows sent taken k = record {
  lists_are = k.lists_are;
  times_are = k.times_are;
  ports = λ p inside.
      port_still config events more (slice_index_or lists p []) (slice_index_or times p no_times) p (ap (λ (f : ℕ → List Whereabouts). f p) sent) (ap (λ (f : ℕ → List Answer). f p) taken) (k.ports p inside);
  each = λ i row at. row_still config events more row (k.each i row at);
  numbered = λ kept. numbered_still config events more rows taken (k.numbered kept);
}

-- where one port changed

pub record IsSetAt {X : Type 0} (old new : List X) (p : ℕ) (d x : X) : Type 0 where
  pub as_long : length new ≡ length old
  pub here : slice_index_or new p d ≡ x
  pub others : (q : ℕ) → q ≢ p → slice_index_or new q d ≡ slice_index_or old q d

pub set_at : {X : Type 0} (old : List X) (p : ℕ) (d x : X) → p < length old → IsSetAt old (slice_set old p x) p d x
set_at old p d x inside = record {
  as_long = length-set old p x;
  here = get_or-set_same old p x d inside;
  others = λ q other. get_or-set_other old p q x d other;
}

pub same_at : {X : Type 0} (old : List X) (p : ℕ) (d : X) → IsSetAt old old p d (slice_index_or old p d)
same_at old p d = record { as_long = refl; here = refl; others = λ q other. refl }

pub ledger_with : (config : Config) (events more : List Answered) (lists lists' : List (List Accepted)) (times times' : List Times) (keeps : Bool) (rows rows' : List ReleasedRequest) (p : ℕ) (accepted : List Accepted) (noted : Times) → IsLedger config events lists times keeps rows
    → IsSetAt lists lists' p [] accepted → IsSetAt times times' p no_times noted → ((q : ℕ) → q ≢ p → (run (replay_opening config) (events ++ more)).sent q ≡ (run (replay_opening config) events).sent q)
    → ((q : ℕ) → q ≢ p → (run (replay_opening config) (events ++ more)).taken q ≡ (run (replay_opening config) events).taken q) → IsPortTold config (events ++ more) accepted noted p
    → ((i : ℕ) (row : ReleasedRequest) → slice_get rows' i ≡ Some row → IsRow config (events ++ more) row) → (keeps ≡ true → AreNumbered config (events ++ more) rows') → IsLedger config (events ++ more) lists' times' keeps rows'
ledger_with config events more lists lists' times times' keeps rows rows' p accepted noted k one two sent taken told all numbered = record {
  lists_are = one.as_long ∙ k.lists_are;
  times_are = two.as_long ∙ k.times_are;
  ports = λ q inside. elim (eqb_tells q p) [
    | inl same ↦ subst (λ n. IsPortTold config (events ++ more) (slice_index_or lists' n []) (slice_index_or times' n no_times) n) (sym same.1)
        (subst (λ (xs : List Accepted). IsPortTold config (events ++ more) xs (slice_index_or times' p no_times) p) (sym one.here) (subst (λ (t : Times). IsPortTold config (events ++ more) accepted t p) (sym two.here) told))
    | inr other ↦ subst (λ (xs : List Accepted). IsPortTold config (events ++ more) xs (slice_index_or times' q no_times) q) (sym (one.others q other.1))
        (subst (λ (t : Times). IsPortTold config (events ++ more) (slice_index_or lists q []) t q) (sym (two.others q other.1))
        (port_still config events more (slice_index_or lists q []) (slice_index_or times q no_times) q (sent q other.1) (taken q other.1) (k.ports q inside)))
  ];
  each = all;
  numbered = numbered;
}

-- before the first event
pub ledger_begun : (config : Config) (keeps : Bool) → IsLedger config [] (replicate config.limits.ports []) (replicate config.limits.ports no_times) keeps []
ledger_begun config keeps = record {
  lists_are = length-replicate config.limits.ports [];
  times_are = length-replicate config.limits.ports no_times;
  ports = λ p inside.
      subst (λ (xs : List Accepted). IsPortTold config [] xs (slice_index_or (replicate config.limits.ports no_times) p no_times) p) (sym (get_or-replicate config.limits.ports p [] [] inside))
      (subst (λ (t : Times). IsPortTold config [] [] t p) (sym (get_or-replicate config.limits.ports p no_times no_times inside)) (record {
        counted = refl;
        each = λ q a at. absurd (let impossible = at in cc);
        many = refl;
      }));
  each = λ i row at. absurd (let impossible = at in cc);
  numbered = λ kept p. refl;
}

-- what channels do in their cycles changes nothing of it

pub acted_lists : (now n : ℕ) (s : State) (ledger : Ledger)
    → ((all_acted now 1 (seen_at s) n ledger).accepted ≡ ledger.accepted) × ((all_acted now 1 (seen_at s) n ledger).ports ≡ ledger.ports) × ((all_acted now 1 (seen_at s) n ledger).keeps ≡ ledger.keeps) × ((all_acted now 1 (seen_at s) n ledger).served ≡ ledger.served)
acted_lists now zero s ledger = (refl, refl, refl, refl)
acted_lists now (suc c) s ledger = acted_lists now c s ledger

-- the times of one request more

kind_count : (kind : Kind) (to_issue to_release n : ℕ) (times : Times) → noted_count times ≡ n → n < 18446744073709551615 → noted_count (with_kind kind to_issue to_release times) ≡ n + 1
unfolding with_time
kind_count Read to_issue to_release n times is few = omega (arith, is, few)
kind_count Write to_issue to_release n times is few = omega (arith, is, few)

pub timed_count : (accepted : Accepted) (issued round n : ℕ) (times : Times) → noted_count times ≡ n → n < 18446744073709551615 → noted_count (timed accepted issued round times) ≡ n + 1
unfolding timed
timed_count accepted issued round n times is few = kind_count accepted.ask.kind (issued - accepted.round) (round - accepted.round) n times is few

pub count_noted : (n : ℕ) (times : Times) → noted_count times ≡ n → n < 18446744073709551615 → count_of times ≡ n
count_noted n times is few = omega (arith, is, few)

-- one row more

number_last : (n : ℕ) → range_with_len 0 (n + 1) ≡ range_with_len 0 n ++ n ∷ []
number_last n = sym (map-id (range_with_len 0 (n + 1))) ∙ map-range_with_len_more (λ i. i) 0 n n (omega arith) ∙ ap (λ (xs : List ℕ). xs ++ n ∷ []) (map-id (range_with_len 0 n))

row_pushed : (p : ℕ) (rows : List ReleasedRequest) (row : ReleasedRequest) (b : Bool) → eqb row.port p ≡ b → map (λ (x : ReleasedRequest). x.number) (rows_of p (rows ++ row ∷ [])) ≡ map (λ (x : ReleasedRequest). x.number) (rows_of p rows) ++ cond b (row.number ∷ []) []
row_pushed p rows row b is =
    ap (map (λ (x : ReleasedRequest). x.number)) (filter-append (λ (x : ReleasedRequest). eqb x.port p) rows (row ∷ []))
    ∙ map-append (λ (x : ReleasedRequest). x.number) (rows_of p rows) (rows_of p (row ∷ []))
    ∙ ap (λ (xs : List ℕ). map (λ (x : ReleasedRequest). x.number) (rows_of p rows) ++ xs) (ap (λ t. map (λ (x : ReleasedRequest). x.number) (cond t (row ∷ []) [])) is ∙ by_port b)
  where
    by_port : (t : Bool) → map (λ (x : ReleasedRequest). x.number) (cond t (row ∷ []) []) ≡ cond t (row.number ∷ []) []
    by_port true = refl
    by_port false = refl

pub numbered_more : (config : Config) (events more : List Answered) (rows : List ReleasedRequest) (row : ReleasedRequest) → length ((run (replay_opening config) (events ++ more)).taken row.port) ≡ length ((run (replay_opening config) events).taken row.port) + 1
    → row.number ≡ length ((run (replay_opening config) events).taken row.port) → ((q : ℕ) → q ≢ row.port → (run (replay_opening config) (events ++ more)).taken q ≡ (run (replay_opening config) events).taken q)
    → AreNumbered config events rows → AreNumbered config (events ++ more) (rows ++ row ∷ [])
numbered_more config events more rows row longer number others k p = elim (eqb_tells row.port p) [
  | inl same ↦ (let n = length ((run (replay_opening config) events).taken row.port) in
      let was : map (λ (x : ReleasedRequest). x.number) (rows_of p rows) ≡ range_with_len 0 n = k p ∙ ap (λ q. range_with_len 0 (length ((run (replay_opening config) events).taken q))) (sym same.1) in
      row_pushed p rows row true (eq-eqb row.port p same.1) ∙ ap (λ (xs : List ℕ). xs ++ row.number ∷ []) was ∙ ap (λ m. range_with_len 0 n ++ m ∷ []) number
      ∙ sym (number_last n) ∙ ap (range_with_len 0) (sym longer) ∙ ap (λ q. range_with_len 0 (length ((run (replay_opening config) (events ++ more)).taken q))) same.1)
  | inr other ↦ row_pushed p rows row false (ne_eqb row.port p other.1) ∙ append-nil (map (λ (x : ReleasedRequest). x.number) (rows_of p rows)) ∙ k p
      ∙ ap (λ (ts : List Answer). range_with_len 0 (length ts)) (sym (others p (λ same. other.1 (sym same))))
]
