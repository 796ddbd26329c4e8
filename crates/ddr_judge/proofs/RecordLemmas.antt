-- Records that grow by one.
use Rattle.std.proofs.Common.{◌≡◌, ◌≢◌, ℕ, ◌+◌, ◌<◌, ◌≤◌, Bool, true, false, ◌==◌, max, List, [], ◌∷◌, ◌++◌, length, Option, Some, None, option_map, refl, ap, ◌∙◌, arith}
use Rattle.std.proofs.lemmas.Bool.Decides.{nat_tests}
use Rattle.std.proofs.lemmas.List.{append-nil, map-append}
use Rattle.std.proofs.lemmas.List.Elements.{filter-append}
use Rattle.std.proofs.lemmas.List.Sums.{fold-append}
use Rattle.std.proofs.lemmas.Option.{slice_get_past}
use Rattle.ddr_judge.specs.Records.{AllBelow, Record, end_behind, entries_of, of_channel, line_at}
use Rattle.ddr_judge.proofs.TraceLemmas.{kept_at, last_at}

module _ (records : List Record) (x : Record) where
  pub entries_more : entries_of (records ++ x ∷ []) ≡ entries_of records ++ x.entry ∷ []
  entries_more = map-append (λ r. r.entry) records (x ∷ [])

  pub channel_same : (channel : ℕ) → x.channel ≡ channel → of_channel channel (records ++ x ∷ []) ≡ of_channel channel records ++ x ∷ []
  channel_same channel same =
      let on : (x.channel == channel) ≡ true = grind (arith, nat_tests) in
      filter-append (λ r. r.channel == channel) records (x ∷ []) ∙ rw on refl

  pub channel_other : (channel : ℕ) → x.channel ≢ channel → of_channel channel (records ++ x ∷ []) ≡ of_channel channel records
  channel_other channel other =
      let off : (x.channel == channel) ≡ false = grind (arith, nat_tests) in
      filter-append (λ r. r.channel == channel) records (x ∷ []) ∙ rw off (append-nil (of_channel channel records))

  pub line_kept : (place : ℕ) → place < length records → line_at (records ++ x ∷ []) place ≡ line_at records place
  line_kept place before = ap (λ (o : Option Record). option_map (λ r. r.line) o) (kept_at records x place before)

  pub line_last : line_at (records ++ x ∷ []) (length records) ≡ Some x.line
  line_last = ap (λ (o : Option Record). option_map (λ r. r.line) o) (last_at records x)

  pub end_more : (start : ℕ) → end_behind start (records ++ x ∷ []) ≡ max (end_behind start records) (x.entry.cycle + 1)
  end_more start = fold-append (λ end r. max end (r.entry.cycle + 1)) start records (x ∷ [])

pub line_past : (records : List Record) → line_at records (length records) ≡ None
line_past records = ap (λ (o : Option Record). option_map (λ r. r.line) o) (slice_get_past records (length records) (omega arith))

start_within : (start : ℕ) (records : List Record) → start ≤ end_behind start records
start_within start [] = omega arith
start_within start (r ∷ records) = omega (arith, start_within (max start (r.entry.cycle + 1)) records)

module _ (r : Record) (channel : ℕ) (records : List Record) where
  -- a record in front, of the channel or of another
  more_below : (end : ℕ) → r.entry.cycle < end → AllBelow end (entries_of (of_channel channel records)) → AllBelow end (entries_of (of_channel channel (r ∷ records)))
  more_below end below rest = by_channel (r.channel == channel) refl
    where
      by_channel : (w : Bool) → (r.channel == channel) ≡ w → AllBelow end (entries_of (of_channel channel (r ∷ records)))
      by_channel true on = rw on (below, rest)
      by_channel false off = rw off rest

  one_more : length (of_channel channel records) ≤ length records → length (of_channel channel (r ∷ records)) ≤ length (r ∷ records)
  one_more rest = by_channel (r.channel == channel) refl
    where
      by_channel : (w : Bool) → (r.channel == channel) ≡ w → length (of_channel channel (r ∷ records)) ≤ length (r ∷ records)
      by_channel true on = rw on (omega arith)
      by_channel false off = rw off (omega arith)

-- a channel's entries stand before the end that is behind every command
pub channel_below : (start end channel : ℕ) (records : List Record) → end_behind start records ≤ end → AllBelow end (entries_of (of_channel channel records))
channel_below start end channel [] behind = tt
channel_below start end channel (r ∷ records) behind =
    more_below r channel records end (omega (arith, start_within (max start (r.entry.cycle + 1)) records))
    (channel_below (max start (r.entry.cycle + 1)) end channel records behind)

-- a channel has no more commands than there are
pub channel_length : (channel : ℕ) (records : List Record) → length (of_channel channel records) ≤ length records
channel_length channel [] = omega arith
channel_length channel (r ∷ records) = one_more r channel records (channel_length channel records)
