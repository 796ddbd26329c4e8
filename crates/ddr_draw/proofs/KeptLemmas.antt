-- One command more of a trace of which a part is kept.
use Rattle.std.proofs.Common.{◌≡◌, ℕ, zero, suc, ◌+◌, ◌-◌, ◌<◌, ◌≤◌, ◌⊎◌, Bool, true, false, ◌&&◌, cond, List, [], ◌∷◌, ◌++◌, length, take, drop, Option, Some, None, inl, inr, refl, sym, ap, ◌∙◌, arith, append_assoc, add-one, length-append, length-drop}
use Rattle.std.specs.Prelude.{codes, flat_map, not, slice_get}
use Rattle.std.specs.List.{list_all, list_any, range_with_len}
use Rattle.std.specs.Option.{option_map_or}
use Rattle.std.proofs.lemmas.Bool.{cond-false}
use Rattle.std.proofs.lemmas.List.{append-nil, take-append-drop, take-append-le}
use Rattle.std.proofs.lemmas.List.Folds.{list_all-append}
use Rattle.std.proofs.Math.Seq.{drop-append-add, take-append_seam}
use Rattle.ddr_timing.specs.declared.config.Config.{Config}
use Rattle.ddr_trace.specs.declared.command.Entry.{Entry}
use Rattle.ddr_trace.specs.Commands.{is_activate, is_column}
use Rattle.ddr_trace.specs.Rules.{is_in}
use Rattle.ddr_draw.specs.declared.held.TheConstants.{MOST_BACK}
use Rattle.ddr_draw.specs.declared.kept_bars.Bar.{Bar}
use Rattle.ddr_draw.specs.declared.kept_boxes.CommandBox.{CommandBox}
use Rattle.ddr_draw.specs.declared.sketch.Sketch.{Sketch}
use Rattle.ddr_draw.specs.declared.view.View.{View}
use Rattle.ddr_draw.specs.Changes.{is_closing, next_closing, next_column}
use Rattle.ddr_draw.specs.Held.{held_by}
use Rattle.ddr_draw.specs.Lanes.{bank_box, bars, bus_box, busy_until, command_at, command_of, commands, ground, picture_text, title}
use Rattle.ddr_draw.specs.Names.{after}
use Rattle.ddr_draw.specs.Scale.{is_seen}
use Rattle.ddr_draw.specs.Sketch.{AreLast, IsWithin, Shows, are_bars_kept, are_boxes_kept, bar_by, bars_alone, bars_before, behind, box_by, boxes_of, first_of, has_box, held_among, is_bar_kept, is_ended_by, is_ending, is_gone, may_have_bar, next_ending, sketch_text, title_by}
use Rattle.ddr_draw.proofs.BankLemmas.{number_more}
use Rattle.ddr_draw.proofs.SketchLemmas.{bar_first, gone_text, no_bar, or_left, or_right, unseen}

-- ---- bars

ending_first : (e m : Entry) (later : List Entry) → next_ending e (m ∷ later) ≡ cond (is_ending e m) (Some m) (next_ending e later)
ending_first e m later = go (is_activate e.command)
  where
    go : (act : Bool) → cond act (next_closing e.command (m ∷ later)) (next_column (m ∷ later)) ≡ cond (cond act (is_closing e.command m.command) (is_column m.command)) (Some m) (cond act (next_closing e.command later) (next_column later))
    go true = refl
    go false = refl

ended_first : (e m : Entry) (next : Option Entry) (later : List Entry) → first_of next (next_ending e (m ∷ later)) ≡ first_of (cond (is_ended_by e next m) (Some m) next) (next_ending e later)
ended_first e m (Some n) later = refl
ended_first e m None later = ending_first e m later ∙ go (is_ending e m)
  where
    go : (b : Bool) → cond b (Some m) (next_ending e later) ≡ first_of (cond b (Some m) None) (next_ending e later)
    go true = refl
    go false = refl

unended_first : (e m : Entry) (next : Option Entry) (later : List Entry) → is_ended_by e next m ≡ false → first_of next (next_ending e (m ∷ later)) ≡ first_of next (next_ending e later)
unended_first e m next later h = ended_first e m next later ∙ ap (λ b. first_of (cond b (Some m) next) (next_ending e later)) h

module _ (c : Config) (v : View) where
  -- a bar more is behind the command, and was kept
  pub ended_kept : (b : Bar) (m : Entry) (rest : List Bar) (kept : List Bar) (later : List Entry)
      → bars_before c v kept later ++ bars_before c v (b ∷ rest) (m ∷ later) ≡ bars_before c v (kept ++ behind b m ∷ []) later ++ bars_before c v rest (m ∷ later)
  ended_kept b m rest [] later =
      ap (λ next. bar_by c v b.entry next ++ bars_before c v rest (m ∷ later)) (ended_first b.entry m b.next later)
      ∙ ap (λ text. text ++ bars_before c v rest (m ∷ later)) (sym (append-nil (bar_by c v b.entry (first_of (behind b m).next (next_ending b.entry later)))))
  ended_kept b m rest (k ∷ kept) later =
      let text = bar_by c v k.entry (first_of k.next (next_ending k.entry later)) in
      append_assoc text (bars_before c v kept later) (bars_before c v (b ∷ rest) (m ∷ later))
      ∙ ap (λ more. text ++ more) (ended_kept b m rest kept later)
      ∙ sym (append_assoc text (bars_before c v (kept ++ behind b m ∷ []) later) (bars_before c v rest (m ∷ later)))

  -- or let go
  pub ended_gone : (wide : View) (b : Bar) (m : Entry) (rest kept : List Bar) (later : List Entry) → IsWithin v wide → is_gone c wide (behind b m).entry (behind b m).next ≡ true
      → bars_before c v kept later ++ bars_before c v (b ∷ rest) (m ∷ later) ≡ bars_before c v kept later ++ bars_before c v rest (m ∷ later)
  ended_gone wide b m rest kept later within gone =
      ap (λ text. bars_before c v kept later ++ (text ++ bars_before c v rest (m ∷ later)))
      (ap (bar_by c v b.entry) (ended_first b.entry m b.next later) ∙ gone_text c v wide b.entry (behind b m).next (next_ending b.entry later) within gone)

  -- a command that ends none
  pub none_ended : (bs : List Bar) (m : Entry) (later : List Entry) → list_any (λ b. is_ended_by b.entry b.next m) bs ≡ false → bars_before c v bs later ≡ bars_before c v bs (m ∷ later)
  none_ended [] m later h = refl
  none_ended (b ∷ bs) m later h =
      let here = is_ended_by b.entry b.next m in
      let more = list_any (λ k. is_ended_by k.entry k.next m) bs in
      ap (λ next. bar_by c v b.entry next ++ bars_before c v bs later) (sym (unended_first b.entry m b.next later (or_left here more h)))
      ∙ ap (λ text. bar_by c v b.entry (first_of b.next (next_ending b.entry (m ∷ later))) ++ text) (none_ended bs m later (or_right here more h))

  -- a bar more
  pub bar_more : (bs : List Bar) (e : Entry) (later : List Entry) → bars_before c v (bs ++ record { entry = e; next = None } ∷ []) later ≡ bars_before c v bs later ++ bar_by c v e (next_ending e later)
  bar_more [] e later = append-nil (bar_by c v e (next_ending e later))
  bar_more (b ∷ bs) e later =
      let text = bar_by c v b.entry (first_of b.next (next_ending b.entry later)) in
      ap (λ more. text ++ more) (bar_more bs e later) ∙ sym (append_assoc text (bars_before c v bs later) (bar_by c v e (next_ending e later)))

  -- or none, where there is none in the wider view
  pub bar_none : (wide : View) (bs : List Bar) (e : Entry) (later : List Entry) → IsWithin v wide → may_have_bar c wide e ≡ false → bars_before c v bs later ≡ bars_before c v bs later ++ bar_by c v e (next_ending e later)
  bar_none wide bs e later within none =
      sym (append-nil (bars_before c v bs later)) ∙ ap (λ text. bars_before c v bs later ++ text) (sym (no_bar c v wide e (next_ending e later) within none))

  ending_none : (e : Entry) (next : Option Entry) → first_of next (next_ending e []) ≡ next
  ending_none e (Some n) = refl
  ending_none e None = go (is_activate e.command)
    where
      go : (b : Bool) → cond b (next_closing e.command []) (next_column []) ≡ None
      go true = refl
      go false = refl

  -- with no command behind them
  pub before_none : (bs : List Bar) → bars_before c v bs [] ≡ bars_alone c v bs
  before_none [] = refl
  before_none (b ∷ bs) =
      ap (λ next. bar_by c v b.entry next ++ bars_before c v bs []) (ending_none b.entry b.next)
      ∙ ap (λ text. bar_by c v b.entry b.next ++ text) (before_none bs)

-- ---- boxes

-- what is looked at is among the last
pub last_back : (last entries : List Entry) → AreLast last entries → drop (length entries - MOST_BACK) entries ≡ drop (length last - MOST_BACK) last
last_back last entries are = go are.many
  where
    counted : length entries ≡ length are.front + length last
    counted = ap length are.whole ∙ length-append are.front last

    go : (are.front ≡ []) ⊎ (MOST_BACK ≤ length last) → drop (length entries - MOST_BACK) entries ≡ drop (length last - MOST_BACK) last
    go (inl none) =
        let same : entries ≡ last = are.whole ∙ ap (λ f. f ++ last) none in
        ap (λ es. drop (length es - MOST_BACK) es) same
    go (inr many) =
        let at : length entries - MOST_BACK ≡ length are.front + (length last - MOST_BACK) = omega (arith, counted, many) in
        ap (λ n. drop n entries) at ∙ ap (drop (length are.front + (length last - MOST_BACK))) are.whole
        ∙ drop-append-add are.front last (length last - MOST_BACK)

module _ (c : Config) (v : View) where
  box_at : (history : List Entry) (place : ℕ) (e : Entry) → command_at c v history place e ≡ box_by c v place e (held_by c history e)
  unfolding command_at box_by title title_by
  box_at history place e = refl

  held_last : (last entries : List Entry) (e : Entry) → AreLast last entries → held_by c entries e ≡ held_among c (length entries - MOST_BACK) (drop (length last - MOST_BACK) last) e
  unfolding held_by held_among
  held_last last entries e are = ap (λ recent. held_among c (length entries - MOST_BACK) recent e) (last_back last entries are)

  no_bus_box : (e : Entry) (text : List ℕ) → is_seen v e.cycle (after e.cycle 1) ≡ false → bus_box v e text ≡ []
  unfolding bus_box
  no_bus_box e text h = cond-false _ _ _ h

  no_bank_box : (e : Entry) (text : List ℕ) → (is_in c.geometry e.command && is_seen v e.cycle (busy_until c.timing e)) ≡ false → bank_box c v e text ≡ []
  unfolding bank_box
  no_bank_box e text h = cond-false _ _ _ h

  unseen_bank : (wide : View) (e : Entry) → IsWithin v wide → (is_in c.geometry e.command && is_seen wide e.cycle (busy_until c.timing e)) ≡ false → (is_in c.geometry e.command && is_seen v e.cycle (busy_until c.timing e)) ≡ false
  unseen_bank wide e within h = go (is_in c.geometry e.command) (is_seen wide e.cycle (busy_until c.timing e)) refl h
    where
      go : (inside seen : Bool) → is_seen wide e.cycle (busy_until c.timing e) ≡ seen → (inside && seen) ≡ false → (inside && is_seen v e.cycle (busy_until c.timing e)) ≡ false
      go false seen is none = refl
      go true true is none = absurd cc
      go true false is none = unseen v wide e.cycle (busy_until c.timing e) (busy_until c.timing e) within (omega arith) is

  no_box : (wide : View) (place : ℕ) (e : Entry) (history : List Entry) → IsWithin v wide → has_box c wide e ≡ false → command_at c v history place e ≡ []
  unfolding command_at
  no_box wide place e history within none =
      let bus = is_seen wide e.cycle (after e.cycle 1) in
      let bank = is_in c.geometry e.command && is_seen wide e.cycle (busy_until c.timing e) in
      let words = title c history place e in
      ap (λ text. text ++ bank_box c v e words) (no_bus_box e words (unseen v wide e.cycle (after e.cycle 1) (after e.cycle 1) within (omega arith) (or_left bus bank none)))
      ∙ no_bank_box e words (unseen_bank wide e within (or_right bus bank none))

  boxes_more : (bs : List CommandBox) (b : CommandBox) → boxes_of c v (bs ++ b ∷ []) ≡ boxes_of c v bs ++ box_by c v b.place b.entry b.held
  boxes_more [] b = append-nil (box_by c v b.place b.entry b.held)
  boxes_more (k ∷ bs) b =
      let text = box_by c v k.place k.entry k.held in
      ap (λ more. text ++ more) (boxes_more bs b) ∙ sym (append_assoc text (boxes_of c v bs) (box_by c v b.place b.entry b.held))

-- ---- the commands of a trace that goes on

get_same : {X : Type 0} (xs ys : List X) (n : ℕ) → n < length xs → slice_get (xs ++ ys) n ≡ slice_get xs n
get_same [] ys n below = absurd (omega (arith, below))
get_same (x ∷ xs) ys zero below = refl
get_same (x ∷ xs) ys (suc n) below = get_same xs ys n (omega (arith, below))

get_last : {X : Type 0} (xs : List X) (y : X) → slice_get (xs ++ y ∷ []) (length xs) ≡ Some y
get_last [] y = refl
get_last (x ∷ xs) y = get_last xs y

module _ (c : Config) (v : View) where
  command_same : (h more : List Entry) (n : ℕ) → n < length h → command_of c v (h ++ more) n ≡ command_of c v h n
  command_same h more n below =
      ap (λ history. option_map_or (λ e. command_at c v history n e) (slice_get (h ++ more) n) []) (take-append-le n h more (omega (arith, below)))
      ∙ ap (λ (o : Option Entry). option_map_or (λ e. command_at c v (take n h) n e) o []) (get_same h more n below)

  commands_same : (h more : List Entry) (n : ℕ) → n ≤ length h → flat_map (command_of c v (h ++ more)) (range_with_len 0 n) ≡ flat_map (command_of c v h) (range_with_len 0 n)
  commands_same h more zero below = refl
  commands_same h more (suc n) below =
      ap (λ k. flat_map (command_of c v (h ++ more)) (range_with_len 0 k)) (sym (add-one n))
      ∙ number_more (command_of c v (h ++ more)) n
      ∙ ap (λ text. text ++ command_of c v (h ++ more) n) (commands_same h more n (omega (arith, below)))
      ∙ ap (λ text. flat_map (command_of c v h) (range_with_len 0 n) ++ text) (command_same h more n (omega (arith, below)))
      ∙ sym (number_more (command_of c v h) n)
      ∙ ap (λ k. flat_map (command_of c v h) (range_with_len 0 k)) (add-one n)

  last_command : (h : List Entry) (e : Entry) → command_of c v (h ++ e ∷ []) (length h) ≡ command_at c v h (length h) e
  last_command h e =
      ap (λ history. option_map_or (λ a. command_at c v history (length h) a) (slice_get (h ++ e ∷ []) (length h)) []) (take-append_seam h (e ∷ []))
      ∙ ap (λ (o : Option Entry). option_map_or (λ a. command_at c v h (length h) a) o []) (get_last h e)

  -- a command more
  pub commands_more : (h : List Entry) (e : Entry) → commands c v (h ++ e ∷ []) ≡ commands c v h ++ command_at c v h (length h) e
  commands_more h e =
      ap (λ n. flat_map (command_of c v (h ++ e ∷ [])) (range_with_len 0 n)) (length-append h (e ∷ []))
      ∙ number_more (command_of c v (h ++ e ∷ [])) (length h)
      ∙ ap (λ text. text ++ command_of c v (h ++ e ∷ []) (length h)) (commands_same h (e ∷ []) (length h) (omega arith))
      ∙ ap (λ text. commands c v h ++ text) (last_command h e)

  -- the box of a command is kept
  pub box_kept : (bs : List CommandBox) (last entries : List Entry) (e : Entry) → AreLast last entries
      → boxes_of c v (bs ++ record { place = length entries; entry = e; held = held_among c (length entries - MOST_BACK) (drop (length last - MOST_BACK) last) e } ∷ [])
      ≡ boxes_of c v bs ++ command_at c v entries (length entries) e
  box_kept bs last entries e are =
      boxes_more c v bs (record { place = length entries; entry = e; held = held_among c (length entries - MOST_BACK) (drop (length last - MOST_BACK) last) e })
      ∙ ap (λ held. boxes_of c v bs ++ box_by c v (length entries) e held) (sym (held_last c v last entries e are))
      ∙ ap (λ text. boxes_of c v bs ++ text) (sym (box_at c v entries (length entries) e))

  -- or there is none
  pub box_none : (wide : View) (bs : List CommandBox) (entries : List Entry) (place : ℕ) (e : Entry) → IsWithin v wide → has_box c wide e ≡ false → boxes_of c v bs ≡ boxes_of c v bs ++ command_at c v entries place e
  box_none wide bs entries place e within none =
      sym (append-nil (boxes_of c v bs)) ∙ ap (λ text. boxes_of c v bs ++ text) (sym (no_box c v wide place e entries within none))

-- ---- the whole

pub last_none : AreLast [] []
last_none = record { front = []; whole = refl; many = inl refl }

-- a command more, behind the last ones or behind those of them that are looked at
pub last_more : (last entries : List Entry) (e : Entry) → AreLast last entries → AreLast (last ++ e ∷ []) (entries ++ e ∷ [])
last_more last entries e are = record {
  front = are.front;
  whole = ap (λ es. es ++ e ∷ []) are.whole ∙ append_assoc are.front last (e ∷ []);
  many = go are.many;
}
  where
    go : (are.front ≡ []) ⊎ (MOST_BACK ≤ length last) → (are.front ≡ []) ⊎ (MOST_BACK ≤ length (last ++ e ∷ []))
    go (inl none) = inl none
    go (inr many) = inr (omega (arith, many, length-append last (e ∷ [])))

pub last_cut : (n : ℕ) (last entries : List Entry) → AreLast last entries → MOST_BACK + n ≤ length last → AreLast (drop n last) entries
last_cut n last entries are many = record {
  front = are.front ++ take n last;
  whole = are.whole ∙ ap (λ es. are.front ++ es) (sym (take-append-drop n last)) ∙ sym (append_assoc are.front (take n last) (drop n last));
  many = inr (omega (arith, many, length-drop n last));
}

module _ (c : Config) where
  pub shows_none : (s : Sketch) → s.count ≡ 0 → s.recent.items ≡ [] → s.bars.items ≡ [] → s.boxes.items ≡ [] → Shows c s []
  shows_none s counted recent bars boxes = record {
    counted = counted;
    last = rw recent last_none;
    bars = λ v later within. rw bars refl;
    boxes = λ v within. rw boxes refl;
  }

  pub shows_more : (old new : Sketch) (e : Entry) (entries : List Entry) → Shows c old entries → new.view ≡ old.view → new.count ≡ old.count + 1 → AreLast new.recent.items (entries ++ e ∷ [])
      → ((v : View) (later : List Entry) → IsWithin v old.view → bars_before c v new.bars.items later ≡ bars_before c v old.bars.items (e ∷ later) ++ bar_by c v e (next_ending e later))
      → ((v : View) → IsWithin v old.view → boxes_of c v new.boxes.items ≡ boxes_of c v old.boxes.items ++ command_at c v entries (length entries) e)
      → Shows c new (entries ++ e ∷ [])
  shows_more old new e entries shows view counted last bars_now boxes_now = record {
    counted = counted ∙ ap (λ n. n + 1) shows.counted ∙ sym (length-append entries (e ∷ []));
    last = last;
    bars = λ v later within.
        let inside = rw view at within in
        ap (bars c v) (append_assoc entries (e ∷ []) later)
        ∙ shows.bars v (e ∷ later) inside
        ∙ ap (λ text. bars_before c v old.bars.items (e ∷ later) ++ text) (bar_first c v e later)
        ∙ sym (append_assoc (bars_before c v old.bars.items (e ∷ later)) (bar_by c v e (next_ending e later)) (bars c v later))
        ∙ ap (λ text. text ++ bars c v later) (sym (bars_now v later inside));
    boxes = λ v within.
        let inside = rw view at within in
        commands_more c v entries e ∙ ap (λ text. text ++ command_at c v entries (length entries) e) (shows.boxes v inside) ∙ sym (boxes_now v inside);
  }

  -- the whole picture
  pub shown_bars : (s : Sketch) (entries : List Entry) (v : View) → IsWithin v s.view → Shows c s entries → bars_alone c v s.bars.items ≡ bars c v entries
  shown_bars s entries v within shows =
      sym (before_none c v s.bars.items) ∙ sym (append-nil (bars_before c v s.bars.items []))
      ∙ sym (shows.bars v [] within) ∙ ap (bars c v) (append-nil entries)

  pub pictured : (s : Sketch) (entries : List Entry) (v : View) → IsWithin v s.view → Shows c s entries → sketch_text c v s ≡ picture_text c v entries
  unfolding sketch_text picture_text
  pictured s entries v within shows =
      ap (λ text. ground c.geometry v ++ (text ++ (boxes_of c v s.boxes.items ++ codes "</svg>\n"))) (shown_bars s entries v within shows)
      ∙ ap (λ text. ground c.geometry v ++ (bars c v entries ++ (text ++ codes "</svg>\n"))) (sym (shows.boxes v within))

-- ---- no more is kept

both : (a b : Bool) → a ≡ true → b ≡ true → (a && b) ≡ true
both true true p q = refl
both true false p q = absurd cc
both false b p q = absurd cc

left_true : (a b : Bool) → (a && b) ≡ true → a ≡ true
left_true true b h = refl
left_true false b h = absurd cc

right_true : (a b : Bool) → (a && b) ≡ true → b ≡ true
right_true true b h = h
right_true false b h = absurd cc

all_more : {X : Type 0} (p : X → Bool) (xs : List X) (x : X) → list_all p xs ≡ true → p x ≡ true → list_all p (xs ++ x ∷ []) ≡ true
all_more p xs x all here = list_all-append p xs (x ∷ []) ∙ both (list_all p xs) (p x && true) all (both (p x) true here refl)

pub box_more : (c : Config) (v : View) (bs : List CommandBox) (b : CommandBox) → are_boxes_kept c v bs ≡ true → has_box c v b.entry ≡ true → are_boxes_kept c v (bs ++ b ∷ []) ≡ true
box_more c v bs b all here = all_more (λ k. has_box c v k.entry) bs b all here

pub open_bar : (c : Config) (v : View) (bs : List Bar) (e : Entry) → are_bars_kept c v bs ≡ true → may_have_bar c v e ≡ true → are_bars_kept c v (bs ++ record { entry = e; next = None } ∷ []) ≡ true
open_bar c v bs e all here = all_more (is_bar_kept c v) bs (record { entry = e; next = None }) all (both (may_have_bar c v e) true here refl)

pub first_kept : (c : Config) (v : View) (b : Bar) (bs : List Bar) → are_bars_kept c v (b ∷ bs) ≡ true → may_have_bar c v b.entry ≡ true
first_kept c v b bs all = left_true (may_have_bar c v b.entry) (not (is_gone c v b.entry b.next)) (left_true (is_bar_kept c v b) (are_bars_kept c v bs) all)

pub rest_kept : (c : Config) (v : View) (b : Bar) (bs : List Bar) → are_bars_kept c v (b ∷ bs) ≡ true → are_bars_kept c v bs ≡ true
rest_kept c v b bs all = right_true (is_bar_kept c v b) (are_bars_kept c v bs) all

pub ended_bar : (c : Config) (v : View) (bs : List Bar) (b : Bar) → are_bars_kept c v bs ≡ true → may_have_bar c v b.entry ≡ true → is_gone c v b.entry b.next ≡ false → are_bars_kept c v (bs ++ b ∷ []) ≡ true
ended_bar c v bs b all may stays = all_more (is_bar_kept c v) bs b all (both (may_have_bar c v b.entry) (not (is_gone c v b.entry b.next)) may (ap not stays))
