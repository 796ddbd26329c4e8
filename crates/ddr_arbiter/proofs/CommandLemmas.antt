-- What a legal command says of its bank, and what the open row says of a place.
use Rattle.std.proofs.Common.{◌≡◌, ℕ, ◌+◌, ◌/◌, Bool, true, false, ◌&&◌, not, eqb, ltb, List, Option, Some, None, refl, sym, ap, ◌∙◌, inl, inr, arith}
use Rattle.std.specs.Option.{is_none, is_some}
use Rattle.std.proofs.lemmas.Bool.{and_from, and_parts, cases_Bool, lt-ltb, ltb-true, not-false, true≢false}
use Rattle.ddr_timing.specs.declared.geometry.Geometry.{Geometry}
use Rattle.ddr_timing.specs.declared.units.TheConstants.{LINE_COLUMNS}
use Rattle.ddr_timing.specs.declared.config.Config.{Config}
use Rattle.ddr_trace.specs.declared.command.Command.{Command}
use Rattle.ddr_trace.specs.declared.command.Entry.{Entry}
use Rattle.ddr_trace.specs.declared.rule.Rule.TheVariants as rule
use Rattle.ddr_trace.specs.Banks.{bank_behind, is_row, open_row}
use Rattle.ddr_trace.specs.Commands.{entry}
use Rattle.ddr_trace.specs.Legality.{KeepsRules, lowest_rule}
use Rattle.ddr_trace.specs.Rules.{breaks, is_bank_in, is_in, is_line_in}
use Rattle.ddr_legality.specs.Bus.{Bus, broken_now, is_legal_now}
use Rattle.ddr_legality.proofs.LegalLemmas.{keeps_from_none}
use Rattle.ddr_address_map.specs.declared.place.Place.{Place}
use Rattle.ddr_address_map.specs.declared.request.Kind.{Kind}
use Rattle.ddr_address_map.specs.declared.request.Kind.TheVariants.{Read, Write}
use Rattle.ddr_address_map.specs.Requests.{Request}
use Rattle.ddr_arbiter.specs.Commands.{activate_at, precharge_at, column_at, column_of}
use Rattle.ddr_arbiter.specs.Choice.{is_on_other_row, is_row_open, open_row_at}

no_option : {X : Type 0} (o : Option X) → is_none o ≡ true → o ≡ None
no_option None is = refl
no_option (Some x) is = cc

-- a legal command breaks no rule
pub legal_none : (b : Bus) (c : Command) → is_legal_now b c ≡ true → broken_now b c ≡ None
legal_none b c legal = no_option (broken_now b c) legal

-- and one that breaks none is legal
pub legal_from_none : (b : Bus) (c : Command) → broken_now b c ≡ None → is_legal_now b c ≡ true
legal_from_none b c none = ap is_none none

-- a legal command keeps each
pub legal_keeps : (b : Bus) (c : Command) → is_legal_now b c ≡ true → KeepsRules b.config b.start (b.now + 1) b.trace (entry b.now c)
legal_keeps b c legal = keeps_from_none b.config b.start (b.now + 1) b.trace (entry b.now c) (legal_none b c legal)

-- the column command of a place is of its bank
pub column_bank : (auto : Bool) (kind : Kind) (p : Place) (trace : List Entry) → bank_behind (column_at auto kind p) trace ≡ bank_behind (precharge_at p) trace
unfolding bank_behind
column_bank false Read p trace = refl
column_bank false Write p trace = refl
column_bank true Read p trace = refl
column_bank true Write p trace = refl

-- every rule counts an RDA as the RD, and a WRA as the WR
pub auto_alike : (b : Bus) (kind : Kind) (p : Place) → broken_now b (column_at true kind p) ≡ broken_now b (column_at false kind p)
unfolding bank_behind lowest_rule
auto_alike b Read p = refl
auto_alike b Write p = refl

pub auto_legal : (b : Bus) (auto : Bool) (r : Request) → is_legal_now b (column_of auto r) ≡ is_legal_now b (column_of false r)
auto_legal b true r = ap is_none (auto_alike b r.echo.kind r.place)
auto_legal b false r = refl

-- whether the open row is another one
pub on_row : (b : Bus) (p : Place) (row : ℕ) → open_row_at b p ≡ Some row → is_on_other_row b p ≡ not (eqb row p.row)
on_row b p row is = ap (λ o. is_some o && not (is_row o p.row)) is

-- ROW of a column command, whichever kind it is
column_row : (auto : Bool) (kind : Kind) (p : Place) (trace : List Entry) (c : Config) (start end now : ℕ) →
    breaks c start end rule.Row trace (entry now (column_at auto kind p)) ≡ not (is_row (open_row c.timing now (bank_behind (column_at auto kind p) trace)) p.row)
column_row false Read p trace c start end now = refl
column_row false Write p trace c start end now = refl
column_row true Read p trace c start end now = refl
column_row true Write p trace c start end now = refl

-- a legal column command finds its row open
pub column_open : (b : Bus) (auto : Bool) (kind : Kind) (p : Place) → is_legal_now b (column_at auto kind p) ≡ true → is_row_open b p ≡ true
column_open b auto kind p legal =
    sym (ap (λ bank. is_row (open_row b.config.timing b.now bank) p.row) (column_bank auto kind p b.trace))
    ∙ not-false _ (sym (column_row auto kind p b.trace b.config b.start (b.now + 1) b.now) ∙ legal_keeps b (column_at auto kind p) legal rule.Row refl)

pub closed_no_column : (b : Bus) (kind : Kind) (p : Place) → is_row_open b p ≡ false → is_legal_now b (column_at false kind p) ≡ false
closed_no_column b kind p shut = elim (cases_Bool (is_legal_now b (column_at false kind p))) [
  | inl legal ↦ absurd (true≢false (sym (column_open b false kind p legal) ∙ shut))
  | inr not_legal ↦ not_legal
]

-- the first row of the place's bank, and the first line of its row
abbrev pub first_row : Place → Place
first_row p = record p { row = 0 }

abbrev pub first_line : Place → Place
first_line p = record p { line = 0 }

-- a row or a line that may be opened, read or written lies in the geometry, and then so does the first one; no other rule looks at it

row_alike : (b : Bus) (p : Place) → is_in b.config.geometry (activate_at p) ≡ true → is_in b.config.geometry (activate_at (first_row p)) ≡ true →
    broken_now b (activate_at (first_row p)) ≡ broken_now b (activate_at p)
unfolding bank_behind lowest_rule
row_alike b p inside first = rw (inside, first) refl

is_inside : (b : Bus) (c : Command) → is_legal_now b c ≡ true → is_in b.config.geometry c ≡ true
is_inside b c legal = not-false _ (legal_keeps b c legal rule.Place refl)

first_below : (k n : ℕ) → ltb k n ≡ true → ltb 0 n ≡ true
first_below k n below = let less = ltb-true k n below in lt-ltb 0 n (omega (arith, less))

pub first_row_legal : (b : Bus) (p : Place) → is_legal_now b (activate_at p) ≡ true → is_legal_now b (activate_at (first_row p)) ≡ true
first_row_legal b p legal =
    let inside = is_inside b (activate_at p) legal in
    let parts = and_parts (is_bank_in b.config.geometry p.rank p.group p.bank) (ltb p.row b.config.geometry.rows) inside in
    ap is_none (row_alike b p inside (and_from (is_bank_in b.config.geometry p.rank p.group p.bank) (ltb 0 b.config.geometry.rows) parts.0 (first_below p.row b.config.geometry.rows parts.1))) ∙ legal

line_alike : (b : Bus) (kind : Kind) (p : Place) → is_in b.config.geometry (column_at false kind p) ≡ true → is_in b.config.geometry (column_at false kind (first_line p)) ≡ true →
    broken_now b (column_at false kind (first_line p)) ≡ broken_now b (column_at false kind p)
unfolding bank_behind lowest_rule
line_alike b Read p inside first = rw (inside, first) refl
line_alike b Write p inside first = rw (inside, first) refl

first_in : (g : Geometry) (p : Place) → is_line_in g p.rank p.group p.bank p.row p.line ≡ true → is_line_in g p.rank p.group p.bank p.row 0 ≡ true
first_in g p inside =
    let parts = and_parts (is_bank_in g p.rank p.group p.bank && ltb p.row g.rows) (ltb p.line (g.columns / LINE_COLUMNS)) inside in
    and_from (is_bank_in g p.rank p.group p.bank && ltb p.row g.rows) (ltb 0 (g.columns / LINE_COLUMNS)) parts.0 (first_below p.line (g.columns / LINE_COLUMNS) parts.1)

line_inside : (b : Bus) (kind : Kind) (p : Place) → is_in b.config.geometry (column_at false kind p) ≡ true → is_in b.config.geometry (column_at false kind (first_line p)) ≡ true
line_inside b Read p inside = first_in b.config.geometry p inside
line_inside b Write p inside = first_in b.config.geometry p inside

pub first_line_legal : (b : Bus) (kind : Kind) (p : Place) → is_legal_now b (column_at false kind p) ≡ true → is_legal_now b (column_at false kind (first_line p)) ≡ true
first_line_legal b kind p legal =
    let inside = is_inside b (column_at false kind p) legal in
    ap is_none (line_alike b kind p inside (line_inside b kind p inside)) ∙ legal
