-- What a command that is legal now needs, and what the rows are after it.
use Rattle.std.proofs.Common.{◌≡◌, ℕ, suc, ◌+◌, ◌*◌, ◌<◌, ◌≤◌, Bool, true, false, ◌&&◌, ◌||◌, cond, eqb, leb, ltb, List, [], ◌∷◌, ◌++◌, Option, Some, None, refl, sym, ap, subst, ◌∙◌, ◌⊎◌, inl, inr, arith}
use Rattle.std.proofs.lemmas.Bool.{and_parts, and_right, not-false, eq-eqb, ne_eqb, le-leb, lt-leb, le-ltb, ltb-true, lt-ltb, cases_eq, cases_order}
use Rattle.std.proofs.lemmas.Bool.Decides.{nat_tests}
use Rattle.std.proofs.Math.Nat.{mul-le-mul_right}
use Rattle.ddr_timing.specs.declared.config.Config.{Config}
use Rattle.ddr_timing.specs.declared.geometry.Geometry.{Geometry}
use Rattle.ddr_timing.specs.declared.units.TheConstants.{GROUP_BANKS}
use Rattle.ddr_timing.specs.Banks.{bank_number, rank_bank_count}
use Rattle.ddr_timing.specs.Banks as geometry
use Rattle.ddr_timing.proofs.BankNumbers.{bank_number-below, bank_number-in_rank, bank_number-is}
use Rattle.ddr_trace.specs.declared.command.Command.{Command}
use Rattle.ddr_trace.specs.declared.command.Command.TheVariants.{Act, Rd, Wr, RdAuto, WrAuto, Pre, PreAll, Refresh}
use Rattle.ddr_trace.specs.declared.command.Entry.{Entry}
use Rattle.ddr_trace.specs.declared.rule.Rule.TheVariants as rule
use Rattle.ddr_trace.specs.Banks.{bank_behind, is_active, ready_row}
use Rattle.ddr_trace.specs.Commands.{entry}
use Rattle.ddr_trace.specs.Rules.{is_in, is_bank_in, is_line_in}
use Rattle.ddr_trace.proofs.BankLemmas.{bank_behind-append}
use Rattle.ddr_legality.specs.Bus.{Bus, broken_now}
use Rattle.ddr_legality.proofs.LegalLemmas.{keeps_from_none}
use Rattle.ddr_row_array.specs.Changes.{SameShape}
use Rattle.ddr_row_array.specs.Rows.{Rows, bank_count, row_count, open_row}
use Rattle.ddr_channel.specs.Issue.{IsBank, IsReadyFor, MayFollow, row_after}
use Rattle.ddr_channel.specs.Kept.{AgreesWith}
use Rattle.ddr_channel.proofs.BankLemmas.{activate_bank, idle_not_ready, ready_after}

-- a legal command lies in the geometry
pub legal_in : (b : Bus) (c : Command) → broken_now b c ≡ None → is_in b.config.geometry c ≡ true
legal_in b c none = not-false _ (keeps_from_none b.config b.start (b.now + 1) b.trace (entry b.now c) none rule.Place refl)

-- the bank and the row of a command are there
pub record IsThere (shape : Geometry) (rows : Rows) (rank group bank row : ℕ) : Type 0 where
  pub bank_in : IsBank shape rank group bank
  pub number : bank_number shape rank group bank < bank_count rows
  pub row_in : row < row_count rows

pub bank_in : (g : Geometry) (rank group bank : ℕ) → is_bank_in g rank group bank ≡ true → IsBank g rank group bank
bank_in g rank group bank placed =
    let parts = and_parts _ _ placed in
    let digits = and_parts _ _ parts.0 in
    (ltb-true rank g.ranks digits.0, ltb-true group g.groups digits.1, ltb-true bank GROUP_BANKS parts.1)

act_in : (g : Geometry) (rank group bank row : ℕ) → is_in g (Act rank group bank row) ≡ true → (is_bank_in g rank group bank ≡ true) × (row < g.rows)
act_in g rank group bank row placed =
    let parts = and_parts (is_bank_in g rank group bank) (ltb row g.rows) placed in
    (parts.0, ltb-true row g.rows parts.1)

line_bank : (g : Geometry) (rank group bank row line : ℕ) → is_line_in g rank group bank row line ≡ true → IsBank g rank group bank
line_bank g rank group bank row line placed = bank_in g rank group bank (and_parts _ _ (and_parts _ _ placed).0).0

-- a bank's number is one of the rows'
pub number_in : (g : Geometry) (rows : Rows) (rank group bank : ℕ) → bank_count rows ≡ geometry.bank_count g → IsBank g rank group bank → bank_number g rank group bank < bank_count rows
number_in g rows rank group bank banks there = subst (λ n. bank_number g rank group bank < n) (sym banks) (bank_number-below g rank group bank there.0 there.1 there.2)

pub act_there : (config : Config) (trace : List Entry) (rows : Rows) (rank group bank row : ℕ) → AgreesWith config trace rows → is_in config.geometry (Act rank group bank row) ≡ true →
    IsThere config.geometry rows rank group bank row
act_there config trace rows rank group bank row agrees placed =
    let parts = act_in config.geometry rank group bank row placed in
    let there = bank_in config.geometry rank group bank parts.0 in
    record {
      bank_in = there;
      number = number_in config.geometry rows rank group bank agrees.banks there;
      row_in = omega (arith, parts.1, agrees.rows_are);
    }

-- rows that were made ready agree as before
pub agrees_ready : (config : Config) (trace : List Entry) (old new : Rows) → AgreesWith config trace old → SameShape old new → ((b : ℕ) → open_row new b ≡ open_row old b) → AgreesWith config trace new
agrees_ready config trace old new agrees shape opened = record {
  banks = shape.banks ∙ agrees.banks;
  rows_are = shape.rows ∙ agrees.rows_are;
  lines = shape.lines ∙ agrees.lines;
  opened = λ rank group bank r g b. opened (bank_number config.geometry rank group bank) ∙ agrees.opened rank group bank r g b;
}

-- an ACT finds its bank idle

no_other : (x : Bool) → ((x || false) || false) ≡ false → x ≡ false
no_other true none = none
no_other false none = refl

act_idle : (b : Bus) (rank group bank row : ℕ) → broken_now b (Act rank group bank row) ≡ None → ready_row (bank_behind (Pre rank group bank) b.trace) ≡ None
act_idle b rank group bank row none =
    let kept = keeps_from_none b.config b.start (b.now + 1) b.trace (entry b.now (Act rank group bank row)) none rule.State refl in
    let idle = no_other (is_active b.config.timing b.now (bank_behind (Act rank group bank row) b.trace)) kept in
    ap ready_row (sym (activate_bank rank group bank row b.trace))
    ∙ idle_not_ready b.config.timing b.now (bank_behind (Act rank group bank row) b.trace) idle

-- a legal command lies in the geometry of the configuration
pub placed_in : (config : Config) (b : Bus) (c : Command) → b.config ≡ config → broken_now b c ≡ None → is_in config.geometry c ≡ true
placed_in config b c of_config none = subst (λ (x : Config). is_in x.geometry c ≡ true) of_config (legal_in b c none)

-- the rows can do as a legal command says
pub may_follow : (config : Config) (b : Bus) (rows : Rows) (spare : ℕ) (c : Command) → b.config ≡ config → broken_now b c ≡ None → AgreesWith config b.trace rows → IsReadyFor config.geometry spare rows c →
    MayFollow config.geometry rows c
may_follow config b rows spare (Act rank group bank row) of_config none agrees ready =
    let there = act_there config b.trace rows rank group bank row agrees (placed_in config b (Act rank group bank row) of_config none) in
    let idle = agrees.opened rank group bank there.bank_in.0 there.bank_in.1 there.bank_in.2 ∙ act_idle b rank group bank row none in
    (there.bank_in, there.row_in, idle, ready.stored)
may_follow config b rows spare (Pre rank group bank) of_config none agrees ready = bank_in config.geometry rank group bank (placed_in config b (Pre rank group bank) of_config none)
may_follow config b rows spare (RdAuto rank group bank row line) of_config none agrees ready = line_bank config.geometry rank group bank row line (placed_in config b (RdAuto rank group bank row line) of_config none)
may_follow config b rows spare (WrAuto rank group bank row line) of_config none agrees ready = line_bank config.geometry rank group bank row line (placed_in config b (WrAuto rank group bank row line) of_config none)
may_follow config b rows spare (PreAll rank) of_config none agrees ready = ltb-true rank _ (placed_in config b (PreAll rank) of_config none)
may_follow config b rows spare (Refresh rank) of_config none agrees ready = ltb-true rank _ (placed_in config b (Refresh rank) of_config none)
may_follow config b rows spare (Rd rank group bank row line) of_config none agrees ready = (line_bank config.geometry rank group bank row line (placed_in config b (Rd rank group bank row line) of_config none)).0
may_follow config b rows spare (Wr rank group bank row line) of_config none agrees ready = (line_bank config.geometry rank group bank row line (placed_in config b (Wr rank group bank row line) of_config none)).0

-- the rows after a command

eqb_swap : (a b : ℕ) → eqb a b ≡ eqb b a
eqb_swap a b = elim (cases_eq a b) [
  | inl same ↦ rw (eq-eqb a b same, eq-eqb b a (sym same)) refl
  | inr other ↦ rw (ne_eqb a b other, ne_eqb b a (λ e. other (sym e))) refl
]

-- where a command is of one bank, its number tells it
of_bank : (shape : Geometry) (rank group bank r g b : ℕ) → IsBank shape rank group bank → IsBank shape r g b →
    eqb (bank_number shape r g b) (bank_number shape rank group bank) ≡ (eqb rank r && (eqb group g && eqb bank b))
of_bank shape rank group bank r g b there here =
    bank_number-is shape r g b rank group bank here.1 there.1 here.2 there.2 ∙ rw (eqb_swap r rank, eqb_swap g group, eqb_swap b bank) refl

pub row_after_act : (shape : Geometry) (rank group bank row r g b : ℕ) (o : Option ℕ) → IsBank shape rank group bank → IsBank shape r g b →
    cond (eqb (bank_number shape r g b) (bank_number shape rank group bank)) (Some row) o ≡ row_after r g b (Act rank group bank row) o
row_after_act shape rank group bank row r g b o there here = ap (λ t. cond t (Some row) o) (of_bank shape rank group bank r g b there here)

pub row_after_pre : (shape : Geometry) (rank group bank r g b : ℕ) (o : Option ℕ) → IsBank shape rank group bank → IsBank shape r g b →
    cond (eqb (bank_number shape r g b) (bank_number shape rank group bank)) None o ≡ row_after r g b (Pre rank group bank) o
row_after_pre shape rank group bank r g b o there here = ap (λ t. cond t None o) (of_bank shape rank group bank r g b there here)

-- a command that closes a bank's row alone
abbrev Closes : Command → ℕ → ℕ → ℕ → Type 0
Closes c rank group bank = (c ≡ Pre rank group bank) ⊎ (((row : ℕ) × (line : ℕ) × (c ≡ RdAuto rank group bank row line)) ⊎ ((row : ℕ) × (line : ℕ) × (c ≡ WrAuto rank group bank row line)))

pub closes_bank : (c : Command) (rank group bank r g b : ℕ) (o : Option ℕ) → Closes c rank group bank → row_after r g b (Pre rank group bank) o ≡ row_after r g b c o
closes_bank c rank group bank r g b o (inl is) = ap (λ (x : Command). row_after r g b x o) (sym is)
closes_bank c rank group bank r g b o (inr (inl read)) = ap (λ (x : Command). row_after r g b x o) (sym read.2)
closes_bank c rank group bank r g b o (inr (inr write)) = ap (λ (x : Command). row_after r g b x o) (sym write.2)

pub bank_of : (shape : Geometry) (rows : Rows) (c : Command) (rank group bank : ℕ) → Closes c rank group bank → MayFollow shape rows c → IsBank shape rank group bank
bank_of shape rows c rank group bank (inl is) may = subst (MayFollow shape rows) is may
bank_of shape rows c rank group bank (inr (inl read)) may = subst (MayFollow shape rows) read.2 may
bank_of shape rows c rank group bank (inr (inr write)) may = subst (MayFollow shape rows) write.2 may

-- the banks of a rank are those with numbers from its first one on
of_rank : (shape : Geometry) (rank r g b : ℕ) → IsBank shape r g b →
    (leb (rank * rank_bank_count shape) (bank_number shape r g b) && ltb (bank_number shape r g b) (rank * rank_bank_count shape + rank_bank_count shape)) ≡ (eqb rank r && true)
of_rank shape rank r g b here =
    let inside : g * GROUP_BANKS + b < rank_bank_count shape = omega (arith, here.1, here.2) in
    let number = bank_number-in_rank shape r g b in
    elim (cases_order rank r) [
      | inl same ↦ (
          let product = ap (λ n. n * rank_bank_count shape) same in
          rw (
            le-leb (rank * rank_bank_count shape) (bank_number shape r g b) (omega (arith, number, product)),
            lt-ltb (bank_number shape r g b) (rank * rank_bank_count shape + rank_bank_count shape) (omega (arith, number, product, inside)),
            eq-eqb rank r same,
          ) refl)
      | inr (inl less) ↦ (
          let product : suc rank * rank_bank_count shape ≤ r * rank_bank_count shape = mul-le-mul_right (rank_bank_count shape) less in
          rw (le-ltb (bank_number shape r g b) (rank * rank_bank_count shape + rank_bank_count shape) (omega (arith, number, product)), ne_eqb rank r (λ e. omega arith)) (and_right _ false refl))
      | inr (inr more) ↦ (
          let product : suc r * rank_bank_count shape ≤ rank * rank_bank_count shape = mul-le-mul_right (rank_bank_count shape) more in
          rw (lt-leb (rank * rank_bank_count shape) (bank_number shape r g b) (omega (arith, number, product, inside)), ne_eqb rank r (λ e. omega arith)) refl)
    ]

pub row_after_all : (shape : Geometry) (rank r g b : ℕ) (o : Option ℕ) → IsBank shape r g b →
    cond (leb (rank * rank_bank_count shape) (bank_number shape r g b) && ltb (bank_number shape r g b) (rank * rank_bank_count shape + rank_bank_count shape)) None o ≡ row_after r g b (PreAll rank) o
row_after_all shape rank r g b o here = ap (λ t. cond t None o) (of_rank shape rank r g b here)

-- and they agree with the trace as before
pub agrees_after : (config : Config) (b : Bus) (c : Command) (old new : Rows) → AgreesWith config b.trace old → SameShape old new →
    ((rank group bank : ℕ) → IsBank config.geometry rank group bank → open_row new (bank_number config.geometry rank group bank) ≡ row_after rank group bank c (open_row old (bank_number config.geometry rank group bank))) →
    AgreesWith config (b.trace ++ entry b.now c ∷ []) new
agrees_after config b c old new agrees shape opened = record {
  banks = shape.banks ∙ agrees.banks;
  rows_are = shape.rows ∙ agrees.rows_are;
  lines = shape.lines ∙ agrees.lines;
  opened = λ rank group bank r g n. opened rank group bank (r, g, n) ∙ ap (row_after rank group bank c) (agrees.opened rank group bank r g n)
      ∙ sym (ready_after rank group bank (bank_behind (Pre rank group bank) b.trace) (entry b.now c))
      ∙ sym (ap ready_row (bank_behind-append (Pre rank group bank) b.trace (entry b.now c)));
}

-- closing the banks one after another
pub closed_more : (o : Option ℕ) (first k bank : ℕ) → first ≤ bank → cond (eqb k bank) None (cond (leb first k && ltb k bank) None o) ≡ cond (leb first k && ltb k (bank + 1)) None o
closed_more o first k bank low = grind (arith, nat_tests)

pub closed_none : (o : Option ℕ) (first k : ℕ) → o ≡ cond (leb first k && ltb k first) None o
closed_none o first k = grind (arith, nat_tests)
