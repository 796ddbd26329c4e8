use Rattle.std.proofs.Common.{◌≤◌, ℕ, List, Ok, length, map, ap, sym, subst, ◌∙◌, arith}
use Rattle.std.specs.Borrow.{Bor}
use Rattle.std.proofs.lemmas.List.{length-map}
use Rattle.std.proofs.lemmas.Result.{err_from_is_err_and}
use Rattle.clap.specs.Words.{HasKind, Text, fault_of, found_of, is_simple_and_free, rows_of, subcommand_of}
use Rattle.clap.proofs.CallerLemmas.{subcommand_required}
use Rattle.ddr_words.specs.Job.{ddr_app}
use Rattle.ddr_words.proofs.JobLemmas.{is_simple_app, job_alone, job_further, job_met, met_named, met_of, met_taken, needs_subcommand, none_of, refused_by}
use Rattle.ddr_words.proofs.job.stated.Goals as goal

abbrev texts_of : List (Bor (List ℕ)) → List Text
texts_of = map (λ word. word.now)

pub returns-then-words-le1-clause-said : goal.returns-then-words-le1-clause-said
returns-then-words-le1-clause-said c = job_alone (texts_of c.args.words.now) (omega (arith, length-map c.args.words.now (λ (w : Bor (List ℕ)). w.now)))

pub returns-in_err-matches-clause-said : goal.returns-in_err-matches-clause-said
returns-in_err-matches-clause-said c =
    let words = texts_of c.args.words.now in
    let app = c.in_ok-command.ensures.app in
    let p = err_from_is_err_and c.from_residual-in_err-matches.result c.from_residual-in_err-matches.ensures.1 in
    let some : 2 ≤ length words = omega (arith, length-map c.args.words.now (λ (w : Bor (List ℕ)). w.now)) in
    let kinds = subst (λ a. HasKind (fault_of a words) c.in_err-matches.field-0.0) app (c.in_err-matches.ensures.kinds (ap is_simple_and_free app ∙ is_simple_app)) in
    rw (p.1, p.2, job_further words some) (refused_by (fault_of ddr_app words) (subcommand_of ddr_app words) c.in_err-matches.field-0.0 kinds)

pub unreachable-requires : goal.unreachable-requires
unreachable-requires c =
    let required = ap (λ a. a.top.subcommand_required) c.in_ok-command.ensures.app ∙ needs_subcommand in
    let has = subcommand_required c.in_ok-command.field-0 c.in_ok-matches.matches c.in_ok-matches.ensures.parsed c.in_ok-command.ensures.local required in
    let none = c.in_default.ensures.variant in
    cc

pub said_by-requires-clause-named : goal.said_by-requires-clause-named
said_by-requires-clause-named c =
    let words = texts_of c.args.words.now in
    let options = rows_of (found_of c.in-Some.options.now) in
    met_named words c.in-Some.name.now options (met_of _ words c.in_ok-matches.matches c.in-Some.name.now options c.in_ok-command.ensures.app c.in_ok-matches.ensures.matches c.in-Some.ensures.name c.in-Some.ensures.rows)

pub said_by-requires-clause-taken : goal.said_by-requires-clause-taken
said_by-requires-clause-taken c =
    let words = texts_of c.args.words.now in
    let options = rows_of (found_of c.in-Some.options.now) in
    met_taken words c.in-Some.name.now options (none_of _ words c.in_ok-command.ensures.app c.in_ok-matches.ensures.kinds)
    (met_of _ words c.in_ok-matches.matches c.in-Some.name.now options c.in_ok-command.ensures.app c.in_ok-matches.ensures.matches c.in-Some.ensures.name c.in-Some.ensures.rows)

pub returns-clause-said : goal.returns-clause-said
returns-clause-said c =
    let words = texts_of c.args.words.now in
    let options = rows_of (found_of c.in-Some.options.now) in
    let some : 2 ≤ length words = omega (arith, length-map c.args.words.now (λ (w : Bor (List ℕ)). w.now)) in
    job_met words c.in-Some.name.now options some (none_of _ words c.in_ok-command.ensures.app c.in_ok-matches.ensures.kinds)
    (met_of _ words c.in_ok-matches.matches c.in-Some.name.now options c.in_ok-command.ensures.app c.in_ok-matches.ensures.matches c.in-Some.ensures.name c.in-Some.ensures.rows)
    ∙ ap (λ said. Ok said) (sym c.said_by.ensures)
