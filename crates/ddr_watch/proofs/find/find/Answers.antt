-- What was found among the newest commands is found among all.
use Rattle.std.proofs.Common.{◌≡◌, ◌+◌, false, sym, ap, subst, ◌∙◌}
use Rattle.ddr_trace.specs.Rules.{breaks}
use Rattle.ddr_watch.specs.Finds.{IsFound}
use Rattle.ddr_watch.proofs.FoundLemmas.{close_within, far_within, none_found, told_above, told_bank, told_close, told_far, told_start, untold_bank}
use Rattle.ddr_watch.proofs.find.find.Goals as goal

pub returns-in_err-found : goal.returns-in_err-found
returns-in_err-found c = λ history last broken.
    let kept : false ≡ breaks c.args.config.now c.args.start (c.args.entry.now.cycle + 1) c.args.rule c.args.recent.now.entries.items c.args.entry.now =
    c.in_err-found.ensures.broken ∙ ap (λ w. breaks c.args.config.now c.args.start (c.args.entry.now.cycle + 1) c.args.rule w c.args.entry.now) c.as_slice.ensures.value in
    subst (IsFound c.args.config.now c.args.start c.args.rule history c.args.entry.now) (sym c.from_residual.ensures)
    (none_found c.args.recent.now history last c.args.config.now c.args.start c.args.rule c.args.entry.now kept broken)

pub behind-requires : goal.behind-requires
behind-requires c = close_within c.args.recent.now c.args.config.now c.args.start c.args.rule c.args.entry.now c.as_slice.result.now c.in_ok-found.found c.as_slice.ensures.value c.in_ok-found.ensures.some c.in-TooClose.earlier c.in-TooClose.distance c.in-TooClose.least c.in-TooClose.is c.requires.few

pub behind-requires-in-TooFar : goal.behind-requires-in-TooFar
behind-requires-in-TooFar c = far_within c.args.recent.now c.args.config.now c.args.start c.args.rule c.args.entry.now c.as_slice.result.now c.in_ok-found.found c.as_slice.ensures.value c.in_ok-found.ensures.some c.in-TooFar.earlier c.in-TooFar.distance c.in-TooFar.is c.requires.few

pub returns-in-TooClose : goal.returns-in-TooClose
returns-in-TooClose c = λ history last broken.
    told_close c.args.recent.now c.args.config.now c.args.start c.args.rule c.args.entry.now c.as_slice.result.now c.in_ok-found.found c.as_slice.ensures.value c.in_ok-found.ensures.some history last c.in-TooClose.earlier c.behind.result c.in-TooClose.distance c.in-TooClose.least c.in-TooClose.is c.behind.ensures.place c.behind.ensures.entry

pub returns-in-NotAbove : goal.returns-in-NotAbove
returns-in-NotAbove c = λ history last broken.
    told_above c.args.recent.now c.args.config.now c.args.start c.args.rule c.args.entry.now c.as_slice.result.now c.in_ok-found.found c.as_slice.ensures.value c.in_ok-found.ensures.some history last c.in-NotAbove.earlier c.behind-in-NotAbove.result c.in-NotAbove.is c.behind-in-NotAbove.ensures.place c.behind-in-NotAbove.ensures.entry

pub returns-in-TooFar : goal.returns-in-TooFar
returns-in-TooFar c = λ history last broken.
    told_far c.args.recent.now c.args.config.now c.args.start c.args.rule c.args.entry.now c.as_slice.result.now c.in_ok-found.found c.as_slice.ensures.value c.in_ok-found.ensures.some history last c.in-TooFar.earlier c.behind-in-TooFar.result c.in-TooFar.distance c.in-TooFar.is c.behind-in-TooFar.ensures.place c.behind-in-TooFar.ensures.entry

pub returns-in-BeforeStart : goal.returns-in-BeforeStart
returns-in-BeforeStart c = λ history last broken.
    told_start c.args.recent.now c.args.config.now c.args.start c.args.rule c.args.entry.now c.as_slice.result.now c.in_ok-found.found c.as_slice.ensures.value c.in_ok-found.ensures.some history last c.in-BeforeStart.is c.if-recent-eq0.false

pub returns-in_ok-change_of_own_bank-in-Bank : goal.returns-in_ok-change_of_own_bank-in-Bank
returns-in_ok-change_of_own_bank-in-Bank c = λ history last broken.
    let told = c.in_ok-change_of_own_bank-in-Bank in
    told_bank c.args.recent.now c.args.config.now c.args.start c.args.rule c.args.entry.now c.as_slice.result.now c.in_ok-found.found c.as_slice.ensures.value c.in_ok-found.ensures.some history last c.in-Bank.group c.in-Bank.bank c.in-Bank.opened c.in-Bank.changed told.field-0 c.in-Bank.is told.ensures.there told.ensures.some told.ensures.own told.ensures.opened

pub returns-in_err-change_of_own_bank-in-Bank : goal.returns-in_err-change_of_own_bank-in-Bank
returns-in_err-change_of_own_bank-in-Bank c = λ history last broken.
    subst (IsFound c.args.config.now c.args.start c.args.rule history c.args.entry.now) (sym c.from_residual-in_err-change_of_own_bank-in-Bank.ensures)
    (untold_bank c.args.recent.now c.args.config.now c.args.start c.args.rule c.args.entry.now c.as_slice.result.now c.in_ok-found.found c.as_slice.ensures.value c.in_ok-found.ensures.some history last c.in-Bank.group c.in-Bank.bank c.in-Bank.opened c.in-Bank.changed c.in-Bank.is c.if-recent-eq0.false c.in_err-change_of_own_bank-in-Bank.ensures.none)
