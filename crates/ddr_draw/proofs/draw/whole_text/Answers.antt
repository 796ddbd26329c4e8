use Rattle.std.proofs.Common.{None}
use Rattle.ddr_timing.specs.declared.profile.TheConstants.{PROFILE_S}
use Rattle.ddr_draw.proofs.PartLemmas.{short_pictured}
use Rattle.ddr_draw.proofs.draw.whole_text.Goals as goal

pub returns-in_ok-text-in-Ok-clause-said : goal.returns-in_ok-text-in-Ok-clause-said
returns-in_ok-text-in-Ok-clause-said g c =
    short_pictured c.args.sample PROFILE_S.now (g.R.Read.remaining c.args.reader.now) c.in-Ok.config _ None None c.view_of-view.result _ c.in-Ok.ensures.said c.view_of-view.ensures c.in_ok-text-in-Ok.ensures
